-- A header that is written reads back as it was announced; and a length for which it has no place is never in range.
use Prim.Native.Nat.{ℕ, ◌*◌, ◌/◌, ◌<◌, ◌≤◌}
use native.Mathlib.Omega.{arith}
use mathlib.Core.Path.{◌≡◌}
use mathlib.Core.Bool.{Bool, true, false}
use Rattle.std.specs.Prelude.{Err}
use Rattle.session_configuration.specs.declared.Configuration.{Configuration}
use Rattle.sram.specs.Region.{size, base}
use Rattle.sram.proofs.Laws.{range_base, range_end}
use Rattle.session_state.specs.declared.Refusal.{Refusal}
use Rattle.header.specs.Reading.{header_read, validated}
use Rattle.sender_header.specs.Writing.{header_written, header_meant}

pub written_reads : (configuration : Configuration) (start : ℕ) (vle : Bool) (length : ℕ) → length < 0x80000000
    → header_read configuration (header_written configuration start vle length) ≡ header_meant start vle length
written_reads configuration start true length h = grind arith
written_reads configuration start false length h = grind arith

pub too_long : (configuration : Configuration) (start : ℕ) (vle : Bool) (length : ℕ) → 0x80000000 ≤ length
    → validated configuration (header_meant start vle length) ≡ Err Refusal.Range
unfolding validated base size
too_long configuration start vle length h =
    let address = start / 4 * 4 in
    grind (arith, range_base configuration address length, range_end configuration address length)
