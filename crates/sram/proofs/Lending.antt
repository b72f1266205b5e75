-- The part of SRAM from a place on, lent, filled with bytes and given back.
use Prim.Native.Nat.{ℕ, ◌-◌}
use native.Mathlib.Omega.{arith}
use mathlib.Core.Path.{◌≡◌, sym, ◌∙◌}
use mathlib.Core.List.{List}
use mathlib.Core.Bool.{true}
use borrow.Author.Tests.{eqb-true}
use lib.ListN.{length}
use Rattle.buffers.specs.Write.{filled}
use Rattle.buffers.proofs.Lending.{lent, back, put_back}
use Rattle.session_configuration.specs.declared.Configuration.{Configuration}
use Rattle.sram.specs.Region.{size, base, right_size, in_range, stored, stored_in_range}
use Rattle.sram.proofs.Laws.{range_base, range_end, stored_in_range_lem}

pub sram_back : (configuration : Configuration) (sram : List ℕ) (address : ℕ) (bytes : List ℕ)
    → right_size configuration sram ≡ true
    → in_range configuration address (length bytes) ≡ true
    → back sram (address - base) (filled bytes (lent sram (address - base))) ≡ stored_in_range configuration sram address bytes
unfolding stored
sram_back configuration sram address bytes right e =
    let whole = eqb-true (length sram) (size configuration) right in
    let from = range_base configuration address (length bytes) e in
    let to = range_end configuration address (length bytes) e in
    put_back sram bytes (address - base) (omega arith) ∙ sym (stored_in_range_lem configuration sram address bytes right e)
