-- The bytes of an item, when a header fits, and what room a sound load has.
use Prim.Native.Nat.{ℕ, ◌+◌, ◌^◌, ◌≤◌, ◌<◌}
use native.Mathlib.Omega.{arith}
use mathlib.Core.Path.{◌≡◌}
use mathlib.Core.List.{List}
use mathlib.Core.Bool.{Bool, true}
use lib.ListN.{length}
use Rattle.std.specs.Prelude.{Ok, is_ok}
use Rattle.session_configuration.specs.declared.Configuration.{Configuration}
use Rattle.session_state.specs.declared.Port.{Port}
use Rattle.header.specs.declared.Header.{Header}
use Rattle.header.specs.Reading.{fits, validated}
use Rattle.sender_header.specs.Writing.{header_meant}
use Rattle.sender_header.proofs.Laws.{too_long}
use Rattle.sender_load.specs.declared.Sender.{Sender}
use Rattle.sender_load.specs.Items.{width, sound_load}

-- an item has at most 8 bytes
pub few_bytes : (port : Port) → width port ≤ 8
few_bytes Port.Can = omega arith
few_bytes Port.Serial = omega arith

-- what is judged to fit is what fits
pub judged_fits : (configuration : Configuration) (header : Header) → is_ok (validated configuration header) ≡ fits configuration header
unfolding validated
judged_fits configuration header = grind arith

-- the length of a load that fits has its place in the header
pub fit_short : (configuration : Configuration) (start : ℕ) (vle : Bool) (length : ℕ)
    → fits configuration (header_meant start vle length) ≡ true
    → length < 0x80000000
fit_short configuration start vle length fit =
    grind (arith, too_long configuration start vle length, judged_fits configuration (header_meant start vle length))

-- and what it is judged to announce is that length
pub fit_length : (configuration : Configuration) (start : ℕ) (vle : Bool) (length : ℕ) (header : Header)
    → validated configuration (header_meant start vle length) ≡ Ok header
    → header.length ≡ length
unfolding validated
fit_length configuration start vle length header e = grind arith

-- the end of a sound load has room in 32 bits, and the place behind its item
module _ (sender : Sender) (image : List ℕ) (sound : sound_load sender image ≡ true) where
  load_short : sender.length < 0x80000000
  unfolding sound_load
  load_short = grind (arith, fit_short sender.configuration sender.start sender.vle sender.length)

  pub end_short : 16 + sender.length < 2 ^ 32
  end_short = omega (arith, load_short)

  pub next_short : sender.place + width sender.port < 2 ^ 32
  unfolding sound_load
  next_short = grind (arith, load_short, few_bytes)
