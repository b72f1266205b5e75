-- What follows where the precheck has passed.
use Rattle.std.specs.Prelude.{Result, Ok, Err, ⊤}
use Prim.Native.Nat.{ℕ}
use native.Mathlib.Omega.{arith}
use mathlib.Core.Path.{◌≡◌, refl}
use mathlib.Core.List.{List}
use mathlib.Core.Bool.{Bool, true, false, cond}
use Rattle.sram.specs.Region.{right_size}
use Rattle.session_state.specs.declared.Session.{Session}
use Rattle.session_state.specs.Sound.{sound}
use Rattle.session_answers.specs.declared.Fault.{Fault}
use Rattle.session_answers.specs.Answers.{fault_number, precheck}

-- neither 7 nor 8 is due
pub record Accepted (session : Session) (sram : List ℕ) : Type 0 where
  pub right : right_size session.configuration sram ≡ true
  pub fine : sound session ≡ true

-- passed: neither 7 nor 8 is due, nor 6
pub precheck_passed : (session : Session) (sram : List ℕ) (formed : Bool) → precheck session sram formed ≡ Ok tt
    → Accepted session sram × (formed ≡ true)
unfolding precheck
precheck_passed session sram formed e =
    let h = all_three (right_size session.configuration sram) (sound session) formed e in
    (record { right = h.0; fine = h.1 }, h.2)
  where
    all_three
        : (a b c : Bool)
        → ◌≡◌ {A = Result ⊤ Fault} (cond a (cond b (cond c (Ok tt) (Err Fault.Form)) (Err Fault.Unsound)) (Err Fault.Size)) (Ok tt)
        → (a ≡ true) × (b ≡ true) × (c ≡ true)
    all_three false b c e = cc
    all_three true false c e = cc
    all_three true true false e = cc
    all_three true true true e = (refl, refl, refl)

-- no refused call has number 0
pub fault_some : (fault : Fault) → fault_number fault ≡ 0 → ⊥
fault_some Fault.Form e = omega arith
fault_some Fault.Size e = omega arith
fault_some Fault.Unsound e = omega arith
