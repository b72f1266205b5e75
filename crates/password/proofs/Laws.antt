-- A password that passes is the selected one.
use Prim.Native.Nat.{ℕ}
use mathlib.Core.Path.{◌≡◌}
use mathlib.Core.List.{List}
use mathlib.Core.Bool.{true, and-eq-true_iff}
use Rattle.octets.specs.Same.{same}
use Rattle.octets.proofs.Comparing.{same_equal}
use Rattle.password.specs.Passing.{legal, passes}

pub passes_equal : (received selected : List ℕ) → passes received selected ≡ true → received ≡ selected
unfolding passes
passes_equal received selected e =
    same_equal received selected ((and-eq-true_iff (legal received) (same received selected)).0 e).1
