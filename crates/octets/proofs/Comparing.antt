-- Lists that are the same, by the library's comparison and by their equation; and two lists from a place on where none is left.
use Prim.Native.Nat.{ℕ, ◌≤◌}
use mathlib.Core.Path.{◌≡◌, refl}
use mathlib.Core.List.{List, [], ◌∷◌}
use mathlib.Core.Bool.{true, false≢true, and-eq-true_iff}
use borrow.Author.Tests.{eqb-true, eq-eqb}
use lib.Dec.{eqb}
use lib.ListN.{length, drop, drop_of_length-le}
use Rattle.std.specs.Cmp.Lexicographic.{pointwise}
use Rattle.octets.specs.Same.{same}

-- what `==` of two slices of numbers says
pub same_pointwise : (l m : List ℕ) → pointwise eqb l m ≡ same l m
unfolding same
same_pointwise [] [] = refl
same_pointwise [] (b ∷ m) = refl
same_pointwise (a ∷ l) [] = refl
same_pointwise (a ∷ l) (b ∷ m) = rw (same_pointwise l m)

pub same_equal : (l m : List ℕ) → same l m ≡ true → l ≡ m
unfolding same
same_equal [] [] e = refl
same_equal [] (b ∷ m) e = absurd (false≢true e)
same_equal (a ∷ l) [] e = absurd (false≢true e)
same_equal (a ∷ l) (b ∷ m) e =
    let h = (and-eq-true_iff (eqb a b) (same l m)).0 e in
    rw (eqb-true a b h.0, same_equal l m h.1)

pub same_own : (l : List ℕ) → same l l ≡ true
unfolding same
same_own [] = refl
same_own (a ∷ l) = rw (eq-eqb a a refl, same_own l)

-- from a place on where none is left
pub same_none : (a b : List ℕ) (i : ℕ) → length a ≤ i → length b ≤ i → same (drop i a) (drop i b) ≡ true
unfolding same
same_none a b i h k = rw (drop_of_length-le a, drop_of_length-le b)
