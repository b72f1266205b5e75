-- The search of any list of places: what it does when the next place is good, when it is not, and when none is left.
use Prim.Native.Nat.{ℕ, ◌+◌, ◌≤◌, ◌<◌}
use native.Mathlib.Numerals.{add-one}
use mathlib.Core.Path.{◌≡◌}
use mathlib.Core.List.{List}
use mathlib.Core.Bool.{true, false}
use Rattle.std.specs.Prelude.{Some, None}
use lib.ListN.{length, get_or, drop, drop_of_length-le}
use lib.Seq.{drop-cons}
use Rattle.boot_rchw.specs.Places.{good_place, searched}

module _ (memory places : List ℕ) (i : ℕ) where
  pub search_found
      : i < length places
      → good_place memory (get_or places i 0) ≡ true
      → searched memory i (drop i places) ≡ record { found = Some (get_or places i 0); examined = i + 1 }
  unfolding searched
  search_found h e = rw (drop-cons places i 0, e)

  pub search_on
      : i < length places
      → good_place memory (get_or places i 0) ≡ false
      → searched memory i (drop i places) ≡ searched memory (i + 1) (drop (i + 1) places)
  unfolding searched
  search_on h e = rw (drop-cons places i 0, e, add-one)

  pub search_none : length places ≤ i → searched memory i (drop i places) ≡ record { found = None; examined = i }
  unfolding searched
  search_none h = rw drop_of_length-le
