-- Bytes gathered part by part.
use Prim.Native.Nat.{ℕ, ◌+◌, ◌≤◌}
use native.Mathlib.Omega.{arith}
use mathlib.Core.Path.{◌≡◌, sym}
use mathlib.Core.List.{List, ◌++◌}
use lib.ListN.{length, take, drop}
use lib.Seq.{length-take-le, take_at, drop_at, take-add, drop-drop}
use Rattle.buffers.specs.Write.{over}

module _ (all behind : List ℕ) (count more : ℕ) (room : count + more ≤ length all) where
  first_length : length (take count all) ≡ count
  first_length = length-take-le count all (omega arith)

  -- the bytes held, with the next part behind them
  pub gathered : take count (over (take count all) behind) ++ take more (drop count all) ≡ take (count + more) all
  gathered =
      rw (take_at (take count all) (drop (length (take count all)) behind) count first_length)
      (sym (take-add count more all))

  pub gathered_length : length (take (count + more) all) ≡ count + more
  gathered_length = length-take-le (count + more) all room

  -- what is held is written over
  pub held_over : over (take (count + more) all) (over (take count all) behind) ≡ over (take (count + more) all) behind
  held_over =
      let first = take count all in
      rw (
        gathered_length,
        first_length,
        ← drop-drop more count (first ++ drop count behind),
        drop_at first (drop count behind) count first_length,
        drop-drop more count behind,
      )
