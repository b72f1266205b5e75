-- The part of a list from a place on, lent, filled and given back.
use Prim.Native.Nat.{ℕ, ◌+◌, ◌-◌, ◌≤◌}
use native.Mathlib.Omega.{arith}
use mathlib.Core.Path.{◌≡◌, refl, ◌∙◌}
use mathlib.Core.List.{List, append-nil, append_assoc}
use borrow.Author.Tests.{le-leb, leb-true}
use lib.Dec.{leb}
use borrow.Rule.Slice.PartMut.{mid_of, put_mid}
use lib.ListN.{length, drop, length-append, length-drop, drop_of_length-le}
use lib.Seq.{take_all, drop-drop}
use Rattle.std.proofs.lemmas.Bool.{cond_both}
use Rattle.buffers.specs.Write.{over, over_from, filled}

-- what is lent, and the list with a part in its place
abbrev pub lent : List ℕ → ℕ → List ℕ
lent list at = mid_of at (length list - at) list

abbrev pub back : List ℕ → ℕ → List ℕ → List ℕ
back list at part = put_mid at (length list - at) list part

pub put_back : (list bytes : List ℕ) (at : ℕ) → at + length bytes ≤ length list
    → back list at (filled bytes (lent list at)) ≡ over_from at bytes list
unfolding filled
put_back list bytes at room =
    let rest = drop at list in
    let many : length rest ≡ length list - at = length-drop at list in
    rw (
      take_all (length list - at) rest (omega arith),
      drop_of_length-le rest {i = length list - at} (omega arith),
      le-leb (length bytes) (length rest) (omega arith),
      drop-drop (length bytes) at list,
      append-nil,
      append_assoc,
    )

-- a list of the same length is filled whole
pub fill_whole : (bytes list : List ℕ) → length list ≡ length bytes → filled bytes list ≡ bytes
unfolding filled
fill_whole bytes list same =
    rw (
      le-leb (length bytes) (length list) (omega arith),
      drop_of_length-le list {i = length bytes} (omega arith),
      append-nil,
    )

-- filling leaves the length
pub filled-length : (bytes list : List ℕ) → length (filled bytes list) ≡ length list
unfolding filled
filled-length bytes list =
    cond_both (leb (length bytes) (length list)) (over bytes list) list (λ (l : List ℕ). length l ≡ length list)
    (λ e.
    let few = leb-true (length bytes) (length list) e in
    length-append bytes (drop (length bytes) list) ∙ omega (arith, length-drop (length bytes) list))
    (λ e. refl)
