-- Two groups of zeroes with bytes in them: those gathered, and of these the groups that are full.
use Prim.Native.Nat.{ℕ, ◌+◌, ◌-◌, ◌*◌, ◌/◌, ◌%◌, ◌<◌, ◌≤◌}
use native.Mathlib.Omega.{arith}
use mathlib.Core.Path.{◌≡◌, refl, sym, ap, ◌∙◌}
use mathlib.Core.List.{List, [], ◌++◌, append_assoc}
use mathlib.Core.Bool.{Bool, true, false, ◌&&◌}
use borrow.Author.Tests.{leb-true, leb-false, le-leb, lt-leb}
use borrow.Rule.Slice.PartMut.{same_len_mid}
use lib.Dec.{leb}
use lib.ListN.{length, take, length-append}
use lib.Seq.{take_at, drop_at, drop-drop, take-append-le, take-append-add}
use Rattle.buffers.specs.Write.{over, over_from, filled}
use Rattle.buffers.proofs.Lending.{lent, put_back, filled-length}
use Rattle.std.proofs.lemmas.Bool.{cond_both}
use Rattle.session_configuration.specs.declared.Configuration.{Configuration}
use Rattle.sram.specs.Region.{right_size, in_range, stored, stored_in_range}
use Rattle.sram.proofs.Laws.{stored_none}
use Rattle.sram_groups.specs.Groups.{group_of, zeros, full_groups, behind, written, stored_within}
use Rattle.sram_groups.proofs.Laws.{zeros-length, zeros-take, zeros-drop, behind_few, written_none}

-- where two groups have room for the bytes held and more behind them, and where not
module _ (configuration : Configuration) (last : Bool) (sram : List ℕ) (address : ℕ) (held bytes : List ℕ) where
  pub within_two : address % 8 + length held + length bytes ≤ 16
      → stored_within configuration last sram address (held ++ bytes)
      ≡ stored_in_range configuration sram (group_of address) (written last address (held ++ bytes))
  unfolding stored_within
  within_two room = rw (le-leb (address % 8 + length (held ++ bytes)) 16 (omega (arith, room, length-append held bytes)))

  pub beyond_two : 16 < address % 8 + length held + length bytes
      → stored_within configuration last sram address (held ++ bytes) ≡ sram
  unfolding stored_within
  beyond_two more = rw (lt-leb (address % 8 + length (held ++ bytes)) 16 (omega (arith, more, length-append held bytes)))

-- bytes laid from a place on leave the length
pub laid-length : (at : ℕ) (bytes list : List ℕ) → at + length bytes ≤ length list → length (over_from at bytes list) ≡ length list
laid-length at bytes list room =
    rw (← put_back list bytes at room)
    (same_len_mid at (length list - at) list (filled bytes (lent list at)) (filled-length bytes (lent list at)))

-- bytes laid from a place on, and more behind them
pub gathered : (from all : ℕ) (x y : List ℕ) → from + length x + length y ≤ all
    → over_from (from + length x) y (over_from from x (zeros all)) ≡ over (zeros from ++ (x ++ y)) (zeros all)
gathered from all x y room =
    let first = zeros from ++ x in
    let long : length first ≡ from + length x = length-append (zeros from) x ∙ rw (zeros-length from) in
    let rest = zeros (all - (from + length x)) in
    let whole : length (zeros from ++ (x ++ y)) ≡ from + length x + length y =
    length-append (zeros from) (x ++ y) ∙ omega (arith, zeros-length from, length-append x y) in
    let left : all - (from + length x) - length y ≡ all - (from + length x + length y) = omega arith in
    rw (
      zeros-take from all (omega arith),
      zeros-drop (from + length x) all (omega arith),
      whole,
      zeros-drop (from + length x + length y) all (omega arith),
      take_at first rest (from + length x) long,
      ← drop-drop (length y) (from + length x) (first ++ rest),
      drop_at first rest (from + length x) long,
      zeros-drop (length y) (all - (from + length x)) (omega arith),
      append_assoc (zeros from) x y,
      left,
    )

-- so many of the first bytes, with enough zeroes behind them
some_zeros : (many a b : ℕ) (bytes : List ℕ) → many ≤ length bytes + a → many ≤ length bytes + b
    → take many (bytes ++ zeros a) ≡ take many (bytes ++ zeros b)
some_zeros many a b bytes h k = either (leb many (length bytes)) refl
  where
    either : (t : Bool) → leb many (length bytes) ≡ t → take many (bytes ++ zeros a) ≡ take many (bytes ++ zeros b)
    either true e =
        let few = leb-true many (length bytes) e in
        take-append-le many bytes (zeros a) few ∙ sym (take-append-le many bytes (zeros b) few)
    either false e =
        let more = leb-false many (length bytes) e in
        let sum : length bytes + (many - length bytes) ≡ many = omega arith in
        rw (
          ← sum,
          take-append-add bytes (zeros a) (many - length bytes),
          take-append-add bytes (zeros b) (many - length bytes),
          zeros-take (many - length bytes) a (omega arith),
          zeros-take (many - length bytes) b (omega arith),
        )

-- what stands behind the last byte are zeroes
behind-zeros : (last : Bool) → behind last ≡ zeros (length (behind last))
unfolding zeros
behind-zeros true = refl
behind-zeros false = refl

-- the groups that are full, of bytes gathered in two groups of zeroes
pub full_gathered : (last : Bool) (bytes : List ℕ) → length bytes ≤ 16
    → take ((length bytes + length (behind last)) / 8 * 8) (over bytes (zeros 16)) ≡ full_groups (bytes ++ behind last)
unfolding full_groups
full_gathered last bytes room =
    let few = behind_few last in
    let many = (length bytes + length (behind last)) / 8 * 8 in
    rw (
      zeros-drop (length bytes) 16 room,
      length-append bytes (behind last),
      some_zeros many (16 - length bytes) (length (behind last)) bytes (omega arith) (omega arith),
      ← behind-zeros last,
    )

-- what is written of bytes held and more behind them, which take up so many places of two groups
module _ (last : Bool) (address : ℕ) (held bytes : List ℕ) where
  abbrev taken : ℕ
  taken = address % 8 + length held + length bytes

  abbrev of_group : List ℕ
  of_group = zeros (address % 8) ++ (held ++ bytes)

  group_length : length of_group ≡ taken
  group_length =
      length-append (zeros (address % 8)) (held ++ bytes)
      ∙ omega (arith, zeros-length (address % 8), length-append held bytes)

  pub gathered_written : taken ≤ 16
      → take ((taken + length (behind last)) / 8 * 8) (over of_group (zeros 16)) ≡ written last address (held ++ bytes)
  unfolding written
  gathered_written room =
      ap (λ (n : ℕ). take ((n + length (behind last)) / 8 * 8) (over of_group (zeros 16))) (sym group_length)
      ∙ full_gathered last of_group (omega (arith, group_length))
      ∙ rw (append_assoc (zeros (address % 8)) (held ++ bytes) (behind last))

  -- with no full group nothing is stored
  pub none_written : (configuration : Configuration) (sram : List ℕ) → (taken + length (behind last)) / 8 * 8 ≡ 0
      → stored_in_range configuration sram (group_of address) (written last address (held ++ bytes)) ≡ sram
  unfolding stored_in_range
  none_written configuration sram none =
      let first = group_of address in
      rw (written_none last address (held ++ bytes) (omega (arith, length-append held bytes)))
      (cond_both (right_size configuration sram && in_range configuration first 0) (stored sram first []) sram (λ (l : List ℕ). l ≡ sram)
      (λ e. stored_none sram first) (λ e. refl))
