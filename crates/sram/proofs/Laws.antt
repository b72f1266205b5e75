-- Where bytes lie in SRAM, and bytes stored in it one part after another.
use Prim.Native.Nat.{ℕ, ◌+◌, ◌-◌, ◌*◌, ◌/◌, ◌%◌, ◌≤◌}
use native.Mathlib.Nat.{add-zero, add_assoc, mul-mod_left}
use native.Mathlib.Omega.{arith}
use mathlib.Core.Path.{◌≡◌, refl, ◌∙◌}
use mathlib.Core.List.{List, [], ◌++◌, append-nil, append_assoc}
use mathlib.Core.Bool.{true, and-eq-true_iff}
use borrow.Author.Tests.{leb-true, le-leb, eq-eqb, eqb-true}
use lib.Dec.{leb}
use lib.ListN.{length, take, drop, length-append, length-drop, take-append-drop}
use lib.Seq.{length-take-le, take_at, drop_at, drop-drop}
use Rattle.session_configuration.specs.declared.Configuration.{Configuration}
use Rattle.sram.specs.Region.{size, base, right_size, in_range, aligned, stored, stored_in_range, LoadedAt}

-- storing nothing changes nothing
pub stored_none : (sram : List ℕ) (address : ℕ) → stored sram address [] ≡ sram
unfolding stored
stored_none sram address = rw (append-nil, add-zero, take-append-drop)

module _ (configuration : Configuration) where
  pub range_base : (address count : ℕ) → in_range configuration address count ≡ true → base ≤ address
  unfolding in_range
  range_base address count e =
      leb-true base address ((and-eq-true_iff (leb base address) (leb (address + count) (base + size configuration))).0 e).0

  pub range_end : (address count : ℕ) → in_range configuration address count ≡ true
      → address + count ≤ base + size configuration
  unfolding in_range
  range_end address count e =
      leb-true (address + count) (base + size configuration)
      ((and-eq-true_iff (leb base address) (leb (address + count) (base + size configuration))).0 e).1

  -- bytes that start no lower than SRAM and end no higher are in range
  pub in_range_lem : (address count : ℕ) → base ≤ address → address + count ≤ base + size configuration
      → in_range configuration address count ≡ true
  unfolding in_range
  in_range_lem address count h k = rw (le-leb base address h, le-leb (address + count) (base + size configuration) k)

  pub range_part : (address count part : ℕ) → in_range configuration address count ≡ true → part ≤ count
      → in_range configuration address part ≡ true
  range_part address count part e h =
      in_range_lem address part (range_base address count e) (omega (arith, range_end address count e))

  pub range_rest : (address count part : ℕ) → in_range configuration address count ≡ true → part ≤ count
      → in_range configuration (address + part) (count - part) ≡ true
  range_rest address count part e h =
      in_range_lem (address + part) (count - part) (omega (arith, range_base address count e))
      (omega (arith, range_end address count e))

  pub stored_size : (sram : List ℕ) (address : ℕ) (bytes : List ℕ) → right_size configuration sram ≡ true
      → in_range configuration address (length bytes) ≡ true → right_size configuration (stored sram address bytes) ≡ true
  unfolding stored
  stored_size sram address bytes right e =
      let whole = eqb-true (length sram) (size configuration) right in
      let h = range_base address (length bytes) e in
      let k = range_end address (length bytes) e in
      let first = take (address - base) sram in
      let rest = drop (address - base + length bytes) sram in
      eq-eqb (length (stored sram address bytes)) (size configuration)
      (length-append (first ++ bytes) rest
      ∙ omega (
        arith,
        length-append first bytes,
        length-take-le (address - base) sram (omega arith),
        length-drop (address - base + length bytes) sram,
      ))

  pub stored_join : (sram : List ℕ) (address : ℕ) (x y : List ℕ) → right_size configuration sram ≡ true
      → in_range configuration address (length x + length y) ≡ true
      → stored (stored sram address x) (address + length x) y ≡ stored sram address (x ++ y)
  unfolding stored
  stored_join sram address x y right e =
      let whole = eqb-true (length sram) (size configuration) right in
      let h = range_base address (length x + length y) e in
      let k = range_end address (length x + length y) e in
      let at = address - base in
      let first = take at sram ++ x in
      let rest = drop (at + length x) sram in
      let seam : length first ≡ at + length x =
      length-append (take at sram) x ∙ omega (arith, length-take-le at sram (omega arith)) in
      let next : address + length x - base ≡ at + length x = omega arith in
      rw (
        next,
        take_at first rest (at + length x) seam,
        ← drop-drop (length y) (at + length x) (first ++ rest),
        drop_at first rest (at + length x) seam,
        drop-drop,
        append_assoc (take at sram) x y,
        length-append x y,
        add_assoc,
      )

  pub stored_in_range_lem : (sram : List ℕ) (address : ℕ) (bytes : List ℕ) → right_size configuration sram ≡ true
      → in_range configuration address (length bytes) ≡ true
      → stored_in_range configuration sram address bytes ≡ stored sram address bytes
  unfolding stored_in_range
  stored_in_range_lem sram address bytes right e = rw (right, e)

  -- bytes stored in range are there, and all else is as it was
  pub stored_loaded : (sram : List ℕ) (address : ℕ) (bytes : List ℕ) → right_size configuration sram ≡ true
      → in_range configuration address (length bytes) ≡ true → LoadedAt sram (stored sram address bytes) address bytes
  unfolding stored
  stored_loaded sram address bytes right e =
      let whole = eqb-true (length sram) (size configuration) right in
      let h = range_base address (length bytes) e in
      let k = range_end address (length bytes) e in
      let at = address - base in
      let first = take at sram in
      let rest = drop (at + length bytes) sram in
      let seam : length first ≡ at = length-take-le at sram (omega arith) in
      record {
        there = rw (append_assoc first bytes rest, drop_at first (bytes ++ rest) at seam) (take_at bytes rest (length bytes) refl);
        below = rw (append_assoc first bytes rest) (take_at first (bytes ++ rest) at seam);
        above = drop_at (first ++ bytes) rest (at + length bytes) (length-append first bytes ∙ omega arith);
      }

  -- the two lowest bits dropped give a multiple of 4
  pub range_aligned : (word count : ℕ) → 1 ≤ count → in_range configuration (word / 4 * 4) count ≡ true
      → aligned configuration (word / 4 * 4) ≡ true
  unfolding aligned
  range_aligned word count h e =
      rw (eq-eqb ((word / 4 * 4) % 4) 0 (mul-mod_left (word / 4) 4), range_part (word / 4 * 4) count 1 e h)
