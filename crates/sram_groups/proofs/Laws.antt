-- Bytes stored in groups, in whatever parts they come.
use Prim.Native.Nat.{ℕ, ◌+◌, ◌-◌, ◌*◌, ◌/◌, ◌%◌, ◌≤◌, ◌<◌}
use native.Mathlib.Omega.{arith}
use mathlib.Core.Path.{◌≡◌, refl, sym, ap, ◌∙◌}
use mathlib.Core.List.{List, [], ◌++◌, append_assoc, append-nil}
use mathlib.Core.Bool.{Bool, true, false}
use borrow.Author.Tests.{leb-true, leb-false, le-leb}
use lib.Dec.{leb}
use lib.ListN.{length, take, drop, length-append, length-drop, length-replicate, replicate-append-replicate, take-append-drop}
use lib.Seq.{length-take-le, take_at, drop_at, take-add, take-append-le, take-append-add, drop-append-le, drop-append-add}
use Rattle.session_configuration.specs.declared.Configuration.{Configuration}
use Rattle.sram.specs.Region.{size, base, right_size, in_range, stored}
use Rattle.sram.proofs.Laws.{in_range_lem, range_base, range_end, stored_none, stored_size, stored_in_range_lem, stored_join}
use Rattle.sram_groups.specs.Groups.{group_of, held_count, last_of, zeros, full_groups, behind, written, stored_in_groups, with_load, stored_within}

pub zeros-length : (count : ℕ) → length (zeros count) ≡ count
unfolding zeros
zeros-length count = length-replicate count 0

-- zeroes, so many and some more
zeros_split : (a b : ℕ) → zeros (a + b) ≡ zeros a ++ zeros b
unfolding zeros
zeros_split a b = sym (replicate-append-replicate a b 0)

pub zeros-take : (a all : ℕ) → a ≤ all → take a (zeros all) ≡ zeros a
zeros-take a all h =
    let sum : a + (all - a) ≡ all = omega arith in
    rw (← sum, zeros_split a (all - a)) (take_at (zeros a) (zeros (all - a)) a (zeros-length a))

pub zeros-drop : (a all : ℕ) → a ≤ all → drop a (zeros all) ≡ zeros (all - a)
zeros-drop a all h =
    let sum : a + (all - a) ≡ all = omega arith in
    rw (← sum, zeros_split a (all - a)) (drop_at (zeros a) (zeros (all - a)) a (zeros-length a) ∙ ap zeros (omega arith))

-- How many bytes are held: fewer than 8, and no more than have come; with more bytes either all of those are held too, or none but some of them.

pub held_few : (start next : ℕ) → held_count start next < 8
unfolding held_count
held_few start next = omega arith

pub held_come : (start count : ℕ) → held_count start (start + count) ≤ count
unfolding held_count
held_come start count = omega arith

pub held_none : (start : ℕ) → held_count start start ≡ 0
unfolding held_count
held_none start = omega arith

-- the address of the first byte held, which is not below the start
pub held_from : (start next : ℕ) → start ≤ next → (start ≤ next - held_count start next) × (held_count start next ≤ next)
unfolding held_count
held_from start next h = omega arith

-- the bytes held are of one group
pub held_together : (start next : ℕ) → start ≤ next → (next - held_count start next) % 8 + held_count start next < 8
unfolding held_count
held_together start next h = omega arith

-- Full groups, one part after another.

full_length : (l : List ℕ) → length (full_groups l) ≡ length l / 8 * 8
unfolding full_groups
full_length l = length-take-le (length l / 8 * 8) l (omega arith)

full_none : (l : List ℕ) → length l < 8 → full_groups l ≡ []
unfolding full_groups
full_none l few = let none : length l / 8 * 8 ≡ 0 = omega arith in rw none

full_join : (w : ℕ) (l more : List ℕ) → w % 8 ≡ 0 → w ≤ length l
    → take w l ++ full_groups (drop w l ++ more) ≡ full_groups (l ++ more)
unfolding full_groups
full_join w l more whole there =
    let all = l ++ more in
    let many = length-append l more in
    let rest : drop w l ++ more ≡ drop w all = sym (drop-append-le w l more there) in
    let left : length (drop w all) ≡ length all - w = length-drop w all in
    let parts : w + (length all - w) / 8 * 8 ≡ length all / 8 * 8 = omega arith in
    rw (rest, left, ← parts, take-add w ((length all - w) / 8 * 8) all, take-append-le w l more there)

-- What is written of bytes, with those in front of it.

pub behind_few : (last : Bool) → length (behind last) ≤ 7
behind_few true = rw (zeros-length 7) (omega arith)
behind_few false = omega arith

written-length : (last : Bool) (address : ℕ) (bytes : List ℕ)
    → length (written last address bytes) ≡ (address % 8 + (length bytes + length (behind last))) / 8 * 8
unfolding written
written-length last address bytes =
    full_length (zeros (address % 8) ++ (bytes ++ behind last))
    ∙ rw (length-append (zeros (address % 8)) (bytes ++ behind last), zeros-length, length-append bytes (behind last))

-- of fewer bytes than fill a group nothing is written
pub written_none : (last : Bool) (address : ℕ) (bytes : List ℕ) → address % 8 + (length bytes + length (behind last)) < 8
    → written last address bytes ≡ []
unfolding written
written_none last address bytes few =
    let all = bytes ++ behind last in
    full_none (zeros (address % 8) ++ all)
    (omega (arith, length-append (zeros (address % 8)) all, zeros-length (address % 8), length-append bytes (behind last)))

pub stored-nothing : (sram : List ℕ) (address : ℕ) (bytes : List ℕ) → address % 8 + length bytes < 8
    → stored_in_groups false sram address bytes ≡ sram
unfolding stored_in_groups
stored-nothing sram address bytes few = rw (written_none false address bytes (omega arith)) (stored_none sram (group_of address))

-- SRAM is made of groups
base_in_eights : base % 8 ≡ 0
unfolding base
base_in_eights = refl

module _ (configuration : Configuration) (in_eights_lem : size configuration % 8 ≡ 0) where
  pub written-in_range : (last : Bool) (address : ℕ) (bytes : List ℕ) → in_range configuration address (length bytes) ≡ true
      → in_range configuration (group_of address) (length (written last address bytes)) ≡ true
  written-in_range last address bytes e =
      let low = range_base configuration address (length bytes) e in
      let high = range_end configuration address (length bytes) e in
      let from = base_in_eights in
      let few = behind_few last in
      in_range_lem configuration (group_of address) (length (written last address bytes))
      (omega arith) (rw (written-length last address bytes) (omega arith))

  pub groups_size : (last : Bool) (sram : List ℕ) (address : ℕ) (bytes : List ℕ) → right_size configuration sram ≡ true
      → in_range configuration address (length bytes) ≡ true
      → right_size configuration (stored_in_groups last sram address bytes) ≡ true
  unfolding stored_in_groups
  groups_size last sram address bytes right e =
      stored_size configuration sram (group_of address) (written last address bytes) right (written-in_range last address bytes e)

  -- `sram_groups::store` stores bytes that two groups and SRAM have room for
  pub within_groups : (last : Bool) (sram : List ℕ) (address : ℕ) (bytes : List ℕ) → address % 8 + length bytes ≤ 16
      → right_size configuration sram ≡ true
      → in_range configuration address (length bytes) ≡ true
      → stored_within configuration last sram address bytes ≡ stored_in_groups last sram address bytes
  unfolding stored_within stored_in_groups
  within_groups last sram address bytes few right e =
      rw (
        le-leb (address % 8 + length bytes) 16 few,
        stored_in_range_lem configuration sram (group_of address) (written last address bytes) right (written-in_range last address bytes e),
      )

-- Where a group has been filled since the start: so many bytes are written from the beginning of the start's group on, and those behind them are
-- held.

record Filled (start count : ℕ) : Type 0 where
  many : ℕ
  whole : many % 8 ≡ 0
  there : many ≤ start % 8 + count
  all : (start % 8 + count) / 8 * 8 ≡ many
  past : start % 8 + (count - held_count start (start + count)) ≡ many
  next : start + count - held_count start (start + count) ≡ group_of start + many

group_filled : (start count : ℕ) → 8 ≤ start % 8 + count → Filled start count
unfolding held_count
group_filled start count h =
    record {
      many = (start % 8 + count) / 8 * 8;
      whole = omega arith;
      there = omega arith;
      all = refl;
      past = omega arith;
      next = omega arith;
    }

-- bytes that begin at a start, with the zeroes below it
abbrev from_group : ℕ → List ℕ → List ℕ
from_group start bytes = zeros (start % 8) ++ bytes

module _ (start : ℕ) (x : List ℕ) where
  from_length : length (from_group start x) ≡ start % 8 + length x
  from_length = length-append (zeros (start % 8)) x ∙ rw (zeros-length (start % 8))

  -- the bytes held are those behind the groups written
  held_behind : (f : Filled start (length x)) → last_of (held_count start (start + length x)) x ≡ drop f.many (from_group start x)
  held_behind f =
      let zeroes = zeros (start % 8) in
      let past : length zeroes + (length x - held_count start (start + length x)) ≡ f.many =
      omega (arith, zeros-length (start % 8), f.past) in
      rw (← past) (sym (drop-append-add zeroes x (length x - held_count start (start + length x))))

  written_full : (f : Filled start (length x)) → written false start x ≡ take f.many (from_group start x)
  unfolding written full_groups
  written_full f = rw (append-nil, from_length, f.all)

  -- with more bytes behind them
  written_more : (last : Bool) (y : List ℕ) (f : Filled start (length x))
      → take f.many (from_group start x) ++ written last (group_of start + f.many) (last_of (held_count start (start + length x)) x ++ y)
      ≡ written last start (x ++ y)
  unfolding written zeros
  written_more last y f =
      let all = from_group start x in
      let none : (group_of start + f.many) % 8 ≡ 0 = omega (arith, f.whole) in
      rw (none, held_behind f, append_assoc (drop f.many all) y (behind last))
      (full_join f.many all (y ++ behind last) f.whole (omega (arith, f.there, from_length))
      ∙ rw (append_assoc x y (behind last), ← append_assoc (zeros (start % 8)) x (y ++ behind last)))

-- Bytes, and then more behind them, with those held in front of these, are stored as all of them at once.
module _
    (configuration : Configuration) (in_eights_lem : size configuration % 8 ≡ 0) (last : Bool) (sram : List ℕ) (start : ℕ) (x y : List ℕ)
    (right : right_size configuration sram ≡ true) (there : in_range configuration start (length x + length y) ≡ true) where
  abbrev held : ℕ
  held = held_count start (start + length x)

  abbrev Joins : Type 0
  Joins =
      stored_in_groups last (stored_in_groups false sram start x) (start + length x - held) (last_of held x ++ y)
      ≡ stored_in_groups last sram start (x ++ y)

  join_filled : 8 ≤ start % 8 + length x → Joins
  unfolding stored_in_groups
  join_filled full =
      let f = group_filled start (length x) full in
      let first = take f.many (from_group start x) in
      let rest = written last (group_of start + f.many) (last_of held x ++ y) in
      let many : length first ≡ f.many = length-take-le f.many (from_group start x) (omega (arith, f.there, from_length start x)) in
      let group : group_of (group_of start + f.many) ≡ group_of start + length first = omega (arith, f.whole) in
      let joins : first ++ rest ≡ written last start (x ++ y) = written_more start x last y f in
      let all : in_range configuration start (length (x ++ y)) ≡ true = rw (length-append x y) there in
      let both : in_range configuration (group_of start) (length first + length rest) ≡ true =
      rw (← length-append first rest, joins) (written-in_range configuration in_eights_lem last start (x ++ y) all) in
      rw (f.next, written_full start x f, group) (stored_join configuration sram (group_of start) first rest right both ∙ rw joins)

  join_unfilled : start % 8 + length x < 8 → Joins
  unfolding held_count
  join_unfilled few =
      let all : held ≡ length x = omega arith in
      let from : start + length x - length x ≡ start = omega arith in
      let none : length x - length x ≡ 0 = omega arith in
      rw (all, from, none, stored-nothing sram start x few)

  pub groups_join : Joins
  groups_join = either (leb 8 (start % 8 + length x)) refl
    where
      either : (b : Bool) → leb 8 (start % 8 + length x) ≡ b → Joins
      either true e = join_filled (leb-true 8 (start % 8 + length x) e)
      either false e = join_unfilled (leb-false 8 (start % 8 + length x) e)

-- The last bytes of a list, those of a part that has them, and so many of some with others in front.

pub last_behind : (count : ℕ) (x y : List ℕ) → count ≤ length y → last_of count (x ++ y) ≡ last_of count y
last_behind count x y there =
    let past : length (x ++ y) - count ≡ length x + (length y - count) = omega (arith, length-append x y) in
    rw (past, drop-append-add x y (length y - count))

pub last_length : (count : ℕ) (bytes : List ℕ) → count ≤ length bytes → length (last_of count bytes) ≡ count
last_length count bytes there = length-drop (length bytes - count) bytes ∙ omega arith

pub last_all : (bytes : List ℕ) → last_of (length bytes) bytes ≡ bytes
last_all bytes = let none : length bytes - length bytes ≡ 0 = omega arith in rw none

-- what comes in front of them
pub last_split : (count : ℕ) (bytes : List ℕ) → take (length bytes - count) bytes ++ last_of count bytes ≡ bytes
last_split count bytes = take-append-drop (length bytes - count) bytes

-- of bytes held with more behind them as many are held as of all
pub held_join : (start : ℕ) (x y : List ℕ)
    → let held = held_count start (start + length x) in
    let now-held = held_count start (start + length x + length y) in
    last_of now-held (last_of held x ++ y) ≡ last_of now-held (x ++ y)
unfolding held_count
held_join start x y =
    let held = held_count start (start + length x) in
    let now-held = held_count start (start + length x + length y) in
    let first = take (length x - held) x in
    let many = last_length held x (held_come start (length x)) in
    sym (rw (← append_assoc first (last_of held x) y, last_split held x) at (last_behind now-held first (last_of held x ++ y)
    (omega (arith, length-append (last_of held x) y))))

-- with more bytes either all of them are held, with those held before, or some of them alone
pub held_further : (start next count : ℕ) → (held_count start (next + count) ≡ held_count start next + count → ⊥) → start ≤ next
    → held_count start (next + count) ≤ count
unfolding held_count
held_further start next count other h = omega arith

-- A load stored with its last byte.

written-whole : (start : ℕ) (bytes : List ℕ)
    → let end = start + length bytes in
    written true start bytes ≡ zeros (start % 8) ++ bytes ++ zeros (group_of (end + 7) - end)
unfolding written full_groups
written-whole start bytes =
    let end = start + length bytes in
    let l = from_group start bytes in
    let padding = group_of (end + 7) - end in
    let long = from_length start bytes in
    let many : (length l + 7) / 8 * 8 ≡ length l + padding = omega arith in
    rw (
      ← append_assoc (zeros (start % 8)) bytes (zeros 7),
      length-append l (zeros 7),
      zeros-length 7,
      many,
      take-append-add l (zeros 7) padding,
      zeros-take padding 7 (omega arith),
    )

pub with_load_lem : (sram : List ℕ) (start : ℕ) (bytes : List ℕ) → base ≤ start
    → stored_in_groups true sram start bytes ≡ with_load sram start bytes
unfolding stored_in_groups stored
with_load_lem sram start bytes low =
    let from = base_in_eights in
    let end = start + length bytes in
    let padding = zeros (group_of (end + 7) - end) in
    let first = take (group_of start - base) sram in
    let below : start - group_of start ≡ start % 8 = omega arith in
    let above : group_of start - base + length (written true start bytes) ≡ group_of (end + 7) - base =
    rw (written-length true start bytes, zeros-length 7) (omega arith) in
    rw (below, above, written-whole start bytes) (simp append_assoc)
