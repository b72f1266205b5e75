-- What a record's header says of its bytes, what the reader answers at each kind of place, and how far it looks.
use Prim.Native.Nat.{ℕ, ◌+◌, ◌-◌, ◌≤◌, ◌<◌}
use native.Mathlib.Omega.{arith}
use mathlib.Core.Path.{◌≡◌, refl, ◌∙◌}
use mathlib.Core.List.{List, [], ◌∷◌}
use borrow.Author.Tests.{le-leb, lt-leb}
use lib.ListN.{length, take, drop, length-drop}
use lib.Seq.{length-take-le}
use Rattle.std.specs.Prelude.{Some, None}
use Rattle.std.proofs.lemmas.List.{take_rest}
use Rattle.std.proofs.lemmas.Bool.Decides.{nat_tests}
use Rattle.capture.specs.Records.{good_record, header_found, Read, refused, ended, answered, found, reads, body_at}

-- a record that keeps the rules is at most 14 bytes long, and all of it is there
pub header_room : (bytes : List ℕ) (kind size : ℕ) → header_found bytes ≡ Some (kind, size)
    → (4 + size ≤ length bytes) × (size ≤ 10)
unfolding header_found good_record
header_room bytes kind size e = (grind (arith, nat_tests), grind (arith, nat_tests))

-- what stands at a place, of which `bytes` are those from there on
module _ (at : ℕ) where
  found_end : (bytes : List ℕ) → length bytes ≡ 0 → ended at ≡ found at bytes
  found_end [] e = refl
  found_end (first ∷ rest) e = absurd (omega arith)

  found_header : (bytes : List ℕ) → 0 < length bytes → answered (header_found bytes) at bytes ≡ found at bytes
  found_header [] h = absurd (omega arith)
  found_header (first ∷ rest) h = refl

module _ (capture : List ℕ) (at : ℕ) where
  -- the bytes from a place on, as the code lends them
  abbrev pub lent : List ℕ
  lent = take (length capture - at) (drop at capture)

  pub reads_past : length capture < at → refused at ≡ reads capture at
  unfolding reads
  reads_past h = rw (lt-leb at (length capture) h)

  -- what stands at a place that is not past the end
  reads_within : at ≤ length capture → found at lent ≡ reads capture at
  unfolding reads
  reads_within h = rw (le-leb at (length capture) h, take_rest capture at)

  pub reads_end : at ≤ length capture → length lent ≡ 0 → ended at ≡ reads capture at
  reads_end h none = found_end at lent none ∙ reads_within h

  pub reads_bad : at ≤ length capture → 0 < length lent → header_found lent ≡ None → refused at ≡ reads capture at
  reads_bad h some e = rw (← reads_within h, ← found_header at lent some, e) refl

  -- a record, with the length of its body as the code has it, and where its body starts
  pub reads_good : (kind size many : ℕ) → at ≤ length capture → header_found lent ≡ Some (kind, size) → many ≡ size
      → ◌≡◌ {A = Read} record { number = 0; kind = kind; next = at + 4 + size; body = take many (drop 4 lent) } (reads capture at)
  reads_good kind size many h e is =
      let room = header_room lent kind size e in
      rw (is, ← reads_within h, ← found_header at lent (omega (arith, room)), e) refl

  pub good_place : (kind size : ℕ) → at ≤ length capture → header_found lent ≡ Some (kind, size) → body_at capture at ≡ at + 4
  unfolding body_at
  good_place kind size h e =
      let room = header_room lent kind size e in
      let many : length (take size (drop 4 lent)) ≡ size = length-take-le size (drop 4 lent) (omega (arith, length-drop 4 lent)) in
      rw (le-leb at (length capture) h, ← reads_good kind size size h e refl) (omega (arith, many))

-- at each kind of place
pub ruleset places = (header_room, reads_past, reads_end, reads_bad, reads_good, good_place)

-- what stands at the start of a capture
pub reads_first : (bytes : List ℕ) → reads bytes 0 ≡ found 0 bytes
unfolding reads
reads_first bytes = rw (le-leb 0 (length bytes) (omega arith))

-- a record that is answered lies within the bytes
pub found_next : (at : ℕ) (bytes : List ℕ) → (found at bytes).number ≡ 0 → ((found at bytes).kind ≡ 0 → ⊥)
    → (at + 4 ≤ (found at bytes).next) × ((found at bytes).next ≤ at + length bytes)
unfolding header_found good_record
found_next at [] e h = absurd (h refl)
found_next at (b ∷ bytes) e h = (grind (arith, nat_tests), grind (arith, nat_tests))
