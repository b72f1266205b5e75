-- The reader's answer depends only on the 14 bytes from the place on, so a stream may be read in a window.
use Prim.Native.Nat.{ℕ, ◌+◌, ◌≤◌}
use native.Mathlib.Omega.{arith}
use mathlib.Core.Path.{◌≡◌, refl, sym, ap, ◌∙◌}
use mathlib.Core.List.{List, [], ◌∷◌}
use borrow.Author.Tests.{le-leb}
use lib.Dec.{leb}
use lib.ListN.{length, take, drop, length-take}
use Rattle.std.proofs.lemmas.List.{drop-take}
use Rattle.std.proofs.lemmas.Bool.Decides.{nat_tests}
use lib.Seq.{take-take, get_or-take}
use Rattle.octets.specs.Read.{half_at}
use Rattle.std.specs.Prelude.{Option, Some, None}
use Rattle.capture.specs.Records.{good_record, header_found, answered, found, reads}
use Rattle.capture.proofs.Laws.{header_room}

-- the bytes, and the first 14 of them
module _ (bytes : List ℕ) where
  abbrev first : List ℕ
  first = take 14 bytes

  half_same : (at : ℕ) → at + 1 ≤ 13 → half_at first at ≡ half_at bytes at
  half_same at h = rw (get_or-take 14 bytes at 0 (omega arith), get_or-take 14 bytes (at + 1) 0 (omega arith))

  -- whether a record of at most 14 bytes is whole
  whole_same : (l : ℕ) → l ≤ 12 → leb (2 + l) (length first) ≡ leb (2 + l) (length bytes)
  whole_same l h = grind (arith, nat_tests, length-take)

  good_same : good_record first ≡ good_record bytes
  unfolding good_record
  good_same =
      rw (half_same 0 (omega arith), get_or-take 14 bytes 2 0 (omega arith), get_or-take 14 bytes 3 0 (omega arith), half_same 4 (omega arith))
      (grind (arith, nat_tests, whole_same))

  header_same : header_found first ≡ header_found bytes
  unfolding header_found
  header_same = rw (good_same, half_same 0 (omega arith), get_or-take 14 bytes 3 0 (omega arith))

  body_same : (size : ℕ) → size ≤ 10 → take size (drop 4 first) ≡ take size (drop 4 bytes)
  body_same size k = ap (take size) (drop-take 4 10 bytes) ∙ take-take size 10 (drop 4 bytes) k

  answered_same : (at : ℕ) → answered (header_found first) at first ≡ answered (header_found bytes) at bytes
  answered_same at = rw header_same (by_header (header_found bytes) refl)
    where
      by_header : (header : Option (ℕ × ℕ)) → header_found bytes ≡ header → answered header at first ≡ answered header at bytes
      by_header None e = refl
      by_header (Some (kind, size)) e = rw (body_same size (header_room bytes kind size e).1)

pub found_first : (at : ℕ) (bytes : List ℕ) → found at (take 14 bytes) ≡ found at bytes
found_first at [] = refl
found_first at (b ∷ bytes) = answered_same (b ∷ bytes) at

-- so two captures that have these bytes in common get the same answer
pub window : (at : ℕ) (bytes others : List ℕ) → take 14 bytes ≡ take 14 others → found at bytes ≡ found at others
window at bytes others same = sym (found_first at bytes) ∙ ap (found at) same ∙ found_first at others

-- and so do two captures at one place of both
pub reads_window : (capture other : List ℕ) (at : ℕ) → at ≤ length capture → at ≤ length other
    → take 14 (drop at capture) ≡ take 14 (drop at other)
    → reads capture at ≡ reads other at
unfolding reads
reads_window capture other at h k same =
    rw (le-leb at (length capture) h, le-leb at (length other) k) (window at (drop at capture) (drop at other) same)
