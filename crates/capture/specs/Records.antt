-- The truck's capture file (01, "The truck's capture file").
use Rattle.std.specs.Prelude.{ℕ, ◌+◌, ◌-◌, List, [], ◌∷◌, Bool, cond, not, ◌&&◌, ◌||◌, Option, Some, None, Result, Ok, Err, length, take, drop, leb, eqb}
use Rattle.octets.specs.Read.{byte_at, half_at}
use Rattle.capture.specs.declared.Kind.{Kind}
use Rattle.capture.specs.declared.Record.{Record}
use Rattle.capture.specs.declared.Damaged.{Damaged}

-- "two bytes length L (of all that follows in the record), one version byte 01, one kind byte, a body"
abbrev pub length_of : List ℕ → ℕ
length_of bytes = half_at bytes 0

abbrev pub version_of : List ℕ → ℕ
version_of bytes = byte_at bytes 2

abbrev pub kind_of : List ℕ → ℕ
kind_of bytes = byte_at bytes 3

-- "Kind 1, CAN: two identifier bytes"
abbrev pub identifier_of : List ℕ → ℕ
identifier_of bytes = half_at bytes 4

-- the number of a kind, and the kind of a number
abbrev pub kind_number : Kind → ℕ
kind_number Kind.Can = 1
kind_number Kind.Clean = 2
kind_number Kind.Faulty = 3
kind_number Kind.Reset = 4

abbrev pub kind_under : ℕ → Result Kind Damaged
kind_under number =
    cond (eqb number 1) (Ok Kind.Can)
    (cond (eqb number 2) (Ok Kind.Clean)
    (cond (eqb number 3) (Ok Kind.Faulty)
    (cond (eqb number 4) (Ok Kind.Reset) (Err record {}))))

-- "Kind 1, CAN: .. L 4 to 12. Kind 2 a clean, kind 3 a faulty serial byte, L 3. Kind 4 reset, L 2."
abbrev pub fits_kind : ℕ → ℕ → Bool
fits_kind kind l =
    (eqb kind 1 && leb 4 l && leb l 12)
    || ((eqb kind 2 || eqb kind 3) && eqb l 3)
    || (eqb kind 4 && eqb l 2)

-- no "identifier above 2,047"
abbrev pub fits_can : ℕ → ℕ → Bool
fits_can kind identifier = not (eqb kind 1) || leb identifier 2047

-- the bytes begin with a record that is whole and keeps these rules
unfoldable pub good_record : List ℕ → Bool
good_record bytes =
    leb (2 + length_of bytes) (length bytes)
    && eqb (version_of bytes) 1
    && fits_kind (kind_of bytes) (length_of bytes)
    && fits_can (kind_of bytes) (identifier_of bytes)

-- its kind, and how many bytes its body has
unfoldable pub header_found : List ℕ → Option (ℕ × ℕ)
header_found bytes = cond (good_record bytes) (Some (kind_of bytes, length_of bytes - 2)) None

-- the same as a call gives it
abbrev pub as_header : Result (Kind × ℕ) Damaged → Option (ℕ × ℕ)
as_header (Err damaged) = None
as_header (Ok (kind, size)) = Some (kind_number kind, size)

-- The reader's answer: the number; the kind, or 0 as the end mark; where the next record starts; the body.
pub record Read : Type 0 where
  pub number : ℕ
  pub kind : ℕ
  pub next : ℕ
  pub body : List ℕ

-- "gets 10": number only, and nothing is passed over
abbrev pub refused : ℕ → Read
refused at = record { number = 10; kind = 0; next = at; body = [] }

-- "A starting place at the end of the file gets 0 with an end mark and no body."
abbrev pub ended : ℕ → Read
ended at = record { number = 0; kind = 0; next = at; body = [] }

-- a record's body, "and where the next record starts"
abbrev pub answered : Option (ℕ × ℕ) → ℕ → List ℕ → Read
answered None at bytes = refused at
answered (Some (kind, size)) at bytes =
    record { number = 0; kind = kind; next = at + 4 + size; body = take size (drop 4 bytes) }

-- what stands at a place, of which these are the capture's bytes from there on
abbrev pub found : ℕ → List ℕ → Read
found at [] = ended at
found at (first ∷ rest) = answered (header_found (first ∷ rest)) at (first ∷ rest)

-- "as does a starting place past the end"
unfoldable pub reads : List ℕ → ℕ → Read
reads capture at = cond (leb at (length capture)) (found at (drop at capture)) (refused at)

-- "the body as a part of the file's own bytes, not a copy": where it starts in the capture. It ends where the next record starts;
-- where there is no record it is the place at the end, and 0 past the end
unfoldable pub body_at : List ℕ → ℕ → ℕ
body_at capture at =
    cond (leb at (length capture)) ((reads capture at).next - length (reads capture at).body) 0

-- an address so many bytes on, in the same memory
abbrev pub beyond : ℕ × ℕ → ℕ → ℕ × ℕ
beyond address count = (address.0, address.1 + count)

-- the result of a call at a place
abbrev pub as_read : ℕ → Result (Option Record) Damaged → Read
as_read at (Err damaged) = refused at
as_read at (Ok None) = ended at
as_read at (Ok (Some found)) =
    record { number = 0; kind = kind_number found.kind; next = found.next; body = found.body.now }
