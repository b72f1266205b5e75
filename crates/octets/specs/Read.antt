-- Bytes and big-endian numbers (01, "Choosing how to boot": "Numbers are big-endian") in a list of bytes. Past the end a byte reads as 0.
use Rattle.std.specs.Prelude.{ℕ, ◌+◌, ◌*◌, List, [], ◌∷◌, get_or}

-- the byte at a place
abbrev pub byte_at : List ℕ → ℕ → ℕ
byte_at s at = get_or s at 0

-- the two bytes from a place, as a number
abbrev pub half_at : List ℕ → ℕ → ℕ
half_at s at = byte_at s at * 256 + byte_at s (at + 1)

-- the four bytes from a place, as a number
abbrev pub word_at : List ℕ → ℕ → ℕ
word_at s at = half_at s at * 65536 + half_at s (at + 2)

-- the first eight bytes
abbrev pub first_eight : List ℕ → List ℕ
first_eight s =
    byte_at s 0 ∷ byte_at s 1 ∷ byte_at s 2 ∷ byte_at s 3 ∷ byte_at s 4 ∷ byte_at s 5 ∷ byte_at s 6 ∷ byte_at s 7 ∷ []
