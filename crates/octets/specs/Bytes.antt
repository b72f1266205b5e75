-- Big-endian numbers as bytes (01, "Choosing how to boot"): the counterpart of Read.antt.
use Rattle.std.specs.Prelude.{ℕ, ◌/◌, ◌%◌, List, [], ◌∷◌}

-- a number of 32 bits as four bytes: those of its higher half, and those of its lower
abbrev pub word_bytes : ℕ → List ℕ
word_bytes word = word / 65536 / 256 ∷ word / 65536 % 256 ∷ word % 65536 / 256 ∷ word % 65536 % 256 ∷ []
