-- The password (01, "A serial session"; 003).
use Rattle.std.specs.Prelude.{ℕ, List, Bool, not, ◌&&◌, eqb}
use Rattle.octets.specs.Read.{half_at}
use Rattle.octets.specs.Same.{same}

-- a half word that is neither 0x0000 nor 0xFFFF
abbrev pub allowed_half : ℕ → Bool
allowed_half half = not (eqb half 0) && not (eqb half 0xFFFF)

-- "A password is legal if none of its four half words is 0x0000 or 0xFFFF."
abbrev pub legal : List ℕ → Bool
legal password =
    allowed_half (half_at password 0)
    && allowed_half (half_at password 2)
    && allowed_half (half_at password 4)
    && allowed_half (half_at password 6)

-- "It passes if legal and equal to the selected one."
unfoldable pub passes : List ℕ → List ℕ → Bool
passes received selected = legal received && same received selected
