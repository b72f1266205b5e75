-- Numbers and bytes as text, in ASCII.
use Rattle.std.specs.Prelude.{ℕ, zero, suc, ◌+◌, ◌/◌, ◌%◌, List, [], ◌∷◌, ◌++◌, cond, leb, ltb}
use Prim.Native.Char.{code}
use Prim.Native.String.{String, [] as empty, ◌∷◌ as ◌then◌}

-- the codes of a text's characters
abbrev pub ascii : String → List ℕ
ascii empty = []
ascii (c then text) = code c ∷ ascii text

-- the last digit of a number
abbrev pub last_digit : ℕ → ℕ
last_digit n = 48 + n % 10

-- the decimal digits of a number, the highest first: one, and so many more where they are needed
abbrev pub decimal_in : ℕ → ℕ → List ℕ
decimal_in zero n = last_digit n ∷ []
decimal_in (suc more) n = cond (leb 10 n) (decimal_in more (n / 10) ++ last_digit n ∷ []) (last_digit n ∷ [])

-- a 64-bit number has at most 20
abbrev pub decimal : ℕ → List ℕ
decimal n = decimal_in 19 n

-- "capital hex": a digit below 16, and two digits for each byte
abbrev pub hex_digit : ℕ → ℕ
hex_digit d = cond (ltb d 10) (48 + d) (55 + d)

abbrev pub hex_of : List ℕ → List ℕ
hex_of [] = []
hex_of (byte ∷ bytes) = hex_digit (byte / 16) ∷ hex_digit (byte % 16) ∷ hex_of bytes
