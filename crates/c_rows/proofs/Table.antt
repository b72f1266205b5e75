-- A loop that writes the numbers of rows into a list, eight a turn.
use Prim.Native.Nat.{ℕ, ◌+◌, ◌*◌, ◌≤◌, ◌<◌}
use native.Mathlib.Numerals.{add-one}
use native.Mathlib.Omega.{arith}
use mathlib.Core.Path.{◌≡◌, refl, ◌∙◌}
use mathlib.Core.List.{List, [], ◌∷◌, ◌++◌}
use lib.ListN.{length, get_or, take, drop}
use lib.Seq.{take_at, drop-append-add, drop-drop, length-take-le, take-suc}
use Rattle.buffers.specs.Write.{filled}
use Rattle.buffers.proofs.Lending.{lent, back, put_back}
use Rattle.mmu.specs.declared.Row.{Row}
use Rattle.c_rows.specs.Numbers.{row_numbers, table_numbers}

rows-length : (rows : List Row) → length (table_numbers rows) ≡ 8 * length rows
rows-length [] = refl
rows-length (row ∷ rows) = omega (arith, rows-length rows)

rows_append : (xs ys : List Row) → table_numbers (xs ++ ys) ≡ table_numbers xs ++ table_numbers ys
rows_append [] ys = refl
rows_append (x ∷ xs) ys = rw (rows_append xs ys)

-- what is written right behind p
behind : (p q r : List ℕ) (n k : ℕ) → length p ≡ n → take n (p ++ q) ++ r ++ drop (n + k) (p ++ q) ≡ p ++ r ++ drop k q
behind p q r n k e = rw (take_at p q n e, ← e, drop-append-add)

-- the invariant: the numbers of the first i rows, and behind them what the output had there
abbrev pub Written : List ℕ → List Row → ℕ → List ℕ → Type 0
Written out₀ rows i out = out ≡ table_numbers (take i rows) ++ drop (8 * i) out₀

-- the part from a place on, lent, filled with the next row's numbers and given back
pub turn
    : (out₀ : List ℕ) (rows : List Row) (i : ℕ) (d : Row) (out : List ℕ) (at : ℕ)
    → i < length rows
    → at ≡ 8 * i
    → at + 8 ≤ length out
    → Written out₀ rows i out
    → Written out₀ rows (i + 1) (back out at (filled (row_numbers (get_or rows i d)) (lent out at)))
turn out₀ rows i d out at h place room e =
    let row = row_numbers (get_or rows i d) in
    let first = table_numbers (take i rows) in
    let many : length first ≡ 8 * i = omega (arith, rows-length (take i rows), length-take-le i rows (omega arith)) in
    let next : 8 * i + 8 ≡ 8 * (i + 1) = omega arith in
    put_back out row at room
    ∙ rw (place, e, behind first (drop (8 * i) out₀) row (8 * i) 8 many, drop-drop 8 (8 * i) out₀, next, add-one, take-suc rows i d h, rows_append)
