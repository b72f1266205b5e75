-- The numbers that stand for the MMU rows in the C interface (include/boot_assist.h).
use Rattle.std.specs.Prelude.{ℕ, List, [], ◌∷◌, ◌++◌}
use Rattle.mmu.specs.declared.Row.{Row}
use Rattle.c_answer.specs.Writing.{bit}

-- the eight numbers of a row
abbrev pub row_numbers : Row → List ℕ
row_numbers row =
    row.logical
    ∷ row.physical
    ∷ row.size
    ∷ bit row.inhibited
    ∷ bit row.guarded
    ∷ bit row.bigendian
    ∷ bit row.global
    ∷ bit row.vle
    ∷ []

-- the rows, one after the other
abbrev pub table_numbers : List Row → List ℕ
table_numbers [] = []
table_numbers (row ∷ rows) = row_numbers row ++ table_numbers rows
