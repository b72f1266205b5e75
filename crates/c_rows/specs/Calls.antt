-- What the calls for MMU rows answer through the C interface, and what they leave in the lent output. A refused call writes nothing.
use Rattle.std.specs.Prelude.{ℕ, List, Result, Ok, Err, cond, length, eqb, leb}
use Rattle.mmu.specs.declared.NoRows.{NoRows}
use Rattle.mmu.specs.declared.Row.{Row}
use Rattle.mmu.specs.Rows.{refusal_number, choice_rows, session_rows}
use Rattle.c_answer.specs.Writing.{Flat}
use Rattle.c_session.specs.Reading.{session_in}
use Rattle.c_choice.specs.Numbers.{mode_of}
use Rattle.c_rows.specs.Numbers.{table_numbers}

-- rows as C sees them: the number, and the output as the call leaves it
pub record RowsReply : Type 0 where
  pub number : ℕ
  pub rows : List ℕ

abbrev pub as_rows_reply : ℕ → List ℕ → RowsReply
as_rows_reply number rows = record { number = number; rows = rows }

-- what a mapping leaves: one that is refused its own number; else an output that has not 40 places gets number 9
abbrev pub rows_leave : Result (List Row) NoRows → List ℕ → RowsReply
rows_leave (Err reason) rows = as_rows_reply (refusal_number reason) rows
rows_leave (Ok found) rows =
    cond (eqb (length rows) 40) (as_rows_reply 0 (table_numbers found)) (as_rows_reply 9 rows)

-- the rows of a choice, by the number of its mode; a mode above 4 gets number 9
unfoldable pub choice_rows_reply : ℕ → List ℕ → RowsReply
choice_rows_reply mode rows = cond (leb mode 4) (rows_leave (choice_rows (mode_of mode)) rows) (as_rows_reply 9 rows)

-- the rows of a session
abbrev pub session_rows_reply : Flat → List ℕ → RowsReply
session_rows_reply session rows = rows_leave (session_rows (session_in session)) rows
