-- The text of a record printed, and the turn of the loop after it.
use Rattle.std.specs.Prelude.{ℕ, ◌+◌, List, Bool}
use Rattle.replay_lines.specs.Output.{Output, appended}
use Rattle.replay_window.specs.declared.Turn.{Turn}
use Rattle.replay_record.specs.Beginning.{Carried}
use Rattle.replay_window.specs.Printing.{Printing}
use Rattle.replay_window.specs.Windows.{CallResult, as_call_result}

-- a function that prints: the turn that it returns, and the output after it
pub record Printed : Type 0 where
  pub turn : Turn
  pub out : List ℕ

abbrev pub as_printed : Turn → List ℕ → Printed
as_printed turn out = record { turn = turn; out = out }

-- a turn with the output after it
abbrev pub printed_at : ℕ → Bool → ℕ → Output → Printed
printed_at at ended ordinal out =
    as_printed record { at = at; used = out.used; ended = ended; ordinal = ordinal } out.bytes

-- the turn of a record's printing, with its text behind what the output holds already
abbrev pub printed_of : Printing → Output → Printed
printed_of printing out = printed_at printing.taken printing.over printing.kept.ordinal (appended out printing.text)

-- a turn whose position counts from another position
abbrev pub turn_behind : ℕ → Turn → Turn
turn_behind at printed =
    record { at = at + printed.at; used = printed.used; ended = printed.ended; ordinal = printed.ordinal }

-- the result of a call on one record: its turn, and what is kept after it
abbrev pub result_with : Printed → Carried → CallResult
result_with printed kept =
    as_call_result record { turn = printed.turn; session = kept.session } kept.sram printed.out

abbrev pub printing_result : Printing → Output → CallResult
printing_result printing out = result_with (printed_of printing out) printing.kept

-- the same where its position counts from another position
abbrev pub moved_on : ℕ → CallResult → CallResult
moved_on at call =
    as_call_result record { turn = turn_behind at call.played.turn; session = call.played.session } call.sram call.out
