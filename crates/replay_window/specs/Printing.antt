-- The text for a capture (01, "The truck's capture file").
use Rattle.std.specs.Prelude.{ℕ, zero, suc, ◌+◌, List, [], ◌++◌, Bool, true, false, cond, length, take, drop, eqb}
use Rattle.capture.specs.Records.{Read, found}
use Rattle.session_answers.specs.declared.Echo.{Echo}
use Rattle.session_answers.specs.Answers.{Result}
use Rattle.replay_lines.specs.Lines.{record_line, last_line}
use Rattle.replay_record.specs.Beginning.{Carried, keeping}
use Rattle.replay_record.specs.Handling.{Handling, handling_of}

-- "the echoed data"
abbrev pub echo_bytes : Echo → List ℕ
echo_bytes echo = take echo.length echo.bytes

-- a record's part of the text, how many bytes of the capture it was, whether the text ends with it, and what is kept then
pub record Printing : Type 0 where
  pub text : List ℕ
  pub taken : ℕ
  pub over : Bool
  pub kept : Carried

abbrev pub recorded : Carried → ℕ → Result → Printing
recorded kept taken call =
    record {
      text = record_line kept.ordinal call.number (echo_bytes call.answer.echo);
      taken = taken;
      over = false;
      kept = keeping (kept.ordinal + 1) call.session call.sram;
    }

-- "then one last line"
abbrev pub closing : Carried → List ℕ
closing kept = last_line kept.session.stage

abbrev pub ends : Carried → List ℕ → Printing
ends kept text = record { text = text; taken = 0; over = true; kept = kept }

-- what is kept after a record that was handled
abbrev pub kept_after : ℕ → Handling → Carried
kept_after ordinal handling = keeping ordinal handling.result.session handling.result.sram

-- "A 10 prints its line with "-" and ends the reading"; at the end mark there is the last line alone
unfoldable pub printing_after : ℕ → Handling → Printing
printing_after ordinal handling =
    cond (eqb handling.read 0)
    (cond (eqb handling.kind 0)
    (ends (kept_after ordinal handling) (closing (kept_after ordinal handling)))
    (recorded (kept_after ordinal handling) handling.taken handling.result))
    (ends (kept_after ordinal handling) (record_line ordinal handling.read [] ++ closing (kept_after ordinal handling)))

-- a record as the reader finds it
unfoldable pub printing_of : Carried → Read → Printing
printing_of kept read = printing_after kept.ordinal (handling_of kept.session kept.sram read)

-- with the capture's bytes from the record on
abbrev pub printing_from : Carried → List ℕ → Printing
printing_from kept bytes = printing_of kept (found 0 bytes)

-- the text for a capture from a record on, of at most so many records
abbrev pub text_in : ℕ → Carried → List ℕ → List ℕ
text_in zero kept bytes = []
text_in (suc more) kept bytes =
    (printing_from kept bytes).text
    ++ cond (printing_from kept bytes).over [] (text_in more (printing_from kept bytes).kept (drop (printing_from kept bytes).taken bytes))

-- no record is without bytes, so there are at most as many as bytes, and the end
unfoldable pub text_from : Carried → List ℕ → List ℕ
text_from kept bytes = text_in (suc (length bytes)) kept bytes
