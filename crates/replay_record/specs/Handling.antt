-- What a record of a capture does (01, "The truck's capture file").
use Rattle.std.specs.Prelude.{ℕ, List, cond, not, ◌&&◌, Option, Some, None, Ok, Err, Result as OkOrErr, eqb}
use Rattle.capture.specs.declared.Damaged.{Damaged}
use Rattle.capture.specs.Records.{kind_number, Read}
use Rattle.session_state.specs.declared.Session.{Session}
use Rattle.session_items.specs.Items.{item_in}
use Rattle.session_answers.specs.declared.Outcome.{Outcome}
use Rattle.session_answers.specs.Answers.{Result, result_of, without_echo, unchanged}
use Rattle.session_fresh.specs.Fresh.{reset_session}
use Rattle.session.specs.Rules.{step}
use Rattle.replay_record.specs.declared.Handled.{Handled}

-- "A reset is a new boot choice; SRAM keeps its bytes"; "Reset prints 0 and "-""
abbrev pub reset_step : List ℕ → Result
reset_step sram = result_of (record { answer = without_echo Outcome.Taken; session = reset_session }) sram

-- a record's step, by its kind and its body
unfoldable pub record_step : Session → List ℕ → ℕ → List ℕ → Result
record_step session sram kind body =
    cond (eqb kind 4) (reset_step sram) (step session sram (item_in kind body))

-- the reader's number and kind, how many bytes the record has, and the result of its step
pub record Handling : Type 0 where
  pub read : ℕ
  pub kind : ℕ
  pub taken : ℕ
  pub result : Result

-- of the end mark and of a bad record, with the session and SRAM as they are
abbrev pub unhandled : ℕ → Session → List ℕ → Handling
unhandled read session sram =
    record { read = read; kind = 0; taken = 0; result = unchanged Outcome.Ignored session sram }

-- of the result of a call on a session, with SRAM after it
abbrev pub as_handling : Session → OkOrErr (Option Handled) Damaged → List ℕ → Handling
as_handling session (Err damaged) sram = unhandled 10 session sram
as_handling session (Ok None) sram = unhandled 0 session sram
as_handling session (Ok (Some handled)) sram =
    record {
      read = 0;
      kind = kind_number handled.kind;
      taken = handled.next;
      result = result_of handled.result sram;
    }

-- of a record found at 0: a bad one and the end mark are not handed to the session, which stays as it is, and `result` is not printed then
unfoldable pub handling_of : Session → List ℕ → Read → Handling
handling_of session sram read =
    record {
      read = read.number;
      kind = read.kind;
      taken = read.next;
      result = cond (eqb read.number 0 && not (eqb read.kind 0))
          (record_step session sram read.kind read.body)
          (unchanged Outcome.Ignored session sram);
    }
