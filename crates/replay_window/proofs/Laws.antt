-- What a call on one record does: of a record that is answered, of the end mark, and of a bad one.
use Prim.Native.Nat.{ℕ, ◌+◌, ◌≤◌}
use native.Mathlib.Omega.{arith}
use mathlib.Core.Path.{◌≡◌, refl, sym, ap, ◌∙◌}
use mathlib.Core.List.{List, [], ◌++◌}
use mathlib.Core.Bool.{true, false}
use borrow.Author.Tests.{eqb-false}
use lib.ListN.{length, take, length-append}
use Rattle.std.proofs.Common.{add-zero, length-take}
use Rattle.std.specs.Prelude.{Option, Some, None, Ok, Err, Result as OkOrErr}
use Rattle.capture.specs.declared.Damaged.{Damaged}
use Rattle.capture.specs.Records.{kind_number, Read, found}
use Rattle.capture.proofs.Laws.{found_next}
use Rattle.session_state.specs.declared.Session.{Session}
use Rattle.session_answers.specs.declared.StepResult.{StepResult}
use Rattle.session_answers.specs.Answers.{outcome_number, result_of}
use Rattle.replay_lines.specs.Lines.{record_line}
use Rattle.replay_lines.specs.Output.{Output, as_output, appended}
use Rattle.replay_lines.proofs.Laws.{record_length, last_length, appended_twice}
use Rattle.replay_record.specs.declared.Handled.{Handled}
use Rattle.replay_record.specs.Handling.{Handling, as_handling, handling_of}
use Rattle.replay_record.specs.Beginning.{Carried, keeping}
use Rattle.replay_record.proofs.Laws.{counted}
use Rattle.replay_window.specs.declared.Turn.{Turn}
use Rattle.replay_window.specs.Printing.{Printing, echo_bytes, recorded, closing, ends, printing_after}
use Rattle.replay_window.specs.Windows.{as_call_result}
use Rattle.replay_window.specs.Turns.{Printed, as_printed, printed_at, printing_result, moved_on}

-- a record that is answered lies within the bytes
pub record_within
    : (session : Session) (sram bytes sram' : List ℕ) (handled : Handled)
    → as_handling session (Ok (Some handled)) sram' ≡ handling_of session sram (found 0 bytes)
    → handled.next ≤ length bytes
unfolding handling_of
record_within session sram bytes sram' handled told =
    let number = ap (λ (h : Handling). h.read) told in
    let kind = ap (λ (h : Handling). h.kind) told in
    let next = ap (λ (h : Handling). h.taken) told in
    let room = found_next 0 bytes (sym number) (λ none. eqb-false (kind_number handled.kind) 0 (counted handled.kind) (kind ∙ none)) in
    omega (arith, next, room.1)

-- what is printed of a record, with SRAM after it
module _ (kept : Carried) (read : Read) (sram' : List ℕ) where
  abbrev after : Carried
  after = keeping kept.ordinal kept.session sram'

  abbrev printing : Printing
  printing = printing_after kept.ordinal (handling_of kept.session kept.sram read)

  abbrev Told : OkOrErr (Option Handled) Damaged → Type 0
  Told result = as_handling kept.session result sram' ≡ handling_of kept.session kept.sram read

  abbrev line_of : StepResult → List ℕ
  line_of result = record_line kept.ordinal (outcome_number result.answer.outcome) (echo_bytes result.answer.echo)

  abbrev bad_line : List ℕ
  bad_line = record_line kept.ordinal 10 []

  printing_record : (handled : Handled) → Told (Ok (Some handled))
      → recorded (keeping kept.ordinal handled.result.session sram') handled.next (result_of handled.result sram') ≡ printing
  unfolding printing_after
  printing_record handled told = rw (← told, counted handled.kind) refl

  printing_end : Told (Ok None) → ends after (closing after) ≡ printing
  unfolding printing_after
  printing_end told = rw (← told) refl

  printing_bad : Told (Err record {}) → ends after (bad_line ++ closing after) ≡ printing
  unfolding printing_after
  printing_bad told = rw (← told) refl

  pub record_short : (handled : Handled) → Told (Ok (Some handled))
      → take 8 (echo_bytes handled.result.answer.echo) ≡ echo_bytes handled.result.answer.echo
      → length printing.text ≤ 96
  record_short handled told cut =
      let answer = handled.result.answer in
      let echo = echo_bytes answer.echo in
      let short : length echo ≤ 8 = omega (arith, ap length cut, length-take 8 echo) in
      rw (← printing_record handled told)
      (omega (arith, record_length kept.ordinal (outcome_number answer.outcome) echo short))

  pub end_short : Told (Ok None) → length printing.text ≤ 96
  end_short told = rw (← printing_end told) (omega (arith, last_length kept.session.stage))

  bad_long : length bad_line + length (closing after) ≤ 96
  bad_long = omega (arith, record_length kept.ordinal 10 [] (omega arith), last_length kept.session.stage)

  pub bad_short : Told (Err record {}) → length printing.text ≤ 96
  bad_short told = rw (← printing_bad told) (omega (arith, bad_long, length-append bad_line (closing after)))

  -- a call at a position, on an output of which so many bytes are used
  module _ (at used : ℕ) (bytes out' : List ℕ) where
    abbrev Played_as : Turn → Session → Type 0
    Played_as turn session =
        as_call_result record { turn = turn; session = session } sram' out'
        ≡ moved_on at (printing_result printing (as_output bytes used))

    pub record_played : (handled : Handled) → Told (Ok (Some handled)) → (used' : ℕ)
        → as_output out' used' ≡ appended (as_output bytes used) (line_of handled.result)
        → Played_as record { at = at + handled.next; used = used'; ended = false; ordinal = kept.ordinal + 1 } handled.result.session
    record_played handled told used' e =
        rw (← printing_record handled told)
        (ap (λ (o : Output). as_call_result record { turn = record { at = at + handled.next; used = o.used; ended = false; ordinal = kept.ordinal + 1 }; session = handled.result.session } sram' o.bytes) e)

    -- a text that ends here
    ended_played : (text : List ℕ) (turn : Turn) → ends after text ≡ printing
        → as_printed turn out' ≡ printed_at at true kept.ordinal (appended (as_output bytes used) text)
        → Played_as turn kept.session
    ended_played text turn is e =
        rw (← is, add-zero at)
        (ap (λ (p : Printed). as_call_result record { turn = p.turn; session = kept.session } sram' p.out) e)

    pub end_played : Told (Ok None) → (turn : Turn)
        → as_printed turn out' ≡ printed_at at true kept.ordinal (appended (as_output bytes used) (closing after))
        → Played_as turn kept.session
    end_played told turn e = ended_played (closing after) turn (printing_end told) e

    pub bad_played : Told (Err record {}) → (turn : Turn) (line : Output) → used + 96 ≤ length bytes
        → line ≡ appended (as_output bytes used) bad_line
        → as_printed turn out' ≡ printed_at at true kept.ordinal (appended line (closing after))
        → Played_as turn kept.session
    bad_played told turn line room first e =
        ended_played (bad_line ++ closing after) turn (printing_bad told)
        (e
        ∙ ap (λ (o : Output). printed_at at true kept.ordinal (appended o (closing after))) first
        ∙ ap (printed_at at true kept.ordinal) (appended_twice bytes used bad_line (closing after) (omega (arith, room, bad_long))))
