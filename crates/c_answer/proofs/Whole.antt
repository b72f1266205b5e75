-- How many numbers an answer has; an answer put in its places; and the number of how serial boot was entered is read back.
use mathlib.Core.Path.{◌≡◌, refl}
use lib.ListN.{length}
use Rattle.buffers.proofs.Eight.{eight-whole}
use Rattle.session_configuration.specs.declared.Entered.{Entered}
use Rattle.session_answers.specs.declared.Answer.{Answer}
use Rattle.session_answers.specs.declared.Outcome.{Outcome}
use Rattle.c_answer.specs.Writing.{Flat, as_flat, put, entered_number, entered_of, jump_numbers, answer_numbers, echo_width, answer_width, answer_put}

pub entered_back : (entered : Entered) → entered_of (entered_number entered) ≡ entered
entered_back Entered.Directly = refl
entered_back Entered.FromInternal = refl
entered_back Entered.FromExternal = refl

jump_length : (outcome : Outcome) → length (jump_numbers outcome) ≡ 2
jump_length Outcome.Taken = refl
jump_length Outcome.Ignored = refl
jump_length (Outcome.Stops refusal) = refl
jump_length (Outcome.Jumps jump) = refl
jump_length (Outcome.Refused fault) = refl

pub answer-length : (answer : Answer) → length (answer_numbers answer) ≡ answer_width
answer-length answer = rw (jump_length answer.outcome)

-- an answer's bytes and numbers, put in their places
pub fills : (answer : Answer) (flat : Flat) → length answer.echo.bytes ≡ 8
    → put echo_width answer_width (as_flat answer.echo.bytes (answer_numbers answer)) flat ≡ answer_put answer flat
unfolding answer_put
fills answer flat eight = rw (eight-whole answer.echo.bytes eight)
