-- Answers, and what else crosses the C interface, as bytes and numbers in the order of include/boot_assist.h.
use Rattle.std.specs.Prelude.{ℕ, List, [], ◌∷◌, ◌++◌, Bool, cond, ◌&&◌, eqb, length}
use Rattle.octets.specs.Read.{first_eight}
use Rattle.session_configuration.specs.declared.Entered.{Entered}
use Rattle.session_answers.specs.declared.Answer.{Answer}
use Rattle.session_answers.specs.declared.Outcome.{Outcome}
use Rattle.session_answers.specs.Answers.{outcome_number}

-- what crosses as bytes and as numbers
pub record Flat : Type 0 where
  pub bytes : List ℕ
  pub numbers : List ℕ

abbrev pub as_flat : List ℕ → List ℕ → Flat
as_flat bytes numbers = record { bytes = bytes; numbers = numbers }

-- places for so many bytes and so many numbers, and no more; and what is written in them, if there are such
abbrev pub room_for : ℕ → ℕ → Flat → Bool
room_for bytes numbers flat = eqb (length flat.bytes) bytes && eqb (length flat.numbers) numbers

abbrev pub put : ℕ → ℕ → Flat → Flat → Flat
put bytes numbers given flat = cond (room_for bytes numbers flat) given flat

-- a flag is 0 or 1
abbrev pub bit : Bool → ℕ
bit flag = cond flag 1 0

-- how serial boot was entered: the number of the mode of its choice; and back, where any other number is read as the last
abbrev pub entered_number : Entered → ℕ
entered_number Entered.Directly = 2
entered_number Entered.FromInternal = 3
entered_number Entered.FromExternal = 4

abbrev pub entered_of : ℕ → Entered
entered_of number =
    cond (eqb number 2) Entered.Directly (cond (eqb number 3) Entered.FromInternal Entered.FromExternal)

-- the jump address and VLE of number 5
abbrev pub jump_numbers : Outcome → List ℕ
jump_numbers Outcome.Taken = 0 ∷ 0 ∷ []
jump_numbers Outcome.Ignored = 0 ∷ 0 ∷ []
jump_numbers (Outcome.Stops refusal) = 0 ∷ 0 ∷ []
jump_numbers (Outcome.Jumps jump) = jump.start.0 ∷ bit jump.vle ∷ []
jump_numbers (Outcome.Refused fault) = 0 ∷ 0 ∷ []

-- an answer crosses as the 8 bytes of its echo and as 5 numbers: its own, the identifier and the length of the echo, and the jump's two
abbrev pub answer_numbers : Answer → List ℕ
answer_numbers answer =
    (outcome_number answer.outcome ∷ answer.echo.identifier ∷ answer.echo.length ∷ []) ++ jump_numbers answer.outcome

abbrev pub echo_bytes : Answer → List ℕ
echo_bytes answer = first_eight answer.echo.bytes

abbrev pub answer_flat : Answer → Flat
answer_flat answer = as_flat (echo_bytes answer) (answer_numbers answer)

abbrev pub echo_width : ℕ
echo_width = 8

abbrev pub answer_width : ℕ
answer_width = 5

-- places for an answer; and an answer that is written: lists of other lengths are left as they are
abbrev pub answer_places : Flat → Bool
answer_places flat = room_for echo_width answer_width flat

unfoldable pub answer_put : Answer → Flat → Flat
answer_put answer flat = put echo_width answer_width (answer_flat answer) flat
