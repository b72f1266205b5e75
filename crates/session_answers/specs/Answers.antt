-- What the head says back (01, "What the head says back"; 02, E2).
use Rattle.std.specs.Prelude.{ℕ, List, Bool, cond, length, replicate, ⊤, Ok, Err, Result as OkOrErr}
use Rattle.buffers.specs.Write.{over}
use Rattle.sram.specs.Region.{right_size}
use Rattle.session_state.specs.declared.Port.{Port}
use Rattle.session_state.specs.declared.Refusal.{Refusal}
use Rattle.session_state.specs.declared.Session.{Session}
use Rattle.session_state.specs.Sound.{sound}
use Rattle.session_items.specs.declared.Role.{Role}
use Rattle.session_items.specs.Items.{Item, well_formed}
use Rattle.session_answers.specs.declared.Answer.{Answer}
use Rattle.session_answers.specs.declared.Echo.{Echo}
use Rattle.session_answers.specs.declared.Fault.{Fault}
use Rattle.session_answers.specs.declared.Outcome.{Outcome}
use Rattle.session_answers.specs.declared.StepResult.{StepResult}

-- "8th password byte in, check not passed"; "header complete, length 0"; "header complete, length not 0, not wholly in SRAM"; a faulty byte
-- behind the opening, "new number 12" (02, E2)
abbrev pub refusal_number : Refusal → ℕ
refusal_number Refusal.Password = 2
refusal_number Refusal.Length = 3
refusal_number Refusal.Range = 4
refusal_number (Refusal.FaultyByte vle) = 12

-- "identifier above 2,047 or count above 8"; "SRAM handed in is not 65,536 bytes"; "session not sound"
abbrev pub fault_number : Fault → ℕ
fault_number Fault.Form = 6
fault_number Fault.Size = 7
fault_number Fault.Unsound = 8

-- "item taken and none of 2 to 5 due"; "item ignored"; "last byte stored"
abbrev pub outcome_number : Outcome → ℕ
outcome_number Outcome.Taken = 0
outcome_number Outcome.Ignored = 1
outcome_number (Outcome.Stops refusal) = refusal_number refusal
outcome_number (Outcome.Jumps jump) = 5
outcome_number (Outcome.Refused fault) = fault_number fault

-- what comes before the session's rules: 7, then 8, then 6, where `formed` says that the item, or the list, is of the right form
unfoldable pub precheck : Session → List ℕ → Bool → OkOrErr ⊤ Fault
precheck session sram formed =
    cond (right_size session.configuration sram)
    (cond (sound session)
    (cond formed
    (Ok tt)
    (Err Fault.Form))
    (Err Fault.Unsound))
    (Err Fault.Size)

-- an echo of bytes under an identifier, which only CAN has
abbrev pub under_port : Port → ℕ → ℕ
under_port Port.Can identifier = identifier
under_port Port.Serial identifier = 0

abbrev pub echo_under : ℕ → List ℕ → Echo
echo_under identifier bytes =
    record { identifier = identifier; length = length bytes; bytes = over bytes (replicate 8 0) }

-- "A missing echo has length 0."
abbrev pub no_echo : Echo
no_echo = record { identifier = 0; length = 0; bytes = replicate 8 0 }

-- "CAN echoes the data under 0x001, 0x002, 0x003": the password, the header and the data
abbrev pub echo_identifier : Role → ℕ
echo_identifier Role.Password = 0x001
echo_identifier Role.Header = 0x002
echo_identifier (Role.Data load) = 0x003

abbrev pub echo_of : Role → Port → List ℕ → Echo
echo_of role port bytes = echo_under (under_port port (echo_identifier role)) bytes

-- the result of a step: its number and its answer, and the session and SRAM after it
pub record Result : Type 0 where
  pub number : ℕ
  pub answer : Answer
  pub session : Session
  pub sram : List ℕ

abbrev pub result_of : StepResult → List ℕ → Result
result_of result sram =
    record {
      number = outcome_number result.answer.outcome;
      answer = result.answer;
      session = result.session;
      sram = sram;
    }

-- "no echo" (number 1; with 12 in 02, E2), "number only" (numbers 6, 7 and 8)
abbrev pub without_echo : Outcome → Answer
without_echo outcome = record { outcome = outcome; echo = no_echo }

-- with the session that the step leaves
abbrev pub nothing_taken : Outcome → Session → StepResult
nothing_taken outcome session = record { answer = without_echo outcome; session = session }

-- "nothing changed" (numbers 1, 6, 7 and 8)
abbrev pub unchanged : Outcome → Session → List ℕ → Result
unchanged outcome session sram = result_of (nothing_taken outcome session) sram

-- "An item outside the stream gets 6 if that is due and otherwise 1": so does every item that does nothing to a session
abbrev pub unheeded : Item → Outcome
unheeded item = cond (well_formed item) Outcome.Ignored (Outcome.Refused Fault.Form)
