-- What an item does to a session and to SRAM (01, "A serial session" and "What the head says back"; 02, E2).
use Rattle.std.specs.Prelude.{ℕ, ◌+◌, ◌-◌, List, ◌++◌, cond, length, take, replicate, eqb, ⊤, Ok, Err, Result as OkOrErr}
use Rattle.buffers.specs.Write.{over}
use Rattle.password.specs.Passing.{passes}
use Rattle.sram.specs.Region.{stored}
use Rattle.session_state.specs.declared.Jump.{Jump}
use Rattle.session_state.specs.declared.Load.{Load}
use Rattle.session_state.specs.declared.Port.{Port}
use Rattle.session_state.specs.declared.Refusal.{Refusal}
use Rattle.session_state.specs.declared.Session.{Session}
use Rattle.session_state.specs.declared.Stage.{Stage}
use Rattle.session_state.specs.Accepted.{accepted_vle}
use Rattle.header.specs.declared.Header.{Header}
use Rattle.header.specs.Reading.{header_read, validated}
use Rattle.session_items.specs.declared.Reaction.{Reaction}
use Rattle.session_items.specs.declared.Role.{Role}
use Rattle.session_items.specs.Items.{Item, well_formed, bytes_of}
use Rattle.session_items.specs.Reacting.{reaction}
use Rattle.session_answers.specs.declared.Outcome.{Outcome}
use Rattle.session_answers.specs.declared.Fault.{Fault}
use Rattle.session_answers.specs.declared.StepResult.{StepResult}
use Rattle.session_answers.specs.Answers.{Result, result_of, precheck, echo_of, nothing_taken, unchanged}
use Rattle.session.specs.declared.Transition.{Transition}

-- What the bytes taken do. It is the same for both ports.

-- a stage entered with nothing held
abbrev pub enters : Session → Stage → Outcome → Transition
enters session stage outcome =
    record {
      outcome = outcome;
      session = record { configuration = session.configuration; stage = stage; held = replicate 8 0; count = 0 };
    }

abbrev pub stops : Session → Refusal → Transition
stops session refusal = enters session (Stage.Stopped refusal) (Outcome.Stops refusal)

-- the password or header bytes received so far: "clean bytes are password, then header"
abbrev pub received : Session → List ℕ → List ℕ
received session bytes = take session.count session.held ++ bytes

-- a stage that waits for the rest of 8 bytes, and holds those received ("serial holds 1 to 7 password or 0 to 7 header bytes")
abbrev pub holds : Session → Stage → List ℕ → Transition
holds session stage bytes =
    record {
      outcome = Outcome.Taken;
      session =
          record {
            configuration = session.configuration;
            stage = stage;
            held = over bytes session.held;
            count = length bytes;
          };
    }

-- the 8 password bytes: "It passes if legal and equal to the selected one."
unfoldable pub checked : Session → Port → List ℕ → Transition
checked session port bytes =
    cond (passes bytes session.configuration.password)
    (enters session (Stage.Header port) Outcome.Taken)
    (stops session Refusal.Password)

-- a load of which nothing is stored yet
abbrev pub load_from : Header → Load
load_from header =
    record { start = header.start; vle = header.vle; next = header.start.0; owed = header.length }

-- the 8 header bytes: "Length 0 stops the session; otherwise start and length must lie wholly in SRAM or the session stops."
abbrev pub begun : Session → Port → OkOrErr Header Refusal → Transition
begun session port (Err refusal) = stops session refusal
begun session port (Ok header) = enters session (Stage.Data port (load_from header)) Outcome.Taken

-- the bytes of a load: "each at the next address. With the last one the head jumps to the start address."
abbrev pub jump_of : Load → Jump
jump_of load = record { start = load.start; vle = load.vle }

abbrev pub advanced : Load → ℕ → Load
advanced load count =
    record { start = load.start; vle = load.vle; next = load.next + count; owed = load.owed - count }

unfoldable pub loaded : Session → Port → Load → List ℕ → Transition
loaded session port load bytes =
    cond (eqb (length bytes) load.owed)
    (enters session (Stage.Jumped (jump_of load)) (Outcome.Jumps (jump_of load)))
    (enters session (Stage.Data port (advanced load (length bytes))) Outcome.Taken)

-- password bytes, and header bytes, until there are 8
unfoldable pub password_received : Session → Port → List ℕ → Transition
password_received session port bytes =
    cond (eqb (length bytes) 8) (checked session port bytes) (holds session Stage.Password bytes)

unfoldable pub header_received : Session → Port → List ℕ → Transition
header_received session port bytes =
    cond (eqb (length bytes) 8)
    (begun session port (validated session.configuration (header_read session.configuration bytes)))
    (holds session (Stage.Header port) bytes)

-- by the role in which they are taken
unfoldable pub transition : Role → Session → Port → List ℕ → Transition
transition Role.Password session port bytes = password_received session port (received session bytes)
transition Role.Header session port bytes = header_received session port (received session bytes)
transition (Role.Data load) session port bytes = loaded session port load bytes

-- SRAM after it, by the role: "Data bytes are stored as they come, each at the next address." They go by the load alone, not by what else the
-- session holds.
unfoldable pub sram_after : Role → Session → List ℕ → List ℕ → List ℕ
sram_after Role.Password session sram bytes = sram
sram_after Role.Header session sram bytes = sram
sram_after (Role.Data load) session sram bytes = stored sram load.next bytes

-- "Every taken item is echoed, also the one that completes a wrong password or a refused header."
unfoldable pub taken_as : Role → Port → Session → List ℕ → List ℕ → Result
taken_as role port session sram bytes =
    let next : Transition = transition role session port bytes in
    result_of (record { answer = record { outcome = next.outcome; echo = echo_of role port bytes }; session = next.session })
    (sram_after role session sram bytes)

-- a faulty byte behind the opening "shall stop the session, no echo" (02, E2); a header that was accepted stays so
abbrev pub stopped_by_faulty_byte : Session → StepResult
stopped_by_faulty_byte session =
    let refusal : Refusal = Refusal.FaultyByte (accepted_vle session.stage) in
    nothing_taken (Outcome.Stops refusal) (stops session refusal).session

-- the session's rules: "Ignored items get no echo."
abbrev pub ruled : Reaction → Session → List ℕ → Item → Result
ruled Reaction.Ignores session sram item = unchanged Outcome.Ignored session sram
ruled (Reaction.Takes role port) session sram item = taken_as role port session sram (bytes_of item)
ruled Reaction.Stops session sram item = result_of (stopped_by_faulty_byte session) sram

-- "One item: 7, then 8, then 6, then the session's rules."
abbrev pub step_prechecked : OkOrErr ⊤ Fault → Session → List ℕ → Item → Result
step_prechecked (Ok passed) session sram item = ruled (reaction session.stage item) session sram item
step_prechecked (Err fault) session sram item = unchanged (Outcome.Refused fault) session sram

-- one step: an item is handed in
unfoldable pub step : Session → List ℕ → Item → Result
step session sram item = step_prechecked (precheck session sram (well_formed item)) session sram item
