-- The rows of 01's table "What the head says back" for one item, with the one that 02, E2 adds, each by its own words, and the claim that the
-- rules give them. With the rules they share which items are taken, and in which role (`session_items: Reacting.reaction`), the bytes received, when a session
-- is sound, and what a password or a header is.
use Rattle.std.specs.Prelude.{ℕ, ◌-◌, ◌≡◌, List, Bool, true, false, cond, not, ◌&&◌, ◌||◌, eqb, length, replicate}
use Rattle.password.specs.Passing.{passes}
use Rattle.sram.specs.Region.{right_size}
use Rattle.session_state.specs.declared.Load.{Load}
use Rattle.session_state.specs.declared.Port.{Port}
use Rattle.session_state.specs.declared.Refusal.{Refusal}
use Rattle.session_state.specs.declared.Session.{Session}
use Rattle.session_state.specs.declared.Stage.{Stage}
use Rattle.session_state.specs.Sound.{sound}
use Rattle.header.specs.Reading.{header_read, announces_none, within}
use Rattle.session_items.specs.declared.Reaction.{Reaction}
use Rattle.session_items.specs.declared.Role.{Role}
use Rattle.session_items.specs.declared.Source.{Source}
use Rattle.session_items.specs.Items.{Item, well_formed, bytes_of}
use Rattle.session_items.specs.Reacting.{reaction}
use Rattle.session_answers.specs.declared.Outcome.{Outcome}
use Rattle.session_answers.specs.Answers.{echo_under, no_echo, unchanged}
use Rattle.session.specs.Rules.{received, step}

-- 2: "8th password byte in, check not passed"
abbrev pub wrong_password : Session → List ℕ → Bool
wrong_password session all = eqb (length all) 8 && not (passes all session.configuration.password)

-- 3: "header complete, length 0"
abbrev pub length_zero : Session → List ℕ → Bool
length_zero session all = eqb (length all) 8 && announces_none (header_read session.configuration all)

-- 4: "header complete, length not 0, not wholly in SRAM"
abbrev pub not_in_sram : Session → List ℕ → Bool
not_in_sram session all =
    eqb (length all) 8
    && not (announces_none (header_read session.configuration all))
    && not (within session.configuration (header_read session.configuration all))

-- 5: "last byte stored"
abbrev pub last_stored : Load → List ℕ → Bool
last_stored load bytes = eqb (length bytes) load.owed

-- "item taken and none of 2 to 5 due": 0
abbrev pub taken_number : Role → Session → List ℕ → ℕ
taken_number Role.Password session bytes = cond (wrong_password session (received session bytes)) 2 0
taken_number Role.Header session bytes =
    cond (length_zero session (received session bytes)) 3 (cond (not_in_sram session (received session bytes)) 4 0)
taken_number (Role.Data load) session bytes = cond (last_stored load bytes) 5 0

-- 12: "A faulty serial byte after the serial port has opened"; "a session already stopped or jumped still ignores it" (02, E2)
abbrev pub serial_going : Stage → Bool
serial_going Stage.Waiting = false
serial_going Stage.Password = true
serial_going (Stage.Header Port.Can) = false
serial_going (Stage.Header Port.Serial) = true
serial_going (Stage.Data Port.Can load) = false
serial_going (Stage.Data Port.Serial load) = true
serial_going (Stage.Stopped refusal) = false
serial_going (Stage.Jumped jump) = false

-- by serial what is of the right form and not taken is faulty; any other item that is not taken, "item ignored": 1
abbrev pub by_serial : Item → Bool
by_serial (Item.Of (Source.Can identifier) bytes) = false
by_serial (Item.Of (Source.Serial mark) bytes) = true

abbrev pub untaken_number : Stage → Item → ℕ
untaken_number stage item = cond (serial_going stage && by_serial item) 12 1

abbrev pub ruled_number : Reaction → Session → Item → ℕ
ruled_number (Reaction.Takes role port) session item = taken_number role session (bytes_of item)
ruled_number Reaction.Ignores session item = untaken_number session.stage item
ruled_number Reaction.Stops session item = untaken_number session.stage item

-- "One item: 7, then 8, then 6, then the session's rules."
abbrev pub number_due : Session → List ℕ → Item → ℕ
number_due session sram item =
    cond (right_size session.configuration sram)
    (cond (sound session)
    (cond (well_formed item)
    (ruled_number (reaction session.stage item) session item)
    6)
    8)
    7

-- the numbers whose rows say "nothing changed"
abbrev pub changes_nothing : ℕ → Bool
changes_nothing number = eqb number 1 || eqb number 6 || eqb number 7 || eqb number 8

-- and those whose rows say "echo"
abbrev pub sends_echo : ℕ → Bool
sends_echo number = eqb number 0 || eqb number 2 || eqb number 3 || eqb number 4 || eqb number 5

-- the identifier of an echo: "under 0x001, 0x002, 0x003", which is the frame's own less 0x010; serial has none
abbrev pub echoed_under : Item → ℕ
echoed_under (Item.Of (Source.Can identifier) bytes) = identifier - 0x010
echoed_under (Item.Of (Source.Serial mark) bytes) = 0

-- the stage after an answer: 2 to 4 "session stopped", and so 12; 5 where the head jumps; of the others no row names a stage
abbrev pub stage_after : Outcome → Stage → Stage
stage_after Outcome.Taken stage = stage
stage_after Outcome.Ignored stage = stage
stage_after (Outcome.Stops refusal) stage = Stage.Stopped refusal
stage_after (Outcome.Jumps jump) stage = Stage.Jumped jump
stage_after (Outcome.Refused fault) stage = stage

-- the session that 12 leaves: stopped, with nothing held, and of the header that was accepted its VLE bit
abbrev pub header_vle : Stage → Bool
header_vle Stage.Waiting = false
header_vle Stage.Password = false
header_vle (Stage.Header port) = false
header_vle (Stage.Data port load) = load.vle
header_vle (Stage.Stopped refusal) = false
header_vle (Stage.Jumped jump) = false

abbrev pub ended_session : Session → Session
ended_session session =
    record {
      configuration = session.configuration;
      stage = Stage.Stopped (Refusal.FaultyByte (header_vle session.stage));
      held = replicate 8 0;
      count = 0;
    }

-- "Each is given exactly in its row's case. Only 0 and 5 may change SRAM.", and of what the rows return and leave: what changes nothing, the
-- echoes, the jump, the stages of 2 to 5 and 12, and the session of 12; what the boot choice fixed no item changes
pub record RowsHold : Type 0 where
  pub exactly : (session : Session) (sram : List ℕ) (item : Item)
      → (step session sram item).number ≡ number_due session sram item
  pub only_0_and_5 : (session : Session) (sram : List ℕ) (item : Item)
      → (number_due session sram item ≡ 0 → ⊥) → (number_due session sram item ≡ 5 → ⊥) → (step session sram item).sram ≡ sram
  -- "no echo; nothing changed", "number only; nothing changed"
  pub unmoved : (session : Session) (sram : List ℕ) (item : Item) → changes_nothing (number_due session sram item) ≡ true
      → step session sram item ≡ unchanged (step session sram item).answer.outcome session sram
  pub echoed : (session : Session) (sram : List ℕ) (item : Item) → sends_echo (number_due session sram item) ≡ true
      → (step session sram item).answer.echo ≡ echo_under (echoed_under item) (bytes_of item)
  pub silent : (session : Session) (sram : List ℕ) (item : Item) → sends_echo (number_due session sram item) ≡ false
      → (step session sram item).answer.echo ≡ no_echo
  -- 5: "jump address, VLE", which are the load's
  pub jumps : (session : Session) (sram : List ℕ) (item : Item) (port : Port) (load : Load)
      → session.stage ≡ Stage.Data port load
      → number_due session sram item ≡ 5
      → (step session sram item).answer.outcome ≡ Outcome.Jumps (record { start = load.start; vle = load.vle })
  pub leaves : (session : Session) (sram : List ℕ) (item : Item)
      → stage_after (step session sram item).answer.outcome (step session sram item).session.stage
      ≡ (step session sram item).session.stage
  pub configured : (session : Session) (sram : List ℕ) (item : Item)
      → (step session sram item).session.configuration ≡ session.configuration
  pub ended : (session : Session) (sram : List ℕ) (item : Item) → number_due session sram item ≡ 12
      → (step session sram item).session ≡ ended_session session
