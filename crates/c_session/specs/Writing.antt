-- Sessions as bytes and numbers, in the order of include/boot_assist.h.
use Rattle.std.specs.Prelude.{ℕ, List, [], ◌∷◌, ◌++◌, Bool}
use Rattle.octets.specs.Read.{first_eight}
use Rattle.session_configuration.specs.declared.Configuration.{Configuration}
use Rattle.session_state.specs.declared.Port.{Port}
use Rattle.session_state.specs.declared.Session.{Session}
use Rattle.session_state.specs.declared.Stage.{Stage}
use Rattle.session_state.specs.Accepted.{accepted_vle}
use Rattle.session_answers.specs.Answers.{refusal_number}
use Rattle.c_answer.specs.Writing.{Flat, as_flat, room_for, put, bit, entered_number}

abbrev pub stage_number : Stage → ℕ
stage_number Stage.Waiting = 0
stage_number Stage.Password = 1
stage_number (Stage.Header port) = 2
stage_number (Stage.Data port load) = 3
stage_number (Stage.Stopped refusal) = 4
stage_number (Stage.Jumped jump) = 5

abbrev pub port_number : Port → ℕ
port_number Port.Can = 0
port_number Port.Serial = 1

-- the port of a stage: "the password stage is serial's alone"
abbrev pub port_in : Stage → ℕ
port_in Stage.Waiting = 0
port_in Stage.Password = port_number Port.Serial
port_in (Stage.Header port) = port_number port
port_in (Stage.Data port load) = port_number port
port_in (Stage.Stopped refusal) = 0
port_in (Stage.Jumped jump) = 0

-- start, VLE, next address and bytes owed of a load, start and VLE of a jump, and the number that stopped a session, with the VLE of the header that it
-- had accepted
abbrev pub load_numbers : Stage → List ℕ
load_numbers Stage.Waiting = 0 ∷ 0 ∷ 0 ∷ 0 ∷ 0 ∷ []
load_numbers Stage.Password = 0 ∷ 0 ∷ 0 ∷ 0 ∷ 0 ∷ []
load_numbers (Stage.Header port) = 0 ∷ 0 ∷ 0 ∷ 0 ∷ 0 ∷ []
load_numbers (Stage.Data port load) = load.start.0 ∷ bit load.vle ∷ load.next ∷ load.owed ∷ 0 ∷ []
load_numbers (Stage.Stopped refusal) = 0 ∷ bit (accepted_vle (Stage.Stopped refusal)) ∷ 0 ∷ 0 ∷ refusal_number refusal ∷ []
load_numbers (Stage.Jumped jump) = jump.start.0 ∷ bit jump.vle ∷ 0 ∷ 0 ∷ 0 ∷ []

-- what else a configuration has beside its password: how serial boot was entered
abbrev pub configuration_numbers : Configuration → List ℕ
configuration_numbers configuration = entered_number configuration.entered ∷ []

-- a session crosses as 16 bytes, those of the password selected and those held, and as 9 numbers
abbrev pub session_bytes : Session → List ℕ
session_bytes session = first_eight session.configuration.password ++ first_eight session.held

abbrev pub session_numbers : Session → List ℕ
session_numbers session =
    (stage_number session.stage ∷ port_in session.stage ∷ session.count ∷ [])
    ++ load_numbers session.stage
    ++ configuration_numbers session.configuration

abbrev pub session_flat : Session → Flat
session_flat session = as_flat (session_bytes session) (session_numbers session)

abbrev pub session_bytes_width : ℕ
session_bytes_width = 16

abbrev pub session_width : ℕ
session_width = 9

-- places for a session; and a session that is written: lists of other lengths are left as they are
abbrev pub session_places : Flat → Bool
session_places flat = room_for session_bytes_width session_width flat

unfoldable pub session_put : Session → Flat → Flat
session_put session flat = put session_bytes_width session_width (session_flat session) flat
