-- "A session is sound if its counts fit its stage" (01, "What the head says back").
use Rattle.std.specs.Prelude.{ℕ, Bool, ◌&&◌, leb, eqb}
use Rattle.session_configuration.specs.declared.Configuration.{Configuration}
use Rattle.sram.specs.Region.{in_range, aligned}
use Rattle.session_state.specs.declared.Load.{Load}
use Rattle.session_state.specs.declared.Port.{Port}
use Rattle.session_state.specs.declared.Session.{Session}
use Rattle.session_state.specs.declared.Stage.{Stage}

-- "in the data stage at least one byte owed, with the bytes still owed lying in SRAM from the next address, and the start a multiple of 4
-- in SRAM, not beyond that address"
abbrev pub load_fits : Configuration → Load → Bool
load_fits configuration load =
    leb 1 load.owed
    && in_range configuration load.next load.owed
    && aligned configuration load.start.0
    && leb load.start.0 load.next

-- "the password stage is serial's alone" (the stage has no port), "serial holds 1 to 7 password or 0 to 7 header bytes, CAN and every other
-- stage hold no password or header bytes"
abbrev pub count_fits : Configuration → Stage → ℕ → Bool
count_fits configuration Stage.Waiting count = eqb count 0
count_fits configuration Stage.Password count = leb 1 count && leb count 7
count_fits configuration (Stage.Header Port.Can) count = eqb count 0
count_fits configuration (Stage.Header Port.Serial) count = leb count 7
count_fits configuration (Stage.Data port load) count = eqb count 0 && load_fits configuration load
count_fits configuration (Stage.Stopped refusal) count = eqb count 0
count_fits configuration (Stage.Jumped jump) count = eqb count 0

abbrev pub fitting : Session → Bool
fitting session = count_fits session.configuration session.stage session.count

-- 01's sentence asks nothing of a configuration
unfoldable pub sound : Session → Bool
sound session = fitting session
