-- Where a session comes from: a serial choice (01, "The words of demand 3"), or a reset in a capture.
use Rattle.std.specs.Prelude.{ℕ, List, Option, Some, None, replicate}
use Rattle.boot_table.specs.Table.{public_password}
use Rattle.session_configuration.specs.declared.Configuration.{Configuration}
use Rattle.session_configuration.specs.declared.Entered.{Entered}
use Rattle.boot.specs.declared.Mode.{Mode}
use Rattle.session_state.specs.declared.Session.{Session}
use Rattle.session_state.specs.declared.Stage.{Stage}

-- "A session is fresh when a serial choice has just given it: Waiting, with the password selected there."
abbrev pub fresh_session : Configuration → Session
fresh_session configuration =
    record { configuration = configuration; stage = Stage.Waiting; held = replicate 8 0; count = 0 }

abbrev pub configured : List ℕ → Entered → Configuration
configured password entered = record { password = password; entered = entered }

-- serial boot asked for by BOOTCFG
abbrev pub asked_for : List ℕ → Configuration
asked_for password = configured password Entered.Directly

-- the session that a reset gives, and with which a capture begins: that of serial boot asked for by BOOTCFG, with "the public password"
abbrev pub reset_session : Session
reset_session = fresh_session (asked_for public_password)

-- another choice gives no session
abbrev pub no_session : Option Session
no_session = None

-- the session that a choice gives, by how the head boots and the password selected: "A reset is a new boot choice"
abbrev pub fresh_in : Mode → List ℕ → Option Session
fresh_in Mode.Internal password = no_session
fresh_in Mode.External password = no_session
fresh_in (Mode.Serial entered) password = Some (fresh_session (configured password entered))
