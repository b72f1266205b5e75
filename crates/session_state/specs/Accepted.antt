-- The VLE bit of the header that a session has accepted (01, "MMU rows"; 02, E2).
use Rattle.std.specs.Prelude.{Bool, false}
use Rattle.session_state.specs.declared.Refusal.{Refusal}
use Rattle.session_state.specs.declared.Stage.{Stage}

-- It is that of its load, begun, done, or ended by a faulty byte: a stop does not undo what was accepted. "where no header was accepted it is
-- clear"
abbrev pub accepted_vle : Stage → Bool
accepted_vle Stage.Waiting = false
accepted_vle Stage.Password = false
accepted_vle (Stage.Header port) = false
accepted_vle (Stage.Data port load) = load.vle
accepted_vle (Stage.Stopped Refusal.Password) = false
accepted_vle (Stage.Stopped Refusal.Length) = false
accepted_vle (Stage.Stopped Refusal.Range) = false
accepted_vle (Stage.Stopped (Refusal.FaultyByte vle)) = vle
accepted_vle (Stage.Jumped jump) = jump.vle
