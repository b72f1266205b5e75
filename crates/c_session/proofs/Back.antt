-- What a session is written as reads as the session again.
use Prim.Native.Nat.{ℕ}
use native.Mathlib.Nat.{mod-eq_of_lt}
use mathlib.Core.Path.{◌≡◌, refl, ap, ◌∙◌}
use mathlib.Core.List.{List}
use mathlib.Core.Bool.{Bool, true, false}
use lib.Dec.{eqb}
use lib.ListN.{length}
use mir.Syntax.{w8}
use mir.Val.{Fits}
use Rattle.octets.specs.Same.{same}
use Rattle.octets.proofs.Comparing.{same_own}
use Rattle.buffers.proofs.Eight.{eight-whole}
use Rattle.session_configuration.specs.declared.Configuration.{Configuration}
use Rattle.session_state.specs.declared.Port.{Port}
use Rattle.session_state.specs.declared.Refusal.{Refusal}
use Rattle.session_state.specs.declared.Session.{Session}
use Rattle.session_state.specs.declared.Stage.{Stage}
use Rattle.c_answer.specs.Writing.{bit, entered_number, entered_of}
use Rattle.c_answer.proofs.Whole.{entered_back}
use Rattle.c_session.specs.Writing.{session_numbers, session_flat}
use Rattle.c_session.specs.Reading.{number_at, port_read, refusal_read, stage_read, session_read, encodes, session_in}
use Rattle.c_session.proofs.Lengths.{session-length}

flag_back : (flag : Bool) → eqb (bit flag) 1 ≡ flag
flag_back true = refl
flag_back false = refl

-- the numbers of a session at a stage
abbrev numbers_at : Configuration → List ℕ → ℕ → Stage → List ℕ
numbers_at configuration held count stage =
    session_numbers record { configuration = configuration; stage = stage; held = held; count = count }

stage_back
    : (configuration : Configuration) (held : List ℕ) (count : ℕ) (stage : Stage) → stage_read (numbers_at configuration held count stage) ≡ stage
unfolding stage_read port_read refusal_read
stage_back configuration held count Stage.Waiting = refl
stage_back configuration held count Stage.Password = refl
stage_back configuration held count (Stage.Header Port.Can) = refl
stage_back configuration held count (Stage.Header Port.Serial) = refl
stage_back configuration held count (Stage.Data Port.Can load) = rw (flag_back load.vle)
stage_back configuration held count (Stage.Data Port.Serial load) = rw (flag_back load.vle)
stage_back configuration held count (Stage.Stopped Refusal.Password) = refl
stage_back configuration held count (Stage.Stopped Refusal.Length) = refl
stage_back configuration held count (Stage.Stopped Refusal.Range) = refl
stage_back configuration held count (Stage.Stopped (Refusal.FaultyByte vle)) = rw (flag_back vle)
stage_back configuration held count (Stage.Jumped jump) = rw (flag_back jump.vle)

-- what a session's memory holds
pub record Stored (s : Session) : Type 0 where
  pub password-eight : length s.configuration.password ≡ 8
  pub held_eight : length s.held ≡ 8
  pub count_byte : Fits w8 s.count

-- the number behind a stage's own
entered_at : (s : Session) (stage : Stage)
    → number_at (numbers_at s.configuration s.held s.count stage) 8 ≡ entered_number s.configuration.entered
entered_at s Stage.Waiting = refl
entered_at s Stage.Password = refl
entered_at s (Stage.Header port) = refl
entered_at s (Stage.Data port load) = refl
entered_at s (Stage.Stopped refusal) = refl
entered_at s (Stage.Jumped jump) = refl

session_back : (s : Session) → Stored s → session_read (session_flat s) ≡ s
session_back s m =
    λ i. record {
      configuration = record {
        password = eight-whole s.configuration.password m.password-eight i;
        entered = (ap entered_of (entered_at s s.stage) ∙ entered_back s.configuration.entered) i;
      };
      stage = stage_back s.configuration s.held s.count s.stage i;
      held = eight-whole s.held m.held_eight i;
      count = mod-eq_of_lt m.count_byte.fits i;
    }

-- what a session is written as is read as that session
pub reads_back : (s : Session) → Stored s → session_in (session_flat s) ≡ s
unfolding session_in encodes
reads_back s m =
    let back = session_back s m in
    let own : same (session_numbers (session_read (session_flat s))) (session_numbers s) ≡ true =
    ap (λ (t : Session). same (session_numbers t) (session_numbers s)) back ∙ same_own (session_numbers s) in
    rw (session-length s, own) back
