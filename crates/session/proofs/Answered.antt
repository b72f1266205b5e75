-- A step that is refused changes nothing, one that is not refused is answered by the rules, and after either neither 7 nor 8 is due if neither was.
use Rattle.std.specs.Prelude.{Result, Ok, Err, ⊤}
use Prim.Native.Nat.{ℕ}
use mathlib.Core.Path.{◌≡◌, refl}
use mathlib.Core.List.{List}
use mathlib.Core.Bool.{Bool, true, false, cond}
use lib.Dec.{eqb}
use lib.ListN.{length}
use Rattle.password.specs.Passing.{passes}
use Rattle.session_state.specs.declared.Port.{Port}
use Rattle.session_state.specs.declared.Refusal.{Refusal}
use Rattle.session_state.specs.declared.Session.{Session}
use Rattle.session_items.specs.declared.Reaction.{Reaction}
use Rattle.session_items.specs.declared.Role.{Role}
use Rattle.session_items.specs.Items.{Item, well_formed, bytes_of}
use Rattle.session_items.specs.Reacting.{reaction}
use Rattle.session_answers.specs.declared.Fault.{Fault}
use Rattle.session_answers.specs.declared.Outcome.{Outcome}
use Rattle.session_answers.specs.Answers.{outcome_number, precheck, unchanged}
use Rattle.session_answers.proofs.Laws.{Accepted}
use Rattle.header.specs.declared.Header.{Header}
use Rattle.header.specs.Reading.{header_read, validated}
use Rattle.session.specs.declared.Transition.{Transition}
use Rattle.session.specs.Rules.{received, checked, begun, loaded, password_received, header_received, transition, taken_as, ruled, step_prechecked, step}
use Rattle.session.proofs.Laws.{reacted, step_takes, step_stops, step_ignores, kept, kept-stopped}

-- an outcome that is no refusal
abbrev pub IsAnswer : Outcome → Type 0
IsAnswer Outcome.Taken = Unit {0}
IsAnswer Outcome.Ignored = Unit {0}
IsAnswer (Outcome.Stops refusal) = Unit {0}
IsAnswer (Outcome.Jumps jump) = Unit {0}
IsAnswer (Outcome.Refused fault) = ⊥

-- of two transitions
either : (a b : Transition) (test : Bool) → IsAnswer a.outcome → IsAnswer b.outcome → IsAnswer (cond test a b).outcome
either a b true h k = h
either a b false h k = k

begun_answers : (session : Session) (port : Port) (v : Result Header Refusal) → IsAnswer (begun session port v).outcome
begun_answers session port (Err refusal) = tt
begun_answers session port (Ok header) = tt

transition_answers : (role : Role) (session : Session) (port : Port) (bytes : List ℕ) → IsAnswer (transition role session port bytes).outcome
unfolding transition password_received checked header_received loaded
transition_answers Role.Password session port bytes =
    either _ _ (eqb (length (received session bytes)) 8)
    (either _ _ (passes (received session bytes) session.configuration.password) tt tt) tt
transition_answers Role.Header session port bytes =
    either _ _ (eqb (length (received session bytes)) 8)
    (begun_answers session port (validated session.configuration (header_read session.configuration (received session bytes)))) tt
transition_answers (Role.Data load) session port bytes = either _ _ (eqb (length bytes) load.owed) tt tt

module _ (session : Session) (sram : List ℕ) (item : Item) where
  ruled_answers : (r : Reaction) → IsAnswer (ruled r session sram item).answer.outcome
  unfolding taken_as
  ruled_answers Reaction.Ignores = tt
  ruled_answers (Reaction.Takes role port) = transition_answers role session port (bytes_of item)
  ruled_answers Reaction.Stops = tt

  pub answered : precheck session sram (well_formed item) ≡ Ok tt → IsAnswer (step session sram item).answer.outcome
  unfolding step
  answered e = rw e (ruled_answers (reaction session.stage item))

  pub refused : (fault : Fault) → precheck session sram (well_formed item) ≡ Err fault
      → step session sram item ≡ unchanged (Outcome.Refused fault) session sram
  unfolding step
  refused fault e = rw e

  -- the number of a step is its outcome's
  pub step-number : (step session sram item).number ≡ outcome_number (step session sram item).answer.outcome
  unfolding step taken_as
  step-number = by (precheck session sram (well_formed item)) (reaction session.stage item) refl
    where
      by : (first : Result ⊤ Fault) (r : Reaction) → reaction session.stage item ≡ r
          → (step_prechecked first session sram item).number ≡ outcome_number (step_prechecked first session sram item).answer.outcome
      by (Err fault) r e = refl
      by (Ok passed) Reaction.Ignores e = rw e
      by (Ok passed) (Reaction.Takes role port) e = rw e
      by (Ok passed) Reaction.Stops e = rw e

  pub accepted : Accepted session sram → Accepted (step session sram item).session (step session sram item).sram
  unfolding taken_as
  accepted ok = by (reaction session.stage item) refl
    where
      by : (r : Reaction) → reaction session.stage item ≡ r → Accepted (step session sram item).session (step session sram item).sram
      by Reaction.Ignores e = rw (step_ignores session sram item ok e) ok
      by (Reaction.Takes role port) e =
          rw (step_takes session sram item ok role port e)
          (kept session sram item role port (reacted session item ok.fine (Reaction.Takes role port) e) ok)
      by Reaction.Stops e = rw (step_stops session sram item ok e) (kept-stopped session sram ok)
