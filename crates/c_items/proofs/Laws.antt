-- What the calls for an item claim, where there are no places for an answer, where the item is refused and where it is answered.
use Rattle.std.specs.Prelude.{Ok, Err, ⊤, Result as OkOrErr}
use Prim.Native.Nat.{ℕ}
use native.Mathlib.Omega.{arith}
use mathlib.Core.Path.{◌≡◌, refl, sym, ap, ◌∙◌}
use mathlib.Core.List.{List}
use mathlib.Core.Bool.{Bool, true, false, true≢false}
use borrow.Author.Tests.{ne_eqb}
use Rattle.session_state.specs.declared.Session.{Session}
use Rattle.session_items.specs.Items.{Item, well_formed}
use Rattle.session_answers.specs.declared.Fault.{Fault}
use Rattle.session_answers.specs.declared.Outcome.{Outcome}
use Rattle.session_answers.specs.declared.StepResult.{StepResult}
use Rattle.session_answers.specs.Answers.{Result, result_of, fault_number, outcome_number, precheck}
use Rattle.session_answers.proofs.Laws.{precheck_passed, fault_some}
use Rattle.session.specs.Rules.{step}
use Rattle.session.proofs.Answered.{IsAnswer, answered, refused}
use Rattle.c_answer.specs.Writing.{Flat, as_flat, answer_places, answer_put}
use Rattle.c_session.specs.Writing.{session_flat, session_put}
use Rattle.c_session.specs.Reading.{session_in, Written}
use Rattle.c_session.proofs.Lengths.{sound_written}
use Rattle.c_items.specs.Calls.{as_reply, precheck_number, item_precheck, leaves, item_reply, ItemClaim}

-- an outcome of the arm that is not for refusals
pub not_refused : (outcome : Outcome) → ((fault : Fault) → outcome ≡ Outcome.Refused fault → ⊥) → IsAnswer outcome
not_refused Outcome.Taken k = tt
not_refused Outcome.Ignored k = tt
not_refused (Outcome.Stops refusal) k = tt
not_refused (Outcome.Jumps jump) k = tt
not_refused (Outcome.Refused fault) k = absurd (k fault refl)

-- without places for an answer something is due
some_due : (session : Session) (sram : List ℕ) (formed : Bool) → item_precheck session sram formed false ≡ 0 → ⊥
unfolding item_precheck
some_due session sram formed e = by (precheck session sram formed) e
  where
    by : (first : OkOrErr ⊤ Fault) → precheck_number first false ≡ 0 → ⊥
    by (Ok passed) e = omega arith
    by (Err fault) e = fault_some fault e

module _ (bytes numbers sram : List ℕ) (item : Item) (answer : Flat) where
  pub unplaced : (number : ℕ) → answer_places answer ≡ false
      → number ≡ item_precheck (session_in (as_flat bytes numbers)) sram (well_formed item) false
      → ItemClaim (as_flat bytes numbers) sram item answer (as_reply number (as_flat bytes numbers) sram answer)
  unfolding item_reply
  unplaced number none e =
      let some = ne_eqb (item_precheck (session_in (as_flat bytes numbers)) sram (well_formed item) false) 0 (some_due (session_in (as_flat bytes numbers)) sram (well_formed item)) in
      record {
        equation = rw (none, some, e);
        reads_back = λ there. absurd (true≢false (sym there ∙ none));
      }

  -- the item's step, and what is written of it
  module _ (result : StepResult) (after : List ℕ) (there : answer_places answer ≡ true) (e : result_of result after ≡ step (session_in (as_flat bytes numbers)) sram item) where
    same_outcome : result.answer.outcome ≡ (step (session_in (as_flat bytes numbers)) sram item).answer.outcome
    same_outcome = ap (λ (r : Result). r.answer.outcome) e

    pub refused-claim : (fault : Fault) → result.answer.outcome ≡ Outcome.Refused fault
        → ItemClaim (as_flat bytes numbers) sram item answer (as_reply (outcome_number result.answer.outcome) (as_flat bytes numbers) after answer)
    unfolding item_reply item_precheck
    refused-claim fault is = by (precheck (session_in (as_flat bytes numbers)) sram (well_formed item)) refl
      where
        by : (first : OkOrErr ⊤ Fault) → precheck (session_in (as_flat bytes numbers)) sram (well_formed item) ≡ first
            → ItemClaim (as_flat bytes numbers) sram item answer (as_reply (outcome_number result.answer.outcome) (as_flat bytes numbers) after answer)
        by (Ok passed) f =
            absurd (rw (← same_outcome, is) at (answered (session_in (as_flat bytes numbers)) sram item f))
        by (Err due) f =
            let next = e ∙ refused (session_in (as_flat bytes numbers)) sram item due f in
            record {
              equation =
                  rw (f, ne_eqb (fault_number due) 0 (fault_some due))
                  (ap (λ (r : Result). as_reply r.number (as_flat bytes numbers) r.sram answer) next);
              reads_back = λ placed. sym (ap (λ (r : Result). r.session) (refused (session_in (as_flat bytes numbers)) sram item due f));
            }

    pub answered-claim : (session written : Flat) → IsAnswer result.answer.outcome
        → Written result.session (as_flat bytes numbers) session
        → written ≡ answer_put result.answer answer
        → ItemClaim (as_flat bytes numbers) sram item answer (as_reply (outcome_number result.answer.outcome) session after written)
    unfolding item_reply item_precheck session_put answer_put
    answered-claim session written is put said = by (precheck (session_in (as_flat bytes numbers)) sram (well_formed item)) refl
      where
        by : (first : OkOrErr ⊤ Fault) → precheck (session_in (as_flat bytes numbers)) sram (well_formed item) ≡ first
            → ItemClaim (as_flat bytes numbers) sram item answer (as_reply (outcome_number result.answer.outcome) session after written)
        by (Ok passed) f =
            let ok = (precheck_passed (session_in (as_flat bytes numbers)) sram (well_formed item) f).0 in
            let placed = (sound_written bytes numbers ok.fine).placed in
            let left : session ≡ session_flat result.session = put.equation ∙ rw placed in
            record {
              equation = rw (f, there, left, said, there) (ap leaves e);
              reads_back = λ placed. rw left (put.reads_back ∙ ap (λ (r : Result). r.session) e);
            }
        by (Err due) f =
            absurd (rw (same_outcome, refused (session_in (as_flat bytes numbers)) sram item due f) at is)
