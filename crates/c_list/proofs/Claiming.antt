-- The claim of `c_list::list` follows from its equation.
use Rattle.std.specs.Prelude.{Ok, Err, ⊤, Result as OkOrErr}
use Prim.Native.Nat.{ℕ}
use native.Mathlib.Omega.{arith}
use mathlib.Core.Path.{◌≡◌, refl, sym, ap, ◌∙◌}
use mathlib.Core.List.{List}
use mathlib.Core.Bool.{Bool, true}
use borrow.Author.Tests.{ne_eqb}
use lib.ListN.{length}
use Rattle.session_state.specs.declared.Session.{Session}
use Rattle.session_answers.specs.declared.Fault.{Fault}
use Rattle.session_answers.specs.Answers.{precheck}
use Rattle.session_answers.proofs.Laws.{precheck_passed, fault_some}
use Rattle.session.specs.Running.{ran}
use Rattle.session_merging.proofs.Stream.{demand_three}
use Rattle.c_answer.specs.Writing.{Flat}
use Rattle.c_session.specs.Reading.{session_in}
use Rattle.c_session.proofs.Lengths.{password-eight}
use Rattle.c_items.specs.declared.Due.{Due}
use Rattle.c_items.specs.Calls.{Reply, as_reply, precheck_number, due_number, item_precheck}
use Rattle.c_list.specs.Calls.{items_of, list_fits, list_ran, list_reply, ListClaim}

-- nothing is due
pub passes : (session : Session) (sram : List ℕ) (formed : Bool) → item_precheck session sram formed true ≡ 0
    → precheck session sram formed ≡ Ok tt
unfolding item_precheck
passes session sram formed e = by (precheck session sram formed) e
  where
    by : (first : OkOrErr ⊤ Fault) → precheck_number first true ≡ 0 → first ≡ Ok tt
    by (Ok passed) e = refl
    by (Err fault) e = absurd (fault_some fault e)

-- no refused call has number 0
pub due_some : (due : Due) → due_number due ≡ 0 → ⊥
due_some (Due.Fault fault) e = fault_some fault e
due_some Due.Places e = omega arith

module _ (session : Flat) (sram kinds identifiers counts bytes : List ℕ) (answers : Flat) where
  -- a list for which something is due
  pub refused_list : (number : ℕ) → number ≡ item_precheck (session_in session) sram (list_fits kinds identifiers counts (length bytes) (length answers.bytes) (length answers.numbers)) true → (number ≡ 0 → ⊥)
      → ListClaim session sram kinds identifiers counts bytes answers (as_reply number session sram answers)
  unfolding list_reply
  refused_list number e some =
      record {
        equation = rw (← e, ne_eqb number 0 some);
        demand_3 = λ configuration fresh zero. absurd (some zero);
      }

  -- one that is run
  pub ran_list : (reply : Reply) → precheck (session_in session) sram (list_fits kinds identifiers counts (length bytes) (length answers.bytes) (length answers.numbers)) ≡ Ok tt
      → reply ≡ list_ran (ran (session_in session) sram (items_of kinds identifiers counts bytes))
      → ListClaim session sram kinds identifiers counts bytes answers reply
  unfolding list_reply item_precheck
  ran_list reply passed e =
      let items = items_of kinds identifiers counts bytes in
      let ok = (precheck_passed (session_in session) sram (list_fits kinds identifiers counts (length bytes) (length answers.bytes) (length answers.numbers)) passed).0 in
      record {
        equation = rw passed e;
        demand_3 = λ configuration fresh zero. record {
          is_run = e ∙ ap (λ (s : Session). list_ran (ran s sram items)) fresh;
          claim =
              demand_three configuration sram items (sym (ap (λ (s : Session). length s.configuration.password) fresh) ∙ password-eight session)
              (rw fresh at ok.fine) (rw fresh at ok.right);
        };
      }
