-- An item of a list whose session and SRAM are accepted: it is refused for its form, or answered; and its answer in its places.
use Rattle.std.specs.Prelude.{Ok, Err}
use Prim.Native.Nat.{ℕ, ◌+◌, ◌*◌, ◌-◌, ◌≤◌}
use native.Mathlib.Omega.{arith}
use mathlib.Core.Path.{◌≡◌, refl, sym, ap, ◌∙◌}
use mathlib.Core.List.{List, append_assoc}
use mathlib.Core.Bool.{Bool, true, false}
use borrow.Author.Tests.{eq-eqb}
use borrow.Rule.Slice.PartMut.{mid_of, put_mid, mid_len}
use lib.Seq.{drop-drop}
use lib.ListN.{length}
use Rattle.buffers.specs.Write.{over_from}
use Rattle.session_state.specs.declared.Refusal.{Refusal}
use Rattle.session_items.specs.Items.{Item, well_formed}
use Rattle.session_answers.specs.declared.Answer.{Answer}
use Rattle.session_answers.specs.declared.Fault.{Fault}
use Rattle.session_answers.specs.declared.Outcome.{Outcome}
use Rattle.session_answers.specs.Answers.{outcome_number, precheck, unchanged}
use Rattle.session_answers.proofs.Laws.{precheck_passed}
use Rattle.session.specs.Rules.{step}
use Rattle.session.proofs.Answered.{IsAnswer, answered, refused, step-number}
use Rattle.c_answer.specs.Writing.{Flat, as_flat, echo_width, answer_width, echo_bytes, answer_numbers, answer_flat, answer_places, answer_put}
use Rattle.c_answer.proofs.Whole.{answer-length}
use Rattle.c_session.specs.Reading.{session_in}
use Rattle.c_items.specs.Calls.{Reply, as_reply, item_precheck, leaves, item_reply, ItemClaim}
use Rattle.c_list.specs.Calls.{answer_at}

-- an answer that has its places is written
pub put_there : (given : Answer) (flat : Flat) → answer_places flat ≡ true → answer_put given flat ≡ answer_flat given
unfolding answer_put
put_there given flat there = rw there

-- the places of answer i, lent and given back
abbrev pub echo_part : ℕ → List ℕ → List ℕ
echo_part i echoes = mid_of (echo_width * i) (echo_width * i + echo_width - echo_width * i) echoes

abbrev pub answer_part : ℕ → List ℕ → List ℕ
answer_part i answers = mid_of (answer_width * i) (answer_width * i + answer_width - answer_width * i) answers

abbrev pub put_parts : ℕ → List ℕ → List ℕ → Flat → Flat
put_parts i echoes answers part =
    as_flat (put_mid (echo_width * i) (echo_width * i + echo_width - echo_width * i) echoes part.bytes)
    (put_mid (answer_width * i) (answer_width * i + answer_width - answer_width * i) answers part.numbers)

part-over : (at width : ℕ) (row rows : List ℕ) → length row ≡ width → put_mid at (at + width - at) rows row ≡ over_from at row rows
part-over at width row rows e =
    let same : at + width - at ≡ width = omega arith in
    rw (same, drop-drop width at rows, e, append_assoc)

module _ (i : ℕ) (echoes answers : List ℕ) (e : echo_width * i + echo_width ≤ length echoes) (a : answer_width * i + answer_width ≤ length answers) where
  pub parts_placed : answer_places (as_flat (echo_part i echoes) (answer_part i answers)) ≡ true
  parts_placed =
      let many = mid_len (echo_width * i) (echo_width * i + echo_width) echoes e in
      let many-2 = mid_len (answer_width * i) (answer_width * i + answer_width) answers a in
      rw (eq-eqb (length (echo_part i echoes)) echo_width (many ∙ omega arith), eq-eqb (length (answer_part i answers)) answer_width (many-2 ∙ omega arith))

  -- an answer that was put there
  pub parts_answered : (answer : Answer) → put_parts i echoes answers (answer_flat answer) ≡ answer_at i answer (as_flat echoes answers)
  parts_answered answer =
      λ k. as_flat (part-over (echo_width * i) echo_width (echo_bytes answer) echoes refl k)
      (part-over (answer_width * i) answer_width (answer_numbers answer) answers (answer-length answer) k)

-- an answer of the rules is not 6
not_six : (outcome : Outcome) → IsAnswer outcome → outcome_number outcome ≡ 6 → ⊥
not_six Outcome.Taken is e = omega arith
not_six Outcome.Ignored is e = omega arith
not_six (Outcome.Stops Refusal.Password) is e = omega arith
not_six (Outcome.Stops Refusal.Length) is e = omega arith
not_six (Outcome.Stops Refusal.Range) is e = omega arith
not_six (Outcome.Stops (Refusal.FaultyByte vle)) is e = omega arith
not_six (Outcome.Jumps jump) is e = omega arith
not_six (Outcome.Refused fault) is e = absurd is

-- what 6 says, and what another number does
pub record Six (session : Flat) (sram : List ℕ) (item : Item) (answer : Flat) (reply : Reply) : Type 0 where
  pub reply_is : reply ≡ as_reply 6 session sram answer
  pub step_is : step (session_in session) sram item ≡ unchanged (Outcome.Refused Fault.Form) (session_in session) sram

module _ (session : Flat) (sram : List ℕ) (item : Item) (answer : Flat) (reply : Reply) (claim : ItemClaim session sram item answer reply)
    (there : answer_places answer ≡ true) (passed : precheck (session_in session) sram true ≡ Ok tt) where
  formed : well_formed item ≡ true → precheck (session_in session) sram (well_formed item) ≡ Ok tt
  formed w = rw w passed

  unformed : well_formed item ≡ false → precheck (session_in session) sram (well_formed item) ≡ Err Fault.Form
  unfolding precheck
  unformed w = let ok = (precheck_passed (session_in session) sram true passed).0 in rw (ok.right, ok.fine, w)

  answers_it : well_formed item ≡ true → reply ≡ leaves (step (session_in session) sram item)
  unfolding item_reply item_precheck
  answers_it w = claim.equation ∙ rw (formed w, there)

  refuses_it : well_formed item ≡ false → reply ≡ as_reply 6 session sram answer
  unfolding item_reply item_precheck
  refuses_it w = claim.equation ∙ rw (unformed w)

  pub six : reply.number ≡ 6 → Six session sram item answer reply
  six n = by (well_formed item) refl
    where
      by : (w : Bool) → well_formed item ≡ w → Six session sram item answer reply
      by true w =
          let number = sym (step-number (session_in session) sram item) ∙ sym (ap (λ (r : Reply). r.number) (answers_it w)) ∙ n in
          absurd (not_six (step (session_in session) sram item).answer.outcome (answered (session_in session) sram item (formed w)) number)
      by false w = record { reply_is = refuses_it w; step_is = refused (session_in session) sram item Fault.Form (unformed w) }

  pub other : (reply.number ≡ 6 → ⊥) → reply ≡ leaves (step (session_in session) sram item)
  other n = by (well_formed item) refl
    where
      by : (w : Bool) → well_formed item ≡ w → reply ≡ leaves (step (session_in session) sram item)
      by true w = answers_it w
      by false w = absurd (n (ap (λ (r : Reply). r.number) (refuses_it w)))
