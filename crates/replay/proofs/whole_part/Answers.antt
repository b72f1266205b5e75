-- The next record starts behind the place of one that is read, and within the bytes.
use Rattle.std.proofs.Common.{◌≡◌, ℕ, ◌+◌, ◌≤◌, List, length, drop, Bool, true, false, cond, ap, sym, ◌∙◌, refl, arith, length-drop}
use Rattle.std.proofs.Math.Dec.{leb}
use borrow.Author.Tests.{leb-true, eqb-false}
use Rattle.capture.specs.Records.{Read, kind_number, found, reads, refused}
use Rattle.capture.proofs.Laws.{found_next}
use Rattle.replay_record.proofs.Laws.{counted}
use Rattle.replay.proofs.whole_part.Goals as goal

behind : (bytes : List ℕ) (at : ℕ) (read : Read) → read ≡ reads bytes at → read.number ≡ 0 → (read.kind ≡ 0 → ⊥)
    → (at + 4 ≤ read.next) × (read.next ≤ length bytes)
unfolding reads
behind bytes at read e number kind = by_test (leb at (length bytes)) refl e
  where
    by_test : (t : Bool) → leb at (length bytes) ≡ t → read ≡ cond t (found at (drop at bytes)) (refused at) → (at + 4 ≤ read.next) × (read.next ≤ length bytes)
    by_test true t is =
        let rest = drop at bytes in
        let inside = found_next at rest (ap (λ (r : Read). r.number) (sym is) ∙ number) (λ none. kind (ap (λ (r : Read). r.kind) is ∙ none)) in
        rw (ap (λ (r : Read). r.next) is) (inside.0, omega (arith, inside.1, length-drop at bytes, leb-true at (length bytes) t))
    by_test false t is = absurd (omega (arith, ap (λ (r : Read). r.number) is))

pub loop-record-smaller : goal.loop-record-smaller
loop-record-smaller c =
    let one = c.in-Ok-Some.record in
    let given = rw (c.in-Ok-Some.field-0-is) at c.in-Ok-Some.ensures.given in
    let inside = behind c.args.bytes.now c.loop-record.at _ given refl (eqb-false (kind_number one.kind) 0 (counted one.kind)) in
    omega (arith, inside.0, inside.1)
