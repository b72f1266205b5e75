-- The reader's answer in four places.
use Prim.Native.Nat.{ℕ, ◌-◌}
use native.Mathlib.Omega.{arith}
use mathlib.Core.Path.{◌≡◌, refl}
use mathlib.Core.List.{List, [], ◌∷◌}
use borrow.Author.Tests.{eq-eqb}
use lib.ListN.{length}
use Rattle.std.proofs.lemmas.Bool.Decides.{nat_tests}
use Rattle.capture.specs.Records.{Read, ended, reads, body_at}
use Rattle.capture.specs.Located.{located_at, as_located}

module _ (capture : List ℕ) (at : ℕ) where
  -- a body that was answered starts so far before the next record
  starts : (read : Read) → read ≡ reads capture at → read.number ≡ 0 → read.next - length read.body ≡ body_at capture at
  unfolding body_at reads
  starts read told good = grind (arith, nat_tests)

  pub located_record : (fields : List ℕ) (kind next : ℕ) (body : List ℕ) → length fields ≡ 4
      → ◌≡◌ {A = Read} record { number = 0; kind = kind; next = next; body = body } (reads capture at)
      → as_located 0 (kind ∷ next ∷ (next - length body) ∷ length body ∷ []) ≡ located_at capture at fields
  unfolding located_at
  located_record fields kind next body four told =
      rw (starts _ told refl, ← told, eq-eqb (length fields) 4 four)

  pub located_end : (fields : List ℕ) → length fields ≡ 4 → ended at ≡ reads capture at
      → as_located 0 (0 ∷ at ∷ at ∷ 0 ∷ []) ≡ located_at capture at fields
  located_end fields four told =
      let start : at - 0 ≡ at = omega arith in
      rw start at (located_record fields 0 at [] four told)
