-- The reader's answer as the C interface has it: an export returns no reference, so the body is its start and its length.
use Rattle.std.specs.Prelude.{ℕ, List, [], ◌∷◌, cond, length, eqb}
use Rattle.capture.specs.Records.{Read, reads, body_at}

-- the number returned, and the four places as the call leaves them
pub record Located : Type 0 where
  pub number : ℕ
  pub fields : List ℕ

-- kind, next place, the body's start and its length; nothing is written with 10, nor with 9 where there are not four places
unfoldable pub located_at : List ℕ → ℕ → List ℕ → Located
located_at capture at fields =
    let read : Read = reads capture at in
    cond (eqb read.number 0)
    (cond (eqb (length fields) 4)
    (record { number = 0; fields = read.kind ∷ read.next ∷ body_at capture at ∷ length read.body ∷ [] })
    (record { number = 9; fields = fields }))
    (record { number = read.number; fields = fields })

abbrev pub as_located : ℕ → List ℕ → Located
as_located number fields = record { number = number; fields = fields }
