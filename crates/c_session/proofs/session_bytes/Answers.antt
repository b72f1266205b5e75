-- The password fills the first half, and the bytes held the second.
use Rattle.std.proofs.Common.{rules, List, [], ◌∷◌, ℕ, refl}
use Rattle.c_session.proofs.Lengths.{halves}
use Rattle.c_session.proofs.session_bytes.Goals as goal

pub returns : goal.returns
returns c =
    let a = c.args.session in
    let zeros : List ℕ = 0 ∷ 0 ∷ 0 ∷ 0 ∷ 0 ∷ 0 ∷ 0 ∷ 0 ∷ [] in
    rw (c.copy_from_slice-2.ensures.after, c.copy_from_slice.ensures.after)
    (halves a.configuration.password a.held zeros (search rules) (search rules) refl)
