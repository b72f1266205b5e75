-- A record, and the end mark.
use Rattle.capture.proofs.Locating.{located_record, located_end}
use Rattle.capture.proofs.locate.Goals.{in-Some, in-None}
use Rattle.capture.proofs.locate.Goals as goal

pub returns : goal.returns
returns c =
    let told = c.in-Ok.ensures.given in
    rw c.copy_from_slice.ensures.after
    (elim c.match-found.branch [
      | in-Some w ↦ rw (w.located-is, w.saturating_sub-start.ensures, w.from.ensures, w.from-kind.ensures) (located_record _ _ _ _ _ _ c.if-fields-ne4.false (rw w.in-Some.is at told))
      | in-None w ↦ rw w.located-is (located_end _ _ _ c.if-fields-ne4.false (rw w.in-None.is at told))
    ])
