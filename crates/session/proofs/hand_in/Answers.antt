-- What is handed in has passed the precheck, and the session takes it.
use Rattle.std.proofs.Common.{sym, ◌∙◌}
use Rattle.session.proofs.Laws.{taken-ready}
use Rattle.session.proofs.hand_in.Goals as goal

pub invariant_of-taking : goal.invariant_of-taking
invariant_of-taking c =
    let a = c.args in
    let ready = rw (← c.item.view_is) at
    (taken-ready a.session a.sram.now a.item.now c.in-Takes.role c.in-Takes.port
    (rw c.is_formed.ensures at (sym c.precheck.ensures ∙ c.in_default.is))
    (sym c.react.ensures ∙ c.in-Takes.is)) in
    record { few = ready.1; room = ready.2 }
