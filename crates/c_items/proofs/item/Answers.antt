-- Without places for an answer, refused, or answered.
use Rattle.std.proofs.Common.{◌∙◌, sym}
use Rattle.c_answer.specs.Writing.{as_flat}
use Rattle.c_items.proofs.Laws.{not_refused, unplaced, refused-claim, answered-claim}
use Rattle.c_items.proofs.item.Goals as goal

pub returns-in-Ok : goal.returns-in-Ok
returns-in-Ok c =
    let a = c.args in
    unplaced a.session_bytes.now a.session.now a.sram.now a.item.now (as_flat a.echo.now a.answer.now) _
    (sym c.has_places.ensures ∙ c.if-not-has_places.true)
    (rw (c.read_session-read.ensures, c.is_formed.ensures, c.in-Ok.is) at c.item_precheck.ensures)

pub returns-in-Err : goal.returns-in-Err
returns-in-Err c =
    let a = c.args in
    unplaced a.session_bytes.now a.session.now a.sram.now a.item.now (as_flat a.echo.now a.answer.now) _
    (sym c.has_places.ensures ∙ c.if-not-has_places.true)
    (c.into.ensures ∙ (rw (c.read_session-read.ensures, c.is_formed.ensures, c.in-Err.is) at c.item_precheck.ensures))

pub returns-in-Refused : goal.returns-in-Refused
returns-in-Refused c =
    let a = c.args in
    rw c.into-in-Refused.ensures
    (rw c.in-Refused.is at
    (refused-claim a.session_bytes.now a.session.now a.sram.now a.item.now (as_flat a.echo.now a.answer.now)
    c.hand_in-result.result _ (sym c.has_places.ensures ∙ c.if-not-has_places.false)
    (rw c.read_session-read.ensures at c.hand_in-result.ensures) c.in-Refused.fault c.in-Refused.is))

pub returns : goal.returns
returns c =
    let a = c.args in
    rw c.into-2.ensures
    (answered-claim a.session_bytes.now a.session.now a.sram.now a.item.now (as_flat a.echo.now a.answer.now)
    c.hand_in-result.result _ (sym c.has_places.ensures ∙ c.if-not-has_places.false)
    (rw c.read_session-read.ensures at c.hand_in-result.ensures) _ _ (not_refused c.hand_in-result.result.answer.outcome c.in_default.not-Refused)
    c.put_session.ensures c.put_answer.ensures)
