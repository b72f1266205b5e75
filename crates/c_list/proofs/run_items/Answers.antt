-- Before the items nothing is handed in; each item's bytes are there, and it is handed in as the run has it; behind them all are.
use Rattle.std.proofs.Common.{arith}
use Rattle.c_answer.specs.Writing.{as_flat}
use Rattle.c_session.specs.Reading.{session_in}
use Rattle.c_list.proofs.Handing.{nothing_due, begun, part-there, turn, ended}
use Rattle.c_list.proofs.run_items.Goals as goal

pub loop-i-init : goal.loop-i-init
loop-i-init c =
    let a = c.args in
    let b = a.items.now in
    begun a.session_bytes.now a.session.now a.sram.now b.kinds.now b.identifiers.now b.counts.now b.bytes.now a.echoes.now a.answers.now c.requires

pub split_at-requires : goal.split_at-requires
split_at-requires c =
    let a = c.args in
    let b = a.items.now in
    let l = c.loop-i in
    part-there a.session_bytes.now a.session.now a.sram.now b.kinds.now b.identifiers.now b.counts.now b.bytes.now a.echoes.now a.answers.now
    l.session_bytes l.session l.sram l.echoes l.answers l.rest.now l.i l.invariant c.loop-i-test.true

pub hand_in_at-requires : goal.hand_in_at-requires
hand_in_at-requires c =
    let l = c.loop-i in (
      nothing_due (session_in (as_flat l.session_bytes l.session)) l.sram l.invariant.ok,
      omega (arith, l.invariant.echo_room, c.loop-i-test.true),
      omega (arith, l.invariant.room, c.loop-i-test.true),
    )

pub loop-i-preserved : goal.loop-i-preserved
loop-i-preserved c =
    let a = c.args in
    let b = a.items.now in
    let l = c.loop-i in
    rw c.split_at.ensures.back
    (turn a.session_bytes.now a.session.now a.sram.now b.kinds.now b.identifiers.now b.counts.now b.bytes.now a.echoes.now a.answers.now
    l.session_bytes l.session l.sram l.echoes l.answers l.rest.now l.i l.invariant _ _ _ _ _ c.loop-i-test.true
    (rw (c.split_at.ensures.front, c.source_of.ensures) at c.hand_in_at.ensures)
    c.hand_in_at.auto.session_bytes c.hand_in_at.auto.session c.hand_in_at.auto.sram)

pub returns : goal.returns
returns c =
    let a = c.args in
    let b = a.items.now in
    let l = c.loop-i in
    ended a.session_bytes.now a.session.now a.sram.now b.kinds.now b.identifiers.now b.counts.now b.bytes.now a.echoes.now a.answers.now
    l.session_bytes l.session l.sram l.echoes l.answers l.rest.now l.i l.invariant (omega arith)
