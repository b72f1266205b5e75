-- The turns: the first, one more, and the last.
use Rattle.std.proofs.Common.{sym, subst, length}
use Rattle.std.proofs.lemmas.List.{take_rest}
use Rattle.replay_record.specs.Beginning.{keeping}
use Rattle.replay_window.specs.Printing.{printing_of}
use Rattle.replay_window.specs.Windows.{CallResult, Continues}
use Rattle.replay_window.proofs.Continuing.{windows_join}
use Rattle.replay_window.proofs.Turning.{turning_first, turning_on, turning_less, turning_last}
use Rattle.replay_window.proofs.play.Goals as goal

pub loop-sram-init : goal.loop-sram-init
loop-sram-init c = turning_first _ _ _ _

pub loop-sram-smaller : goal.loop-sram-smaller
unfolding printing_of
loop-sram-smaller c =
    let l = c.loop-sram in
    let e = c.play_record-played.ensures in
    let rest = take_rest c.args.window.now l.played.turn.at in
    turning_less _ _ _ _ _ _ _ l.invariant _ _ _ (rw rest at e.played) (rw rest at e.short) _ c.is_ready.ensures c.loop-sram-test.true

pub loop-sram-preserved : goal.loop-sram-preserved
unfolding printing_of
loop-sram-preserved c =
    let l = c.loop-sram in
    let e = c.play_record-played.ensures in
    let rest = take_rest c.args.window.now l.played.turn.at in
    turning_on _ _ _ _ _ _ _ l.invariant _ _ _ (rw rest at e.played) (rw rest at e.short) _ c.is_ready.ensures c.loop-sram-test.true

pub returns-clause-played : goal.returns-clause-played
returns-clause-played c =
    turning_last _ _ _ _ _ _ _ c.loop-sram.invariant _ c.is_ready.ensures c.loop-sram-test.false

pub returns-clause-continues : goal.returns-clause-continues
returns-clause-continues c =
    let a = c.args in
    let kept = keeping a.ordinal a.session a.sram.now in
    let result = turning_last _ _ _ _ _ _ _ c.loop-sram.invariant _ c.is_ready.ensures c.loop-sram-test.false in
    subst (λ (call : CallResult). Continues a.window.now a.last kept call) (sym result) (windows_join a.window.now a.last (length a.out.now) kept a.out.now)
