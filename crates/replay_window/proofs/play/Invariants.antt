-- Each turn is one record more, and the turns end where the definition does.
use Rattle.replay_record.specs.Beginning.{keeping}
use Rattle.replay_window.proofs.Turning.{Turning, remaining_in}
use Rattle.replay_window.proofs.play.Given as goal

abbrev pub invariant-loop-sram : goal.invariant-loop-sram
invariant-loop-sram l =
    Turning l.window l.last (keeping l.ordinal l.fn.session l.fn.sram) l.fn.out l.played l.sram l.out

abbrev pub decreases-loop-sram : goal.decreases-loop-sram
decreases-loop-sram l = remaining_in l.window l.played
