-- The call that plays the window, and what is moved to its start.
use Rattle.std.proofs.Common.{length}
use Rattle.replay_record.specs.Beginning.{keeping}
use Rattle.replay_window.specs.Windows.{played_in}
use Rattle.replay_window.proofs.Sliding.{window-played}
use Rattle.replay_window.proofs.play_window.Goals as goal

pub returns : goal.returns
returns c =
    let a = c.args in
    let p = played_in a.window.now a.last (length a.out.now) (keeping a.progress.ordinal a.progress.session a.sram.now) in
    window-played a.window.now a.out.now p c.play-played.result _ _ c.play-played.ensures.played c.slide.result c.slide.ensures.count _ c.slide.ensures.contents
