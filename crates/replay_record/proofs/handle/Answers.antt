-- A record that is handed in.
use Rattle.replay_record.proofs.Laws.{handled_record}
use Rattle.replay_record.proofs.handle.Goals as goal

pub returns : goal.returns
returns c = handled_record _ _ _ _ _ _ _ (rw c.in-Some.is at c.in_ok-record.ensures.given) c.step_record-result.ensures
