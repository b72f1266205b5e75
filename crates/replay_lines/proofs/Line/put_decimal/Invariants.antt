-- The digits that are left go in front of those that are put.
use Rattle.replay_lines.specs.Digits.{decimal}
use Rattle.replay_lines.proofs.Laws.{Spelling}
use Rattle.replay_lines.proofs.Line.put_decimal.Given as goal

abbrev pub invariant-loop-rest : goal.invariant-loop-rest
invariant-loop-rest l = Spelling decimal l.n l.initial.self l.rest l.self

abbrev pub decreases-loop-rest : goal.decreases-loop-rest
decreases-loop-rest l = l.rest
