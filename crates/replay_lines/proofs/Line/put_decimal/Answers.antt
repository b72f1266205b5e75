-- One digit more.
use Rattle.std.proofs.Common.{arith}
use Rattle.replay_lines.proofs.Laws.{digit_more}
use Rattle.replay_lines.proofs.Line.put_decimal.Goals as goal

pub loop-rest-preserved : goal.loop-rest-preserved
loop-rest-preserved c = rw c.put_byte.ensures (digit_more c.loop-rest.invariant c.loop-rest-test.true (omega arith))
