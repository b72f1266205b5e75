-- Each record that is whole ends behind its place.
use Rattle.std.proofs.Common.{length, ◌-◌}
use Rattle.replay.proofs.whole_part.Given as goal

abbrev pub decreases-loop-record : goal.decreases-loop-record
decreases-loop-record l = length l.bytes - l.at
