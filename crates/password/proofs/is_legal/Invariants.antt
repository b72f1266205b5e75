-- `allowed` tells whether the first i half words are all allowed.
use Rattle.std.proofs.Common.{◌≡◌, ◌≤◌}
use Rattle.password.proofs.Gathering.{allowed_up_to}
use Rattle.password.proofs.is_legal.Given as goal

abbrev pub invariant-loop-i : goal.invariant-loop-i
invariant-loop-i l = record { in_range : l.i ≤ 4; so_far : l.allowed ≡ allowed_up_to l.password l.i }
