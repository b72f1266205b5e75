-- What one byte more gathers; and past the last byte none is left.
use Rattle.std.proofs.Common.{arith, sym, ◌∙◌}
use mathlib.Core.Bool.{and-true}
use Rattle.octets.proofs.Comparing.{same_none}
use Rattle.password.proofs.Gathering.{gathered}
use Rattle.password.proofs.is_same.Goals as goal

pub loop-i-preserved : goal.loop-i-preserved
loop-i-preserved c =
    let l = c.loop-i in
    record {
      in_range = omega arith;
      first = omega arith;
      second = omega arith;
      so_far =
          l.invariant.so_far
          ∙ gathered l.differences c.args.a c.args.b l.i (omega arith) (omega arith);
    }

pub returns : goal.returns
returns c =
    let l = c.loop-i in
    sym
    (l.invariant.so_far
    ∙ rw (same_none c.args.a c.args.b l.i (omega arith) (omega arith), and-true))
