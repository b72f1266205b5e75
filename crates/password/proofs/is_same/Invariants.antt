-- With i bytes gathered, the two are the same when no bit differs and the rests are the same.
use Rattle.std.proofs.Common.{◌≡◌, ◌≤◌, ◌&&◌, eqb, length, drop}
use Rattle.octets.specs.Same.{same}
use Rattle.password.proofs.is_same.Given as goal

abbrev pub invariant-loop-i : goal.invariant-loop-i
invariant-loop-i l =
    record {
      in_range : l.i ≤ 8;
      first : length l.a ≡ 8;
      second : length l.b ≡ 8;
      so_far : same l.a l.b ≡ (eqb l.differences 0 && same (drop l.i l.a) (drop l.i l.b));
    }
