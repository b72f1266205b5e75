-- After i turns the numbers of the first i rows are in place.
use Rattle.c_rows.proofs.Table.{Written}
use Rattle.c_rows.proofs.put_rows.Given as goal

abbrev pub invariant-loop-i : goal.invariant-loop-i
invariant-loop-i l = Written l.fn.out l.fn.rows l.i l.out
