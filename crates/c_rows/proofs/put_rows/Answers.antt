-- One more row.
use Rattle.std.proofs.Common.{rules, arith, ◌≡◌, length}
use Rattle.c_rows.proofs.Table.{turn}
use Rattle.c_rows.proofs.put_rows.Goals as goal

pub loop-i-preserved : goal.loop-i-preserved
loop-i-preserved c =
    let l = c.loop-i in
    let five : length c.args.rows ≡ 5 = search rules in
    rw (c.fill.ensures, c.row_numbers.ensures)
    (turn c.args.out.now c.args.rows l.i _ l.out _ (omega arith) (omega arith) (omega arith) l.invariant)
