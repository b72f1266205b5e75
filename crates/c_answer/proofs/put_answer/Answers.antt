-- An answer's numbers and the bytes of its echo are put in their places.
use Rattle.std.proofs.Common.{rules}
use Rattle.c_answer.specs.Writing.{as_flat}
use Rattle.c_answer.proofs.Whole.{fills}
use Rattle.c_answer.proofs.put_answer.Goals as goal

pub returns : goal.returns
returns c =
    let a = c.args in
    rw (c.put.ensures, c.answer_numbers.ensures) (fills a.given (as_flat a.echo.now a.answer.now) (search rules))
