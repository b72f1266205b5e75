-- Each piece has room in front of those behind it, and together they are the line.
use Rattle.replay_lines.specs.Lines.{echo_text}
use Rattle.replay_lines.specs.Digits.{ascii, decimal}
use Rattle.replay_lines.proofs.Laws.{record_text}
use Rattle.replay_lines.proofs.Line.put_record.Goals as goal

pub returns : goal.returns
returns c = cc (record_text (decimal c.args.ordinal) (decimal c.args.answer) (echo_text c.args.echo.now) (ascii "\n"))
