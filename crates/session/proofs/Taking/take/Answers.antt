-- Each call tells of one part of what an item taken does.
use Rattle.std.proofs.lemmas.List.{take_all}
use Rattle.session.specs.Rules.{taken_as}
use Rattle.session.proofs.Taking.take.Goals as goal

pub returns : goal.returns
unfolding taken_as
returns c =
    let taking = c.args.self.now in
    let all = take_all 8 taking.bytes.now taking.few in
    rw (c.echo_of.ensures, all, c.receive-next.ensures, c.store_data.ensures)
