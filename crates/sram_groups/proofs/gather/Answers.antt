-- The bytes held, and the others behind them.
use Rattle.std.proofs.Common.{◌+◌, ◌≡◌, ◌∙◌, length, arith}
use Rattle.buffers.specs.Write.{over_from}
use Rattle.buffers.proofs.Lending.{put_back}
use Rattle.sram_groups.specs.Groups.{zeros}
use Rattle.sram_groups.proofs.Gathering.{laid-length, gathered}
use Rattle.sram_groups.proofs.gather.Goals as goal

pub returns : goal.returns
unfolding zeros
returns c =
    let a = c.args in
    let held = a.held.now in
    let first = over_from a.from held (zeros 16) in
    let many : length first ≡ 16 = laid-length a.from held (zeros 16) (omega (arith, c.requires)) in
    rw (c.fill-2.ensures, c.fill.ensures, put_back (zeros 16) held a.from (omega (arith, c.requires)))
    (rw many at (put_back first a.bytes.now (a.from + length held) (omega (arith, many, c.requires)))
    ∙ gathered a.from 16 held a.bytes.now c.requires)
