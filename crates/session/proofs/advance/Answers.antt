-- The next address has 32 bits: the bytes owed lie in SRAM.
use Rattle.std.proofs.Common.{arith}
use Rattle.sram.proofs.Laws.{range_end}
use Rattle.session_state.proofs.Laws.{load_fits_lem}
use Rattle.session.proofs.advance.Goals as goal

pub overflow_add-rest : goal.overflow_add-rest
overflow_add-rest c =
    let a = c.args in
    let configuration = a.session.configuration in
    let fits = load_fits_lem configuration a.load c.requires.0 in
    omega (arith, c.requires.1, c.requires.2, range_end configuration a.load.next a.load.owed fits.owed_in_range)
