-- The bytes of a load are in range.
use Rattle.std.proofs.Common.{length, ◌∙◌}
use Rattle.sram.proofs.Laws.{stored_in_range_lem, range_part}
use Rattle.session_state.proofs.Laws.{load_fits_lem}
use Rattle.session.specs.Rules.{sram_after}
use Rattle.session.specs.Room.{LoadRoom}
use Rattle.session.proofs.Taking.store_data.Goals as goal

pub returns-in-Data : goal.returns-in-Data
unfolding sram_after
returns-in-Data c =
    let taking = c.args.self.now in
    let configuration = taking.session.configuration in
    let load = c.in-Data.load in
    let bytes = taking.bytes.now in
    let room : LoadRoom configuration load (length bytes) = rw c.in-Data.is at taking.room in
    rw c.in-Data.is
    (c.store.ensures
    ∙ stored_in_range_lem configuration c.args.sram.now load.next bytes c.requires
    (range_part configuration load.next load.owed (length bytes) (load_fits_lem configuration load room.0).owed_in_range room.1))
