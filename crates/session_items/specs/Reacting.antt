-- What a stage does with an item (01, "A serial session"; 02, E2): it ignores it, takes it in a role by a port, or stops, taking nothing.
use Rattle.std.specs.Prelude.{ℕ, Bool, false, cond, not, ◌&&◌, length, leb, eqb}
use Rattle.session_state.specs.declared.Port.{Port}
use Rattle.session_state.specs.declared.Stage.{Stage}
use Rattle.session_items.specs.declared.Reaction.{Reaction}
use Rattle.session_items.specs.declared.Role.{Role}
use Rattle.session_items.specs.declared.Source.{Source}
use Rattle.session_items.specs.Items.{Item, port_of}

-- a frame with this identifier and 8 bytes
abbrev pub eight_under : ℕ → Item → Bool
eight_under wanted (Item.Of (Source.Can identifier) bytes) = eqb identifier wanted && eqb (length bytes) 8
eight_under wanted (Item.Of (Source.Serial mark) bytes) = false

-- "only 0x013 with n bytes, 1 <= n <= 8 and n not above what is still owed"
abbrev pub data_fitting : ℕ → Item → Bool
data_fitting owed (Item.Of (Source.Can identifier) bytes) =
    eqb identifier 0x013 && leb 1 (length bytes) && leb (length bytes) 8 && leb (length bytes) owed
data_fitting owed (Item.Of (Source.Serial mark) bytes) = false

-- a serial byte whose mark is 0
abbrev pub clean_byte : Item → Bool
clean_byte (Item.Of (Source.Can identifier) bytes) = false
clean_byte (Item.Of (Source.Serial mark) bytes) = eqb (length bytes) 1 && eqb mark 0

-- and one with any other mark
abbrev pub faulty_byte : Item → Bool
faulty_byte (Item.Of (Source.Can identifier) bytes) = false
faulty_byte (Item.Of (Source.Serial mark) bytes) = eqb (length bytes) 1 && not (eqb mark 0)

-- The table of what counts for a role by a port. CAN: 0x011 with 8 bytes is the password, "only 0x012 with 8 bytes counts (the header); then
-- only 0x013 ..". Serial: "clean bytes are password, then header, then data."
abbrev pub counts_as : Role → Port → Item → Bool
counts_as Role.Password Port.Can item = eight_under 0x011 item
counts_as Role.Header Port.Can item = eight_under 0x012 item
counts_as (Role.Data load) Port.Can item = data_fitting load.owed item
counts_as role Port.Serial item = clean_byte item

-- "An opening is a CAN frame 0x011 with 8 bytes or a clean serial byte": it counts as a password by its own port
abbrev pub opens : Item → Bool
opens item = counts_as Role.Password (port_of item) item

-- what stops a session that has opened a port, and is not taken: "A faulty serial byte after the serial port has opened" (02, E2); to CAN a faulty
-- byte is the other port's item
abbrev pub stops_by : Port → Item → Bool
stops_by Port.Can item = false
stops_by Port.Serial item = faulty_byte item

-- before the opening what counts is taken
abbrev pub heard : Role → Port → Item → Reaction
heard role port item = cond (counts_as role port item) (Reaction.Takes role port) Reaction.Ignores

-- and behind it, where what does not count may stop the session; if it does not: "Other frames are ignored", "The other port's items are
-- ignored from then on."
abbrev pub heard_opened : Role → Port → Item → Reaction
heard_opened role port item =
    cond (counts_as role port item) (Reaction.Takes role port) (cond (stops_by port item) Reaction.Stops Reaction.Ignores)

-- "Waiting: a CAN frame 0x011 with 8 bytes opens CAN and is the password. A clean serial byte opens serial and is the first of 8 password
-- bytes. All else is ignored."; "Stopped and jumped sessions ignore everything."
unfoldable pub reaction : Stage → Item → Reaction
reaction Stage.Waiting item = heard Role.Password (port_of item) item
reaction Stage.Password item = heard_opened Role.Password Port.Serial item
reaction (Stage.Header port) item = heard_opened Role.Header port item
reaction (Stage.Data port load) item = heard_opened (Role.Data load) port item
reaction (Stage.Stopped refusal) item = Reaction.Ignores
reaction (Stage.Jumped jump) item = Reaction.Ignores
