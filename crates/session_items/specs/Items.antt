-- Items (01, "A serial session").
use Rattle.std.specs.Prelude.{ℕ, List, Bool, cond, ◌&&◌, ◌||◌, length, drop, leb, eqb}
use Rattle.octets.specs.Read.{half_at}
use Rattle.session_state.specs.declared.Port.{Port}
use Rattle.session_items.specs.declared.Source.{Source}

-- "Items: a CAN frame (identifier 0 to 2,047, 0 to 8 data bytes), or a serial byte marked clean or faulty." It has a source, which is
-- a CAN identifier or the serial line with a mark, and bytes. One that breaks these limits is an item too: it gets 6.
pub data Item : Type 0 where
  Of : Source → List ℕ → Item

-- not refused for its form; number 6: "identifier above 2,047 or count above 8", and of serial anything but one byte
abbrev pub well_formed : Item → Bool
well_formed (Item.Of (Source.Can identifier) bytes) = leb identifier 2047 && leb (length bytes) 8
well_formed (Item.Of (Source.Serial mark) bytes) = eqb (length bytes) 1

abbrev pub port_from : Source → Port
port_from (Source.Can identifier) = Port.Can
port_from (Source.Serial mark) = Port.Serial

abbrev pub port_of : Item → Port
port_of (Item.Of source bytes) = port_from source

-- the data of a frame, or the byte
abbrev pub bytes_of : Item → List ℕ
bytes_of (Item.Of source bytes) = bytes

-- An item by its kind (01, "The truck's capture file"): "Kind 1, CAN", "Kind 2 a clean, kind 3 a faulty serial byte". No other kind is an
-- item's, nor is a serial one with another count than 1: a list with such is refused as a whole, and no record of kind 1 to 3 has such.
abbrev pub is_item : ℕ → ℕ → Bool
is_item kind count = eqb kind 1 || (eqb kind 2 || eqb kind 3) && eqb count 1

abbrev pub mark_of : ℕ → ℕ
mark_of kind = cond (eqb kind 2) 0 1

unfoldable pub source_of : ℕ → ℕ → Source
source_of kind identifier = cond (eqb kind 1) (Source.Can identifier) (Source.Serial (mark_of kind))

-- out of a record's body: "Kind 1, CAN: two identifier bytes, 0 to 8 data bytes"
abbrev pub leading : ℕ → ℕ
leading kind = cond (eqb kind 1) 2 0

abbrev pub item_in : ℕ → List ℕ → Item
item_in kind body = Item.Of (source_of kind (half_at body 0)) (drop (leading kind) body)
