-- The places where a reset configuration half word is searched for (01, "Choosing how to boot", Internal and External; 000, 16.3.2.1.1 and 16.3.2.2.5).
use Rattle.std.specs.Prelude.{ℕ, ◌+◌, ◌/◌, ◌%◌, List, [], ◌∷◌, Bool, cond, ◌&&◌, Some, None, length, leb, eqb}
use Rattle.octets.specs.Read.{byte_at}
use Rattle.boot_rchw.specs.declared.Search.{Search}

-- "look in turn at 0x0, 0x4000, 0x10000, 0x1C000, 0x20000, 0x30000" (000, Table 16-4)
unfoldable pub flash_places : List ℕ
flash_places = 0x0 ∷ 0x4000 ∷ 0x10000 ∷ 0x1C000 ∷ 0x20000 ∷ 0x30000 ∷ []

-- "External: only the external head is looked at (count 1, place 0), by the same test": its one place
unfoldable pub external_places : List ℕ
external_places = 0 ∷ []

-- "A place is good if its 8 bytes lie in the flash handed in and its second byte is 0x5A."
unfoldable pub good_place : List ℕ → ℕ → Bool
good_place memory place = leb (place + 8) (length memory) && eqb (byte_at memory (place + 1)) 0x5A

-- "The walk ends at the first good place; the answer carries that place and the number of places looked at, which equals the place's
-- rank from 1, or 6 if none is good." The search of the places that are left, after as many as `examined`.
unfoldable pub searched : List ℕ → ℕ → List ℕ → Search
searched memory examined [] = record { found = None; examined = examined }
searched memory examined (place ∷ places) =
    cond (good_place memory place)
    (record { found = Some place; examined = examined + 1 })
    (searched memory (examined + 1) places)

-- "In the first byte of the half word, 0x04 is the watchdog enable and 0x02 the 16-bit external bus. Its other bits change
-- nothing."
abbrev pub watchdog_at : List ℕ → ℕ → Bool
watchdog_at memory place = eqb (byte_at memory place / 4 % 2) 1

abbrev pub bus_16_at : List ℕ → ℕ → Bool
bus_16_at memory place = eqb (byte_at memory place / 2 % 2) 1
