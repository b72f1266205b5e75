-- The boot choice (01, "Choosing how to boot"; 000, 16.3.2).
use Rattle.std.specs.Prelude.{ℕ, ◌+◌, List, Bool, false, Option, Some, None, cond, ◌&&◌, length, leb, eqb}
use Rattle.octets.specs.Read.{word_at}
use Rattle.boot_table.specs.declared.Asked.{Asked}
use Rattle.boot_table.specs.declared.Row.{Row}
use Rattle.boot_table.specs.Table.{asked_by, row_for}
use Rattle.boot_rchw.specs.declared.Search.{Search}
use Rattle.boot_rchw.specs.Places.{flash_places, external_places, searched, watchdog_at, bus_16_at}
use Rattle.session_configuration.specs.declared.Entered.{Entered}
use Rattle.boot.specs.declared.Mode.{Mode}
use Rattle.boot.specs.declared.Choice.{Choice}

-- "BOOTCFG (0 to 3); the flash from address 0 (at most 2,097,152 bytes, any shorter length too); 12 shadow bytes ..; the first 8 bytes
-- of external memory"
abbrev pub allowed : ℕ → List ℕ → List ℕ → List ℕ → Bool
allowed bootcfg flash shadow external =
    leb bootcfg 3 && leb (length flash) 2097152 && eqb (length shadow) 12 && eqb (length external) 8

-- number 9, "number only"
abbrev pub refusal : Option Choice
refusal = None

-- from a good place: "the answer carries that place"; "The jump address is the word at place + 4."
abbrev pub boot_from : Mode → List ℕ → (place examined : ℕ) → Row → Choice
boot_from mode memory place examined row =
    record {
      boot =
          record {
            mode = mode;
            place = place;
            examined = examined;
            jump = word_at memory (place + 4);
            watchdog = watchdog_at memory place;
            bus16 = bus_16_at memory place;
            flash = row.flash;
            nexus = row.nexus;
          };
      password = row.password;
    }

-- "In a serial choice the place, jump address and both flags are 0."; "A fallback to serial keeps its row's flash, Nexus and password."
abbrev pub serial_boot : Entered → ℕ → Row → Choice
serial_boot entered examined row =
    record {
      boot =
          record {
            mode = Mode.Serial entered;
            place = 0;
            examined = examined;
            jump = 0;
            watchdog = false;
            bus16 = false;
            flash = row.flash;
            nexus = row.nexus;
          };
      password = row.password;
    }

-- Internal: "With no good place: serial."; External: "bad means serial."
unfoldable pub settled : Mode → Entered → List ℕ → Search → Row → Choice
settled mode entered memory search row =
    elim search.found [
      | Some place ↦ boot_from mode memory place search.examined row
      | None ↦ serial_boot entered search.examined row
    ]

-- Internal, External, and "BOOTCFG 1: serial, count 0"; how serial was entered decides its MMU rows (000, 16.3.2.3.1)
unfoldable pub chosen : Asked → List ℕ → List ℕ → List ℕ → Choice
chosen Asked.Internal flash shadow external =
    settled Mode.Internal Entered.FromInternal flash (searched flash 0 flash_places) (row_for Asked.Internal shadow)
chosen Asked.External flash shadow external =
    settled Mode.External Entered.FromExternal external (searched external 0 external_places) (row_for Asked.External shadow)
chosen Asked.Serial flash shadow external = serial_boot Entered.Directly 0 (row_for Asked.Serial shadow)

-- the answer of the call, for every input
unfoldable pub boot_choice : ℕ → List ℕ → List ℕ → List ℕ → Option Choice
boot_choice bootcfg flash shadow external =
    cond (allowed bootcfg flash shadow external) (Some (chosen (asked_by bootcfg) flash shadow external)) refusal

-- the numbers of the answers (01, "What the head says back")
abbrev pub choice_number : Option Choice → ℕ
choice_number None = 9
choice_number (Some choice) = 0

-- the number of places examined, 0 where the call was refused
abbrev pub examined_of : Option Choice → ℕ
examined_of None = 0
examined_of (Some choice) = choice.boot.examined
