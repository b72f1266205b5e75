-- The table of 01, "Choosing how to boot" (000, Table 16-3): what BOOTCFG and the control that matters fix.
use Rattle.std.specs.Prelude.{ℕ, List, [], ◌∷◌, Bool, true, false, cond, eqb}
use Rattle.octets.specs.Read.{half_at, first_eight}
use Rattle.boot_table.specs.declared.Asked.{Asked}
use Rattle.boot_table.specs.declared.Row.{Row}

-- the column BOOTCFG: 0 internal, 1 serial, 2 and 3 external
unfoldable pub asked_by : ℕ → Asked
asked_by bootcfg = cond (eqb bootcfg 0) Asked.Internal (cond (eqb bootcfg 1) Asked.Serial Asked.External)

-- "12 shadow bytes, being the 8 password bytes, censorship control (2) and serial boot control (2)"
abbrev pub censorship_control : List ℕ → ℕ
censorship_control shadow = half_at shadow 8

abbrev pub serial_control : List ℕ → ℕ
serial_control shadow = half_at shadow 10

-- the column "control that matters": is it 0x55AA?
unfoldable pub control_55aa : Asked → List ℕ → Bool
control_55aa Asked.Internal shadow = eqb (censorship_control shadow) 0x55AA
control_55aa Asked.Serial shadow = eqb (serial_control shadow) 0x55AA
control_55aa Asked.External shadow = eqb (censorship_control shadow) 0x55AA

-- "The public password is FE ED FA CE CA FE BE EF."
abbrev pub public_password : List ℕ
public_password = 0xFE ∷ 0xED ∷ 0xFA ∷ 0xCE ∷ 0xCA ∷ 0xFE ∷ 0xBE ∷ 0xEF ∷ []

-- "the 8 password bytes" of the shadow row
abbrev pub flash_password : List ℕ → List ℕ
flash_password shadow = first_eight shadow

-- the columns flash, Nexus and password, by BOOTCFG and by whether the control is 0x55AA
unfoldable pub row_of : Asked → Bool → List ℕ → Row
row_of Asked.Internal false shadow = record { flash = true; nexus = false; password = flash_password shadow }
row_of Asked.Internal true shadow = record { flash = true; nexus = true; password = public_password }
row_of Asked.Serial true shadow = record { flash = true; nexus = false; password = flash_password shadow }
row_of Asked.Serial false shadow = record { flash = false; nexus = true; password = public_password }
row_of Asked.External false shadow = record { flash = false; nexus = true; password = public_password }
row_of Asked.External true shadow = record { flash = true; nexus = true; password = public_password }

-- the row that holds
unfoldable pub row_for : Asked → List ℕ → Row
row_for asked shadow = row_of asked (control_55aa asked shadow) shadow
