-- The MMU rows (01, "MMU rows"; 000, Table 16-2).
use Rattle.std.specs.Prelude.{ℕ, ◌*◌, List, [], ◌∷◌, Bool, true, false, Result, Ok, Err, cond}
use Rattle.session_configuration.specs.declared.Entered.{Entered}
use Rattle.boot.specs.declared.Mode.{Mode}
use Rattle.session_state.specs.declared.Session.{Session}
use Rattle.session_state.specs.Accepted.{accepted_vle}
use Rattle.session_state.specs.Sound.{sound}
use Rattle.mmu.specs.declared.NoRows.{NoRows}
use Rattle.mmu.specs.declared.Row.{Row}

-- the attributes by the names that Table 16-2 prints
abbrev pub cache_inhibited : Bool
cache_inhibited = true

abbrev pub cache_enabled : Bool
cache_enabled = false

abbrev pub guarded : Bool
guarded = true

abbrev pub not_guarded : Bool
not_guarded = false

-- the rows that no header sets VLE on
abbrev pub no_vle : Bool
no_vle = false

-- "Mbyte" and "Kbytes"
abbrev pub mbyte : ℕ
mbyte = 1024 * 1024

abbrev pub kbyte : ℕ
kbyte = 1024

-- a row; each is "Big Endian" and "Global PID"
abbrev pub table_row : (logical physical size : ℕ) (cache guard vle : Bool) → Row
table_row logical physical size cache guard vle =
    record {
      logical = logical;
      physical = physical;
      size = size;
      inhibited = cache;
      guarded = guard;
      bigendian = true;
      global = true;
      vle = vle;
    }

-- Table 16-2, with VLE "on entries 1 to 3" (01)
unfoldable pub internal_rows : Bool → List Row
internal_rows vle =
    -- 0, peripheral bridge B and BAM
    table_row 0xFFF0_0000 0xFFF0_0000 (1 * mbyte) cache_inhibited guarded no_vle
    -- 1, internal flash
    ∷ table_row 0x0000_0000 0x0000_0000 (16 * mbyte) cache_enabled not_guarded vle
    -- 2, EBI
    ∷ table_row 0x2000_0000 0x0000_0000 (16 * mbyte) cache_enabled not_guarded vle
    -- 3, internal SRAM
    ∷ table_row 0x4000_0000 0x4000_0000 (256 * kbyte) cache_inhibited not_guarded vle
    -- 4, peripheral bridge A
    ∷ table_row 0xC3F0_0000 0xC3F0_0000 (1 * mbyte) cache_inhibited not_guarded no_vle
    ∷ []

-- Which boots have the rows of external boot (000, 16.3.2.3.1). Serial boot "entered directly .., or .. indirectly from internal boot
-- mode": "the MMU is configured the same way as for internal boot mode". Entered "indirectly from either external boot ..": "the MMU and
-- EBI are configured the same way as for one of the external boot modes".
abbrev pub has_external_rows : Mode → Bool
has_external_rows Mode.Internal = false
has_external_rows Mode.External = true
has_external_rows (Mode.Serial Entered.Directly) = false
has_external_rows (Mode.Serial Entered.FromInternal) = false
has_external_rows (Mode.Serial Entered.FromExternal) = true

-- "Asking for external boot rows gets number 11."; "session not sound": number 8
abbrev pub refusal_number : NoRows → ℕ
refusal_number NoRows.UnsoundSession = 8
refusal_number NoRows.ExternalBoot = 11

-- "number only"
abbrev pub refused : NoRows → Result (List Row) NoRows
refused reason = Err reason

-- the rows of internal boot, or number 11
unfoldable pub mapping_for : Mode → Bool → Result (List Row) NoRows
mapping_for mode vle = cond (has_external_rows mode) (refused NoRows.ExternalBoot) (Ok (internal_rows vle))

-- The rows are asked of a choice, or of a session. Of a choice: "where no header was accepted it is clear"
abbrev pub choice_rows : Mode → Result (List Row) NoRows
choice_rows mode = mapping_for mode false

-- Of a session: "An accepted header with VLE 1 sets VLE on entries 1 to 3; with 0 it clears it" (003, 21.5.5.4, step 2). How its serial boot
-- was entered is fixed by the choice that gave it; a session that is not sound gets number 8
unfoldable pub session_rows : Session → Result (List Row) NoRows
session_rows session =
    cond (sound session)
    (mapping_for (Mode.Serial session.configuration.entered) (accepted_vle session.stage))
    (refused NoRows.UnsoundSession)
