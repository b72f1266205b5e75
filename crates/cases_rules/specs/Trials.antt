-- The trial exchanges that 01 marks P ("Trial exchanges"), and two of its slips: one table, and one claim about it.
use Rattle.std.specs.Prelude.{ℕ, ◌+◌, ◌-◌, ◌≡◌, List, [], ◌∷◌, ◌++◌, Bool, true, false, Option, Some, replicate}
use Rattle.boot_table.specs.Table.{public_password}
use Rattle.boot_rchw.specs.Places.{good_place}
use Rattle.session_configuration.specs.declared.Configuration.{Configuration}
use Rattle.session_configuration.specs.declared.Entered.{Entered}
use Rattle.boot.specs.declared.Choice.{Choice}
use Rattle.boot.specs.declared.Mode.{Mode}
use Rattle.boot.specs.Choosing.{boot_choice}
use Rattle.sram.specs.Region.{size}
use Rattle.session_state.specs.declared.Port.{Port}
use Rattle.session_state.specs.declared.Session.{Session}
use Rattle.session_state.specs.declared.Stage.{Stage}
use Rattle.session_items.specs.declared.Source.{Source}
use Rattle.session_items.specs.Items.{Item}
use Rattle.session_answers.specs.Answers.{Result}
use Rattle.session_fresh.specs.Fresh.{fresh_session, asked_for}
use Rattle.session.specs.Rules.{step}

-- a case: what the rules give, and what 01 says that it is
pub record Case : Type 1 where
  pub Kind : Type 0
  pub given : Kind
  pub expected : Kind

abbrev pub trial : {Kind : Type 0} → Kind → Kind → Case
trial {Kind} given expected = record { Kind = Kind; given = given; expected = expected }

-- the session's configuration in these cases, and SRAM of its size with the same byte everywhere
abbrev pub public : Configuration
public = asked_for public_password

abbrev pub filled_with : ℕ → List ℕ
filled_with byte = replicate (size public) byte

-- a CAN session that waits for the header, the header handed in, and the number and the stage after it
abbrev at_header : Session
at_header = record { configuration = public; stage = Stage.Header Port.Can; held = replicate 8 0; count = 0 }

abbrev headed : List ℕ → Result
headed header = step at_header (filled_with 0) (Item.Of (Source.Can 0x012) header)

abbrev number_after : List ℕ → ℕ
number_after header = (headed header).number

abbrev answered : List ℕ → ℕ × Stage
answered header = (number_after header, (headed header).session.stage)

-- a header accepted: number 0, and the data stage
abbrev accepted : ℕ → Bool → ℕ → ℕ × Stage
accepted start vle count =
    (0, Stage.Data Port.Can (record { start = record { 0 = start }; vle = vle; next = start; owed = count }))

-- passwords with half word 0000 and FFFF, and the number that one gets where it is the selected one too
abbrev half_word_0000 : List ℕ
half_word_0000 = 0xFE ∷ 0xED ∷ 0x00 ∷ 0x00 ∷ 0xCA ∷ 0xFE ∷ 0xBE ∷ 0xEF ∷ []

abbrev half_word_ffff : List ℕ
half_word_ffff = 0xFE ∷ 0xED ∷ 0xFA ∷ 0xCE ∷ 0xCA ∷ 0xFE ∷ 0xFF ∷ 0xFF ∷ []

abbrev number_opening : List ℕ → ℕ
number_opening password = (step (fresh_session (asked_for password)) (filled_with 0) (Item.Of (Source.Can 0x011) password)).number

-- the largest flash: zeroes, and zeroes but for 0x5A as the second byte of one place
abbrev pub blank : List ℕ
blank = replicate 2097152 0

abbrev pub with_5a : ℕ → List ℕ
with_5a place = replicate (place + 1) 0 ++ 0x5A ∷ replicate (2097150 - place) 0

-- internal boot of a flash, with a shadow row and an external head of zeroes
abbrev pub internal_boot : List ℕ → Option Choice
internal_boot flash = boot_choice 0 flash (replicate 12 0) (replicate 8 0)

-- what such a boot answers: how, from which place, and how many were looked at; what is read at the place is 0, and the row of 01's table is the
-- first, whose password is that of the shadow row
abbrev pub boots : Mode → ℕ → ℕ → Option Choice
boots mode place examined =
    Some
    (record {
      boot =
          record {
            mode = mode;
            place = place;
            examined = examined;
            jump = 0;
            watchdog = false;
            bus16 = false;
            flash = true;
            nexus = false;
          };
      password = replicate 8 0;
    })

unfoldable pub table : List Case
table =
    -- P1 "header 40 00 00 00 80 00 14 00: start 0x40000000, VLE, 5,120 bytes"
    trial (answered (0x40 ∷ 0x00 ∷ 0x00 ∷ 0x00 ∷ 0x80 ∷ 0x00 ∷ 0x14 ∷ 0x00 ∷ []))
    (accepted 0x40000000 true 5120)
    -- P2 "length 65,536 at 0x40000000 accepted"
    ∷ trial (answered (0x40 ∷ 0x00 ∷ 0x00 ∷ 0x00 ∷ 0x00 ∷ 0x01 ∷ 0x00 ∷ 0x00 ∷ []))
    (accepted 0x40000000 false 65536)
    -- P3 "65,537: 4"
    ∷ trial (number_after (0x40 ∷ 0x00 ∷ 0x00 ∷ 0x00 ∷ 0x00 ∷ 0x01 ∷ 0x00 ∷ 0x01 ∷ [])) 4
    -- P4 "start 0x4000FFFC length 4 accepted"
    ∷ trial (answered (0x40 ∷ 0x00 ∷ 0xFF ∷ 0xFC ∷ 0x00 ∷ 0x00 ∷ 0x00 ∷ 0x04 ∷ []))
    (accepted 0x4000FFFC false 4)
    -- P5 "length 5: 4"
    ∷ trial (number_after (0x40 ∷ 0x00 ∷ 0xFF ∷ 0xFC ∷ 0x00 ∷ 0x00 ∷ 0x00 ∷ 0x05 ∷ [])) 4
    -- P6 "start 0x40000003 becomes 0x40000000"
    ∷ trial (answered (0x40 ∷ 0x00 ∷ 0x00 ∷ 0x03 ∷ 0x00 ∷ 0x00 ∷ 0x00 ∷ 0x01 ∷ []))
    (accepted 0x40000000 false 1)
    -- P7 "start 0x3FFFFFFF length 1: 4"
    ∷ trial (number_after (0x3F ∷ 0xFF ∷ 0xFF ∷ 0xFF ∷ 0x00 ∷ 0x00 ∷ 0x00 ∷ 0x01 ∷ [])) 4
    -- P8 "length 0 at 0x00000000: 3"
    ∷ trial (number_after (0x00 ∷ 0x00 ∷ 0x00 ∷ 0x00 ∷ 0x00 ∷ 0x00 ∷ 0x00 ∷ 0x00 ∷ [])) 3
    -- P9 "password with half word 0000 in both places: 2"
    ∷ trial (number_opening half_word_0000) 2
    -- P10 "5A only at 0x1C000: 4 places"
    ∷ trial (internal_boot (with_5a 0x1C000))
    (boots Mode.Internal 0x1C000 4)
    -- P11 "none: 6, serial"
    ∷ trial (internal_boot blank)
    (boots (Mode.Serial Entered.FromInternal) 0 6)
    -- P12 "5A as first byte: not good"
    ∷ trial (good_place (0x5A ∷ replicate 7 0) 0) false
    -- "Slips we have seen": half word FFFF in both places; the low address bits dropped before the range test
    ∷ trial (number_opening half_word_ffff) 2
    ∷ trial (answered (0x40 ∷ 0x00 ∷ 0x00 ∷ 0x03 ∷ 0x00 ∷ 0x01 ∷ 0x00 ∷ 0x00 ∷ []))
    (accepted 0x40000000 false 0x10000)
    ∷ []

-- the claim: in every case the rules give what 01 says
abbrev pub Agree : List Case → Type 0
Agree [] = Unit {0}
Agree (c ∷ cases) = (c.given ≡ c.expected) × Agree cases
