-- Captures and their texts: 01's own ("The truck's capture file"), and others for its other sentences about the text.
use Rattle.std.specs.Prelude.{ℕ, List, [], ◌∷◌, ◌++◌, replicate}
use Rattle.replay_lines.specs.Digits.{ascii}
use Rattle.replay_record.specs.Beginning.{beginning}
use Rattle.replay_window.specs.Printing.{text_from}
use Rattle.cases_rules.specs.Trials.{Case, trial}

abbrev text_of : List ℕ → List ℕ
text_of capture = text_from beginning capture

-- a CAN record with 8 data bytes
abbrev frame_of_8 : ℕ → List ℕ → List ℕ
frame_of_8 identifier bytes = 0x00 ∷ 0x0C ∷ 0x01 ∷ 0x01 ∷ 0x00 ∷ identifier ∷ bytes

-- the public password, a header for 1 byte at 0x40000000, and that byte
abbrev opened : List ℕ
opened = frame_of_8 0x11 (0xFE ∷ 0xED ∷ 0xFA ∷ 0xCE ∷ 0xCA ∷ 0xFE ∷ 0xBE ∷ 0xEF ∷ [])

abbrev announced : List ℕ
announced = opened ++ frame_of_8 0x12 (0x40 ∷ 0x00 ∷ 0x00 ∷ 0x00 ∷ 0x00 ∷ 0x00 ∷ 0x00 ∷ 0x01 ∷ [])

-- a serial byte of a kind
abbrev serial : ℕ → ℕ → List ℕ
serial kind byte = 0x00 ∷ 0x03 ∷ 0x01 ∷ kind ∷ byte ∷ []

-- a reset
abbrev reset : List ℕ
reset = 0x00 ∷ 0x02 ∷ 0x01 ∷ 0x04 ∷ []

abbrev loaded : List ℕ
loaded = announced ++ 0x00 ∷ 0x05 ∷ 0x01 ∷ 0x01 ∷ 0x00 ∷ 0x13 ∷ 0xA5 ∷ []

unfoldable pub sample_table : List Case
sample_table =
    -- "Capture 00 03 01 02 FE 00 06 01 01 00 12 AA BB gives exactly, each line with a line feed"
    trial (text_of (0x00 ∷ 0x03 ∷ 0x01 ∷ 0x02 ∷ 0xFE ∷ 0x00 ∷ 0x06 ∷ 0x01 ∷ 0x01 ∷ 0x00 ∷ 0x12 ∷ 0xAA ∷ 0xBB ∷ []))
    (ascii "1 0 FE\n2 1 -\nend password\n")
    -- "An empty capture gives "end waiting" alone."
    ∷ trial (text_of []) (ascii "end waiting\n")
    -- "Reset prints 0 and "-"."
    ∷ trial (text_of reset) (ascii "1 0 -\nend waiting\n")
    -- "A reset is a new boot choice": a session that a wrong password stopped opens again, and stops at a header of length 0
    ∷ trial (text_of (frame_of_8 0x11 (replicate 8 0x11) ++ reset ++ opened ++ frame_of_8 0x12 (replicate 8 0)))
    (ascii "1 2 1111111111111111\n2 0 -\n3 0 FEEDFACECAFEBEEF\n4 3 0000000000000000\nend stopped 3\n")
    -- "Kind 2 a clean, kind 3 a faulty serial byte": a faulty one before the opening, and one behind it (02, E2); and a record that is cut
    ∷ trial (text_of (serial 3 0xFE ++ serial 2 0xFE ++ serial 3 0xED ++ serial 2 0xED ++ 0x00 ∷ 0x03 ∷ 0x01 ∷ 0x02 ∷ []))
    (ascii "1 1 -\n2 0 FE\n3 12 -\n4 1 -\n5 10 -\nend stopped 12\n")
    -- "A 10 prints its line with "-" and ends the reading.": here for identifier 2,048, with a reset behind it
    ∷ trial (text_of (0x00 ∷ 0x04 ∷ 0x01 ∷ 0x01 ∷ 0x08 ∷ 0x00 ∷ 0x00 ∷ 0x02 ∷ 0x01 ∷ 0x04 ∷ []))
    (ascii "1 10 -\nend waiting\n")
    -- "Last line: .. end header, end data, end stopped N, or end jump and 8 hex digits."
    ∷ trial (text_of opened) (ascii "1 0 FEEDFACECAFEBEEF\nend header\n")
    ∷ trial (text_of announced) (ascii "1 0 FEEDFACECAFEBEEF\n2 0 4000000000000001\nend data\n")
    ∷ trial (text_of loaded) (ascii "1 0 FEEDFACECAFEBEEF\n2 0 4000000000000001\n3 5 A5\nend jump 40000000\n")
    ∷ trial (text_of (frame_of_8 0x11 (replicate 8 0))) (ascii "1 2 0000000000000000\nend stopped 2\n")
    ∷ []
