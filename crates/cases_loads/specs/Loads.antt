-- Loads as a truck sends them (02, E1): the items of one by each port, written out; the numbers of beginning; where items begin; and what
-- asking and telling say.
use Rattle.std.specs.Prelude.{ℕ, List, [], ◌∷◌, ◌++◌, map, Bool, true, false, take, Result, Ok}
use Rattle.boot_table.specs.Table.{public_password}
use Rattle.session_state.specs.declared.Port.{Port}
use Rattle.session_items.specs.declared.Source.{Source}
use Rattle.session_items.specs.Items.{Item}
use Rattle.session_answers.specs.declared.Echo.{Echo}
use Rattle.sender_load.specs.declared.Sender.{Sender}
use Rattle.sender_load.specs.Items.{sent_at, item_of, standing, along, items_of, beginning_at, sound_load}
use Rattle.sender_load.specs.Echoes.{echoes_of}
use Rattle.sender.specs.declared.Unheard.{Unheard}
use Rattle.sender.specs.declared.Verdict.{Verdict}
use Rattle.sender.specs.Calls.{begun_number, asked_number, told_number, new_load, idle, load_begun, left_by, sent_by, asked, told}
use Rattle.cases_rules.specs.Trials.{Case, trial}

-- 11 bytes at 0x40000003, VLE: the header has the start as given
abbrev image : List ℕ
image = 0x01 ∷ 0x02 ∷ 0x03 ∷ 0x04 ∷ 0x05 ∷ 0x06 ∷ 0x07 ∷ 0x08 ∷ 0x09 ∷ 0x0A ∷ 0x0B ∷ []

abbrev header : List ℕ
header = 0x40 ∷ 0x00 ∷ 0x00 ∷ 0x03 ∷ 0x80 ∷ 0x00 ∷ 0x00 ∷ 0x0B ∷ []

abbrev load : Port → Sender
load port = new_load port 0x40000003 true public_password 11

-- by CAN, and by serial
abbrev frames : List Item
frames =
    Item.Of (Source.Can 0x011) public_password
    ∷ Item.Of (Source.Can 0x012) header
    ∷ Item.Of (Source.Can 0x013) (take 8 image)
    ∷ Item.Of (Source.Can 0x013) (0x09 ∷ 0x0A ∷ 0x0B ∷ [])
    ∷ []

abbrev bytes : List Item
bytes = map (λ (byte : ℕ). Item.Of (Source.Serial 0) (byte ∷ [])) (public_password ++ header ++ image)

-- the items at so many places
abbrev walked : Port → ℕ → List Item
walked port count = map item_of (along (λ at. sent_at at image) count (load port))

-- an echo: its identifier, and its bytes
abbrev echoed : Echo → List ℕ
echoed echo = echo.identifier ∷ take echo.length echo.bytes

-- the number of beginning, with an image of so many bytes
abbrev number_for : ℕ → ℕ → ℕ
number_for start length = begun_number (load_begun Port.Can start false public_password length)

-- whether the load is sound at a place; and the load there with its item out
abbrev sound_at : Port → ℕ → Bool
sound_at port place = sound_load (standing (load port) place false) image

abbrev out_at : Port → ℕ → Sender
out_at port place = standing (load port) place true

-- a load that is refusable
abbrev refusable : Sender
refusable = standing (new_load Port.Can 0x3FFFFFFC true public_password 11) 0 true

-- the numbers of asking, and of telling the echo of the password
abbrev number_asked : Sender → List ℕ → ℕ
number_asked sender given = asked_number (asked sender given).answer

abbrev number_told : Sender → List ℕ → ℕ
number_told sender given = told_number (told sender given Port.Can 0x001 public_password).answer

-- what is said of an echo heard by CAN, and by serial
abbrev said_by_can : ℕ → ℕ → List ℕ → Result Verdict Unheard
said_by_can place identifier heard = (told (out_at Port.Can place) image Port.Can identifier heard).answer

abbrev said_by_serial : ℕ → List ℕ → Result Verdict Unheard
said_by_serial place heard = (told (out_at Port.Serial place) image Port.Serial 0 heard).answer

abbrev goes_on : Result Verdict Unheard
goes_on = Ok Verdict.GoesOn

abbrev abandoned : Result Verdict Unheard
abandoned = Ok Verdict.Abandoned

unfoldable pub load_table : List Case
load_table =
    trial (items_of (load Port.Can) image) frames
    ∷ trial (items_of (load Port.Serial) image) bytes
    ∷ trial (walked Port.Can 4) frames
    ∷ trial (walked Port.Serial 27) bytes
    ∷ trial (map echoed (echoes_of (load Port.Can) image))
    ((0x001 ∷ public_password)
    ∷ (0x002 ∷ header)
    ∷ (0x003 ∷ take 8 image)
    ∷ (0x003 ∷ 0x09 ∷ 0x0A ∷ 0x0B ∷ [])
    ∷ [])
    ∷ trial (map echoed (echoes_of (load Port.Serial) image)) (map (λ (byte : ℕ). 0 ∷ byte ∷ []) (public_password ++ header ++ image))
    -- the edges of SRAM, and lengths for which the header has no place
    ∷ trial (map (number_for 0x40000000) (0 ∷ 1 ∷ 65536 ∷ 65537 ∷ 0x80000000 ∷ 0x1_0000_0000 ∷ [])) (3 ∷ 0 ∷ 0 ∷ 4 ∷ 4 ∷ 4 ∷ [])
    ∷ trial (map (number_for 0x4000FFFF) (4 ∷ 5 ∷ [])) (0 ∷ 4 ∷ [])
    ∷ trial (map (number_for 0x3FFFFFFF) (0 ∷ 1 ∷ [])) (3 ∷ 4 ∷ [])
    ∷ trial (left_by (load_begun Port.Can 0x40000000 false public_password 0)) idle
    ∷ trial (left_by (load_begun Port.Can 0x40000003 true public_password 11)) (load Port.Can)
    -- where items begin; the image ends at place 27
    ∷ trial (map (λ place. beginning_at place frames) (4 ∷ 24 ∷ 26 ∷ 27 ∷ 32 ∷ []))
    ([] ∷ (Item.Of (Source.Can 0x013) (0x09 ∷ 0x0A ∷ 0x0B ∷ []) ∷ []) ∷ [] ∷ [] ∷ [] ∷ [])
    ∷ trial (map (sound_at Port.Can) (0 ∷ 4 ∷ 8 ∷ 16 ∷ 24 ∷ 26 ∷ 32 ∷ [])) (true ∷ false ∷ true ∷ true ∷ true ∷ false ∷ false ∷ [])
    ∷ trial (map (sound_at Port.Serial) (0 ∷ 4 ∷ 26 ∷ 27 ∷ [])) (true ∷ true ∷ true ∷ false ∷ [])
    -- and no item behind a last frame of 8 bytes
    ∷ trial (number_asked (standing (new_load Port.Can 0x40000000 true public_password 8) 24 false) (take 8 image)) 8
    -- asking: the item, which is out then; and with no load going, at a place where no item begins, with an image of another length, and for
    -- a load that is refusable
    ∷ trial (number_asked (load Port.Can) image) 0
    ∷ trial (item_of (sent_by (asked (load Port.Serial) image).answer)) (Item.Of (Source.Serial 0) (0xFE ∷ []))
    ∷ trial (asked (load Port.Serial) image).sender (out_at Port.Serial 0)
    ∷ trial (number_asked idle image) 1
    ∷ trial (number_asked (out_at Port.Can 4) image) 8
    ∷ trial (number_asked (load Port.Can) (take 10 image)) 8
    ∷ trial (number_asked refusable image) 8
    -- telling, likewise; and with no item out, but 8 comes first
    ∷ trial (number_told (out_at Port.Can 0) image) 0
    ∷ trial (number_told idle image) 1
    ∷ trial (number_told (out_at Port.Can 4) image) 8
    ∷ trial (number_told (out_at Port.Can 0) (take 10 image)) 8
    ∷ trial (number_told refusable image) 8
    ∷ trial (number_told (load Port.Can) image) 1
    ∷ trial (number_told (load Port.Can) (take 10 image)) 8
    -- the echo that is due, and others: another identifier, byte or length, none, that of the other port
    ∷ trial (said_by_can 24 0x003 (0x09 ∷ 0x0A ∷ 0x0B ∷ [])) (Ok Verdict.Done)
    ∷ trial (said_by_can 8 0x002 header) goes_on
    ∷ trial (said_by_can 8 0x001 header) abandoned
    ∷ trial (said_by_can 16 0x803 (take 8 image)) abandoned
    ∷ trial (said_by_can 16 0x003 header) abandoned
    ∷ trial (said_by_can 24 0x003 (0x09 ∷ 0x0A ∷ 0x0C ∷ [])) abandoned
    ∷ trial (said_by_can 16 0x003 (take 7 image)) abandoned
    ∷ trial (said_by_can 16 0x003 image) abandoned
    ∷ trial (said_by_can 0 0 []) abandoned
    ∷ trial (told (out_at Port.Can 8) image Port.Serial 0x002 header).answer abandoned
    ∷ trial (said_by_serial 0 (0xFE ∷ [])) goes_on
    ∷ trial (said_by_serial 0 (0xFA ∷ [])) abandoned
    ∷ trial (said_by_serial 0 []) abandoned
    ∷ trial (said_by_serial 0 (0xFE ∷ 0xED ∷ [])) abandoned
    ∷ trial (said_by_serial 26 (0x0B ∷ [])) (Ok Verdict.Done)
    ∷ trial (told (out_at Port.Serial 0) image Port.Can 0 (0xFE ∷ [])).answer abandoned
    -- an image of 8 bytes ends with its one frame
    ∷ trial
    (told (standing (new_load Port.Can 0x40000000 false public_password 8) 16 true) (take 8 image) Port.Can 0x003 (take 8 image)).answer
    (Ok Verdict.Done)
    -- after an echo the next item has not been asked for; after done and abandoned no load is going
    ∷ trial (told (out_at Port.Can 0) image Port.Can 0x001 public_password).sender (standing (load Port.Can) 8 false)
    ∷ trial (told (out_at Port.Can 24) image Port.Can 0x003 (0x09 ∷ 0x0A ∷ 0x0B ∷ [])).sender idle
    ∷ trial (told (out_at Port.Can 24) image Port.Can 0x003 []).sender idle
    ∷ []
