-- The items of a load that is being sent (02, E1; 002, sections 5 to 7): the password, the header and the image, by CAN in frames of 8 bytes, of
-- which the last may be shorter, and by serial byte by byte.
use Rattle.std.specs.Prelude.{ℕ, zero, suc, ◌+◌, ◌-◌, ◌/◌, ◌%◌, List, [], ◌∷◌, ◌++◌, map, Bool, true, false, cond, ◌&&◌, leb, ltb, eqb, length, take, drop, replicate}
use Rattle.buffers.specs.Write.{over}
use Rattle.session_state.specs.declared.Load.{Load}
use Rattle.session_state.specs.declared.Port.{Port}
use Rattle.header.specs.declared.Header.{Header}
use Rattle.header.specs.Reading.{fits}
use Rattle.session_items.specs.declared.Role.{Role}
use Rattle.session_items.specs.declared.Source.{Source}
use Rattle.session_items.specs.Items.{Item, bytes_of}
use Rattle.sender_header.specs.Writing.{header_written, header_meant}
use Rattle.sender_load.specs.declared.Sender.{Sender}
use Rattle.sender_load.specs.declared.Sent.{Sent}

-- how many bytes an item has, but for the last one
abbrev pub width : Port → ℕ
width Port.Can = 8
width Port.Serial = 1

-- what the load announces to the head
abbrev pub load_header : Sender → Header
load_header sender = header_meant sender.start sender.vle sender.length

-- the load as the head has it with nothing stored yet
abbrev pub whole_load : Sender → Load
whole_load sender =
    record {
      start = (load_header sender).start;
      vle = sender.vle;
      next = (load_header sender).start.0;
      owed = sender.length;
    }

-- A place is how many bytes of password, header and image come before it. The item there is password below place 8, header below place 16, and
-- data from there on. The load in that role is never looked at here.
abbrev pub role_at : Sender → Role
role_at sender =
    cond (ltb sender.place 8) Role.Password
    (cond (ltb sender.place 16) Role.Header
    (Role.Data (whole_load sender)))

-- the bytes that are sent in a role, and the place of the first of them
abbrev pub sent_as : Role → Sender → List ℕ → List ℕ
sent_as Role.Password sender image = sender.configuration.password
sent_as Role.Header sender image =
    header_written sender.configuration sender.start sender.vle sender.length
sent_as (Role.Data load) sender image = image

abbrev pub first_place : Role → ℕ
first_place Role.Password = 0
first_place Role.Header = 8
first_place (Role.Data load) = 16

-- the bytes of the item at the load's place
unfoldable pub part : Role → Sender → List ℕ → List ℕ
part role sender image =
    take (width sender.port) (drop (sender.place - first_place role) (sent_as role sender image))

-- CAN has the password under 0x011, the header under 0x012 and the data under 0x013; serial bytes are sent clean
abbrev pub identifier_for : Role → ℕ
identifier_for Role.Password = 0x011
identifier_for Role.Header = 0x012
identifier_for (Role.Data load) = 0x013

abbrev pub source_by : Port → ℕ → Source
source_by Port.Can identifier = Source.Can identifier
source_by Port.Serial identifier = Source.Serial 0

-- an item with these bytes; the item at the load's place; and an item as the head gets it
abbrev pub sent_from : Source → List ℕ → Sent
sent_from source bytes = record { source = source; length = length bytes; bytes = over bytes (replicate 8 0) }

abbrev pub sent_at : Sender → List ℕ → Sent
sent_at sender image =
    sent_from (source_by sender.port (identifier_for (role_at sender))) (part (role_at sender) sender image)

abbrev pub item_of : Sent → Item
item_of sent = Item.Of sent.source (take sent.length sent.bytes)

-- the load at a place, with its item out or not; and at the next place, where no item is out yet
abbrev pub standing : Sender → ℕ → Bool → Sender
standing sender place out =
    record {
      going = sender.going;
      configuration = sender.configuration;
      port = sender.port;
      start = sender.start;
      vle = sender.vle;
      length = sender.length;
      place = place;
      out = out;
    }

abbrev pub next_place : Sender → Sender
next_place sender = standing sender (sender.place + width sender.port) false

-- `of` at the sender's place and at those after it, `count` in all
unfoldable pub along : {A : Type 0} → (Sender → A) → ℕ → Sender → List A
along of zero sender = []
along of (suc count) sender = of sender ∷ along of count (next_place sender)

-- how many items a load has: those of the password and of the header, and those of an image of so many bytes
abbrev pub item_count : Port → ℕ → ℕ
item_count Port.Can bytes = 2 + (bytes + 7) / 8
item_count Port.Serial bytes = 16 + bytes

-- bytes cut into `count` pieces of one size, of which the last may be shorter
unfoldable pub pieces : ℕ → ℕ → List ℕ → List (List ℕ)
pieces zero size bytes = []
pieces (suc count) size bytes = take size bytes ∷ pieces count size (drop size bytes)

-- The items of a load as one list: by CAN a frame with the password, one with the header and one for each 8 bytes of the image; by serial a
-- byte each.
abbrev pub load_items : Port → List ℕ → List ℕ → List ℕ → List Item
load_items Port.Can password header image =
    Item.Of (Source.Can 0x011) password
    ∷ Item.Of (Source.Can 0x012) header
    ∷ map (λ bytes. Item.Of (Source.Can 0x013) bytes) (pieces ((length image + 7) / 8) 8 image)
load_items Port.Serial password header image =
    map (λ byte. Item.Of (Source.Serial 0) (byte ∷ [])) (password ++ header ++ image)

abbrev pub items_of : Sender → List ℕ → List Item
items_of sender image =
    load_items sender.port (sent_as Role.Password sender image) (sent_as Role.Header sender image) image

-- Where in such a list a place stands: the item that begins behind so many bytes, as a list of one, or of none where no item begins there.
unfoldable pub beginning_at : ℕ → List Item → List Item
beginning_at place [] = []
beginning_at place (item ∷ items) =
    cond (eqb place 0) (item ∷ [])
    (cond (leb (length (bytes_of item)) place) (beginning_at (place - length (bytes_of item)) items) [])

-- An item begins at the load's place: by CAN at every 8th byte, by serial at every byte, and none at the end or past it.
abbrev pub at_item : Port → ℕ → Bool
at_item Port.Can place = eqb (place % 8) 0
at_item Port.Serial place = true

abbrev pub begins_item : Sender → Bool
begins_item sender = at_item sender.port sender.place && ltb sender.place (16 + sender.length)

-- number 8 unless: neither 3 nor 4 is due for the load's own start and length, an item of it begins at its place, and the image has the
-- length that it was begun with
unfoldable pub sound_load : Sender → List ℕ → Bool
sound_load sender image =
    fits sender.configuration (load_header sender) && begins_item sender && eqb (length image) sender.length
