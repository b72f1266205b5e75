-- Senders and the items that they give as bytes and numbers, in the order of include/boot_assist.h.
use Rattle.std.specs.Prelude.{ℕ, ◌≡◌, List, [], ◌∷◌, Bool, cond, not, eqb}
use Rattle.octets.specs.Read.{first_eight}
use Rattle.session_state.specs.declared.Port.{Port}
use Rattle.session_items.specs.declared.Source.{Source}
use Rattle.session_items.specs.Items.{port_from}
use Rattle.c_answer.specs.Writing.{Flat, as_flat, room_for, bit}
use Rattle.c_session.specs.Writing.{port_number}
use Rattle.c_session.specs.Reading.{number_at}
use Rattle.sender_load.specs.declared.Sender.{Sender}
use Rattle.sender_load.specs.declared.Sent.{Sent}
use Rattle.sender.specs.declared.Verdict.{Verdict}
use Rattle.sender.specs.Calls.{head_with}

-- a sender is 8 bytes and 7 numbers
abbrev pub sender_places : Flat → Bool
sender_places given = room_for 8 7 given

-- its numbers; its bytes are those of the password
abbrev pub sender_numbers : Sender → List ℕ
sender_numbers sender =
    bit sender.going
    ∷ port_number sender.port
    ∷ sender.start
    ∷ bit sender.vle
    ∷ sender.length
    ∷ sender.place
    ∷ bit sender.out
    ∷ []

abbrev pub sender_flat : Sender → Flat
sender_flat sender = as_flat sender.configuration.password (sender_numbers sender)

-- and back: all bytes and numbers are read as a sender. A flag is set unless its number is 0, and the port is serial unless its number is 0.
abbrev pub flag_of : ℕ → Bool
flag_of number = not (eqb number 0)

abbrev pub port_for : ℕ → Port
port_for number = cond (eqb number 0) Port.Can Port.Serial

abbrev pub sender_read : Flat → Sender
sender_read given =
    record {
      going = flag_of (number_at given.numbers 0);
      configuration = head_with (first_eight given.bytes);
      port = port_for (number_at given.numbers 1);
      start = number_at given.numbers 2;
      vle = flag_of (number_at given.numbers 3);
      length = number_at given.numbers 4;
      place = number_at given.numbers 5;
      out = flag_of (number_at given.numbers 6);
    }

-- what `c_load::put_sender` promises of the bytes and numbers r that it leaves: they are the sender's, and every call reads them as the sender,
-- if its configuration is what beginning makes of its password
pub record SenderEncoding (sender : Sender) (r : Flat) : Type 0 where
  pub equation : r ≡ sender_flat sender
  pub reads_back : sender.configuration ≡ head_with sender.configuration.password → sender_read r ≡ sender

-- an item is 8 bytes and 3 numbers
abbrev pub item_places : Flat → Bool
item_places given = room_for 8 3 given

-- its numbers: its port, its identifier, which only CAN has, and how many of the bytes are its own
abbrev pub identifier_of : Source → ℕ
identifier_of (Source.Can identifier) = identifier
identifier_of (Source.Serial mark) = 0

abbrev pub item_numbers : Sent → List ℕ
item_numbers sent = port_number (port_from sent.source) ∷ identifier_of sent.source ∷ sent.length ∷ []

abbrev pub item_flat : Sent → Flat
item_flat sent = as_flat sent.bytes (item_numbers sent)

-- the number of what becomes of a load
abbrev pub verdict_number : Verdict → ℕ
verdict_number Verdict.GoesOn = 0
verdict_number Verdict.Done = 1
verdict_number Verdict.Abandoned = 2
