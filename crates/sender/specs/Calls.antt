-- The truck's side (02, E1): a load is begun, its items are asked for, and the echoes told.
use Rattle.std.specs.Prelude.{ℕ, ◌+◌, List, [], Bool, true, false, cond, leb, replicate, ⊤, Result, Ok, Err}
use Rattle.std.specs.Result.{result_unwrap_or}
use Rattle.session_configuration.specs.declared.Configuration.{Configuration}
use Rattle.session_configuration.specs.declared.Entered.{Entered}
use Rattle.session_state.specs.declared.Port.{Port}
use Rattle.session_state.specs.declared.Refusal.{Refusal}
use Rattle.header.specs.declared.Header.{Header}
use Rattle.header.specs.Reading.{validated}
use Rattle.session_items.specs.declared.Source.{Source}
use Rattle.session_answers.specs.Answers.{refusal_number}
use Rattle.sender_header.specs.Writing.{header_meant}
use Rattle.sender_echo.specs.Hearing.{is_echo}
use Rattle.sender_load.specs.declared.Sender.{Sender}
use Rattle.sender_load.specs.declared.Sent.{Sent}
use Rattle.sender_load.specs.Items.{width, sent_from, sent_at, standing, next_place, sound_load}
use Rattle.sender_load.specs.Echoes.{echo_due}
use Rattle.sender.specs.declared.Unheard.{Unheard}
use Rattle.sender.specs.declared.Verdict.{Verdict}

-- The numbers. Beginning: 0, or the number with which the head would answer the header, 3 or 4.
abbrev pub begun_number : {A : Type 0} → Result A Refusal → ℕ
begun_number (Ok begun) = 0
begun_number (Err refusal) = refusal_number refusal

-- asking and telling: 0, or 1 where there is nothing to do, or 8 for a load that is not sound
abbrev pub unheard_number : Unheard → ℕ
unheard_number Unheard.Ignored = 1
unheard_number Unheard.Unsound = 8

abbrev pub answer_number : {A : Type 0} → Result A Unheard → ℕ
answer_number (Ok given) = 0
answer_number (Err unheard) = unheard_number unheard

-- asking: 1 with no load going
abbrev pub asked_number : Result Sent Unheard → ℕ
asked_number answer = answer_number answer

-- telling: 1 with no item out
abbrev pub told_number : Result Verdict Unheard → ℕ
told_number answer = answer_number answer

-- Beginning. A load keeps its head's configuration as far as the truck knows it: the password that is sent. How serial boot was entered has no
-- part in it.
abbrev pub head_with : List ℕ → Configuration
head_with password = record { password = password; entered = Entered.Directly }

-- a load of which nothing is sent yet
abbrev pub new_load : Port → ℕ → Bool → List ℕ → ℕ → Sender
new_load port start vle password length =
    record {
      going = true;
      configuration = head_with password;
      port = port;
      start = start;
      vle = vle;
      length = length;
      place = 0;
      out = false;
    }

-- no load is going
abbrev pub idle : Sender
idle =
    record {
      going = false;
      configuration = head_with (replicate 8 0);
      port = Port.Can;
      start = 0;
      vle = false;
      length = 0;
      place = 0;
      out = false;
    }

-- a load that the head would answer with 3 or 4 is not begun; of the image only the length matters
abbrev pub begun_if : Result Header Refusal → Sender → Result Sender Refusal
begun_if (Err refusal) sender = Err refusal
begun_if (Ok header) sender = Ok sender

unfoldable pub load_begun : Port → ℕ → Bool → List ℕ → ℕ → Result Sender Refusal
load_begun port start vle password length =
    begun_if (validated (head_with password) (header_meant start vle length)) (new_load port start vle password length)

-- the sender that beginning leaves: where a load is refused none is going
abbrev pub left_by : Result Sender Refusal → Sender
left_by begun = result_unwrap_or begun idle

-- what asking or telling says, and the sender after it
pub record Reply (A : Type 0) : Type 0 where
  pub answer : Result A Unheard
  pub sender : Sender

abbrev pub as_reply : {A : Type 0} → Result A Unheard → Sender → Reply A
as_reply answer sender = record { answer = answer; sender = sender }

-- The load and the image are looked at first: 1 with no load going, 8 for a load that is not sound.
unfoldable pub heeded : Sender → List ℕ → Result ⊤ Unheard
heeded sender image = cond sender.going (cond (sound_load sender image) (Ok tt) (Err Unheard.Unsound)) (Err Unheard.Ignored)

-- with 1 or 8 nothing is given, and the sender is as it was
abbrev pub gives_none : {A : Type 0} → Unheard → Sender → Reply A
gives_none unheard sender = as_reply (Err unheard) sender

abbrev pub if_heeded : {A : Type 0} → Result ⊤ Unheard → Sender → Reply A → Reply A
if_heeded (Ok heard) sender reply = reply
if_heeded (Err unheard) sender reply = gives_none unheard sender

-- Asking gives the item at the load's place, which is out then; asking again gives the same. Where none is given, what is sent has length 0.
abbrev pub no_item : Sent
no_item = sent_from (Source.Can 0) []

abbrev pub sent_by : Result Sent Unheard → Sent
sent_by answer = result_unwrap_or answer no_item

abbrev pub gives : Sender → List ℕ → Reply Sent
gives sender image = as_reply (Ok (sent_at sender image)) (standing sender sender.place true)

unfoldable pub asked : Sender → List ℕ → Reply Sent
asked sender image = if_heeded (heeded sender image) sender (gives sender image)

-- Telling. The echo of the last item ends the load, that of another moves it on to the next item, and any other echo abandons it.
abbrev pub tells : Result Verdict Unheard → Sender → Reply Verdict
tells answer sender = as_reply answer sender

abbrev pub is_last : Sender → Bool
is_last sender = leb (16 + sender.length) (sender.place + width sender.port)

abbrev pub echo_told : Bool → Sender → Reply Verdict
echo_told right sender =
    cond right
    (cond (is_last sender) (tells (Ok Verdict.Done) idle) (tells (Ok Verdict.GoesOn) (next_place sender)))
    (tells (Ok Verdict.Abandoned) idle)

-- 8 comes before 1 with no item out
unfoldable pub told : Sender → List ℕ → Port → ℕ → List ℕ → Reply Verdict
told sender image port identifier bytes =
    if_heeded (heeded sender image) sender
    (cond sender.out
    (echo_told (is_echo sender.port (echo_due sender image) port identifier bytes) sender)
    (gives_none Unheard.Ignored sender))
