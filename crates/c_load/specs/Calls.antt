-- The calls of a sender as C sees them (include/boot_assist.h): senders and items are bytes and numbers, and memory is lent.
use Rattle.std.specs.Prelude.{ℕ, List, cond, ◌&&◌, eqb, leb, length, Result, Ok, Err}
use Rattle.octets.specs.Read.{first_eight}
use Rattle.session_state.specs.declared.Refusal.{Refusal}
use Rattle.sender_load.specs.declared.Sender.{Sender}
use Rattle.sender_load.specs.declared.Sent.{Sent}
use Rattle.sender.specs.declared.Unheard.{Unheard}
use Rattle.sender.specs.declared.Verdict.{Verdict}
use Rattle.sender.specs.Calls.{begun_number, asked_number, told_number, idle, load_begun, left_by, Reply, asked, told}
use Rattle.c_answer.specs.Writing.{Flat}
use Rattle.c_sender.specs.Numbers.{sender_places, sender_flat, flag_of, port_for, sender_read, item_places, item_flat, verdict_number}

-- beginning: its number, and the sender as it leaves it
pub record BeginReply : Type 0 where
  pub number : ℕ
  pub sender : Flat

abbrev pub as_begin_reply : ℕ → Flat → BeginReply
as_begin_reply number sender = record { number = number; sender = sender }

abbrev pub begin_leaves : Result Sender Refusal → BeginReply
begin_leaves begun = as_begin_reply (begun_number begun) (sender_flat (left_by begun))

-- 9 for a sender of another length; 9 for a number that is no port's and a password of another length than 8, which leave no load going
unfoldable pub reply_to_begin : ℕ → ℕ → ℕ → List ℕ → List ℕ → Flat → BeginReply
reply_to_begin port start vle password image sender =
    cond (sender_places sender)
    (cond (leb port 1 && eqb (length password) 8)
    (begin_leaves (load_begun (port_for port) start (flag_of vle) (first_eight password) (length image)))
    (as_begin_reply 9 (sender_flat idle)))
    (as_begin_reply 9 sender)

-- asking: its number, and the sender and the item as it leaves them
pub record AskReply : Type 0 where
  pub number : ℕ
  pub sender : Flat
  pub item : Flat

abbrev pub as_ask_reply : ℕ → Flat → Flat → AskReply
as_ask_reply number sender item = record { number = number; sender = sender; item = item }

-- what is given is written, unless the item is of another length; otherwise nothing is
abbrev pub given_leaves : Result Sent Unheard → Sender → Flat → Flat → AskReply
given_leaves (Ok sent) next sender item =
    cond (item_places item) (as_ask_reply 0 (sender_flat next) (item_flat sent)) (as_ask_reply 9 sender item)
given_leaves (Err unheard) next sender item = as_ask_reply (asked_number (Err unheard)) sender item

abbrev pub ask_leaves : Reply Sent → Flat → Flat → AskReply
ask_leaves reply sender item = given_leaves reply.answer reply.sender sender item

-- 8 for a sender of another length
unfoldable pub reply_to_ask : Flat → List ℕ → Flat → AskReply
reply_to_ask sender image item =
    cond (sender_places sender) (ask_leaves (asked (sender_read sender) image) sender item) (as_ask_reply 8 sender item)

-- telling: its number, and the sender and the verdict's number as it leaves them
pub record TellReply : Type 0 where
  pub number : ℕ
  pub sender : Flat
  pub verdict : ℕ

abbrev pub as_tell_reply : ℕ → Flat → ℕ → TellReply
as_tell_reply number sender verdict = record { number = number; sender = sender; verdict = verdict }

-- a verdict is written, unless the number is no port's; otherwise nothing is
abbrev pub tell_leaves : Result Verdict Unheard → Sender → ℕ → Flat → ℕ → TellReply
tell_leaves (Ok verdict) next port sender before =
    cond (leb port 1) (as_tell_reply 0 (sender_flat next) (verdict_number verdict)) (as_tell_reply 9 sender before)
tell_leaves (Err unheard) next port sender before = as_tell_reply (told_number (Err unheard)) sender before

abbrev pub tell_result_leaves : Reply Verdict → ℕ → Flat → ℕ → TellReply
tell_result_leaves reply port sender before = tell_leaves reply.answer reply.sender port sender before

-- 8 for a sender of another length
unfoldable pub reply_to_tell : Flat → List ℕ → ℕ → ℕ → List ℕ → ℕ → TellReply
reply_to_tell sender image port identifier bytes before =
    cond (sender_places sender)
    (tell_result_leaves (told (sender_read sender) image (port_for port) identifier bytes) port sender before)
    (as_tell_reply 8 sender before)
