-- The closed loop (02, E1): a sender and a head on a clean line. It rests on the calls of the sender (crates/sender/specs/Calls.antt), on the
-- step of the session and the run of a list (crates/session/specs: Rules.antt, Running.antt), and on bytes stored in SRAM
-- (crates/sram/specs/Region.antt).
use Rattle.std.specs.Prelude.{ℕ, zero, suc, ◌-◌, ◌≡◌, List, [], ◌∷◌, ◌++◌, map, Bool, true, false, cond, not, length, take, replicate, Ok, is_ok, Result as OkOrErr}
use Rattle.password.specs.Passing.{legal, passes}
use Rattle.session_configuration.specs.declared.Configuration.{Configuration}
use Rattle.sram.specs.Region.{right_size, stored}
use Rattle.session_state.specs.declared.Jump.{Jump}
use Rattle.session_state.specs.declared.Port.{Port}
use Rattle.session_state.specs.declared.Refusal.{Refusal}
use Rattle.session_state.specs.declared.Session.{Session}
use Rattle.session_state.specs.declared.Stage.{Stage}
use Rattle.session_state.specs.Sound.{sound}
use Rattle.header.specs.Reading.{fits}
use Rattle.session_items.specs.Items.{Item}
use Rattle.session_answers.specs.declared.Answer.{Answer}
use Rattle.session_answers.specs.declared.Echo.{Echo}
use Rattle.session_answers.specs.declared.Outcome.{Outcome}
use Rattle.session_answers.specs.Answers.{Result, no_echo}
use Rattle.session_fresh.specs.Fresh.{fresh_session}
use Rattle.session.specs.Rules.{jump_of, step}
use Rattle.session.specs.Running.{Call, Run, ran}
use Rattle.session_merging.specs.Merging.{picked_port, in_stream, only, stream_of, call_outside}
use Rattle.sender_header.specs.Writing.{header_meant}
use Rattle.sender_load.specs.declared.Sender.{Sender}
use Rattle.sender_load.specs.declared.Sent.{Sent}
use Rattle.sender_load.specs.Items.{load_header, whole_load, sent_at, item_of, along, item_count, items_of, beginning_at, begins_item}
use Rattle.sender_load.specs.Echoes.{echo_due, echoes_of}
use Rattle.sender.specs.declared.Unheard.{Unheard}
use Rattle.sender.specs.declared.Verdict.{Verdict}
use Rattle.sender.specs.Calls.{new_load, idle, load_begun, left_by, Reply, sent_by, asked, told}

-- a turn: what the sender said when asked, and the item; what the head answered; and what the sender said when told
pub record Turn : Type 0 where
  pub given : OkOrErr Sent Unheard
  pub sent : Sent
  pub answer : Answer
  pub said : OkOrErr Verdict Unheard

-- several turns, and the sender, the session and SRAM that the last one leaves
pub record Loop : Type 0 where
  pub turns : List Turn
  pub sender : Sender
  pub session : Session
  pub sram : List ℕ

-- the sender is told what the head echoes, at the port by which they are connected
abbrev pub told_back : Sender → List ℕ → Port → Echo → Reply Verdict
told_back sender image port echo = told sender image port echo.identifier (take echo.length echo.bytes)

abbrev pub then_turns : Turn → Loop → Loop
then_turns turn rest =
    record { turns = turn ∷ rest.turns; sender = rest.sender; session = rest.session; sram = rest.sram }

-- so many turns, each from what the one before it left: the sender is asked, the head gets the item, and the sender is told
unfoldable pub looped : ℕ → Port → List ℕ → Sender → Session → List ℕ → Loop
looped zero port image sender session sram =
    record { turns = []; sender = sender; session = session; sram = sram }
looped (suc count) port image sender session sram =
    let asks : Reply Sent = asked sender image in
    let head : Result = step session sram (item_of (sent_by asks.answer)) in
    let tells : Reply Verdict = told_back asks.sender image port head.answer.echo in
    then_turns
    (record { given = asks.answer; sent = sent_by asks.answer; answer = head.answer; said = tells.answer })
    (looped count port image tells.sender head.session head.sram)

-- the sender's side of several turns: the items that it gave, what it said when told, and the sender that the last one leaves
pub record Side : Type 0 where
  pub sent : List Sent
  pub said : List (OkOrErr Verdict Unheard)
  pub sender : Sender

-- the sender alone, asked and told one echo after another
unfoldable pub hearing : List Echo → Port → List ℕ → Sender → Side
hearing [] port image sender = record { sent = []; said = []; sender = sender }
hearing (echo ∷ echoes) port image sender =
    let asks : Reply Sent = asked sender image in
    let tells : Reply Verdict = told_back asks.sender image port echo in
    let rest : Side = hearing echoes port image tells.sender in
    record { sent = sent_by asks.answer ∷ rest.sent; said = tells.answer ∷ rest.said; sender = rest.sender }

-- one part of each turn, in order
abbrev pub in_turns : {A : Type 0} → (Turn → A) → Loop → List A
in_turns of loop = map of loop.turns

-- one value each time but the last
abbrev pub until_last : {A : Type 0} → ℕ → A → A → List A
until_last count each last = replicate (count - 1) each ++ last ∷ []

-- a session in a stage, with no bytes held
abbrev pub holding_none : Configuration → Stage → Session
holding_none configuration stage = record { configuration = configuration; stage = stage; held = replicate 8 0; count = 0 }

abbrev pub jump_to : Sender → Jump
jump_to sender = jump_of (whole_load sender)

-- A load delivered, in `count` turns: in each the sender gives an item of the load, and the head echoes it; before the last one the head takes
-- every item and the sender says that the load goes on; at the last one the head jumps and the sender says done. Then no load is going, and SRAM
-- is the first one with the image stored at the start.
pub record Delivered
    (configuration : Configuration) (sender : Sender) (image sram : List ℕ) (count : ℕ) (loop : Loop) : Type 0 where
  pub gave : in_turns (λ turn. is_ok turn.given) loop ≡ replicate count true
  pub items : map item_of (in_turns (λ turn. turn.sent) loop) ≡ items_of sender image
  pub echoed : in_turns (λ turn. turn.answer.echo) loop ≡ echoes_of sender image
  pub answered : in_turns (λ turn. turn.answer.outcome) loop
      ≡ until_last count Outcome.Taken (Outcome.Jumps (jump_to sender))
  pub said : in_turns (λ turn. turn.said) loop
      ≡ until_last count (Ok Verdict.GoesOn) (Ok Verdict.Done)
  pub idles : loop.sender ≡ idle
  pub jumped : loop.session ≡ holding_none configuration (Stage.Jumped (jump_to sender))
  pub loaded : loop.sram ≡ stored sram (load_header sender).start.0 image

-- A password that the head refuses, in `count` items: they are sent as they are, and the head echoes them all, so that the load goes on; it
-- ignores the first item of the header, so that the load is abandoned.
pub record TurnedAway
    (configuration : Configuration) (sender : Sender) (image sram : List ℕ) (count : ℕ) (loop : Loop) : Type 0 where
  pub gave : in_turns (λ turn. is_ok turn.given) loop ≡ replicate (suc count) true
  pub items : map item_of (in_turns (λ turn. turn.sent) loop) ≡ take (suc count) (items_of sender image)
  pub answered : in_turns (λ turn. turn.answer.outcome) loop
      ≡ until_last count Outcome.Taken (Outcome.Stops Refusal.Password) ++ Outcome.Ignored ∷ []
  pub echoed : in_turns (λ turn. turn.answer.echo) loop ≡ along (λ at. echo_due at image) count sender ++ no_echo ∷ []
  pub said : in_turns (λ turn. turn.said) loop
      ≡ replicate count (Ok Verdict.GoesOn) ++ Ok Verdict.Abandoned ∷ []
  pub idles : loop.sender ≡ idle
  pub stopped : loop.session ≡ holding_none configuration (Stage.Stopped Refusal.Password)
  pub untouched : loop.sram ≡ sram

abbrev pub password_items : Port → ℕ
password_items Port.Can = 1
password_items Port.Serial = 8

-- The load's items among others, in a list whose stream they are; so no opening of the other port comes before the first of them. The head answers
-- them as in the loop, echoes none of the others, and ends as there; and so does the sender, told what the head echoes to its items.
pub record Amid (port : Port) (image : List ℕ) (sender : Sender) (items : List Item) (loop : Loop) (run : Run) : Type 0 where
  pub same_answers
      : map (λ (call : Call). call.answer) (only (λ (call : Call). in_stream (picked_port items) call.item) run.calls)
      ≡ in_turns (λ turn. turn.answer) loop
  pub others : only (λ (call : Call). not (in_stream (picked_port items) call.item)) run.calls
      ≡ map call_outside (only (λ (item : Item). not (in_stream (picked_port items) item)) items)
  pub same_side
      : hearing
      (map (λ (call : Call). call.answer.echo) (only (λ (call : Call). in_stream (picked_port items) call.item) run.calls))
      port
      image
      sender
      ≡ record { sent = in_turns (λ turn. turn.sent) loop; said = in_turns (λ turn. turn.said) loop; sender = loop.sender }
  pub same_session : run.session ≡ loop.session
  pub same_sram : run.sram ≡ loop.sram

-- a sender begun, and a fresh head, connected for so many turns
abbrev pub connected : Configuration → Port → ℕ → Bool → List ℕ → List ℕ → List ℕ → ℕ → Loop
connected configuration port start vle password image sram count =
    looped count port image (left_by (load_begun port start vle password (length image))) (fresh_session configuration) sram

-- The premise: a password of 8 bytes, a fresh session that is sound, as today every one is, SRAM of the right size, and a header that fits, so an image of
-- 1 to 65,536 bytes.
pub record Line (configuration : Configuration) (start : ℕ) (vle : Bool) (password image sram : List ℕ) : Type 0 where
  pub eight : length password ≡ 8
  pub fine : sound (fresh_session configuration) ≡ true
  pub right : right_size configuration sram ≡ true
  pub fit : fits configuration (header_meant start vle (length image)) ≡ true

-- Where a sender's place stands in the list of its items: one begins there exactly where asking and telling take one to begin, and it is the one
-- that asking gives.
abbrev pub PlaceStands : Sender → List ℕ → Type 0
PlaceStands sender image =
    beginning_at sender.place (items_of sender image) ≡ cond (begins_item sender) (item_of (sent_at sender image) ∷ []) []

-- What `sender_loop::every_load` promises, first of every sender, then of every such head and load.
pub record EveryLoad : Type 0 where
  -- with an image of the length that it was begun with; a password has 8 bytes
  pub stands : (sender : Sender) (image : List ℕ) → length sender.configuration.password ≡ 8 → length image ≡ sender.length
      → PlaceStands sender image
  -- asking again gives the same
  pub asks_again : (sender : Sender) (image : List ℕ) → asked (asked sender image).sender image ≡ asked sender image
  -- beginning gets 0
  pub begins : (configuration : Configuration) (port : Port) (start : ℕ) (vle : Bool) (password image sram : List ℕ)
      → Line configuration start vle password image sram
      → load_begun port start vle password (length image)
      ≡ Ok (new_load port start vle password (length image))
  -- the password that the head selected, and it is legal
  pub delivers : (configuration : Configuration) (port : Port) (start : ℕ) (vle : Bool) (image sram : List ℕ)
      → let password = configuration.password in
      let count = item_count port (length image) in
      Line configuration start vle password image sram
      → legal password ≡ true
      → Delivered configuration (new_load port start vle password (length image)) image sram count
      (connected configuration port start vle password image sram count)
  -- a password that is not legal, or not the one selected
  pub turns_away : (configuration : Configuration) (port : Port) (start : ℕ) (vle : Bool) (password image sram : List ℕ)
      → Line configuration start vle password image sram
      → passes password configuration.password ≡ false
      → TurnedAway configuration (new_load port start vle password (length image)) image sram (password_items port)
      (connected configuration port start vle password image sram (suc (password_items port)))
  -- other items between those of the load: of the other port, or refused for their form
  pub among_others : (configuration : Configuration) (port : Port) (start : ℕ) (vle : Bool) (image sram : List ℕ) (items : List Item)
      → let password = configuration.password in
      let count = item_count port (length image) in
      Line configuration start vle password image sram
      → legal password ≡ true
      → stream_of items ≡ items_of (new_load port start vle password (length image)) image
      → Amid port image (left_by (load_begun port start vle password (length image))) items
      (connected configuration port start vle password image sram count)
      (ran (fresh_session configuration) sram items)
