-- The head along a load: where it stands before the item at each place, and what it makes of that item.
use Prim.Native.Nat.{ℕ, zero, suc, ◌+◌, ◌-◌, ◌≤◌, ◌<◌, min}
use native.Mathlib.Nat.{add-zero, sub-zero}
use native.Mathlib.Omega.{arith}
use mathlib.Core.Path.{◌≡◌, refl, sym, ap, ◌∙◌}
use mathlib.Core.List.{List}
use mathlib.Core.Bool.{true, false, cond}
use borrow.Author.Tests.{lt-ltb, le-ltb, le-leb, eq-eqb, ne_eqb}
use lib.Dec.{ltb, eqb}
use lib.ListN.{length, take, drop, replicate, length-take, length-drop}
use lib.Seq.{length-take-le, take_all, take-add, take-append_seam}
use Rattle.std.specs.Prelude.{Ok}
use Rattle.buffers.specs.Write.{over}
use Rattle.password.specs.Passing.{passes}
use Rattle.session_configuration.specs.declared.Configuration.{Configuration}
use Rattle.sram.specs.Region.{right_size, in_range, stored}
use Rattle.sram.proofs.Laws.{range_part, stored_none, stored_join}
use Rattle.session_state.specs.declared.Load.{Load}
use Rattle.session_state.specs.declared.Port.{Port}
use Rattle.session_state.specs.declared.Refusal.{Refusal}
use Rattle.session_state.specs.declared.Session.{Session}
use Rattle.session_state.specs.declared.Stage.{Stage}
use Rattle.header.specs.Reading.{header_read, validated}
use Rattle.session_items.specs.declared.Reaction.{Reaction}
use Rattle.session_items.specs.declared.Role.{Role}
use Rattle.session_items.specs.declared.Source.{Source}
use Rattle.session_items.specs.Items.{Item, bytes_of}
use Rattle.session_items.specs.Reacting.{counts_as, reaction}
use Rattle.session_answers.specs.declared.Echo.{Echo}
use Rattle.session_answers.specs.declared.Outcome.{Outcome}
use Rattle.session_answers.specs.Answers.{result_of, echo_of}
use Rattle.session_answers.proofs.Laws.{Accepted}
use Rattle.session.specs.declared.Transition.{Transition}
use Rattle.session.specs.Rules.{received, holds, checked, begun, load_from, advanced, loaded, password_received, header_received, transition, sram_after, taken_as, step}
use Rattle.session.proofs.Laws.{reacted, step_takes, kept}
use Rattle.sender_header.specs.Writing.{header_written}
use Rattle.sender_load.specs.declared.Sender.{Sender}
use Rattle.sender_load.specs.Items.{width, load_header, whole_load, role_at, part, identifier_for, source_by, sent_from, sent_at, item_of, standing}
use Rattle.sender_load.specs.Echoes.{echo_due}
use Rattle.sender_loop.specs.Loop.{holding_none, jump_to}
use Rattle.sender_loop.proofs.Bytes.{gathered, gathered_length, held_over}

-- An item that is taken, and that neither 7 nor 8 is due after it.
pub record Steps
    (session : Session) (m : List ℕ) (item : Item) (outcome : Outcome) (echo : Echo) (next : Session) (after : List ℕ) : Type 0 where
  pub made : step session m item
      ≡ result_of (record { answer = record { outcome = outcome; echo = echo }; session = next }) after
  pub ok : Accepted next after

taken : (session : Session) (m : List ℕ) (item : Item) (role : Role) (port : Port) → Accepted session m
    → reaction session.stage item ≡ Reaction.Takes role port
    → (outcome : Outcome) (next : Session) (after : List ℕ)
    → transition role session port (bytes_of item) ≡ record { outcome = outcome; session = next }
    → sram_after role session m (bytes_of item) ≡ after
    → Steps session m item outcome (echo_of role port (bytes_of item)) next after
unfolding taken_as
taken session m item role port ok e outcome next after moves stores =
    let fine = kept session m item role port (reacted session item ok.fine (Reaction.Takes role port) e) ok in
    record {
      made = step_takes session m item ok role port e ∙ rw (moves, stores);
      ok = rw (ap (λ (t : Transition). t.session) moves, stores) at fine;
    }

-- an item has the bytes of its part
pub sent-item : (source : Source) (bytes : List ℕ) → item_of (sent_from source bytes) ≡ Item.Of source bytes
sent-item source bytes = ap (Item.Of source) (take-append_seam bytes (drop (length bytes) (replicate 8 0)))

-- What the items of a load count as.

password_counts : (port : Port) (bytes : List ℕ) → length bytes ≡ width port
    → counts_as Role.Password port (Item.Of (source_by port 0x011) bytes) ≡ true
password_counts Port.Can bytes e = rw (eq-eqb (length bytes) 8 e)
password_counts Port.Serial bytes e = rw (eq-eqb (length bytes) 1 e)

pub header_counts : (port : Port) (bytes : List ℕ) → length bytes ≡ width port
    → counts_as Role.Header port (Item.Of (source_by port 0x012) bytes) ≡ true
header_counts Port.Can bytes e = rw (eq-eqb (length bytes) 8 e)
header_counts Port.Serial bytes e = rw (eq-eqb (length bytes) 1 e)

data_counts : (port : Port) (load : Load) (bytes : List ℕ) → 1 ≤ length bytes → length bytes ≤ width port → length bytes ≤ load.owed
    → counts_as (Role.Data load) port (Item.Of (source_by port 0x013) bytes) ≡ true
data_counts Port.Can load bytes some few owed =
    rw (le-leb 1 (length bytes) some, le-leb (length bytes) 8 few, le-leb (length bytes) load.owed owed)
data_counts Port.Serial load bytes some few owed = rw (eq-eqb (length bytes) 1 (omega arith))

pub some_bytes : (port : Port) → 1 ≤ width port
some_bytes Port.Can = omega arith
some_bytes Port.Serial = omega arith

-- the stage of a session that has so many password bytes
abbrev pub password_stage : ℕ → Stage
password_stage zero = Stage.Waiting
password_stage (suc count) = Stage.Password

some_held : (count : ℕ) → 1 ≤ count → password_stage count ≡ Stage.Password
some_held zero some = absurd (omega arith)
some_held (suc count) some = refl

-- by CAN all of the password comes at once
password-heard : (port : Port) (count : ℕ) (bytes : List ℕ) → count + width port ≤ 8 → length bytes ≡ width port
    → reaction (password_stage count) (Item.Of (source_by port 0x011) bytes) ≡ Reaction.Takes Role.Password port
unfolding reaction
password-heard Port.Can zero bytes room e = rw (password_counts Port.Can bytes e)
password-heard Port.Can (suc count) bytes room e = absurd (omega arith)
password-heard Port.Serial zero bytes room e = rw (password_counts Port.Serial bytes e)
password-heard Port.Serial (suc count) bytes room e = rw (password_counts Port.Serial bytes e)

-- a load at a place, and the item there with its echo
abbrev pub at : Sender → ℕ → Sender
at sender place = standing sender place false

abbrev pub item_at : Sender → List ℕ → ℕ → Item
item_at sender image place = item_of (sent_at (at sender place) image)

abbrev pub echo_at : Sender → List ℕ → ℕ → Echo
echo_at sender image place = echo_due (at sender place) image

module _ (configuration : Configuration) where
  -- a session that holds the first of 8 bytes
  abbrev pub holding : Stage → List ℕ → ℕ → Session
  holding stage all count =
      record { configuration = configuration; stage = stage; held = over (take count all) (replicate 8 0); count = count }

  -- Bytes are gathered until there are 8.
  module _ (stage now-stage : Stage) (all : List ℕ) (eight : length all ≡ 8) (count more : ℕ) (full : List ℕ → Transition) where
    abbrev session : Session
    session = holding stage all count

    abbrev gathers : Transition
    gathers =
        let bytes = received session (take more (drop count all)) in
        cond (eqb (length bytes) 8) (full bytes) (holds session now-stage bytes)

    gathers_more : count + more < 8
        → gathers ≡ record { outcome = Outcome.Taken; session = holding now-stage all (count + more) }
    gathers_more few =
        let room : count + more ≤ length all = omega arith in
        rw (
          gathered all (replicate 8 0) count more room,
          held_over all (replicate 8 0) count more room,
          gathered_length all (replicate 8 0) count more room,
          ne_eqb (count + more) 8 (λ e. omega arith),
        )

    gathers_last : count + more ≡ 8 → gathers ≡ full all
    gathers_last e =
        let room : count + more ≤ length all = omega arith in
        rw (
          gathered all (replicate 8 0) count more room,
          gathered_length all (replicate 8 0) count more room,
          eq-eqb (count + more) 8 e,
          take_all (count + more) all (omega arith),
        )

  -- A load, and the head before the item at each of its places.
  module _ (sender : Sender) (image sram : List ℕ) where
    abbrev wide : ℕ
    wide = width sender.port

    abbrev password : List ℕ
    password = sender.configuration.password

    abbrev header : List ℕ
    header = header_written sender.configuration sender.start sender.vle sender.length

    abbrev start : ℕ
    start = (load_header sender).start.0

    abbrev loading : ℕ → Session
    loading count = holding_none configuration (Stage.Data sender.port (advanced (load_from (load_header sender)) count))

    unfoldable pub head_at : ℕ → Session
    head_at place =
        cond (ltb place 8) (holding (password_stage place) password place)
        (cond (ltb place 16) (holding (Stage.Header sender.port) header (place - 8))
        (cond (ltb place (16 + sender.length)) (loading (place - 16))
        (holding_none configuration (Stage.Jumped (jump_to sender)))))

    unfoldable pub sram_at : ℕ → List ℕ
    sram_at place = stored sram start (take (place - 16) image)

    at_password : (place : ℕ) → place < 8 → head_at place ≡ holding (password_stage place) password place
    unfolding head_at
    at_password place h = rw (lt-ltb place 8 h)

    at_header_lem : (place : ℕ) → 8 ≤ place → place < 16
        → head_at place ≡ holding (Stage.Header sender.port) header (place - 8)
    unfolding head_at
    at_header_lem place h k = rw (le-ltb place 8 h, lt-ltb place 16 k)

    at_data : (place : ℕ) → 16 ≤ place → place < 16 + sender.length → head_at place ≡ loading (place - 16)
    unfolding head_at
    at_data place h k = rw (le-ltb place 8 (omega arith), le-ltb place 16 h, lt-ltb place (16 + sender.length) k)

    pub at_end_lem : (place : ℕ) → 16 + sender.length ≤ place → head_at place ≡ holding_none configuration (Stage.Jumped (jump_to sender))
    unfolding head_at
    at_end_lem place h = rw (le-ltb place 8 (omega arith), le-ltb place 16 (omega arith), le-ltb place (16 + sender.length) h)

    -- before the image nothing is stored
    pub sram_first : (place : ℕ) → place ≤ 16 → sram_at place ≡ sram
    unfolding sram_at
    sram_first place h =
        let none : place - 16 ≡ 0 = omega arith in
        rw none (stored_none sram start)

    -- the item at a place and its echo, by its role and its bytes
    shown : (place : ℕ) (role : Role) (bytes : List ℕ) → role_at (at sender place) ≡ role → part role (at sender place) image ≡ bytes
        → (item_at sender image place ≡ Item.Of (source_by sender.port (identifier_for role)) bytes)
        × (echo_at sender image place ≡ echo_of role sender.port bytes)
    shown place role bytes e f =
        (rw (e, f) (sent-item (source_by sender.port (identifier_for role)) bytes), rw (e, f))

    -- a step of the item that is shown so
    shown_step : (place : ℕ) (role : Role) (bytes : List ℕ) {session next : Session} {m after : List ℕ} {outcome : Outcome}
        → role_at (at sender place) ≡ role
        → part role (at sender place) image ≡ bytes
        → Steps session m (Item.Of (source_by sender.port (identifier_for role)) bytes) outcome (echo_of role sender.port bytes) next after
        → Steps session m (item_at sender image place) outcome (echo_at sender image place) next after
    shown_step place role bytes e f steps = rw ((shown place role bytes e f).0, (shown place role bytes e f).1) steps

    module _ (eight : length password ≡ 8) where
      -- Password items.

      password-bytes : (place : ℕ) → place + wide ≤ 8 → length (take wide (drop place password)) ≡ wide
      password-bytes place room =
          length-take-le wide (drop place password) (omega (arith, length-drop place password))

      password-step : (place : ℕ) → place + wide ≤ 8 → Accepted (holding (password_stage place) password place) sram
          → (outcome : Outcome) (next : Session)
          → password_received (holding (password_stage place) password place) sender.port (received (holding (password_stage place) password place) (take wide (drop place password)))
          ≡ record { outcome = outcome; session = next }
          → Steps (holding (password_stage place) password place) sram (item_at sender image place) outcome (echo_at sender image place) next sram
      unfolding transition sram_after part
      password-step place room ok outcome next moves =
          let bytes = take wide (drop place password) in
          let some : 1 ≤ wide = some_bytes sender.port in
          shown_step place Role.Password bytes (rw (lt-ltb place 8 (omega arith))) (rw (sub-zero place))
          (taken (holding (password_stage place) password place) sram (Item.Of (source_by sender.port 0x011) bytes) Role.Password sender.port ok
          (password-heard sender.port place bytes room (password-bytes place room)) outcome next sram moves refl)

      pub password_more : (place : ℕ) → place + wide < 8 → Accepted (head_at place) sram
          → Steps (head_at place) sram (item_at sender image place) Outcome.Taken (echo_at sender image place) (head_at (place + wide)) sram
      unfolding password_received
      password_more place few ok =
          let here = at_password place (omega arith) in
          let some : 1 ≤ wide = some_bytes sender.port in
          let held : password_stage (place + wide) ≡ Stage.Password = some_held (place + wide) (omega arith) in
          let own = rw here at ok in
          rw (here, at_password (place + wide) few, held)
          (password-step place (omega arith) own Outcome.Taken (holding Stage.Password password (place + wide))
          (gathers_more (password_stage place) Stage.Password password eight place wide
          (λ (b : List ℕ). checked (holding (password_stage place) password place) sender.port b) few))

      -- with the eighth byte it is checked
      password_last : (place : ℕ) → place + wide ≡ 8 → Accepted (head_at place) sram → (outcome : Outcome) (next : Session)
          → checked (holding (password_stage place) password place) sender.port password ≡ record { outcome = outcome; session = next }
          → Steps (head_at place) sram (item_at sender image place) outcome (echo_at sender image place) next sram
      unfolding password_received
      password_last place full ok outcome next moves =
          let some : 1 ≤ wide = some_bytes sender.port in
          let here = at_password place (omega arith) in
          let own = rw here at ok in
          rw here
          (password-step place (omega arith) own outcome next
          (gathers_last (password_stage place) Stage.Password password eight place wide
          (λ (b : List ℕ). checked (holding (password_stage place) password place) sender.port b) full
          ∙ moves))

      pub password_passed : passes password configuration.password ≡ true → (place : ℕ) → place + wide ≡ 8 → Accepted (head_at place) sram
          → Steps (head_at place) sram (item_at sender image place) Outcome.Taken (echo_at sender image place) (head_at (place + wide)) sram
      unfolding checked
      password_passed passed place full ok =
          rw (full, at_header_lem 8 (omega arith) (omega arith))
          (password_last place full ok Outcome.Taken (holding_none configuration (Stage.Header sender.port)) (rw passed))

      pub password-refused : passes password configuration.password ≡ false → (place : ℕ) → place + wide ≡ 8 → Accepted (head_at place) sram
          → Steps (head_at place) sram (item_at sender image place) (Outcome.Stops Refusal.Password) (echo_at sender image place)
          (holding_none configuration (Stage.Stopped Refusal.Password)) sram
      unfolding checked
      password-refused refused place full ok =
          password_last place full ok (Outcome.Stops Refusal.Password) (holding_none configuration (Stage.Stopped Refusal.Password)) (rw refused)

    -- Header items.

    pub header-bytes : (count : ℕ) → count + wide ≤ 8 → length (take wide (drop count header)) ≡ wide
    header-bytes count room = length-take-le wide (drop count header) (omega (arith, length-drop count header))

    pub header_shown : (place : ℕ) → 8 ≤ place → place + wide ≤ 16
        → let bytes = take wide (drop (place - 8) header) in
        (item_at sender image place ≡ Item.Of (source_by sender.port 0x012) bytes)
        × (echo_at sender image place ≡ echo_of Role.Header sender.port bytes)
    unfolding part
    header_shown place h room =
        let some : 1 ≤ wide = some_bytes sender.port in
        shown place Role.Header (take wide (drop (place - 8) header)) (rw (le-ltb place 8 h, lt-ltb place 16 (omega arith))) refl

    header-step : (place : ℕ) → 8 ≤ place → place + wide ≤ 16 → Accepted (head_at place) sram → (outcome : Outcome) (next : Session)
        → let session = holding (Stage.Header sender.port) header (place - 8) in
        header_received session sender.port (received session (take wide (drop (place - 8) header)))
        ≡ record { outcome = outcome; session = next }
        → Steps (head_at place) sram (item_at sender image place) outcome (echo_at sender image place) next sram
    unfolding transition sram_after part reaction
    header-step place h room ok outcome next moves =
        let bytes = take wide (drop (place - 8) header) in
        let some : 1 ≤ wide = some_bytes sender.port in
        let here = at_header_lem place h (omega arith) in
        let own = rw here at ok in
        let many = header-bytes (place - 8) (omega arith) in
        shown_step place Role.Header bytes (rw (le-ltb place 8 h, lt-ltb place 16 (omega arith))) refl
        (rw here
        (taken (holding (Stage.Header sender.port) header (place - 8)) sram (Item.Of (source_by sender.port 0x012) bytes) Role.Header
        sender.port own (rw (header_counts sender.port bytes many)) outcome next sram moves refl))

    abbrev read_header : ℕ → List ℕ → Transition
    read_header place bytes =
        begun (holding (Stage.Header sender.port) header (place - 8)) sender.port
        (validated configuration (header_read configuration bytes))

    pub header_more : (place : ℕ) → 8 ≤ place → place + wide < 16 → Accepted (head_at place) sram
        → Steps (head_at place) sram (item_at sender image place) Outcome.Taken (echo_at sender image place) (head_at (place + wide)) sram
    unfolding header_received
    header_more place h few ok =
        let stage = Stage.Header sender.port in
        let further : place + wide - 8 ≡ place - 8 + wide = omega arith in
        rw (at_header_lem (place + wide) (omega arith) few, further)
        (header-step place h (omega arith) ok Outcome.Taken (holding stage header (place - 8 + wide))
        (gathers_more stage stage header refl (place - 8) wide (read_header place) (omega arith)))

    module _ (fit : validated configuration (header_read configuration header) ≡ Ok (load_header sender)) (some : 1 ≤ sender.length) where
      pub header_last : (place : ℕ) → 8 ≤ place → place + wide ≡ 16 → Accepted (head_at place) sram
          → Steps (head_at place) sram (item_at sender image place) Outcome.Taken (echo_at sender image place) (head_at (place + wide)) sram
      unfolding header_received
      header_last place h full ok =
          let stage = Stage.Header sender.port in
          let more : 1 ≤ wide = some_bytes sender.port in
          rw (full, at_data 16 (omega arith) (omega arith), add-zero, sub-zero)
          (header-step place h (omega arith) ok Outcome.Taken (holding_none configuration (Stage.Data sender.port (load_from (load_header sender))))
          (gathers_last stage stage header refl (place - 8) wide (read_header place) (omega arith) ∙ rw fit))

    -- Data items.

    module _
        (whole : length image ≡ sender.length) (right : right_size configuration sram ≡ true)
        (inside : in_range configuration start sender.length ≡ true) where
      abbrev left : ℕ → Load
      left count = advanced (load_from (load_header sender)) count

      bytes-length : (count : ℕ) → length (take wide (drop count image)) ≡ min wide (sender.length - count)
      bytes-length count = length-take wide (drop count image) ∙ rw (length-drop count image, whole)

      sram-next : (place : ℕ) → 16 ≤ place → place < 16 + sender.length
          → stored (sram_at place) (start + (place - 16)) (take wide (drop (place - 16) image)) ≡ sram_at (place + wide)
      unfolding sram_at
      sram-next place h k =
          let count = place - 16 in
          let first = take count image in
          let bytes = take wide (drop count image) in
          let many : length first ≡ count = length-take-le count image (omega arith) in
          let next : place + wide - 16 ≡ count + wide = omega arith in
          let few : length first + length bytes ≤ sender.length = omega (arith, bytes-length count) in
          let there = range_part configuration start sender.length (length first + length bytes) inside few in
          ap (λ (n : ℕ). stored (stored sram start first) (start + n) bytes) (sym many)
          ∙ stored_join configuration sram start first bytes right there
          ∙ rw (next, take-add count wide image)

      data_step : (place : ℕ) → 16 ≤ place → place < 16 + sender.length → Accepted (head_at place) (sram_at place)
          → (outcome : Outcome) (next : Session)
          → loaded (loading (place - 16)) sender.port (left (place - 16)) (take wide (drop (place - 16) image))
          ≡ record { outcome = outcome; session = next }
          → Steps (head_at place) (sram_at place) (item_at sender image place) outcome (echo_at sender image place) next (sram_at (place + wide))
      unfolding transition sram_after part reaction
      data_step place h k ok outcome next moves =
          let count = place - 16 in
          let bytes = take wide (drop count image) in
          let more : 1 ≤ wide = some_bytes sender.port in
          let here = at_data place h k in
          let own = rw here at ok in
          let many = bytes-length count in
          let counts = data_counts sender.port (left count) bytes (omega arith) (omega arith) (omega arith) in
          shown_step place (Role.Data (whole_load sender)) bytes (rw (le-ltb place 8 (omega arith), le-ltb place 16 h)) refl
          (rw here
          (taken (loading count) (sram_at place) (Item.Of (source_by sender.port 0x013) bytes) (Role.Data (left count)) sender.port own
          (rw counts) outcome next (sram_at (place + wide)) moves (sram-next place h k)))

      pub data_more : (place : ℕ) → 16 ≤ place → place + wide < 16 + sender.length → Accepted (head_at place) (sram_at place)
          → Steps (head_at place) (sram_at place) (item_at sender image place) Outcome.Taken (echo_at sender image place) (head_at (place + wide)) (sram_at (place + wide))
      unfolding loaded
      data_more place h few ok =
          let count = place - 16 in
          let bytes = take wide (drop count image) in
          let many : length bytes ≡ wide = bytes-length count ∙ omega arith in
          let address : start + (place + wide - 16) ≡ start + count + wide = omega arith in
          let owed : sender.length - (place + wide - 16) ≡ sender.length - count - wide = omega arith in
          rw (at_data (place + wide) (omega arith) few, address, owed)
          (data_step place h (omega arith) ok Outcome.Taken (holding_none configuration (Stage.Data sender.port (advanced (left count) wide)))
          (rw (many, ne_eqb wide (sender.length - count) (λ e. omega arith))))

      pub data_last : (place : ℕ) → 16 ≤ place → place < 16 + sender.length → 16 + sender.length ≤ place + wide → Accepted (head_at place) (sram_at place)
          → Steps (head_at place) (sram_at place) (item_at sender image place) (Outcome.Jumps (jump_to sender)) (echo_at sender image place) (head_at (place + wide)) (sram_at (place + wide))
      unfolding loaded
      data_last place h k all ok =
          let count = place - 16 in
          let bytes = take wide (drop count image) in
          let many : length bytes ≡ sender.length - count = bytes-length count ∙ omega arith in
          rw (at_end_lem (place + wide) all)
          (data_step place h k ok (Outcome.Jumps (jump_to sender)) (holding_none configuration (Stage.Jumped (jump_to sender)))
          (rw (eq-eqb (length bytes) (sender.length - count) many)))
