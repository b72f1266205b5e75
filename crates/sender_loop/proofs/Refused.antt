-- A password that the head refuses.
use Prim.Native.Nat.{ℕ, zero, suc, ◌+◌, ◌-◌, ◌/◌, ◌≤◌, ◌<◌}
use native.Mathlib.Omega.{arith}
use mathlib.Core.Path.{◌≡◌, refl, sym, ap, ◌∙◌}
use mathlib.Core.List.{List, [], ◌∷◌, ◌++◌, map}
use mathlib.Core.Bool.{Bool, true, false, and-eq-true_iff}
use borrow.Author.Tests.{lt-leb}
use lib.ListN.{length, take, drop, replicate}
use lib.Seq.{append_snoc, take-append_seam}
use Rattle.std.specs.Prelude.{Ok, is_ok}
use Rattle.octets.specs.Same.{same}
use Rattle.std.proofs.lemmas.Bool.{false_from_ne_true}
use Rattle.octets.proofs.Comparing.{same_equal}
use Rattle.password.specs.Passing.{passes}
use Rattle.session_configuration.specs.declared.Configuration.{Configuration}
use Rattle.session_state.specs.declared.Port.{Port}
use Rattle.session_state.specs.declared.Refusal.{Refusal}
use Rattle.session_state.specs.declared.Session.{Session}
use Rattle.session_state.specs.declared.Stage.{Stage}
use Rattle.session_items.specs.declared.Role.{Role}
use Rattle.session_items.specs.Items.{Item}
use Rattle.session_items.specs.Reacting.{reaction}
use Rattle.session_items.proofs.Laws.{counted}
use Rattle.session_answers.specs.declared.Echo.{Echo}
use Rattle.session_answers.specs.declared.Outcome.{Outcome}
use Rattle.session_answers.specs.Answers.{no_echo, unchanged}
use Rattle.session_answers.proofs.Laws.{Accepted}
use Rattle.session.specs.Rules.{step}
use Rattle.session.proofs.Laws.{step_ignores}
use Rattle.sender_header.specs.Writing.{header_written}
use Rattle.sender_echo.specs.Hearing.{heard_under, is_echo}
use Rattle.sender_load.specs.declared.Sender.{Sender}
use Rattle.sender_load.specs.Items.{width, source_by, sent_at, item_of, along, item_count, at_item}
use Rattle.sender_load.specs.Echoes.{echo_due}
use Rattle.sender_load.proofs.Laws.{few_bytes}
use Rattle.sender.specs.declared.Verdict.{Verdict}
use Rattle.sender.specs.Calls.{idle, new_load}
use Rattle.sender_loop.specs.Loop.{Loop, looped, in_turns, holding_none, password_items, TurnedAway, Line, connected}
use Rattle.sender_loop.proofs.Head.{at, item_at, echo_at, head_at, some_bytes, header_counts, header-bytes, header_shown, password_more, password-refused}
use Rattle.sender_loop.proofs.Items.{first_items}
use Rattle.sender_loop.proofs.Turns.{turn_more, turn-silent}
use Rattle.sender_loop.proofs.Load.{Meant, sound_at_lem, next-item}
use Rattle.sender_loop.proofs.Closed.{at_start_lem, meant, begins, ready, fresh_head}

-- so many items of the password come before its last
abbrev pub Rest : Port → ℕ → ℕ → Type 0
Rest port zero place = place + width port ≡ 8
Rest port (suc count) place = (place + width port < 8) × Rest port count (place + width port)

module _
    (configuration : Configuration) (sender : Sender) (image sram : List ℕ) (meant : Meant configuration sender image sram)
    (refused : passes sender.configuration.password configuration.password ≡ false) where
  abbrev wide : ℕ
  wide = width sender.port

  abbrev head : ℕ → Session
  head place = head_at configuration sender image sram place

  abbrev stopped : Session
  stopped = holding_none configuration (Stage.Stopped Refusal.Password)

  -- the first item of the header
  abbrev bytes : List ℕ
  bytes =
      take wide (drop 0 (header_written sender.configuration sender.start sender.vle sender.length))

  room : 8 + wide ≤ 16
  room = omega (arith, few_bytes sender.port)

  ignored : Accepted stopped sram → step stopped sram (item_at sender image 8) ≡ unchanged Outcome.Ignored stopped sram
  unfolding reaction
  ignored ok =
      let item = item_at sender image 8 in
      let many = header-bytes configuration sender image sram 0 (omega (arith, room)) in
      let formed = (counted Role.Header sender.port (Item.Of (source_by sender.port 0x012) bytes) (header_counts sender.port bytes many)).formed in
      step_ignores stopped sram item ok refl ∙ rw ((header_shown configuration sender image sram 8 (omega arith) room).0, formed)

  -- no echo is not its echo
  silent : is_echo sender.port (echo_at sender image 8) sender.port 0 [] ≡ false
  unfolding is_echo
  silent =
      let due = echo_at sender image 8 in
      let own = take due.length due.bytes in
      let many = header-bytes configuration sender image sram 0 (omega (arith, room)) in
      let all : own ≡ bytes =
      ap (λ (echo : Echo). take echo.length echo.bytes) (header_shown configuration sender image sram 8 (omega arith) room).1
      ∙ take-append_seam bytes (drop (length bytes) (replicate 8 0)) in
      false_from_ne_true (is_echo sender.port due sender.port 0 [])
      (λ e. let none = same_equal [] own ((and-eq-true_iff (heard_under sender.port sender.port due.identifier 0) (same [] own)).0 e).1 in
      omega (arith, ap length (none ∙ all), many, some_bytes sender.port))

  -- the turns of the password from a place on, and one more
  record SentAway (count place : ℕ) (loop : Loop) : Type 0 where
    gave : in_turns (λ turn. is_ok turn.given) loop ≡ replicate (suc (suc count)) true
    items : in_turns (λ turn. turn.sent) loop ≡ along (λ s. sent_at s image) (suc (suc count)) (at sender place)
    answered : in_turns (λ turn. turn.answer.outcome) loop
        ≡ replicate count Outcome.Taken ++ Outcome.Stops Refusal.Password ∷ Outcome.Ignored ∷ []
    echoed : in_turns (λ turn. turn.answer.echo) loop
        ≡ along (λ s. echo_due s image) (suc count) (at sender place) ++ no_echo ∷ []
    said : in_turns (λ turn. turn.said) loop
        ≡ replicate (suc count) (Ok Verdict.GoesOn) ++ Ok Verdict.Abandoned ∷ []
    idles : loop.sender ≡ idle
    stops : loop.session ≡ stopped
    untouched : loop.sram ≡ sram

  away : (count place : ℕ) → Rest sender.port count place → at_item sender.port place ≡ true → Accepted (head place) sram
      → SentAway count place (looped (suc (suc count)) sender.port image (at sender place) (head place) sram)
  unfolding along
  away zero place full e ok =
      let steps = password-refused configuration sender image sram meant.eight refused place full ok in
      let sound = sound_at_lem configuration sender image sram meant in
      let goes =
      turn_more sender image meant.going place (sound place e (omega (arith, some_bytes sender.port))) steps (suc zero)
      (lt-leb (16 + sender.length) (place + wide) (omega arith)) in
      let next = rw full at (next-item sender.port place e) in
      let ends = turn-silent sender image meant.going 8 (sound 8 next (omega arith)) stopped sram (ignored steps.ok) silent in
      let tail = ap (λ (n : ℕ). looped (suc zero) sender.port image (at sender n) stopped sram) full ∙ ends in
      rw (goes, tail)
      (record {
        gave = refl;
        items = rw full;
        answered = refl;
        echoed = refl;
        said = refl;
        idles = refl;
        stops = refl;
        untouched = refl;
      })
  away (suc count) place rest e ok =
      let steps = password_more configuration sender image sram meant.eight place rest.0 ok in
      let goes =
      turn_more sender image meant.going place (sound_at_lem configuration sender image sram meant place e (omega arith)) steps (suc (suc count))
      (lt-leb (16 + sender.length) (place + wide) (omega arith)) in
      let later = away count (place + wide) rest.1 (next-item sender.port place e) steps.ok in
      rw goes
      (record {
        gave = ap (λ l. true ∷ l) later.gave;
        items = ap (λ l. sent_at (at sender place) image ∷ l) later.items;
        answered = ap (λ l. Outcome.Taken ∷ l) later.answered;
        echoed = ap (λ l. echo_at sender image place ∷ l) later.echoed;
        said = ap (λ l. Ok Verdict.GoesOn ∷ l) later.said;
        idles = later.idles;
        stops = later.stops;
        untouched = later.untouched;
      })

-- The password's items by a port.

rest-serial : (count place : ℕ) → place + count + 1 ≡ 8 → Rest Port.Serial count place
rest-serial zero place e = omega arith
rest-serial (suc count) place e = (omega arith, rest-serial count (place + 1) (omega arith))

module _
    (configuration : Configuration) (port : Port) (start : ℕ) (vle : Bool) (password image sram : List ℕ)
    (line : Line configuration start vle password image sram) (refused : passes password configuration.password ≡ false) where
  turned : (count more : ℕ) → password_items port ≡ suc count → suc (suc count) + more ≡ item_count port (length image) → Rest port count 0
      → TurnedAway configuration (new_load port start vle password (length image)) image sram (password_items port)
      (connected configuration port start vle password image sram (suc (password_items port)))
  turned count more counts all-items rest =
      let load = new_load port start vle password (length image) in
      let fresh = fresh_head configuration port start vle password image sram line in
      let ok = ready configuration port start vle password image sram line in
      let all = away configuration load image sram (meant configuration port start vle password image sram line) refused count 0 rest (at_start_lem port) (rw fresh ok) in
      let same = rw fresh at all in
      let one : suc count - 1 ≡ count = omega arith in
      rw (counts, begins configuration port start vle password image sram line)
      (record {
        gave = same.gave;
        items =
            ap (map item_of) same.items
            ∙ first_items load image line.eight (suc (suc count)) more all-items;
        answered = rw one (same.answered ∙ sym (append_snoc (replicate count Outcome.Taken) (Outcome.Stops Refusal.Password) (Outcome.Ignored ∷ [])));
        echoed = same.echoed;
        said = same.said;
        idles = same.idles;
        stopped = same.stops;
        untouched = same.untouched;
      })

pub turned_away : (configuration : Configuration) (port : Port) (start : ℕ) (vle : Bool) (password image sram : List ℕ)
    → Line configuration start vle password image sram
    → passes password configuration.password ≡ false
    → TurnedAway configuration (new_load port start vle password (length image)) image sram (password_items port)
    (connected configuration port start vle password image sram (suc (password_items port)))
turned_away configuration Port.Can start vle password image sram line refused =
    turned configuration Port.Can start vle password image sram line refused 0 ((length image + 7) / 8) refl (omega arith) refl
turned_away configuration Port.Serial start vle password image sram line refused =
    turned configuration Port.Serial start vle password image sram line refused 7 (7 + length image) refl (omega arith) (rest-serial 7 0 refl)
