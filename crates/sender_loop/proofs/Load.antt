-- A load from any of its places to its end.
use Prim.Native.Nat.{ℕ, zero, suc, ◌+◌, ◌-◌, ◌≤◌, ◌<◌}
use native.Mathlib.Omega.{arith}
use mathlib.Core.Path.{◌≡◌, refl, ap}
use mathlib.Core.List.{List, [], ◌∷◌, ◌++◌, map}
use mathlib.Core.Bool.{true}
use borrow.Author.Tests.{lt-ltb, le-leb, lt-leb, eq-eqb}
use lib.ListN.{length, replicate}
use lib.Seq.{take_all}
use Rattle.std.specs.Prelude.{Ok, is_ok}
use Rattle.password.specs.Passing.{passes}
use Rattle.session_configuration.specs.declared.Configuration.{Configuration}
use Rattle.sram.specs.Region.{right_size, in_range, stored}
use Rattle.session_state.specs.declared.Port.{Port}
use Rattle.session_state.specs.declared.Session.{Session}
use Rattle.session_state.specs.declared.Stage.{Stage}
use Rattle.header.specs.Reading.{header_read, fits, validated}
use Rattle.session_answers.specs.declared.Answer.{Answer}
use Rattle.session_answers.specs.declared.Outcome.{Outcome}
use Rattle.session_answers.proofs.Laws.{Accepted}
use Rattle.session.specs.Running.{Call, Run, ran}
use Rattle.sender_header.specs.Writing.{header_written}
use Rattle.sender_load.specs.declared.Sender.{Sender}
use Rattle.sender_load.specs.Items.{width, load_header, sent_at, item_of, along, at_item, sound_load}
use Rattle.sender_load.specs.Echoes.{echo_due}
use Rattle.sender.specs.declared.Verdict.{Verdict}
use Rattle.sender.specs.Calls.{idle}
use Rattle.sender_loop.specs.Loop.{Loop, looped, in_turns, holding_none, jump_to}
use Rattle.sender_loop.proofs.Head.{Steps, at, item_at, echo_at, head_at, sram_at, at_end_lem, sram_first, password_more, password_passed, header_more, header_last, data_more, data_last}
use Rattle.sender_loop.proofs.Turns.{split, turn_more, turn_last}

-- by CAN no item goes over the end of the password or of the header
pub item_room : (port : Port) (place : ℕ) → at_item port place ≡ true
    → (place < 8 → place + width port ≤ 8) × (8 ≤ place → place < 16 → place + width port ≤ 16)
item_room Port.Can place e = (λ h. grind arith, λ h k. grind arith)
item_room Port.Serial place e = (λ h. omega arith, λ h k. omega arith)

pub next-item : (port : Port) (place : ℕ) → at_item port place ≡ true → at_item port (place + width port) ≡ true
next-item Port.Can place e = grind arith
next-item Port.Serial place e = refl

-- so many items come before the last
abbrev pub Reaches : Port → ℕ → ℕ → ℕ → Type 0
Reaches port end zero place = end ≤ place + width port
Reaches port end (suc count) place = (place + width port < end) × Reaches port end count (place + width port)

-- a load and a head for which it is meant
pub record Meant (configuration : Configuration) (sender : Sender) (image sram : List ℕ) : Type 0 where
  pub going : sender.going ≡ true
  pub eight : length sender.configuration.password ≡ 8
  pub whole : length image ≡ sender.length
  pub right : right_size configuration sram ≡ true
  pub own_fit : fits sender.configuration (load_header sender) ≡ true
  pub some : 1 ≤ sender.length
  pub inside : in_range configuration (load_header sender).start.0 sender.length ≡ true
  pub reads : validated configuration (header_read configuration (header_written sender.configuration sender.start sender.vle sender.length))
      ≡ Ok (load_header sender)

module _ (configuration : Configuration) (sender : Sender) (image sram : List ℕ) (meant : Meant configuration sender image sram) where
  abbrev pub wide : ℕ
  wide = width sender.port

  pub sound_at_lem : (place : ℕ) → at_item sender.port place ≡ true → place < 16 + sender.length
      → sound_load (at sender place) image ≡ true
  unfolding sound_load
  sound_at_lem place e h =
      rw (meant.own_fit, e, lt-ltb place (16 + sender.length) h, eq-eqb (length image) sender.length meant.whole)

  abbrev pub head : ℕ → Session
  head place = head_at configuration sender image sram place

  abbrev pub memory : ℕ → List ℕ
  memory place = sram_at configuration sender image sram place

  abbrev pub Ready : ℕ → Type 0
  Ready place = Accepted (head place) (memory place)

  abbrev Step : ℕ → Outcome → Type 0
  Step place outcome =
      Steps (head place) (memory place) (item_at sender image place) outcome (echo_at sender image place) (head (place + wide)) (memory (place + wide))

  -- before the image SRAM is as it was
  early : (place : ℕ) → place + wide ≤ 16
      → (Accepted (head place) sram
      → Steps (head place) sram (item_at sender image place) Outcome.Taken (echo_at sender image place) (head (place + wide)) sram)
      → Ready place
      → Step place Outcome.Taken
  early place room steps ok =
      let first = sram_first configuration sender image sram in
      rw (first place (omega arith), first (place + wide) room) (steps (rw (first place (omega arith)) at ok))

  -- With a password that passes, the head takes every item before the last.
  module _ (passed : passes sender.configuration.password configuration.password ≡ true) where
    more : (place : ℕ) → at_item sender.port place ≡ true → place + wide < 16 + sender.length → Ready place
        → Step place Outcome.Taken
    more place e h ok =
        let room = item_room sender.port place e in
        split place 8
        (λ low. early place (omega (arith, room.0 low))
        (λ own. split (place + wide) 8
        (λ few. password_more configuration sender image sram meant.eight place few own)
        (λ full. password_passed configuration sender image sram meant.eight passed place (omega (arith, room.0 low)) own))
        ok)
        (λ high. split place 16
        (λ low. early place (room.1 high low)
        (λ own. split (place + wide) 16
        (λ few. header_more configuration sender image sram place high few own)
        (λ full. header_last configuration sender image sram meant.reads meant.some place high (omega (arith, room.1 high low)) own))
        ok)
        (λ last. data_more configuration sender image sram meant.whole meant.right meant.inside place last h ok))

    last : (place : ℕ) → at_item sender.port place ≡ true → place < 16 + sender.length → 16 + sender.length ≤ place + wide → Ready place
        → Step place (Outcome.Jumps (jump_to sender))
    last place e h all ok =
        let room = item_room sender.port place e in
        split place 16
        (λ low. absurd
        (split place 8 (λ k. omega (arith, room.0 k, meant.some)) (λ k. omega (arith, room.1 k low, meant.some))))
        (λ high. data_last configuration sender image sram meant.whole meant.right meant.inside place high h all ok)

    -- The turns from a place on, and the run of their items.
    pub record Onward (count place : ℕ) (loop : Loop) (run : Run) : Type 0 where
      pub gave : in_turns (λ turn. is_ok turn.given) loop ≡ replicate (suc count) true
      pub items : in_turns (λ turn. turn.sent) loop ≡ along (λ s. sent_at s image) (suc count) (at sender place)
      pub echoed : in_turns (λ turn. turn.answer.echo) loop ≡ along (λ s. echo_due s image) (suc count) (at sender place)
      pub answered : in_turns (λ turn. turn.answer.outcome) loop
          ≡ replicate count Outcome.Taken ++ Outcome.Jumps (jump_to sender) ∷ []
      pub said : in_turns (λ turn. turn.said) loop ≡ replicate count (Ok Verdict.GoesOn) ++ Ok Verdict.Done ∷ []
      pub idles : loop.sender ≡ idle
      pub jumped : loop.session ≡ holding_none configuration (Stage.Jumped (jump_to sender))
      pub loaded : loop.sram ≡ stored sram (load_header sender).start.0 image
      pub same_answers : map (λ (call : Call). call.answer) run.calls ≡ in_turns (λ turn. turn.answer) loop
      pub same_session : run.session ≡ loop.session
      pub same_sram : run.sram ≡ loop.sram

    abbrev pub loop_from : ℕ → ℕ → Loop
    loop_from count place = looped (suc count) sender.port image (at sender place) (head place) (memory place)

    abbrev pub run_from : ℕ → ℕ → Run
    run_from count place = ran (head place) (memory place) (map item_of (along (λ s. sent_at s image) (suc count) (at sender place)))

    pub onwards : (count place : ℕ) → Reaches sender.port (16 + sender.length) count place → at_item sender.port place ≡ true
        → place < 16 + sender.length → Ready place → Onward count place (loop_from count place) (run_from count place)
    unfolding ran along sram_at
    onwards zero place reached e h ok =
        let steps = last place e h reached ok in
        let ends = turn_last sender image meant.going place (sound_at_lem place e h) steps (le-leb (16 + sender.length) (place + wide) reached) in
        rw (ends, steps.made)
        (record {
          gave = refl;
          items = refl;
          echoed = refl;
          answered = refl;
          said = refl;
          idles = refl;
          jumped = at_end_lem configuration sender image sram (place + wide) reached;
          loaded = rw (take_all (place + wide - 16) image (omega (arith, meant.whole)));
          same_answers = refl;
          same_session = refl;
          same_sram = refl;
        })
    onwards (suc count) place reached e h ok =
        let steps = more place e reached.0 ok in
        let goes =
        turn_more sender image meant.going place (sound_at_lem place e h) steps (suc count)
        (lt-leb (16 + sender.length) (place + wide) reached.0) in
        let rest = onwards count (place + wide) reached.1 (next-item sender.port place e) reached.0 steps.ok in
        let answer : Answer = record { outcome = Outcome.Taken; echo = echo_at sender image place } in
        rw (goes, steps.made)
        (record {
          gave = ap (λ l. true ∷ l) rest.gave;
          items = ap (λ l. sent_at (at sender place) image ∷ l) rest.items;
          echoed = ap (λ l. echo_at sender image place ∷ l) rest.echoed;
          answered = ap (λ l. Outcome.Taken ∷ l) rest.answered;
          said = ap (λ l. Ok Verdict.GoesOn ∷ l) rest.said;
          idles = rest.idles;
          jumped = rest.jumped;
          loaded = rest.loaded;
          same_answers = ap (λ l. answer ∷ l) rest.same_answers;
          same_session = rest.same_session;
          same_sram = rest.same_sram;
        })
