-- A sender and a head in turns.
use Prim.Native.Nat.{ℕ, zero, suc, ◌+◌, ◌≤◌, ◌<◌}
use native.Mathlib.Omega.{arith}
use mathlib.Core.Path.{◌≡◌, refl, ap}
use mathlib.Core.List.{List, [], ◌∷◌}
use mathlib.Core.Bool.{Bool, true, false, cond}
use borrow.Author.Tests.{eq-eqb}
use lib.ListN.{take}
use Rattle.std.specs.Prelude.{Result, Ok}
use Rattle.std.proofs.Common.{inl, inr}
use Rattle.std.proofs.lemmas.Bool.{cases_lt}
use Rattle.octets.proofs.Comparing.{same_own}
use Rattle.session_state.specs.declared.Port.{Port}
use Rattle.session_state.specs.declared.Session.{Session}
use Rattle.session_items.specs.declared.Role.{Role}
use Rattle.session_answers.specs.declared.Echo.{Echo}
use Rattle.session_answers.specs.declared.Outcome.{Outcome}
use Rattle.session_answers.specs.Answers.{without_echo, unchanged}
use Rattle.session.specs.Rules.{step}
use Rattle.sender_echo.specs.Hearing.{is_echo}
use Rattle.sender_load.specs.declared.Sender.{Sender}
use Rattle.sender_load.specs.Items.{width, role_at, part, sent_at, item_of, standing, next_place, sound_load}
use Rattle.sender_load.specs.Echoes.{echo_due}
use Rattle.sender.specs.declared.Unheard.{Unheard}
use Rattle.sender.specs.declared.Verdict.{Verdict}
use Rattle.sender.specs.Calls.{idle, sent_by, gives, heeded, asked, tells, is_last, told}
use Rattle.sender_loop.specs.Loop.{Turn, told_back, then_turns, looped, Side, hearing, in_turns}
use Rattle.sender_loop.proofs.Head.{Steps, at, item_at, echo_at}

-- an echo is the echo that is due
own_echo : (port : Port) (echo : Echo)
    → is_echo port echo port echo.identifier (take echo.length echo.bytes) ≡ true
unfolding is_echo
own_echo Port.Can echo =
    rw (eq-eqb echo.identifier echo.identifier refl, same_own (take echo.length echo.bytes))
own_echo Port.Serial echo = rw (same_own (take echo.length echo.bytes))

-- one of two cases
pub split : {X : Type 0} (a b : ℕ) → (a < b → X) → (b ≤ a → X) → X
split a b below above = elim (cases_lt a b) [ inl h ↦ below h | inr h ↦ above h ]

-- whether an item is out changes neither the soundness of a load nor its item
module _ (sender : Sender) (image : List ℕ) (place : ℕ) (out : Bool) where
  sound_out : sound_load (standing sender place true) image ≡ sound_load (standing sender place out) image
  unfolding sound_load
  sound_out = refl

  part_out : (role : Role) → part role (standing sender place true) image ≡ part role (standing sender place out) image
  unfolding part
  part_out Role.Password = refl
  part_out Role.Header = refl
  part_out (Role.Data load) = refl

  echo_out : echo_due (standing sender place true) image ≡ echo_due (standing sender place out) image
  echo_out = rw (part_out (role_at (standing sender place out)))

-- asking again gives the same
pub asks_again : (sender : Sender) (image : List ℕ) → asked (asked sender image).sender image ≡ asked sender image
unfolding asked heeded
asks_again sender image =
    grind (arith, sound_out sender image sender.place sender.out, part_out sender image sender.place sender.out (role_at sender))

module _ (sender : Sender) (image : List ℕ) (going : sender.going ≡ true) where
  module _ (place : ℕ) (sound : sound_load (at sender place) image ≡ true) where
    asks : asked (at sender place) image ≡ gives (at sender place) image
    unfolding asked heeded
    asks = rw (sound, going)

    tells_other : (identifier : ℕ) (bytes : List ℕ)
        → is_echo sender.port (echo_at sender image place) sender.port identifier bytes ≡ false
        → told (standing sender place true) image sender.port identifier bytes ≡ tells (Ok Verdict.Abandoned) idle
    unfolding told heeded
    tells_other identifier bytes e = rw (sound_out sender image place false, sound, echo_out sender image place false, e, going)

    tells-right : (last : Bool) → is_last (at sender place) ≡ last
        → let echo = echo_at sender image place in
        told (standing sender place true) image sender.port echo.identifier (take echo.length echo.bytes)
        ≡ cond last (tells (Ok Verdict.Done) idle) (tells (Ok Verdict.GoesOn) (next_place (at sender place)))
    unfolding told heeded
    tells-right last e =
        let echo = echo_at sender image place in
        rw (sound_out sender image place false, sound, echo_out sender image place false, own_echo sender.port echo, e, going)

    -- a turn with an item that the head echoes
    module _
        {session after : Session} {m stores : List ℕ} {outcome : Outcome}
        (steps : Steps session m (item_at sender image place) outcome (echo_at sender image place) after stores) where
      abbrev turn : Result Verdict Unheard → Turn
      turn told =
          record {
            given = Ok (sent_at (at sender place) image);
            sent = sent_at (at sender place) image;
            answer = record { outcome = outcome; echo = echo_at sender image place };
            said = told;
          }

      pub turn_more : (count : ℕ) → is_last (at sender place) ≡ false
          → looped (suc count) sender.port image (at sender place) session m
          ≡ then_turns (turn (Ok Verdict.GoesOn))
          (looped count sender.port image (at sender (place + width sender.port)) after stores)
      unfolding looped
      turn_more count e = rw (asks, steps.made, tells-right false e)

      pub turn_last : is_last (at sender place) ≡ true
          → looped (suc zero) sender.port image (at sender place) session m
          ≡ record { turns = turn (Ok Verdict.Done) ∷ []; sender = idle; session = after; sram = stores }
      unfolding looped
      turn_last e = rw (asks, steps.made, tells-right true e)

    -- a turn in which the head ignores the item
    pub turn-silent : (session : Session) (m : List ℕ) → step session m (item_at sender image place) ≡ unchanged Outcome.Ignored session m
        → is_echo sender.port (echo_at sender image place) sender.port 0 [] ≡ false
        → looped (suc zero) sender.port image (at sender place) session m
        ≡ record {
          turns =
              record {
                given = Ok (sent_at (at sender place) image);
                sent = sent_at (at sender place) image;
                answer = without_echo Outcome.Ignored;
                said = Ok Verdict.Abandoned;
              }
              ∷ [];
          sender = idle;
          session = session;
          sram = m;
        }
    unfolding looped
    turn-silent session m ignored other = rw (asks, ignored, tells_other 0 [] other)

-- what a sender gives and says in a loop, it does by the echoes alone
pub own_side : (count : ℕ) (port : Port) (image : List ℕ) (sender : Sender) (session : Session) (sram : List ℕ)
    → let loop = looped count port image sender session sram in
    hearing (in_turns (λ turn. turn.answer.echo) loop) port image sender
    ≡ record { sent = in_turns (λ turn. turn.sent) loop; said = in_turns (λ turn. turn.said) loop; sender = loop.sender }
unfolding hearing looped
own_side zero port image sender session sram = refl
own_side (suc count) port image sender session sram =
    let asks = asked sender image in
    let head = step session sram (item_of (sent_by asks.answer)) in
    let tells = told_back asks.sender image port head.answer.echo in
    ap (λ (rest : Side). record { sent = sent_by asks.answer ∷ rest.sent; said = tells.answer ∷ rest.said; sender = rest.sender })
    (own_side count port image tells.sender head.session head.sram)
