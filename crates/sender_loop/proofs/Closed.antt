-- The closed loop: a load delivered, and its items among others.
use Prim.Native.Nat.{ℕ, zero, suc, ◌+◌, ◌-◌, ◌*◌, ◌/◌, ◌≤◌, ◌<◌}
use native.Mathlib.Omega.{arith}
use mathlib.Core.Path.{◌≡◌, refl, sym, ap, ◌∙◌}
use mathlib.Core.List.{List, map, map-map}
use mathlib.Core.Bool.{Bool, true}
use lib.ListN.{length}
use Rattle.std.specs.Prelude.{Ok}
use Rattle.octets.proofs.Comparing.{same_own}
use Rattle.password.specs.Passing.{legal, passes}
use Rattle.session_configuration.specs.declared.Configuration.{Configuration}
use Rattle.sram.specs.Region.{size, in_range}
use Rattle.session_state.specs.declared.Port.{Port}
use Rattle.header.specs.declared.Header.{Header}
use Rattle.header.specs.Reading.{fits, validated}
use Rattle.session_items.specs.Items.{Item}
use Rattle.session_answers.specs.declared.Answer.{Answer}
use Rattle.session_answers.specs.declared.Echo.{Echo}
use Rattle.session_answers.proofs.Laws.{Accepted}
use Rattle.session_fresh.specs.Fresh.{fresh_session}
use Rattle.session.specs.Running.{Call, ran}
use Rattle.session_merging.specs.Merging.{picked_port, in_stream, only, stream_of}
use Rattle.session_merging.proofs.Stream.{demand_three}
use Rattle.sender_header.specs.Writing.{header_meant}
use Rattle.sender_header.proofs.Laws.{written_reads}
use Rattle.sender_load.specs.declared.Sender.{Sender}
use Rattle.sender_load.specs.Items.{sent_at, item_of, along, item_count, items_of, at_item}
use Rattle.sender_load.proofs.Laws.{fit_short}
use Rattle.sender.specs.Calls.{head_with, new_load, load_begun, left_by}
use Rattle.sender_loop.specs.Loop.{Turn, Loop, hearing, Line, Delivered, Amid, connected}
use Rattle.sender_loop.proofs.Head.{head_at, sram_first}
use Rattle.sender_loop.proofs.Items.{load_items_lem}
use Rattle.sender_loop.proofs.Turns.{own_side}
use Rattle.sender_loop.proofs.Load.{Reaches, Meant, Onward, onwards}

-- how many items come before the last
pub record LastItem (port : Port) (length : ℕ) : Type 0 where
  pub before : ℕ
  pub counts : item_count port length ≡ suc before
  pub reached : Reaches port (16 + length) before 0

reaches_can : (end count place : ℕ) → place + 8 * count < end → end ≤ place + 8 * count + 8 → Reaches Port.Can end count place
reaches_can end zero place h k = omega arith
reaches_can end (suc count) place h k = (omega arith, reaches_can end count (place + 8) (omega arith) (omega arith))

reaches_serial : (end count place : ℕ) → place + count < end → end ≤ place + count + 1 → Reaches Port.Serial end count place
reaches_serial end zero place h k = omega arith
reaches_serial end (suc count) place h k = (omega arith, reaches_serial end count (place + 1) (omega arith) (omega arith))

pub before_last : (port : Port) (length : ℕ) → LastItem port length
before_last Port.Can length =
    let count = 1 + (length + 7) / 8 in
    record {
      before = count;
      counts = omega arith;
      reached = reaches_can (16 + length) count 0 (omega arith) (omega arith);
    }
before_last Port.Serial length =
    record {
      before = 15 + length;
      counts = omega arith;
      reached = reaches_serial (16 + length) (15 + length) 0 (omega arith) (omega arith);
    }

-- What a header that fits says.

fit_some : (configuration : Configuration) (header : Header) → fits configuration header ≡ true → 1 ≤ header.length
fit_some configuration header e = grind arith

fit_inside : (configuration : Configuration) (header : Header) → fits configuration header ≡ true
    → in_range configuration header.start.0 header.length ≡ true
fit_inside configuration header e = grind arith

fit_judged : (configuration : Configuration) (header : Header) → fits configuration header ≡ true
    → validated configuration header ≡ Ok header
unfolding validated
fit_judged configuration header e = grind arith

-- what fits a head fits every other
fits_other : (configuration other : Configuration) (header : Header) → fits configuration header ≡ fits other header
unfolding in_range size
fits_other configuration other header = refl

pub passes_own : (password : List ℕ) → legal password ≡ true → passes password password ≡ true
unfolding passes
passes_own password e = rw (e, same_own password)

pub at_start_lem : (port : Port) → at_item port 0 ≡ true
at_start_lem Port.Can = refl
at_start_lem Port.Serial = refl

module _
    (configuration : Configuration) (port : Port) (start : ℕ) (vle : Bool) (password image sram : List ℕ)
    (line : Line configuration start vle password image sram) where
  abbrev pub load : Sender
  load = new_load port start vle password (length image)

  abbrev announced : Header
  announced = header_meant start vle (length image)

  own_fit : fits (head_with password) announced ≡ true
  own_fit = fits_other (head_with password) configuration announced ∙ line.fit

  pub meant : Meant configuration load image sram
  meant =
      let short = fit_short configuration start vle (length image) line.fit in
      record {
        going = refl;
        eight = line.eight;
        whole = refl;
        right = line.right;
        own_fit = own_fit;
        some = fit_some configuration announced line.fit;
        inside = fit_inside configuration announced line.fit;
        reads = rw (written_reads configuration start vle (length image) short) (fit_judged configuration announced line.fit);
      }

  pub begins : load_begun port start vle password (length image) ≡ Ok load
  unfolding load_begun
  begins = rw (fit_judged (head_with password) announced own_fit)

  pub ready : Accepted (fresh_session configuration) sram
  ready = record { right = line.right; fine = line.fine }

  -- from its first place to its end
  abbrev first : LastItem port (length image)
  first = before_last port (length image)

  abbrev count : ℕ
  count = item_count port (length image)

  abbrev loop : Loop
  loop = connected configuration port start vle password image sram count

  abbrev walked : List Item
  walked = map item_of (along (λ at. sent_at at image) count load)

  pub fresh_head : head_at configuration load image sram 0 ≡ fresh_session configuration
  unfolding head_at
  fresh_head = refl

  module _ (passed : passes password configuration.password ≡ true) where
    all : Onward configuration load image sram meant passed first.before 0 loop (ran (fresh_session configuration) sram walked)
    all =
        let still = sram_first configuration load image sram 0 (omega arith) in
        let whole =
        onwards configuration load image sram meant passed first.before 0 first.reached (at_start_lem port) (omega arith)
        (rw (fresh_head, still) ready) in
        rw (begins, first.counts) (rw (fresh_head, still) at whole)

    pub delivered : Delivered configuration load image sram count loop
    delivered =
        let n = first.before in
        let one : count - 1 ≡ n = omega (arith, first.counts) in
        record {
          gave = rw first.counts (rw first.counts at all.gave);
          items = ap (map item_of) all.items ∙ rw (← first.counts) (load_items_lem load image line.eight);
          echoed = rw first.counts (rw first.counts at all.echoed);
          answered = rw one all.answered;
          said = rw one all.said;
          idles = all.idles;
          jumped = all.jumped;
          loaded = all.loaded;
        }

    -- among others, by demand 3: the stream alone ends as the loop does, and the sender goes by the echoes
    pub amid : length configuration.password ≡ 8 → (list : List Item) → stream_of list ≡ items_of load image
        → Amid port image (left_by (load_begun port start vle password (length image))) list loop (ran (fresh_session configuration) sram list)
    amid eight list e =
        let merged = demand_three configuration sram list eight line.fine line.right in
        let alone = rw (load_items_lem load image line.eight ∙ sym e) at all in
        let answers = ap (map (λ (call : Call). call.answer)) merged.same_answers ∙ alone.same_answers in
        let begun = left_by (load_begun port start vle password (length image)) in
        record {
          same_answers = answers;
          same_side =
              ap (λ (echoes : List Echo). hearing echoes port image begun)
              (sym (map-map (λ (answer : Answer). answer.echo) (λ (call : Call). call.answer)
              (only (λ (call : Call). in_stream (picked_port list) call.item) (ran (fresh_session configuration) sram list).calls))
              ∙ ap (map (λ (answer : Answer). answer.echo)) answers
              ∙ map-map (λ (answer : Answer). answer.echo) (λ (turn : Turn). turn.answer) loop.turns)
              ∙ own_side count port image begun (fresh_session configuration) sram;
          others = merged.others;
          same_session = merged.same_session ∙ alone.same_session;
          same_sram = merged.same_sram ∙ alone.same_sram;
        }
