-- The loop over a window's records: what it has written so far, and what the definition has still to give.
use Prim.Native.Nat.{ℕ, zero, suc, ◌+◌, ◌-◌, ◌≤◌, ◌<◌}
use native.Mathlib.Omega.{arith}
use mathlib.Core.Path.{◌≡◌, refl, sym, ap, ◌∙◌}
use mathlib.Core.List.{List, [], ◌++◌}
use mathlib.Core.Bool.{Bool, true, false, cond}
use lib.ListN.{length, drop, length-append, length-drop}
use Rattle.std.proofs.lemmas.Bool.Decides.{nat_tests}
use Rattle.buffers.specs.Write.{over}
use Rattle.replay_lines.specs.Output.{Output, as_output, appended}
use Rattle.replay_lines.proofs.Laws.{appended-behind}
use Rattle.replay_record.specs.Beginning.{Carried, keeping}
use Rattle.replay_window.specs.declared.Played.{Played}
use Rattle.replay_window.specs.Printing.{Printing, printing_from}
use Rattle.replay_window.specs.Windows.{Playing, onward, ready_in, ready, plays, played_in, CallResult, as_call_result, result_after}
use Rattle.replay_window.specs.Turns.{printed_at, result_with, printing_result, moved_on}
use Rattle.replay_window.proofs.Continuing.{printing-within}

-- where the definition is, of a call with its text and SRAM
abbrev pub state_of : List ℕ → Played → List ℕ → Playing
state_of text played sram =
    record {
      at = played.turn.at;
      text = text;
      ended = played.turn.ended;
      kept = keeping played.turn.ordinal played.session sram;
    }

pub record Turning (window : List ℕ) (last : Bool) (kept : Carried) (first : List ℕ) (played : Played) (sram out : List ℕ) : Type 0 where
  pub text : List ℕ
  pub more : ℕ
  pub used : played.turn.used ≡ length text
  pub wrote : out ≡ over text first
  pub fits : length text ≤ length first
  pub inside : played.turn.at ≤ length window
  pub enough : played.turn.ended ≡ false → length window < played.turn.at + more
  pub same : plays more window last (length first) (state_of text played sram) ≡ played_in window last (length first) kept

-- how much remains to be read: with each turn it is less
abbrev pub remaining_in : List ℕ → Played → ℕ
remaining_in window played = cond played.turn.ended 0 (suc (length window - played.turn.at))

pub turning_first : (window : List ℕ) (last : Bool) (kept : Carried) (out : List ℕ)
    → Turning window last kept out record { turn = record { at = 0; used = 0; ended = false; ordinal = kept.ordinal }; session = kept.session } kept.sram out
unfolding played_in
turning_first window last kept out =
    record {
      text = [];
      more = suc (length window);
      used = refl;
      wrote = refl;
      fits = omega arith;
      inside = omega arith;
      enough = λ e. omega arith;
      same = refl;
    }

module _ (window : List ℕ) (last : Bool) (kept : Carried) (first : List ℕ) (played : Played) (sram out : List ℕ) (here : Turning window last kept first played sram out) where
  abbrev Tested : Bool → Type 0
  Tested t = t ≡ ready_in (length window - played.turn.at) last (length out - played.turn.used) played.turn.ended played.turn.ordinal

  -- the output keeps its length
  pub turning_long : length out ≡ length first
  turning_long =
      ap length here.wrote
      ∙ length-append here.text (drop (length here.text) first)
      ∙ omega (arith, here.fits, length-drop (length here.text) first)

  -- the code's test is the definition's
  ready_same : (t : Bool) → Tested t → t ≡ ready window last (length first) (state_of here.text played sram)
  unfolding ready
  ready_same t e = e ∙ rw (here.used, turning_long)

  -- what it means: the text has not ended, and the next record's text and ordinal have room
  pub turning_room : (t : Bool) → Tested t → t ≡ true
      → (played.turn.ended ≡ false) × (played.turn.used + 96 ≤ length out) × (played.turn.ordinal < 0xFFFF_FFFF_FFFF_FFFF)
  turning_room t e yes-ready = (grind (arith, nat_tests), grind (arith, nat_tests), grind (arith, nat_tests))

  -- when the next record can't be read the definition is done
  pub turning_last : (t : Bool) → Tested t → t ≡ false → as_call_result played sram out ≡ result_after (played_in window last (length first) kept) first
  turning_last t e stopped =
      rw (here.wrote, here.used) (ap (λ (p : Playing). result_after p first) (sym (done here.more) ∙ here.same))
    where
      done : (more : ℕ) → plays more window last (length first) (state_of here.text played sram) ≡ state_of here.text played sram
      done zero = refl
      done (suc more) = rw (← ready_same t e, stopped)

  -- one record more
  abbrev before : Carried
  before = keeping played.turn.ordinal played.session sram

  abbrev unread : List ℕ
  unread = drop played.turn.at window

  abbrev next-printing : Printing
  next-printing = printing_from before unread

  module _ (next : Played) (next-sram next-out : List ℕ)
      (call-is : as_call_result next next-sram next-out ≡ moved_on played.turn.at (printing_result next-printing (as_output out played.turn.used)))
      (short : length next-printing.text ≤ 96)
      (t : Bool) (e : Tested t) (yes-ready : t ≡ true) where
    abbrev text : List ℕ
    text = here.text ++ next-printing.text

    long : length text ≤ length first
    long =
        let room = (turning_room t e yes-ready).1 in
        omega (arith, length-append here.text next-printing.text, here.used, room, short, turning_long)

    put : appended (as_output out played.turn.used) next-printing.text ≡ as_output (over text first) (length text)
    put =
        rw (here.wrote, here.used)
        (appended-behind here.text first next-printing.text (omega (arith, long, length-append here.text next-printing.text)))

    -- the call after the record's printing, with the output that `put` gives
    turned : Output → CallResult
    turned o = moved_on played.turn.at (result_with (printed_at next-printing.taken next-printing.over next-printing.kept.ordinal o) next-printing.kept)

    all : as_call_result next next-sram next-out ≡ turned (as_output (over text first) (length text))
    unfolding turned
    all = call-is ∙ ap turned put

    at_is : next.turn.at ≡ played.turn.at + next-printing.taken
    unfolding turned
    at_is = ap (λ (l : CallResult). l.played.turn.at) all

    ended_is : next.turn.ended ≡ next-printing.over
    unfolding turned
    ended_is = ap (λ (l : CallResult). l.played.turn.ended) all

    within : played.turn.at + next-printing.taken ≤ length window
    within = omega (arith, (printing-within before unread).0, length-drop played.turn.at window, here.inside)

    plays_on : (more : ℕ) → 0 < more
        → plays (more - 1) window last (length first) (onward window (state_of here.text played sram))
        ≡ plays more window last (length first) (state_of here.text played sram)
    plays_on zero h = absurd (omega arith)
    plays_on (suc more) h =
        let less : suc more - 1 ≡ more = omega arith in
        rw (less, ← ready_same t e, yes-ready)

    some : length window < played.turn.at + here.more
    some = here.enough (turning_room t e yes-ready).0

    pub turning_on : Turning window last kept first next next-sram next-out
    unfolding turned
    turning_on =
        record {
          text = text;
          more = here.more - 1;
          used = ap (λ (l : CallResult). l.played.turn.used) all;
          wrote = ap (λ (l : CallResult). l.out) all;
          fits = long;
          inside = omega (arith, at_is, within);
          enough = λ not_ended. omega (arith, at_is, some, (printing-within before unread).1 (sym ended_is ∙ not_ended));
          same =
              ap (λ (l : CallResult). plays (here.more - 1) window last (length first) (state_of text l.played l.sram)) all
              ∙ plays_on here.more (omega (arith, some, here.inside))
              ∙ here.same;
        }

    pub turning_less : remaining_in window next < remaining_in window played
    turning_less = rw ((turning_room t e yes-ready).0, ended_is) (by_end next-printing.over refl)
      where
        by_end : (over : Bool) → next-printing.over ≡ over → cond over 0 (suc (length window - next.turn.at)) < suc (length window - played.turn.at)
        by_end true o = omega arith
        by_end false o = omega (arith, at_is, within, (printing-within before unread).1 o)
