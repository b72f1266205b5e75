-- The text for one window of a capture, and what the program has after it.
use Rattle.std.specs.Prelude.{ℕ, zero, suc, ◌+◌, ◌-◌, ◌≡◌, List, [], ◌++◌, Bool, true, false, cond, not, ◌&&◌, ◌||◌, length, take, drop, leb, ltb}
use Rattle.buffers.specs.Write.{over}
use Rattle.replay_record.specs.Beginning.{Carried, keeping}
use Rattle.replay_record.specs.declared.Progress.{Progress}
use Rattle.replay_window.specs.declared.Played.{Played}
use Rattle.replay_window.specs.Printing.{printing_from, text_from}

-- How far a call is: the next position in the window, the text so far, whether it has ended, and what is kept
pub record Playing : Type 0 where
  pub at : ℕ
  pub text : List ℕ
  pub ended : Bool
  pub kept : Carried

-- as a call has it before the first record
abbrev pub at_first : Carried → Playing
at_first kept = record { at = 0; text = []; ended = false; kept = kept }

abbrev pub onward : List ℕ → Playing → Playing
onward window p =
    let bytes = drop p.at window in
    record {
      at = p.at + (printing_from p.kept bytes).taken;
      text = p.text ++ (printing_from p.kept bytes).text;
      ended = (printing_from p.kept bytes).over;
      kept = (printing_from p.kept bytes).kept;
    }

-- A record is read where at least 14 bytes of the window are unread, which is the longest record (L 12 and the two bytes of L), or where
-- the capture ends with the window. Its text, with a last line never longer than 96 bytes, must have room, and its ordinal must not be
-- the largest that 64 bits hold.
abbrev pub ready_in : ℕ → Bool → ℕ → Bool → ℕ → Bool
ready_in unread last room ended ordinal =
    not ended && (last || leb 14 unread) && leb 96 room && ltb ordinal 0xFFFF_FFFF_FFFF_FFFF

unfoldable pub ready : List ℕ → Bool → ℕ → Playing → Bool
ready window last room p =
    ready_in (length window - p.at) last (room - length p.text) p.ended p.kept.ordinal

-- as long as one can be read, and at most so many
abbrev pub plays : ℕ → List ℕ → Bool → ℕ → Playing → Playing
plays zero window last room p = p
plays (suc more) window last room p =
    cond (ready window last room p) (plays more window last room (onward window p)) p

unfoldable pub played_in : List ℕ → Bool → ℕ → Carried → Playing
played_in window last room kept = plays (suc (length window)) window last room (at_first kept)

-- the result of a call: what it returns, and SRAM and the output after it
pub record CallResult : Type 0 where
  pub played : Played
  pub sram : List ℕ
  pub out : List ℕ

abbrev pub as_call_result : Played → List ℕ → List ℕ → CallResult
as_call_result played sram out = record { played = played; sram = sram; out = out }

abbrev pub result_after : Playing → List ℕ → CallResult
result_after p out =
    record {
      played = record {
        turn = record {
          at = p.at;
          used = length p.text;
          ended = p.ended;
          ordinal = p.kept.ordinal;
        };
        session = p.kept.session;
      };
      sram = p.kept.sram;
      out = over p.text out;
    }

-- Whatever follows the window, which is nothing after the last one, the text for the capture is what this call wrote, and then the
-- text from the next position on, with what is kept by then.
abbrev pub Continues : List ℕ → Bool → Carried → CallResult → Type 0
Continues window last kept call =
    let turn = call.played.turn in
    (rest : List ℕ)
    → (last ≡ true → rest ≡ [])
    → text_from kept (window ++ rest)
    ≡ take turn.used call.out
    ++ cond turn.ended
    []
    (text_from (keeping turn.ordinal call.played.session call.sram) (drop turn.at window ++ rest))

-- between two calls of `replay_window::play_window`: the text so far, whether it has ended, the bytes still to be played, and what is kept
pub record Between : Type 0 where
  pub text : List ℕ
  pub ended : Bool
  pub rest : List ℕ
  pub kept : Carried

-- one call, on a window and with so much room for text
abbrev pub on_window : List ℕ → Bool → ℕ → Carried → Between
on_window window last room kept =
    let p = played_in window last room kept in
    record { text = p.text; ended = p.ended; rest = drop p.at window; kept = p.kept }

-- after a window: how far the capture's text is, how long the window's text is and how much is unread, and every byte of the window and of the output
pub record WindowResult : Type 0 where
  pub between : Between
  pub used : ℕ
  pub unread : ℕ
  pub window : List ℕ
  pub out : List ℕ

-- a call: what it returns, and the window, SRAM and the output after it; the text is the output's start, what is unread the window's
abbrev pub as_window_result : Progress → List ℕ → List ℕ → List ℕ → WindowResult
as_window_result r window sram out =
    record {
      between = record {
        text = take r.used out;
        ended = r.ended;
        rest = take r.unread window;
        kept = keeping r.ordinal r.session sram;
      };
      used = r.used;
      unread = r.unread;
      window = window;
      out = out;
    }

-- the text and what is unread are written over the first bytes, and all else is as it was
abbrev pub after_window : Between → List ℕ → List ℕ → WindowResult
after_window between window out =
    record {
      between = between;
      used = length between.text;
      unread = length between.rest;
      window = over between.rest window;
      out = over between.text out;
    }
