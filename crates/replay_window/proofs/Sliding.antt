-- The result of a window, by the result of the call that plays it and by what is moved to the window's start.
use Prim.Native.Nat.{ℕ, ◌-◌}
use mathlib.Core.Path.{◌≡◌, refl, sym, ap, ◌∙◌}
use mathlib.Core.List.{List}
use lib.ListN.{length, take, drop, length-drop}
use lib.Seq.{take-append_seam}
use Rattle.buffers.specs.Write.{over}
use Rattle.replay_record.specs.declared.Progress.{Progress}
use Rattle.replay_window.specs.declared.Played.{Played}
use Rattle.replay_window.specs.Windows.{Playing, Between, CallResult, as_call_result, result_after, WindowResult, as_window_result, after_window}

-- what is moved to the start of a list is there
moved_is : (list : List ℕ) (from : ℕ) → take (length list - from) (over (drop from list) list) ≡ drop from list
moved_is list from =
    ap (λ (n : ℕ). take n (over (drop from list) list)) (sym (length-drop from list))
    ∙ take-append_seam (drop from list) (drop (length (drop from list)) list)

module _ (window out : List ℕ) (p : Playing) where
  abbrev between : Between
  between = record { text = p.text; ended = p.ended; rest = drop p.at window; kept = p.kept }

  abbrev progress_of : Played → ℕ → Progress
  progress_of played unread =
      record {
        used = played.turn.used;
        unread = unread;
        ended = played.turn.ended;
        ordinal = played.turn.ordinal;
        session = played.session;
      }

  -- of a call's result, with what is unread moved
  abbrev moved : CallResult → WindowResult
  moved l =
      let at = l.played.turn.at in
      as_window_result (progress_of l.played (length window - at)) (over (drop at window) window) l.sram l.out

  moved_all : moved (result_after p out) ≡ after_window between window out
  moved_all =
      rw (moved_is window p.at, take-append_seam p.text (drop (length p.text) out), length-drop p.at window) refl

  pub window-played
      : (played : Played) (sram' out' : List ℕ)
      → as_call_result played sram' out' ≡ result_after p out
      → (unread : ℕ)
      → unread ≡ length window - played.turn.at
      → (window' : List ℕ)
      → window' ≡ over (drop played.turn.at window) window
      → as_window_result (progress_of played unread) window' sram' out' ≡ after_window between window out
  window-played played sram' out' call-is unread unread-is window' window-is =
      rw (unread-is, window-is) (ap moved call-is ∙ moved_all)
