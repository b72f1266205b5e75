-- The text for a whole capture, in whatever pieces it is read (01, "The truck's capture file").
use Rattle.std.specs.Prelude.{ℕ, suc, ◌+◌, ◌≤◌, ◌<◌, ◌≡◌, List, [], ◌∷◌, ◌++◌, Bool, true, false, cond, ◌||◌, length, replicate, leb}
use Rattle.replay_record.specs.Beginning.{beginning}
use Rattle.replay_window.specs.Printing.{text_from}
use Rattle.replay_window.specs.Windows.{Between, on_window}

-- what a read brings: the next bytes of the capture, and whether the capture ends with them
pub record Reading : Type 0 where
  pub bytes : List ℕ
  pub last : Bool

-- the capture, by all that is read of it
abbrev pub capture_of : List Reading → List ℕ
capture_of [] = []
capture_of (reading ∷ readings) = reading.bytes ++ capture_of readings

-- a read at the end of the capture
abbrev pub at_end : Reading
at_end = record { bytes = []; last = true }

-- no reading brings bytes after one with which the capture ends
abbrev pub Ordered : List Reading → Type 0
Ordered [] = Unit {0}
Ordered (reading ∷ readings) = (reading.last ≡ true → capture_of readings ≡ []) × Ordered readings

-- its text is put behind the text so far
abbrev pub behind : Between → Between → Between
behind here next =
    record { text = here.text ++ next.text; ended = next.ended; rest = next.rest; kept = next.kept }

-- a call's window: the bytes still to be played, and then what is read
abbrev pub window_of : Between → Reading → List ℕ
window_of here reading = here.rest ++ reading.bytes

-- a read and a call; none once the text has ended
abbrev pub called : ℕ → Between → Reading → Between
called room here reading =
    cond here.ended here (behind here (on_window (window_of here reading) reading.last room here.kept))

-- a list of readings, each with its call
abbrev pub calls : ℕ → Between → List Reading → Between
calls room here [] = here
calls room here (reading ∷ readings) = calls room (called room here reading) readings

-- before the first call
abbrev pub at_start : Between
at_start = record { text = []; ended = false; rest = []; kept = beginning }

-- the text for the capture, by what has been written and the bytes that come later
abbrev pub whole_text : Between → List ℕ → List ℕ
whole_text here later = here.text ++ cond here.ended [] (text_from here.kept (here.rest ++ later))

-- the readings, then as many at the end of the capture as it has bytes, and one more
abbrev pub to_the_end : List Reading → List Reading
to_the_end readings = readings ++ replicate (suc (length (capture_of readings))) at_end

-- What `replay_whole::every_capture` promises, in whatever pieces the capture is read
pub record EveryCapture : Type 0 where
  -- at any time its text is what the calls have written and then, unless that has ended, the text for the bytes still to be played or read
  pub so_far : (room : ℕ) (done later : List Reading) → Ordered (done ++ later)
      → text_from beginning (capture_of (done ++ later)) ≡ whole_text (calls room at_start done) (capture_of later)
  -- with room for a record's text and an ordinal for it, and 14 bytes in its window or the end of the capture, a call ends the text or takes a record
  pub advances : (room : ℕ) (here : Between) (reading : Reading) → 96 ≤ room → here.kept.ordinal < 0xFFFF_FFFF_FFFF_FFFF
      → reading.last || leb 14 (length (window_of here reading)) ≡ true
      → (called room here reading).ended ≡ false
      → length (called room here reading).rest + 4 ≤ length (window_of here reading)
  -- so a capture of fewer than 2^64 - 2 bytes that is read to its end has its text written, whole and no more
  pub whole : (room : ℕ) (readings : List Reading) → Ordered readings → 96 ≤ room
      → length (capture_of readings) + 1 < 0xFFFF_FFFF_FFFF_FFFF
      → ((calls room at_start (to_the_end readings)).ended ≡ true)
      × ((calls room at_start (to_the_end readings)).text ≡ text_from beginning (capture_of readings))
