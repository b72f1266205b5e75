-- The text ends: once the capture has been read to its end, a call ends the text or takes some of the bytes still to be played.
use Prim.Native.Nat.{ℕ, zero, suc, ◌+◌, ◌≤◌, ◌<◌}
use native.Mathlib.Omega.{arith}
use mathlib.Core.Path.{◌≡◌, refl, sym, ap, ◌∙◌}
use mathlib.Core.List.{List, [], ◌∷◌, ◌++◌}
use mathlib.Core.Bool.{Bool, true, false, cond, ◌||◌, false≢true}
use lib.Dec.{leb}
use lib.ListN.{length, drop, replicate, length-append, length-drop}
use Rattle.std.proofs.lemmas.Bool.Decides.{nat_tests}
use Rattle.replay_record.specs.Beginning.{Carried}
use Rattle.replay_window.specs.Windows.{Playing, at_first, onward, ready, plays, played_in, Between, on_window}
use Rattle.replay_window.proofs.Continuing.{printing-within}
use Rattle.replay_whole.specs.Joining.{Reading, capture_of, window_of, behind, called, calls, at_end, at_start, to_the_end}

module _ (window : List ℕ) (last : Bool) (room : ℕ) where
  abbrev up_to : ℕ → Playing → Playing
  up_to more p = plays more window last room p

  -- a state that has ended is the last one
  not_ready : (p : Playing) → p.ended ≡ true → ready window last room p ≡ false
  unfolding ready
  not_ready p e = rw e

  over_stays : (more : ℕ) (p : Playing) → p.ended ≡ true → (up_to more p).ended ≡ true
  over_stays zero p e = e
  over_stays (suc more) p e = rw (not_ready p e) e

  -- up to a state that has not ended, bytes were taken, and no more records than bytes
  abbrev Since : Playing → Playing → Type 0
  Since p q =
      (p.at ≤ q.at) × (q.at ≤ length window) × (q.kept.ordinal + p.at ≤ p.kept.ordinal + q.at)

  onward-within : (p : Playing) → p.at ≤ length window → (onward window p).ended ≡ false
      → Since p (onward window p) × (p.at + 4 ≤ (onward window p).at)
  onward-within p inside e =
      let unread = drop p.at window in
      let some = printing-within p.kept unread in
      let many = length-drop p.at window in
      let four = some.1 e in
      ((omega arith, omega (arith, some.0, many, inside), omega (arith, some.2, four)), omega (arith, four))

  plays-within : (more : ℕ) (p : Playing) → p.at ≤ length window → (up_to more p).ended ≡ false
      → Since p (up_to more p)
  plays-within zero p inside e = (omega arith, inside, omega arith)
  plays-within (suc more) p inside e = by_ready (ready window last room p) (plays-within more (onward window p)) e
    where
      by_ready
          : (t : Bool)
          → ((onward window p).at ≤ length window → (up_to more (onward window p)).ended ≡ false
          → Since (onward window p) (up_to more (onward window p)))
          → (cond t (up_to more (onward window p)) p).ended ≡ false
          → Since p (cond t (up_to more (onward window p)) p)
      by_ready false on e = (omega arith, inside, omega arith)
      by_ready true on e = by_over (onward window p).ended refl
        where
          by_over : (o : Bool) → (onward window p).ended ≡ o → Since p (up_to more (onward window p))
          by_over true o = absurd (false≢true (sym e ∙ over_stays more (onward window p) o))
          by_over false o =
              let here = (onward-within p inside o).0 in
              let rest = on here.1 e in
              (omega (arith, here.0, rest.0), rest.1, omega (arith, here.2, rest.2))

  -- the same of a call
  played-within : (kept : Carried) → (played_in window last room kept).ended ≡ false
      → ((played_in window last room kept).at ≤ length window)
      × ((played_in window last room kept).kept.ordinal ≤ kept.ordinal + (played_in window last room kept).at)
  unfolding played_in
  played-within kept e =
      let all = plays-within (suc (length window)) (at_first kept) (omega arith) e in
      (all.1, omega (arith, all.2))

  -- a call that can read a record takes it
  played_some : (kept : Carried) → ready window last room (at_first kept) ≡ true → (played_in window last room kept).ended ≡ false
      → 4 ≤ (played_in window last room kept).at
  unfolding played_in
  played_some kept yes-ready = rw yes-ready (λ e. by_over e (onward window (at_first kept)).ended refl)
    where
      first : Playing
      first = onward window (at_first kept)

      by_over : (up_to (length window) first).ended ≡ false → (o : Bool) → first.ended ≡ o → 4 ≤ (up_to (length window) first).at
      by_over e true o = absurd (false≢true (sym e ∙ over_stays (length window) first o))
      by_over e false o =
          let here = onward-within (at_first kept) (omega arith) o in
          omega (arith, here.1, (plays-within (length window) first here.0.1 e).0)

-- where there is room, 14 bytes or the end of the capture are enough for that
ready_first : (window : List ℕ) (last : Bool) (room : ℕ) (kept : Carried) → 96 ≤ room → kept.ordinal < 0xFFFF_FFFF_FFFF_FFFF
    → last || leb 14 (length window) ≡ true
    → ready window last room (at_first kept) ≡ true
unfolding ready
ready_first window last room kept wide small seen = grind (arith, nat_tests)

module _ (room : ℕ) where
  -- after the text has ended there are no more calls
  over-called : (b : Between) (readings : List Reading) → b.ended ≡ true → (calls room b readings).ended ≡ true
  over-called b [] e = e
  over-called b (reading ∷ readings) e = over-called (called room b reading) readings (rw e)

  not_over : (b : Between) (readings : List Reading) → (calls room b readings).ended ≡ false → b.ended ≡ false
  not_over b readings e = grind (arith, over-called)

  call_on : (b : Between) (reading : Reading) → b.ended ≡ false
      → called room b reading ≡ behind b (on_window (window_of b reading) reading.last room b.kept)
  call_on b reading e = rw e

  -- the bytes still to be played were there before or were read, and no more records were counted than bytes were taken
  abbrev Less : Between → ℕ → Between → Type 0
  Less b many c =
      (length c.rest ≤ length b.rest + many)
      × (c.kept.ordinal + length c.rest ≤ b.kept.ordinal + length b.rest + many)

  call_less : (b : Between) (reading : Reading) → (called room b reading).ended ≡ false
      → Less b (length reading.bytes) (called room b reading)
  call_less b reading e =
      let window = window_of b reading in
      let same = call_on b reading (not_over b (reading ∷ []) e) in
      let p = played_in window reading.last room b.kept in
      let within = played-within window reading.last room b.kept (sym (ap (λ (c : Between). c.ended) same) ∙ e) in
      let long = length-append b.rest reading.bytes in
      let shorter = length-drop p.at window in
      rw same (omega (arith, within.0, long, shorter), omega (arith, within.0, within.1, long, shorter))

  calls_less : (b : Between) (readings : List Reading) → (calls room b readings).ended ≡ false
      → Less b (length (capture_of readings)) (calls room b readings)
  calls_less b [] e = (omega arith, omega arith)
  calls_less b (reading ∷ readings) e =
      let first = call_less b reading (not_over (called room b reading) readings e) in
      let rest = calls_less (called room b reading) readings e in
      let long = length-append reading.bytes (capture_of readings) in
      (omega (arith, first.0, rest.0, long), omega (arith, first.1, rest.1, long))

  -- a call that has room, and bytes enough or the end of the capture, ends the text or takes bytes
  pub call-advances : (b : Between) (reading : Reading) → 96 ≤ room → b.kept.ordinal < 0xFFFF_FFFF_FFFF_FFFF
      → reading.last || leb 14 (length (window_of b reading)) ≡ true
      → (called room b reading).ended ≡ false
      → length (called room b reading).rest + 4 ≤ length (window_of b reading)
  call-advances b reading wide small seen e =
      let window = window_of b reading in
      let last = reading.last in
      let same = call_on b reading (not_over b (reading ∷ []) e) in
      let p = played_in window last room b.kept in
      let ended = sym (ap (λ (c : Between). c.ended) same) ∙ e in
      let some = played_some window last room b.kept (ready_first window last room b.kept wide small seen) ended in
      let within = played-within window last room b.kept ended in
      rw same (omega (arith, some, within.0, length-drop p.at window))

  finish : (n : ℕ) (b : Between) → 96 ≤ room → length b.rest < n
      → b.kept.ordinal + length b.rest < 0xFFFF_FFFF_FFFF_FFFF
      → (calls room b (replicate n at_end)).ended ≡ true
  finish zero b wide few small = absurd (omega arith)
  finish (suc n) b wide few small =
      by_ended (called room b at_end).ended refl
      (λ e. let less = call_less b at_end e in
      finish n (called room b at_end) wide (omega (arith, few, call-advances b at_end wide (omega (arith, small)) refl e, length-append b.rest [])) (omega (arith, small, less.1)))
    where
      by_ended
          : (t : Bool)
          → (called room b at_end).ended ≡ t
          → ((called room b at_end).ended ≡ false → (calls room (called room b at_end) (replicate n at_end)).ended ≡ true)
          → (calls room (called room b at_end) (replicate n at_end)).ended ≡ true
      by_ended true e on = over-called (called room b at_end) (replicate n at_end) e
      by_ended false e on = on e

  calls-append : (b : Between) (readings more : List Reading) → calls room b (readings ++ more) ≡ calls room (calls room b readings) more
  calls-append b [] more = refl
  calls-append b (reading ∷ readings) more = calls-append (called room b reading) readings more

  -- read to its end, the capture's text ends
  pub text-ends : (readings : List Reading) → 96 ≤ room → length (capture_of readings) + 1 < 0xFFFF_FFFF_FFFF_FFFF
      → (calls room at_start (to_the_end readings)).ended ≡ true
  text-ends readings wide small =
      rw (calls-append at_start readings (replicate (suc (length (capture_of readings))) at_end))
      (by_ended (calls room at_start readings).ended refl)
    where
      by_ended : (t : Bool) → (calls room at_start readings).ended ≡ t
          → (calls room (calls room at_start readings) (replicate (suc (length (capture_of readings))) at_end)).ended ≡ true
      by_ended true e = over-called (calls room at_start readings) (replicate (suc (length (capture_of readings))) at_end) e
      by_ended false e =
          let less = calls_less at_start readings e in
          finish (suc (length (capture_of readings))) (calls room at_start readings) wide (omega (arith, less.0)) (omega (arith, small, less.1))
