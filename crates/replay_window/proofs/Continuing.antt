-- The text for a capture, record by record and window by window.
use Prim.Native.Nat.{ℕ, zero, suc, ◌+◌, ◌≤◌, ◌<◌}
use native.Mathlib.Omega.{arith}
use mathlib.Core.Path.{◌≡◌, refl, sym, ap, ◌∙◌}
use mathlib.Core.List.{List, [], ◌++◌, append-nil, append_assoc}
use mathlib.Core.Bool.{Bool, true, false, cond, ◌||◌, false≢true}
use borrow.Author.Tests.{eqb-true, eqb-false, leb-true}
use lib.Dec.{eqb, leb}
use lib.ListN.{length, drop, length-drop}
use lib.Seq.{take-append-le, take-append_seam, drop-append-le, drop-drop}
use Rattle.std.proofs.lemmas.Bool.Decides.{nat_tests}
use Rattle.capture.specs.Records.{Read, found}
use Rattle.capture.proofs.Laws.{found_next}
use Rattle.capture.proofs.Window.{window as fourteen}
use Rattle.session_answers.specs.Answers.{Result}
use Rattle.replay_lines.specs.Lines.{record_line}
use Rattle.replay_record.specs.Handling.{handling_of}
use Rattle.replay_record.specs.Beginning.{Carried}
use Rattle.replay_window.specs.Printing.{Printing, recorded, closing, ends, printing_of, printing_from, text_in, text_from, kept_after, printing_after}
use Rattle.replay_window.specs.Windows.{Playing, at_first, onward, ready, plays, played_in, result_after, Continues}

-- a record's printing takes no more bytes than there are, and at least 4 where the text does not end, and counts at most one record
module _ (kept : Carried) (read : Read) (most : ℕ) (within : read.number ≡ 0 → (read.kind ≡ 0 → ⊥) → (4 ≤ read.next) × (read.next ≤ most)) where
  abbrev Inside : Printing → Type 0
  Inside printing =
      (printing.taken ≤ most) × (printing.over ≡ false → 4 ≤ printing.taken) × (printing.kept.ordinal ≤ kept.ordinal + 1)

  by_tests
      : (next : Carried) (call : Result) (text line : List ℕ) (n k : Bool)
      → next.ordinal ≡ kept.ordinal
      → eqb read.number 0 ≡ n
      → eqb read.kind 0 ≡ k
      → Inside (cond n (cond k (ends next text) (recorded next read.next call)) (ends next line))
  by_tests next call text line true false same en ek =
      let room = within (eqb-true read.number 0 en) (eqb-false read.kind 0 ek) in
      (room.1, λ e. room.0, omega (arith, same))
  by_tests next call text line true true same en ek = (omega arith, λ e. absurd (false≢true (sym e)), omega (arith, same))
  by_tests next call text line false k same en ek = (omega arith, λ e. absurd (false≢true (sym e)), omega (arith, same))

  printing_of-within : Inside (printing_of kept read)
  unfolding printing_of printing_after handling_of
  printing_of-within =
      let handling = handling_of kept.session kept.sram read in
      let next = kept_after kept.ordinal handling in
      by_tests
      next
      handling.result
      (closing next)
      (record_line kept.ordinal read.number [] ++ closing next)
      (eqb read.number 0)
      (eqb read.kind 0)
      refl
      refl
      refl

pub printing-within : (kept : Carried) (bytes : List ℕ)
    → ((printing_from kept bytes).taken ≤ length bytes)
    × ((printing_from kept bytes).over ≡ false → 4 ≤ (printing_from kept bytes).taken)
    × ((printing_from kept bytes).kept.ordinal ≤ kept.ordinal + 1)
printing-within kept bytes =
    printing_of-within kept (found 0 bytes) (length bytes)
    (λ e h. let room = found_next 0 bytes e h in (omega (arith, room.0), omega (arith, room.1)))

-- what follows matters only where the text does not end
alike : (over : Bool) (text other : List ℕ) → (over ≡ false → text ≡ other) → cond over [] text ≡ cond over [] other
alike true text other h = refl
alike false text other h = h refl

-- more records than there are bytes for change nothing
more_alike : (k m : ℕ) (kept : Carried) (bytes : List ℕ) → length bytes < k → length bytes < m → text_in k kept bytes ≡ text_in m kept bytes
more_alike zero m kept bytes h i = absurd (omega arith)
more_alike (suc k) zero kept bytes h i = absurd (omega arith)
more_alike (suc k) (suc m) kept bytes h i =
    let printing = printing_from kept bytes in
    let rest = drop printing.taken bytes in
    let many = length-drop printing.taken bytes in
    ap (λ (l : List ℕ). printing.text ++ l)
    (alike printing.over (text_in k printing.kept rest) (text_in m printing.kept rest)
    (λ e. let some = printing-within kept bytes in
    more_alike k m printing.kept rest (omega (arith, some.0, some.1 e, many, h)) (omega (arith, some.0, some.1 e, many, i))))

-- the text is the first record's, and then that of the rest
pub text_first : (kept : Carried) (bytes : List ℕ)
    → text_from kept bytes
    ≡ (printing_from kept bytes).text
    ++ cond (printing_from kept bytes).over [] (text_from (printing_from kept bytes).kept (drop (printing_from kept bytes).taken bytes))
unfolding text_from
text_first kept bytes =
    let printing = printing_from kept bytes in
    let rest = drop printing.taken bytes in
    let many = length-drop printing.taken bytes in
    ap (λ (l : List ℕ). printing.text ++ l)
    (alike printing.over (text_in (length bytes) printing.kept rest) (text_in (suc (length rest)) printing.kept rest)
    (λ e. let some = printing-within kept bytes in
    more_alike (length bytes) (suc (length rest)) printing.kept rest (omega (arith, some.0, some.1 e, many)) (omega arith)))

-- A window, what follows it, and the text from a state of a call on.
module _ (window : List ℕ) (last : Bool) (room : ℕ) (rest : List ℕ) (none : last ≡ true → rest ≡ []) where
  abbrev pub Whole : Playing → List ℕ
  Whole p = p.text ++ cond p.ended [] (text_from p.kept (drop p.at window ++ rest))

  -- a record that can be read is the same with what follows the window
  seen : (unread : List ℕ) → last || leb 14 (length unread) ≡ true → found 0 (unread ++ rest) ≡ found 0 unread
  seen unread h = by_last last refl h
    where
      by_last : (l : Bool) → last ≡ l → l || leb 14 (length unread) ≡ true → found 0 (unread ++ rest) ≡ found 0 unread
      by_last true e h = rw (none e, append-nil unread)
      by_last false e h = fourteen 0 (unread ++ rest) unread (take-append-le 14 unread rest (leb-true 14 (length unread) h))

  -- what `ready` means
  ready_means : (p : Playing) → ready window last room p ≡ true → (p.ended ≡ false) × (last || leb 14 (length (drop p.at window)) ≡ true)
  unfolding ready
  ready_means p h = (grind (arith, nat_tests), grind (arith, nat_tests, length-drop))

  onward-whole : (p : Playing) → ready window last room p ≡ true → Whole p ≡ Whole (onward window p)
  onward-whole p h =
      let known = ready_means p h in
      let unread = drop p.at window in
      let printing = printing_from p.kept unread in
      let behind = drop (p.at + printing.taken) window ++ rest in
      ap (λ (t : Bool). p.text ++ cond t [] (text_from p.kept (unread ++ rest))) known.0
      ∙ ap (λ (l : List ℕ). p.text ++ l) (text_first p.kept (unread ++ rest))
      ∙ ap
      (λ (s : Printing). p.text ++ (s.text ++ cond s.over [] (text_from s.kept (drop s.taken (unread ++ rest)))))
      (ap (printing_of p.kept) (seen unread known.1))
      ∙ ap (λ (l : List ℕ). p.text ++ (printing.text ++ l))
      (alike printing.over (text_from printing.kept (drop printing.taken (unread ++ rest))) (text_from printing.kept behind)
      (λ e. ap (text_from printing.kept)
      (drop-append-le printing.taken unread rest (printing-within p.kept unread).0
      ∙ ap (λ (l : List ℕ). l ++ rest) (drop-drop printing.taken p.at window))))
      ∙ sym (append_assoc p.text printing.text (cond printing.over [] (text_from printing.kept behind)))

  plays-whole : (more : ℕ) (p : Playing) → Whole p ≡ Whole (plays more window last room p)
  plays-whole zero p = refl
  plays-whole (suc more) p = by_ready (ready window last room p) refl (λ e. onward-whole p e ∙ plays-whole more (onward window p))
    where
      by_ready
          : (t : Bool)
          → ready window last room p ≡ t
          → (ready window last room p ≡ true → Whole p ≡ Whole (plays more window last room (onward window p)))
          → Whole p ≡ Whole (cond t (plays more window last room (onward window p)) p)
      by_ready true e h = h e
      by_ready false e h = refl

  -- the text for the window with what follows it, by the result of a call
  pub played-whole : (kept : Carried) → text_from kept (window ++ rest) ≡ Whole (played_in window last room kept)
  unfolding played_in
  played-whole kept = plays-whole (suc (length window)) (at_first kept)

-- the claim about a call, of the result that its equation gives
pub windows_join : (window : List ℕ) (last : Bool) (room : ℕ) (kept : Carried) (out : List ℕ)
    → Continues window last kept (result_after (played_in window last room kept) out)
windows_join window last room kept out rest none =
    let p = played_in window last room kept in
    played-whole window last room rest none kept
    ∙ ap
    (λ (l : List ℕ). l ++ cond p.ended [] (text_from p.kept (drop p.at window ++ rest)))
    (sym (take-append_seam p.text (drop (length p.text) out)))
