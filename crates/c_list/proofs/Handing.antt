-- A list of flat lists from a place on: its next item, and the run of the rest.
use Rattle.std.specs.Prelude.{Ok}
use Prim.Native.Nat.{ℕ, ◌+◌, ◌*◌, ◌-◌, ◌≤◌, ◌<◌}
use native.Mathlib.Nat.{add-zero}
use native.Mathlib.Numerals.{add-one}
use native.Mathlib.Omega.{arith}
use mathlib.Core.Path.{◌≡◌, refl, sym, ap, ◌∙◌}
use mathlib.Core.List.{List, [], ◌∷◌, ◌++◌, append_assoc, append-nil}
use mathlib.Core.Bool.{true, ◌&&◌, and-eq-true_iff}
use borrow.Author.Tests.{eqb-true, leb-true}
use lib.Dec.{leb, eqb}
use lib.ListN.{length, take, drop, get_or, length-append, length-drop, drop_of_length-le}
use lib.Seq.{drop-cons, drop-drop, get_or-drop, take_at, take_all, length-take-le}
use Rattle.buffers.specs.Write.{over_from}
use Rattle.session_state.specs.declared.Session.{Session}
use Rattle.session_items.specs.Items.{Item, is_item, source_of}
use Rattle.session_answers.specs.declared.Answer.{Answer}
use Rattle.session_answers.specs.Answers.{precheck}
use Rattle.session_answers.proofs.Laws.{Accepted, precheck_passed}
use Rattle.session.specs.Rules.{step}
use Rattle.session.specs.Running.{ran}
use Rattle.session.proofs.Answered.{accepted}
use Rattle.c_answer.specs.Writing.{Flat, as_flat, echo_width, answer_width, echo_bytes, answer_numbers}
use Rattle.c_answer.proofs.Whole.{answer-length}
use Rattle.c_session.specs.Writing.{session_flat}
use Rattle.c_session.specs.Reading.{session_in}
use Rattle.c_session.proofs.Lengths.{sound_written}
use Rattle.c_items.specs.Calls.{as_reply}
use Rattle.c_list.specs.Calls.{items_of, parts_fit, list_fits, rows_of, Handed, list_ran}

module _ (kinds counts : List ℕ) (i : ℕ) (h : i < length kinds) where
  pub parts_next : (left : ℕ) → parts_fit (drop i kinds) (drop i counts) left
      ≡ (is_item (get_or kinds i 0) (get_or counts i 0)
      && leb (get_or counts i 0) left
      && parts_fit (drop (i + 1) kinds) (drop (i + 1) counts) (left - get_or counts i 0))
  unfolding parts_fit
  parts_next left =
      rw (drop-cons kinds i 0 h, get_or-drop i counts 0 0, add-zero, drop-drop 1 i counts, add-one)

  pub items-next : (identifiers rest : List ℕ)
      → items_of (drop i kinds) (drop i identifiers) (drop i counts) rest
      ≡ Item.Of (source_of (get_or kinds i 0) (get_or identifiers i 0)) (take (get_or counts i 0) rest)
      ∷ items_of (drop (i + 1) kinds) (drop (i + 1) identifiers) (drop (i + 1) counts) (drop (get_or counts i 0) rest)
  unfolding items_of
  items-next identifiers rest =
      rw (
        drop-cons kinds i 0 h,
        get_or-drop i identifiers 0 0,
        get_or-drop i counts 0 0,
        add-zero,
        drop-drop 1 i identifiers,
        drop-drop 1 i counts,
        add-one,
      )

-- where neither 7 nor 8 is due, nothing is due before an item that is formed
pub nothing_due : (session : Session) (sram : List ℕ) → Accepted session sram → precheck session sram true ≡ Ok tt
unfolding precheck
nothing_due session sram ok = rw (ok.right, ok.fine)

-- Rows of one width, of which the first are written.

module _ (part : Answer → List ℕ) (width at next : ℕ) (seam : next ≡ at + width) (answer : Answer) (whole : length (part answer) ≡ width)
    (rows : List ℕ) (room : next ≤ length rows) where
  pub row_length : length (over_from at (part answer) rows) ≡ length rows
  row_length =
      let first = length-take-le at rows (omega arith) in
      length-append (take at rows ++ part answer) (drop (at + length (part answer)) rows)
      ∙ omega (arith, length-append (take at rows) (part answer), first, length-drop (at + length (part answer)) rows)

  -- the written ones, and the one behind them
  pub row_next : take next (over_from at (part answer) rows) ≡ take at rows ++ part answer
  row_next =
      let first = length-take-le at rows (omega arith) in
      let both : length (take at rows ++ part answer) ≡ next = length-append (take at rows) (part answer) ∙ omega arith in
      take_at (take at rows ++ part answer) (drop (at + length (part answer)) rows) next both

-- After i items: the run of all is what was written and the run of the rest.
module _ (bytes₀ numbers₀ sram₀ kinds identifiers counts bytes echoes₀ answers₀ : List ℕ) where
  pub record Under (held numbers sram echoes answers rest : List ℕ) (i : ℕ) : Type 0 where
    pub reached : i ≤ length kinds
    pub one_each : length counts ≡ length kinds
    pub ids_each : length identifiers ≡ length kinds
    pub echo_room : length echoes ≡ echo_width * length kinds
    pub room : length answers ≡ answer_width * length kinds
    pub ok : Accepted (session_in (as_flat held numbers)) sram
    pub fits : parts_fit (drop i kinds) (drop i counts) (length rest) ≡ true
    pub sessions : (ran (session_in (as_flat bytes₀ numbers₀)) sram₀ (items_of kinds identifiers counts bytes)).session
        ≡ (ran (session_in (as_flat held numbers)) sram (items_of (drop i kinds) (drop i identifiers) (drop i counts) rest)).session
    pub srams : (ran (session_in (as_flat bytes₀ numbers₀)) sram₀ (items_of kinds identifiers counts bytes)).sram
        ≡ (ran (session_in (as_flat held numbers)) sram (items_of (drop i kinds) (drop i identifiers) (drop i counts) rest)).sram
    pub echo_rows : rows_of echo_bytes (ran (session_in (as_flat bytes₀ numbers₀)) sram₀ (items_of kinds identifiers counts bytes)).calls
        ≡ take (echo_width * i) echoes
        ++ rows_of echo_bytes (ran (session_in (as_flat held numbers)) sram (items_of (drop i kinds) (drop i identifiers) (drop i counts) rest)).calls
    pub rows : rows_of answer_numbers (ran (session_in (as_flat bytes₀ numbers₀)) sram₀ (items_of kinds identifiers counts bytes)).calls
        ≡ take (answer_width * i) answers
        ++ rows_of answer_numbers (ran (session_in (as_flat held numbers)) sram (items_of (drop i kinds) (drop i identifiers) (drop i counts) rest)).calls
    pub same_held : length held ≡ length bytes₀
    pub same_numbers : length numbers ≡ length numbers₀
    pub same_sram : length sram ≡ length sram₀
    pub same_echoes : length echoes ≡ length echoes₀
    pub same_answers : length answers ≡ length answers₀

  pub begun : precheck (session_in (as_flat bytes₀ numbers₀)) sram₀ (list_fits kinds identifiers counts (length bytes) (length echoes₀) (length answers₀)) ≡ Ok tt
      → Under bytes₀ numbers₀ sram₀ echoes₀ answers₀ bytes 0
  begun passed =
      let n = length kinds in
      let a = eqb (length identifiers) n in
      let b = eqb (length counts) n in
      let c = eqb (length echoes₀) (echo_width * n) in
      let d = eqb (length answers₀) (answer_width * n) in
      let p = parts_fit kinds counts (length bytes) in
      let all = precheck_passed (session_in (as_flat bytes₀ numbers₀)) sram₀ (a && b && c && d && p) passed in
      let h = (and-eq-true_iff (a && b && c && d) p).0 all.1 in
      let j = (and-eq-true_iff (a && b && c) d).0 h.0 in
      let k = (and-eq-true_iff (a && b) c).0 j.0 in
      let l = (and-eq-true_iff a b).0 k.0 in
      record {
        reached = omega arith;
        one_each = eqb-true (length counts) n l.1;
        ids_each = eqb-true (length identifiers) n l.0;
        echo_room = eqb-true (length echoes₀) (echo_width * n) k.1;
        room = eqb-true (length answers₀) (answer_width * n) j.1;
        ok = all.0;
        fits = h.1;
        sessions = refl;
        srams = refl;
        echo_rows = refl;
        rows = refl;
        same_held = refl;
        same_numbers = refl;
        same_sram = refl;
        same_echoes = refl;
        same_answers = refl;
      }

  module _ (held numbers sram echoes answers rest : List ℕ) (i : ℕ) (u : Under held numbers sram echoes answers rest i) where
    -- the next item's bytes are there
    pub part-there : i < length kinds → get_or counts i 0 ≤ length rest
    part-there h =
        let k = is_item (get_or kinds i 0) (get_or counts i 0) in
        let c = leb (get_or counts i 0) (length rest) in
        let p = parts_fit (drop (i + 1) kinds) (drop (i + 1) counts) (length rest - get_or counts i 0) in
        let all : (k && c && p) ≡ true = sym (parts_next kinds counts i h (length rest)) ∙ u.fits in
        leb-true (get_or counts i 0) (length rest) ((and-eq-true_iff k c).0 ((and-eq-true_iff (k && c) p).0 all).0).1

    -- one more item
    pub turn : (held' numbers' sram' echoes' answers' : List ℕ) → i < length kinds
        → Handed (step (session_in (as_flat held numbers)) sram (Item.Of (source_of (get_or kinds i 0) (get_or identifiers i 0)) (take (get_or counts i 0) rest)))
        i (as_flat echoes answers) (session_in (as_flat held' numbers')) sram' (as_flat echoes' answers')
        → length held' ≡ length held
        → length numbers' ≡ length numbers
        → length sram' ≡ length sram
        → Under held' numbers' sram' echoes' answers' (drop (get_or counts i 0) rest) (i + 1)
    unfolding ran rows_of
    turn held' numbers' sram' echoes' answers' h handed same-a same-b same-c =
        let count = get_or counts i 0 in
        let k = is_item (get_or kinds i 0) count in
        let c = leb count (length rest) in
        let p = parts_fit (drop (i + 1) kinds) (drop (i + 1) counts) (length rest - count) in
        let all : (k && c && p) ≡ true = sym (parts_next kinds counts i h (length rest)) ∙ u.fits in
        let item = Item.Of (source_of (get_or kinds i 0) (get_or identifiers i 0)) (take count rest) in
        let after = step (session_in (as_flat held numbers)) sram item in
        let answer = after.answer in
        let later = (ran after.session after.sram (items_of (drop (i + 1) kinds) (drop (i + 1) identifiers) (drop (i + 1) counts) (drop count rest))).calls in
        let echoed : echoes' ≡ over_from (echo_width * i) (echo_bytes answer) echoes = ap (λ (f : Flat). f.bytes) handed.answer_is in
        let said : answers' ≡ over_from (answer_width * i) (answer_numbers answer) answers = ap (λ (f : Flat). f.numbers) handed.answer_is in
        let e-seam : echo_width * (i + 1) ≡ echo_width * i + echo_width = omega arith in
        let a-seam : answer_width * (i + 1) ≡ answer_width * i + answer_width = omega arith in
        let e-room : echo_width * (i + 1) ≤ length echoes = omega (arith, u.echo_room) in
        let a-room : answer_width * (i + 1) ≤ length answers = omega (arith, u.room) in
        let eight : length (echo_bytes answer) ≡ echo_width = refl in
        let five = answer-length answer in
        let e-length : length echoes' ≡ length echoes = ap length echoed ∙ row_length echo_bytes echo_width (echo_width * i) (echo_width * (i + 1)) e-seam answer eight echoes e-room in
        let a-length : length answers' ≡ length answers = ap length said ∙ row_length answer_numbers answer_width (answer_width * i) (answer_width * (i + 1)) a-seam answer five answers a-room in
        let e-next = ap (λ (l : List ℕ). take (echo_width * (i + 1)) l) echoed ∙ row_next echo_bytes echo_width (echo_width * i) (echo_width * (i + 1)) e-seam answer eight echoes e-room in
        let a-next = ap (λ (l : List ℕ). take (answer_width * (i + 1)) l) said ∙ row_next answer_numbers answer_width (answer_width * i) (answer_width * (i + 1)) a-seam answer five answers a-room in
        let next = items-next kinds counts i h identifiers rest in
        record {
          reached = omega arith;
          one_each = u.one_each;
          ids_each = u.ids_each;
          echo_room = e-length ∙ u.echo_room;
          room = a-length ∙ u.room;
          ok = rw (handed.session_is, handed.sram_is) (accepted (session_in (as_flat held numbers)) sram item u.ok);
          fits = rw (length-drop count rest) ((and-eq-true_iff (k && c) p).0 all).1;
          sessions = u.sessions ∙ rw (next, handed.session_is, handed.sram_is);
          srams = u.srams ∙ rw (next, handed.session_is, handed.sram_is);
          echo_rows = u.echo_rows ∙ rw (next, handed.session_is, handed.sram_is, e-next, append_assoc (take (echo_width * i) echoes) (echo_bytes answer) (rows_of echo_bytes later));
          rows = u.rows ∙ rw (next, handed.session_is, handed.sram_is, a-next, append_assoc (take (answer_width * i) answers) (answer_numbers answer) (rows_of answer_numbers later));
          same_held = same-a ∙ u.same_held;
          same_numbers = same-b ∙ u.same_numbers;
          same_sram = same-c ∙ u.same_sram;
          same_echoes = e-length ∙ u.same_echoes;
          same_answers = a-length ∙ u.same_answers;
        }

    -- all items
    pub ended : length kinds ≤ i
        → as_reply 0 (as_flat held numbers) sram (as_flat echoes answers)
        ≡ list_ran (ran (session_in (as_flat bytes₀ numbers₀)) sram₀ (items_of kinds identifiers counts bytes))
    unfolding ran rows_of items_of
    ended h =
        let last : i ≡ length kinds = omega (arith, u.reached) in
        let none_left : drop i kinds ≡ [] = drop_of_length-le kinds {i = i} (omega arith) in
        let e-full : take (echo_width * i) echoes ≡ echoes = take_all (echo_width * i) echoes (omega (arith, u.echo_room)) in
        let a-full : take (answer_width * i) answers ≡ answers = take_all (answer_width * i) answers (omega (arith, u.room)) in
        let session = session_in (as_flat held numbers) in
        let later = items_of (drop i kinds) (drop i identifiers) (drop i counts) rest in
        let nothing : later ≡ [] = rw none_left in
        let written = (sound_written held numbers u.ok.fine).same_flat in
        let none-ran : (r : List Item) → r ≡ [] → as_reply 0 (session_flat (ran session sram r).session) (ran session sram r).sram (as_flat (echoes ++ rows_of echo_bytes (ran session sram r).calls) (answers ++ rows_of answer_numbers (ran session sram r).calls)) ≡ as_reply 0 (as_flat held numbers) sram (as_flat echoes answers) = λ r e. rw (e, append-nil echoes, append-nil answers, written) in
        rw (u.sessions, u.srams, u.echo_rows, u.rows, e-full, a-full) (sym (none-ran later nothing))
