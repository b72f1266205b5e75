-- A call does not change the whole text.
use Rattle.std.proofs.Common.{◌≡◌, refl, sym, ap, ◌∙◌, ℕ, zero, suc, List, [], ◌∷◌, ◌++◌, append-nil, append_assoc, Bool, true, false, cond, length, drop, replicate}
use Rattle.replay_record.specs.Beginning.{beginning}
use Rattle.replay_window.specs.Printing.{text_from}
use Rattle.replay_window.specs.Windows.{played_in, Between}
use Rattle.replay_window.proofs.Continuing.{played-whole}
use Rattle.replay_whole.specs.Joining.{Reading, capture_of, Ordered, window_of, called, calls, whole_text, at_end, at_start, to_the_end}
use Rattle.replay_whole.proofs.Ending.{call-advances, text-ends}
use Rattle.replay_whole.proofs.every_capture.Goals as goal

module _ (room : ℕ) where
  call-keeps : (b : Between) (reading : Reading) (later : List ℕ) → (reading.last ≡ true → later ≡ [])
      → whole_text b (reading.bytes ++ later) ≡ whole_text (called room b reading) later
  call-keeps b reading later none = by_ended b.ended refl
    where
      by_ended : (e : Bool) → b.ended ≡ e → whole_text b (reading.bytes ++ later) ≡ whole_text (called room b reading) later
      by_ended true e = rw e
      by_ended false e =
          let window = window_of b reading in
          let p = played_in window reading.last room b.kept in
          rw e
          (ap (λ (l : List ℕ). b.text ++ text_from b.kept l) (sym (append_assoc b.rest reading.bytes later))
          ∙ ap (λ (l : List ℕ). b.text ++ l) (played-whole window reading.last room later none b.kept)
          ∙ sym (append_assoc b.text p.text (cond p.ended [] (text_from p.kept (drop p.at window ++ later)))))

  calls-keep : (b : Between) (done later : List Reading) → Ordered (done ++ later)
      → whole_text b (capture_of (done ++ later)) ≡ whole_text (calls room b done) (capture_of later)
  calls-keep b [] later ordered = refl
  calls-keep b (reading ∷ done) later ordered =
      call-keeps b reading (capture_of (done ++ later)) ordered.0 ∙ calls-keep (called room b reading) done later ordered.1

-- reading the end brings no more bytes
end_empty : (n : ℕ) → capture_of (replicate n at_end) ≡ []
end_empty zero = refl
end_empty (suc n) = end_empty n

end-ordered : (n : ℕ) → Ordered (replicate n at_end)
end-ordered zero = tt
end-ordered (suc n) = (λ e. end_empty n, end-ordered n)

capture-to-end : (readings : List Reading) (n : ℕ) → capture_of (readings ++ replicate n at_end) ≡ capture_of readings
capture-to-end [] n = end_empty n
capture-to-end (reading ∷ readings) n = ap (λ (l : List ℕ). reading.bytes ++ l) (capture-to-end readings n)

ordered-to-end : (readings : List Reading) (n : ℕ) → Ordered readings → Ordered (readings ++ replicate n at_end)
ordered-to-end [] n ordered = end-ordered n
ordered-to-end (reading ∷ readings) n ordered =
    (λ e. capture-to-end readings n ∙ ordered.0 e, ordered-to-end readings n ordered.1)

pub returns : goal.returns
returns c =
    record {
      so_far = λ room done later ordered. calls-keep room at_start done later ordered;
      advances = call-advances;
      whole = λ room readings ordered wide small.
          let all = to_the_end readings in
          let n = suc (length (capture_of readings)) in
          let ended = text-ends room readings wide small in
          let known =
          ap (λ (r : List Reading). text_from beginning (capture_of r)) (sym (append-nil all))
          ∙ calls-keep room at_start all [] (rw (append-nil all) (ordered-to-end readings n ordered)) in (
            ended,
            sym (sym (ap (text_from beginning) (capture-to-end readings n)) ∙ known ∙ rw ended (append-nil (calls room at_start all).text)),
          );
    }
