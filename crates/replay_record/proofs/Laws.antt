-- What a record does: a bad one, the end mark, and one that is handed in.
use Prim.Native.Nat.{ℕ}
use mathlib.Core.Path.{◌≡◌, refl}
use mathlib.Core.List.{List}
use mathlib.Core.Bool.{false}
use lib.Dec.{eqb}
use Rattle.capture.specs.declared.Kind.{Kind}
use Rattle.capture.specs.Records.{kind_number, Read, refused, ended, found, reads}
use Rattle.capture.proofs.Laws.{reads_first}
use Rattle.session_state.specs.declared.Session.{Session}
use Rattle.session_answers.specs.Answers.{Result}
use Rattle.replay_record.specs.Handling.{record_step, Handling, unhandled, handling_of}

-- no kind has the end mark's number
pub counted : (kind : Kind) → eqb (kind_number kind) 0 ≡ false
counted Kind.Can = refl
counted Kind.Clean = refl
counted Kind.Faulty = refl
counted Kind.Reset = refl

module _ (session : Session) (sram bytes : List ℕ) where
  pub handled_bad : refused 0 ≡ reads bytes 0 → unhandled 10 session sram ≡ handling_of session sram (found 0 bytes)
  unfolding handling_of
  handled_bad found-is = rw (← reads_first bytes, ← found-is)

  pub handled_end : ended 0 ≡ reads bytes 0 → unhandled 0 session sram ≡ handling_of session sram (found 0 bytes)
  unfolding handling_of
  handled_end found-is = rw (← reads_first bytes, ← found-is)

  pub handled_record
      : (kind : Kind) (next : ℕ) (body : List ℕ) (result : Result)
      → ◌≡◌ {A = Read} record { number = 0; kind = kind_number kind; next = next; body = body } (reads bytes 0)
      → result ≡ record_step session sram (kind_number kind) body
      → ◌≡◌ {A = Handling} record { read = 0; kind = kind_number kind; taken = next; result = result } (handling_of session sram (found 0 bytes))
  unfolding handling_of
  handled_record kind next body result found-is e = rw (← reads_first bytes, ← found-is, e, counted kind) refl
