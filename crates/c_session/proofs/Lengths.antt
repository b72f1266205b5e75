-- How many bytes and numbers there are, and which are those of a session.
use Prim.Native.Nat.{ℕ, ◌+◌}
use native.Mathlib.Omega.{arith}
use mathlib.Core.Path.{◌≡◌, refl, sym, ap, ◌∙◌}
use mathlib.Core.List.{List, ◌++◌, append-nil}
use mathlib.Core.Bool.{Bool, true, false, cond, false≢true, and-eq-true_iff}
use lib.Dec.{eqb}
use lib.ListN.{length, drop, length-drop, drop_of_length-le, take-append-drop}
use lib.Seq.{take_at, drop_at}
use borrow.Author.Tests.{eqb-true}
use borrow.Rule.Slice.PartMut.{put_mid}
use Rattle.std.proofs.lemmas.Bool.{false_from_ne_true}
use Rattle.octets.specs.Read.{first_eight}
use Rattle.octets.specs.Same.{same}
use Rattle.octets.proofs.Comparing.{same_equal}
use Rattle.buffers.proofs.Eight.{eight-take, eight-whole}
use Rattle.session_state.specs.declared.Session.{Session}
use Rattle.session_state.specs.declared.Stage.{Stage}
use Rattle.session_state.specs.Sound.{sound}
use Rattle.c_answer.specs.Writing.{Flat, as_flat}
use Rattle.c_session.specs.Writing.{load_numbers, configuration_numbers, session_numbers, session_flat, session_bytes_width, session_width, session_places}
use Rattle.c_session.specs.Reading.{session_read, unsound_session, encodes, session_in}

load-length : (stage : Stage) (behind : List ℕ) → length (load_numbers stage ++ behind) ≡ 5 + length behind
load-length Stage.Waiting behind = omega arith
load-length Stage.Password behind = omega arith
load-length (Stage.Header port) behind = omega arith
load-length (Stage.Data port load) behind = omega arith
load-length (Stage.Stopped refusal) behind = omega arith
load-length (Stage.Jumped jump) behind = omega arith

pub session-length : (session : Session) → length (session_numbers session) ≡ session_width
session-length session = rw (load-length session.stage (configuration_numbers session.configuration))

-- numbers of another count are no session's
pub other_count : (session : Session) (numbers : List ℕ) → (length numbers ≡ session_width → ⊥) → same (session_numbers session) numbers ≡ false
other_count session numbers other =
    false_from_ne_true (same (session_numbers session) numbers)
    (λ e. other (sym (ap length (same_equal (session_numbers session) numbers e)) ∙ session-length session))

-- the two lists of a session's places
pub places : (bytes numbers : List ℕ) → session_places (as_flat bytes numbers) ≡ true
    → (length bytes ≡ session_bytes_width) × (length numbers ≡ session_width)
places bytes numbers e =
    let both = (and-eq-true_iff (eqb (length bytes) session_bytes_width) (eqb (length numbers) session_width)).0 e in
    (eqb-true (length bytes) session_bytes_width both.0, eqb-true (length numbers) session_width both.1)

-- sixteen bytes are their first eight and the eight behind them
sixteen : (bytes : List ℕ) → length bytes ≡ 16 → first_eight bytes ++ first_eight (drop 8 bytes) ≡ bytes
sixteen bytes e =
    let many : length (drop 8 bytes) ≡ 8 = length-drop 8 bytes ∙ omega arith in
    (λ i. eight-take bytes (omega arith) i ++ eight-whole (drop 8 bytes) many i) ∙ take-append-drop 8 bytes

-- a password laid over the first half of sixteen places, and bytes held over the second
pub halves : (selected held rest : List ℕ) → length selected ≡ 8 → length held ≡ 8 → length rest ≡ 8
    → put_mid 8 8 (selected ++ rest) held ≡ first_eight selected ++ first_eight held
halves selected held rest e f g =
    rw (
      take_at selected rest 8 e,
      drop_at selected rest 8 e,
      drop_of_length-le rest {i = 8} (omega arith),
      append-nil,
    )
    (sym (λ i. eight-whole selected e i ++ eight-whole held f i))

-- bytes and numbers that read as a sound session are what it is written as
pub record IsWritten (flat : Flat) : Type 0 where
  pub placed : session_places flat ≡ true
  pub same_flat : session_flat (session_in flat) ≡ flat

pub sound_written : (bytes numbers : List ℕ) → sound (session_in (as_flat bytes numbers)) ≡ true → IsWritten (as_flat bytes numbers)
unfolding session_in encodes sound
sound_written bytes numbers fine = by (encodes (as_flat bytes numbers)) refl fine
  where
    by : (b : Bool) → encodes (as_flat bytes numbers) ≡ b
        → sound (cond b (session_read (as_flat bytes numbers)) (unsound_session numbers)) ≡ true
        → IsWritten (as_flat bytes numbers)
    by true e s =
        let flat = as_flat bytes numbers in
        let both = (and-eq-true_iff (session_places flat) (same (session_numbers (session_read flat)) numbers)).0 e in
        record {
          placed = both.0;
          same_flat =
              rw e
              (λ i. as_flat (sixteen bytes (places bytes numbers both.0).0 i) (same_equal (session_numbers (session_read flat)) numbers both.1 i));
        }
    by false e s = absurd (false≢true s)

-- the password of what is read has 8 bytes
pub password-eight : (flat : Flat) → length (session_in flat).configuration.password ≡ 8
unfolding session_in
password-eight flat = either (encodes flat)
  where
    either : (b : Bool) → length (cond b (session_read flat) (unsound_session flat.numbers)).configuration.password ≡ 8
    either true = refl
    either false = refl
