-- The digits of numbers and of bytes, how long the lines are, and text behind what is there already.
use Prim.Native.Nat.{ℕ, zero, suc, ◌+◌, ◌*◌, ◌/◌, ◌%◌, ◌^◌, ◌≤◌, ◌<◌}
use native.Mathlib.Omega.{arith}
use mathlib.Core.Path.{◌≡◌, refl, sym, ap, ◌∙◌}
use mathlib.Core.List.{List, [], ◌∷◌, ◌++◌, append_assoc}
use borrow.Author.Tests.{le-leb, lt-leb}
use lib.ListN.{length, take, drop, length-append, length-drop, take-append-drop}
use lib.Seq.{take_at, drop-append-add, drop-drop, length-take-le, append_snoc}
use Rattle.std.proofs.Common.{mod-eq_of_lt}
use Rattle.std.proofs.lemmas.Bool.Decides.{nat_tests}
use Rattle.std.proofs.Math.Nat.{pow-succ'}
use Rattle.octets.specs.Bytes.{word_bytes}
use Rattle.session_state.specs.declared.Stage.{Stage}
use Rattle.session_answers.specs.Answers.{refusal_number}
use Rattle.replay_lines.specs.Digits.{ascii, last_digit, decimal_in, decimal, hex_digit, hex_of}
use Rattle.replay_lines.specs.Lines.{echo_text, record_line, last_line}
use Rattle.replay_lines.specs.Output.{Output, as_output, appended}

-- a number has no more digits than it needs
decimal_fewer : (more n : ℕ) → n < 10 ^ suc more → decimal_in (suc more) n ≡ decimal_in more n
decimal_fewer zero n h = rw (lt-leb 10 n (omega arith)) refl
decimal_fewer (suc more) n h = rw (decimal_fewer more (n / 10) (omega (arith, pow-succ' 10 (suc more)))) refl

-- at least one digit, and at most one more than are counted
decimal_some : (more n : ℕ) → 0 < length (decimal_in more n)
decimal_some zero n = omega arith
decimal_some (suc more) n = grind (arith, nat_tests, length-append)

pub decimal-length : (more n : ℕ) → length (decimal_in more n) ≤ more + 1
decimal-length zero n = omega arith
decimal-length (suc more) n = grind (arith, nat_tests, length-append, decimal-length more (n / 10))

-- The digits of a number or of bytes in front of a text, of which those of `rest` are not put yet.
pub record Spelling {A : Type 0} (spelled : A → List ℕ) (all : A) (before : List ℕ) (rest : A) (text : List ℕ) : Type 0 where
  pub digits : spelled rest ++ text ≡ spelled all ++ before

module _ {n : ℕ} {before : List ℕ} {rest : ℕ} {text : List ℕ} (spelling : Spelling decimal n before rest text) where
  pub digit_room : length before + 20 ≤ 64 → length text < 64
  digit_room room =
      omega (arith, ap length spelling.digits, length-append {A = ℕ}, decimal_some 19 rest, decimal-length 19 n)

  pub digit_more : 10 ≤ rest → rest < 2 ^ 64 → Spelling decimal n before (rest / 10) ((48 + rest % 10) ∷ text)
  digit_more h k =
      let fewer : decimal (rest / 10) ≡ decimal_in 18 (rest / 10) = decimal_fewer 18 (rest / 10) (omega arith) in
      let whole : decimal_in 18 (rest / 10) ++ last_digit rest ∷ [] ≡ decimal rest = rw (le-leb 10 rest h) refl in
      record {
        digits =
            ap (λ (l : List ℕ). l ++ (last_digit rest ∷ text)) fewer
            ∙ sym (append_snoc (decimal_in 18 (rest / 10)) (last_digit rest) text)
            ∙ ap (λ (l : List ℕ). l ++ text) whole
            ∙ spelling.digits;
      }

  pub digit_last : rest < 10 → (48 + rest) ∷ text ≡ decimal n ++ before
  digit_last h =
      let whole : (48 + rest) ∷ [] ≡ decimal rest = rw (lt-leb 10 rest h, mod-eq_of_lt h) refl in
      ap (λ (l : List ℕ). l ++ text) whole ∙ spelling.digits

pub hex_length : (bytes : List ℕ) → length (hex_of bytes) ≡ 2 * length bytes
hex_length [] = refl
hex_length (byte ∷ bytes) = omega (arith, hex_length bytes)

hex_snoc : (bytes : List ℕ) (byte : ℕ) (text : List ℕ)
    → hex_of bytes ++ (hex_digit (byte / 16) ∷ hex_digit (byte % 16) ∷ text) ≡ hex_of (bytes ++ byte ∷ []) ++ text
hex_snoc [] byte text = refl
hex_snoc (first ∷ bytes) byte text = rw (hex_snoc bytes byte text) refl

module _ {bytes before rest text : List ℕ} (front : List ℕ) (byte : ℕ) (last : rest ≡ front ++ byte ∷ []) (spelling : Spelling hex_of bytes before rest text) where
  pub hex_room : 2 * length bytes + length before ≤ 64 → length text + 2 ≤ 64
  hex_room room = omega (arith, ap length spelling.digits, ap length last, length-append {A = ℕ}, hex_length)

  pub hex_more : Spelling hex_of bytes before front (hex_digit (byte / 16) ∷ hex_digit (byte % 16) ∷ text)
  hex_more = record { digits = hex_snoc front byte text ∙ rw (← last) spelling.digits }

pub echo_length : (echo : List ℕ) → length echo ≤ 8 → length (echo_text echo) ≤ 16
echo_length [] h = omega arith
echo_length (byte ∷ bytes) h = omega (arith, hex_length (byte ∷ bytes))

-- how long the pieces of a record's line are
pub number_length : (n : ℕ) → length (decimal n) ≤ 20
number_length n = decimal-length 19 n

pub ruleset piece_lengths = (length-append, echo_length, number_length)

-- a record's line, in the order in which its pieces are put
pub record_text : (ordinal answer echo feed : List ℕ)
    → ordinal ++ (ascii " " ++ (answer ++ (ascii " " ++ (echo ++ feed)))) ≡ ordinal ++ ascii " " ++ answer ++ ascii " " ++ echo ++ feed
record_text ordinal answer echo feed = simp append_assoc

-- How long the lines are.
pub record_length : (ordinal answer : ℕ) (echo : List ℕ) → length echo ≤ 8 → length (record_line ordinal answer echo) ≤ 59
record_length ordinal answer echo h =
    simp length-append (omega (arith, decimal-length 19 ordinal, decimal-length 19 answer, echo_length echo h))

pub last_length : (stage : Stage) → length (last_line stage) ≤ 33
last_length Stage.Waiting = omega arith
last_length Stage.Password = omega arith
last_length (Stage.Header port) = omega arith
last_length (Stage.Data port load) = omega arith
last_length (Stage.Stopped refusal) = simp length-append (omega (arith, decimal-length 19 (refusal_number refusal)))
last_length (Stage.Jumped jump) = simp length-append (omega (arith, hex_length (word_bytes jump.start.0)))

-- Text that has room is put behind what is there.
pub appended-room : (bytes : List ℕ) (used : ℕ) (text : List ℕ) → used + length text ≤ length bytes
    → appended (as_output bytes used) text ≡ as_output (take used bytes ++ text ++ drop (used + length text) bytes) (used + length text)
unfolding appended
appended-room bytes used text h = rw (le-leb (used + length text) (length bytes) h)

-- with what was used before it written out
pub appended-behind : (first list text : List ℕ) → length first + length text ≤ length list
    → appended (as_output (first ++ drop (length first) list) (length first)) text
    ≡ as_output (first ++ text ++ drop (length (first ++ text)) list) (length (first ++ text))
appended-behind first list text h =
    let rest = drop (length first) list in
    let both = length-append first text in
    let all : length (first ++ rest) ≡ length list
    = length-append first rest ∙ omega (arith, length-drop (length first) list) in
    appended-room (first ++ rest) (length first) text (omega (arith, all))
    ∙ rw (
      take_at first rest (length first) refl,
      drop-append-add first rest (length text),
      drop-drop (length text) (length first) list,
      both,
    )

-- one text behind another is the two together
pub appended_twice : (bytes : List ℕ) (used : ℕ) (text more : List ℕ) → used + length text + length more ≤ length bytes
    → appended (appended (as_output bytes used) text) more ≡ appended (as_output bytes used) (text ++ more)
appended_twice bytes used text more h =
    let first = take used bytes in
    let long : length first ≡ used = length-take-le used bytes (omega arith) in
    let whole : as_output (first ++ drop (length first) bytes) (length first) ≡ as_output bytes used
    = rw (long, take-append-drop used bytes) in
    let both = length-append first text in
    rw (← whole)
    (ap (λ (o : Output). appended o more) (appended-behind first bytes text (omega (arith, long)))
    ∙ appended-behind (first ++ text) bytes more (omega (arith, long, both))
    ∙ rw (append_assoc first text more)
    (sym (appended-behind first bytes (text ++ more) (omega (arith, long, length-append text more)))))
