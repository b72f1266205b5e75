-- What the boot choice, and the session that it gives, answer through the C interface, and what they leave in the lent outputs. A refused
-- call writes nothing.
use Rattle.std.specs.Prelude.{ℕ, List, Option, Some, None, cond, ◌&&◌, length, eqb, leb}
use Rattle.octets.specs.Read.{first_eight}
use Rattle.boot.specs.declared.Choice.{Choice}
use Rattle.boot.specs.Choosing.{boot_choice, choice_number}
use Rattle.session_state.specs.declared.Session.{Session}
use Rattle.session_fresh.specs.Fresh.{fresh_in}
use Rattle.c_answer.specs.Writing.{Flat}
use Rattle.c_session.specs.Writing.{session_flat, session_places}
use Rattle.c_choice.specs.Numbers.{mode_of, boot_numbers}

-- the choice as C sees it: its number, and the outputs as the call leaves them
pub record ChoiceReply : Type 0 where
  pub number : ℕ
  pub fields : List ℕ
  pub password : List ℕ

abbrev pub as_choice_reply : ℕ → List ℕ → List ℕ → ChoiceReply
as_choice_reply number fields password = record { number = number; fields = fields; password = password }

-- what outputs of the right lengths hold after an answer
abbrev pub fields_after : Option Choice → List ℕ → List ℕ
fields_after None fields = fields
fields_after (Some choice) fields = boot_numbers choice.boot

abbrev pub password_after : Option Choice → List ℕ → List ℕ
password_after None password = password
password_after (Some choice) password = choice.password

abbrev pub choice_leaves : Option Choice → List ℕ → List ℕ → ChoiceReply
choice_leaves choice fields password =
    as_choice_reply (choice_number choice) (fields_after choice fields) (password_after choice password)

-- 8 numbers and 8 password bytes are written; outputs of another length get number 9
unfoldable pub choice_answer : ℕ → List ℕ → List ℕ → List ℕ → List ℕ → List ℕ → ChoiceReply
choice_answer bootcfg flash shadow external fields password =
    cond (eqb (length fields) 8 && eqb (length password) 8)
    (choice_leaves (boot_choice bootcfg flash shadow external) fields password)
    (as_choice_reply 9 fields password)

-- a fresh session: its number, and the session
pub record FreshReply : Type 0 where
  pub number : ℕ
  pub session : Flat

abbrev pub as_fresh_reply : ℕ → Flat → FreshReply
as_fresh_reply number session = record { number = number; session = session }

-- what a fresh session leaves: only serial boot gives one
abbrev pub fresh_leaves : Option Session → Flat → FreshReply
fresh_leaves None session = as_fresh_reply 9 session
fresh_leaves (Some fresh) session = as_fresh_reply 0 (session_flat fresh)

-- for the number of a way to boot; 9 for a number that no way has, a password of another length than 8, or a session that has not its places
unfoldable pub session_reply : ℕ → List ℕ → Flat → FreshReply
session_reply mode password session =
    cond (leb mode 4 && eqb (length password) 8 && session_places session)
    (fresh_leaves (fresh_in (mode_of mode) (first_eight password)) session)
    (as_fresh_reply 9 session)
