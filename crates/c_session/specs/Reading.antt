-- The session of bytes and numbers. Of numbers that no session has, what is read is of no account: `encodes` tells.
use Rattle.std.specs.Prelude.{ℕ, ◌%◌, ◌≡◌, List, Bool, cond, ◌&&◌, eqb, get_or, drop, replicate}
use Rattle.octets.specs.Read.{first_eight}
use Rattle.octets.specs.Same.{same}
use Rattle.session_configuration.specs.declared.Configuration.{Configuration}
use Rattle.session_state.specs.declared.Jump.{Jump}
use Rattle.session_state.specs.declared.Load.{Load}
use Rattle.session_state.specs.declared.Port.{Port}
use Rattle.session_state.specs.declared.Refusal.{Refusal}
use Rattle.session_state.specs.declared.Session.{Session}
use Rattle.session_state.specs.declared.Stage.{Stage}
use Rattle.c_answer.specs.Writing.{Flat, entered_of}
use Rattle.c_session.specs.Writing.{session_numbers, session_flat, session_places, session_put}

-- the number at a place
abbrev pub number_at : List ℕ → ℕ → ℕ
number_at numbers at = get_or numbers at 0

unfoldable pub port_read : List ℕ → Port
port_read numbers = cond (eqb (number_at numbers 1) 0) Port.Can Port.Serial

abbrev pub load_read : List ℕ → Load
load_read numbers =
    record {
      start = record { 0 = number_at numbers 3 };
      vle = eqb (number_at numbers 4) 1;
      next = number_at numbers 5;
      owed = number_at numbers 6;
    }

unfoldable pub refusal_read : List ℕ → Refusal
refusal_read numbers =
    cond (eqb (number_at numbers 7) 2) Refusal.Password
    (cond (eqb (number_at numbers 7) 3) Refusal.Length
    (cond (eqb (number_at numbers 7) 4) Refusal.Range
    (Refusal.FaultyByte (eqb (number_at numbers 4) 1))))

abbrev pub jump_read : List ℕ → Jump
jump_read numbers = record { start = record { 0 = number_at numbers 3 }; vle = eqb (number_at numbers 4) 1 }

unfoldable pub stage_read : List ℕ → Stage
stage_read numbers =
    cond (eqb (number_at numbers 0) 0) Stage.Waiting
    (cond (eqb (number_at numbers 0) 1) Stage.Password
    (cond (eqb (number_at numbers 0) 2) (Stage.Header (port_read numbers))
    (cond (eqb (number_at numbers 0) 3) (Stage.Data (port_read numbers) (load_read numbers))
    (cond (eqb (number_at numbers 0) 4) (Stage.Stopped (refusal_read numbers))
    (Stage.Jumped (jump_read numbers))))))

-- what numbers say of the configuration, whose password is bytes
abbrev pub configuration_read : List ℕ → List ℕ → Configuration
configuration_read selected numbers = record { password = selected; entered = entered_of (number_at numbers 8) }

abbrev pub session_read : Flat → Session
session_read flat =
    record {
      configuration = configuration_read (first_eight flat.bytes) flat.numbers;
      stage = stage_read flat.numbers;
      held = first_eight (drop 8 flat.bytes);
      count = number_at flat.numbers 2 % 256;
    }

-- there are places for a session, and writing the session that they read as gives the same numbers again
unfoldable pub encodes : Flat → Bool
encodes flat = session_places flat && same (session_numbers (session_read flat)) flat.numbers

-- numbers of no session stand for one that is not sound: it waits and holds a byte, in the configuration that they name, with no password
abbrev pub unsound_session : List ℕ → Session
unsound_session numbers =
    record {
      configuration = configuration_read (replicate 8 0) numbers;
      stage = Stage.Waiting;
      held = replicate 8 0;
      count = 1;
    }

unfoldable pub session_in : Flat → Session
session_in flat = cond (encodes flat) (session_read flat) (unsound_session flat.numbers)

-- what `c_session::put_session` promises of bytes and numbers before and after it: the session is written, if they are as many as it has, and
-- what a session is written as is read as that session
pub record Written (session : Session) (before after : Flat) : Type 0 where
  pub equation : after ≡ session_put session before
  pub reads_back : session_in (session_flat session) ≡ session
