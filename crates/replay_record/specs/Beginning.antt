-- What the program keeps from record to record, and what a capture begins with (01, "The truck's capture file").
use Rattle.std.specs.Prelude.{ℕ, List, false, replicate}
use Rattle.sram.specs.Region.{size}
use Rattle.session_state.specs.declared.Session.{Session}
use Rattle.session_fresh.specs.Fresh.{reset_session}
use Rattle.replay_record.specs.declared.Progress.{Progress}

-- what the program keeps from record to record: the ordinal of the next record, the session and SRAM
pub record Carried : Type 0 where
  pub ordinal : ℕ
  pub session : Session
  pub sram : List ℕ

abbrev pub keeping : ℕ → Session → List ℕ → Carried
keeping ordinal session sram = record { ordinal = ordinal; session = session; sram = sram }

-- "with zeroed SRAM and the public password"; "its number from 1"
abbrev pub beginning : Carried
beginning = keeping 1 reset_session (replicate (size reset_session.configuration) 0)

-- before the first window: no text, and no bytes unread
abbrev pub first_progress : Progress
first_progress =
    record { used = 0; unread = 0; ended = false; ordinal = beginning.ordinal; session = beginning.session }
