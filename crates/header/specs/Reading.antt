-- The header of a load (01, "A serial session"; 003).
use Rattle.std.specs.Prelude.{ℕ, ◌/◌, ◌%◌, ◌*◌, List, Bool, cond, not, ◌&&◌, eqb, Result, Ok, Err}
use Rattle.octets.specs.Read.{byte_at, word_at}
use Rattle.session_configuration.specs.declared.Configuration.{Configuration}
use Rattle.sram.specs.Region.{in_range}
use Rattle.session_state.specs.declared.Refusal.{Refusal}
use Rattle.header.specs.declared.Header.{Header}

-- "4 bytes start, whose two lowest bits are dropped; then the VLE bit and 31 bits of length", whatever the session's configuration
abbrev pub header_read : Configuration → List ℕ → Header
header_read configuration bytes =
    record {
      start = record { 0 = word_at bytes 0 / 4 * 4 };
      vle = eqb (byte_at bytes 4 / 128) 1;
      length = word_at bytes 4 % 0x80000000;
    }

-- number 3: "Length 0 stops the session"
abbrev pub announces_none : Header → Bool
announces_none header = eqb header.length 0

-- number 4, if the length is not 0, unless: "start and length must lie wholly in SRAM"
abbrev pub within : Configuration → Header → Bool
within configuration header = in_range configuration header.start.0 header.length

-- "A header fits if neither 3 nor 4 is due."
abbrev pub fits : Configuration → Header → Bool
fits configuration header = not (announces_none header) && within configuration header

-- "Length 0 stops the session; otherwise start and length must lie wholly in SRAM or the session stops."
unfoldable pub validated : Configuration → Header → Result Header Refusal
validated configuration header =
    cond (announces_none header) (Err Refusal.Length)
    (cond (within configuration header) (Ok header) (Err Refusal.Range))
