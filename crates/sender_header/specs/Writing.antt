-- The header of a load as its sender writes it (02, E1; 01, "A serial session"): the counterpart of crates/header/specs/Reading.antt.
use Rattle.std.specs.Prelude.{ℕ, ◌+◌, ◌*◌, ◌/◌, ◌%◌, ◌<◌, ◌≡◌, List, ◌++◌, Bool, cond}
use Rattle.octets.specs.Bytes.{word_bytes}
use Rattle.session_configuration.specs.declared.Configuration.{Configuration}
use Rattle.header.specs.declared.Header.{Header}
use Rattle.header.specs.Reading.{header_read}

-- the VLE bit, and below it the 31 low bits of the length
abbrev pub length_word : Bool → ℕ → ℕ
length_word vle length = cond vle (0x80000000 + length % 0x80000000) (length % 0x80000000)

-- the start as given, its two lowest bits too; then VLE and length, whatever the head's configuration
abbrev pub header_written : Configuration → ℕ → Bool → ℕ → List ℕ
header_written configuration start vle length =
    word_bytes start ++ word_bytes (length_word vle length)

-- what a load announces: the head drops the two lowest bits of the start
abbrev pub header_meant : ℕ → Bool → ℕ → Header
header_meant start vle length = record { start = record { 0 = start / 4 * 4 }; vle = vle; length = length }

-- what `sender_header::write` promises of the bytes r: they are the header's, and a length of 31 bits reads back as announced
pub record Written (configuration : Configuration) (start : ℕ) (vle : Bool) (length : ℕ) (r : List ℕ) : Type 0 where
  pub equation : r ≡ header_written configuration start vle length
  pub reads_back : length < 0x80000000 → header_read configuration r ≡ header_meant start vle length
