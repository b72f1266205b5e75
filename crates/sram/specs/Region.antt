-- SRAM, and bytes stored in it (01, "A serial session").
use Rattle.std.specs.Prelude.{ℕ, ◌+◌, ◌-◌, ◌%◌, ◌≡◌, List, Bool, cond, ◌&&◌, length, take, drop, leb, eqb}
use Rattle.buffers.specs.Write.{over_from}
use Rattle.session_configuration.specs.declared.Configuration.{Configuration}

-- "SRAM is 65,536 bytes at 0x4000_0000.", whatever the session's configuration
unfoldable pub size : Configuration → ℕ
size configuration = 65536

unfoldable pub base : ℕ
base = 0x40000000

-- SRAM has the session's size; otherwise 7: "SRAM handed in is not 65,536 bytes"
abbrev pub right_size : Configuration → List ℕ → Bool
right_size configuration sram = eqb (length sram) (size configuration)

-- `count` bytes from an address lie wholly in SRAM
unfoldable pub in_range : Configuration → ℕ → ℕ → Bool
in_range configuration address count = leb base address && leb (address + count) (base + size configuration)

-- "start a multiple of 4 in SRAM"
unfoldable pub aligned : Configuration → ℕ → Bool
aligned configuration address = eqb (address % 4) 0 && in_range configuration address 1

-- "Data bytes are stored as they come, each at the next address": SRAM with bytes stored from an address on
unfoldable pub stored : List ℕ → ℕ → List ℕ → List ℕ
stored sram address bytes = over_from (address - base) bytes sram

-- if the memory has not SRAM's size, or not all of the bytes are in range, none is stored
unfoldable pub stored_in_range : Configuration → List ℕ → ℕ → List ℕ → List ℕ
stored_in_range configuration sram address bytes =
    cond (right_size configuration sram && in_range configuration address (length bytes)) (stored sram address bytes) sram

-- "SRAM then holds those bytes at the start address and is elsewhere as it was before the list" (00), by the bytes there, below and above
pub record LoadedAt (before after : List ℕ) (address : ℕ) (bytes : List ℕ) : Type 0 where
  pub there : take (length bytes) (drop (address - base) after) ≡ bytes
  pub below : take (address - base) after ≡ take (address - base) before
  pub above : drop (address - base + length bytes) after ≡ drop (address - base + length bytes) before
