-- SRAM is written in groups of 8 bytes (02, E4; 000, the notes on ECC in 16.3.2.3.3 and 16.3.2.3.4). A group begins at a multiple of 8.
use Rattle.std.specs.Prelude.{ℕ, ◌+◌, ◌-◌, ◌*◌, ◌/◌, ◌%◌, max, List, [], ◌++◌, Bool, cond, leb, length, take, drop, replicate}
use Rattle.session_configuration.specs.declared.Configuration.{Configuration}
use Rattle.sram.specs.Region.{base, stored, stored_in_range}

-- the group of an address begins at the last multiple of 8 that is not above it
abbrev pub group_of : ℕ → ℕ
group_of address = address / 8 * 8

-- of the bytes of a load that have come, those of an unfinished group are held: from the later of the start and the last multiple of 8 up to the
-- next address
unfoldable pub held_count : ℕ → ℕ → ℕ
held_count start next = next - max start (group_of next)

-- the last bytes, so many
abbrev pub last_of : ℕ → List ℕ → List ℕ
last_of count bytes = drop (length bytes - count) bytes

unfoldable pub zeros : ℕ → List ℕ
zeros count = replicate count 0

-- the groups that are full, of bytes that begin with a group
unfoldable pub full_groups : List ℕ → List ℕ
full_groups bytes = take (length bytes / 8 * 8) bytes

-- behind the last byte of a load its group is filled up with zeroes, of which it needs at most 7
abbrev pub behind : Bool → List ℕ
behind last = cond last (zeros 7) []

-- what is written of bytes from an address on: the groups that are full, where zeroes stand below the first byte
unfoldable pub written : Bool → ℕ → List ℕ → List ℕ
written last address bytes = full_groups (zeros (address % 8) ++ (bytes ++ behind last))

-- SRAM with bytes from an address on, so far as their groups are full; behind the last byte of a load none is left unfilled
unfoldable pub stored_in_groups : Bool → List ℕ → ℕ → List ℕ → List ℕ
stored_in_groups last sram address bytes = stored sram (group_of address) (written last address bytes)

-- SRAM with a whole load, not by way of what each item stores: the bytes from the start on, zeroes below them from the beginning of the first group
-- and behind them to the end of the last, and elsewhere as it was
abbrev pub with_load : List ℕ → ℕ → List ℕ → List ℕ
with_load sram start bytes =
    let end : ℕ = start + length bytes in
    let groups_end : ℕ = group_of (end + 7) in
    take (group_of start - base) sram
    ++ zeros (start - group_of start)
    ++ bytes
    ++ zeros (groups_end - end)
    ++ drop (groups_end - base) sram

-- what `sram_groups::store` does: bytes that do not fit into two groups, or into SRAM, are not stored
unfoldable pub stored_within : Configuration → Bool → List ℕ → ℕ → List ℕ → List ℕ
stored_within configuration last sram address bytes =
    cond (leb (address % 8 + length bytes) 16) (stored_in_range configuration sram (group_of address) (written last address bytes)) sram
