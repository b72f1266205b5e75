-- What the private functions that move a session on ask of their callers: the bytes have their place.
use Rattle.std.specs.Prelude.{ℕ, ◌+◌, ◌≤◌, ◌≡◌, true}
use Rattle.session_configuration.specs.declared.Configuration.{Configuration}
use Rattle.sram.specs.Region.{size, base}
use Rattle.session_state.specs.declared.Load.{Load}
use Rattle.session_state.specs.declared.Session.{Session}
use Rattle.session_state.specs.Sound.{load_fits}
use Rattle.session_items.specs.declared.Role.{Role}

-- of a load, whose addresses have 32 bits
abbrev pub LoadRoom : Configuration → Load → ℕ → Type 0
LoadRoom configuration load count =
    (load_fits configuration load ≡ true) × (count ≤ load.owed) × (base + size configuration ≤ 0x1_0000_0000)

-- by the role in which the bytes are taken
abbrev pub Room : Role → Session → ℕ → Type 0
Room Role.Password session count = session.count + count ≤ 8
Room Role.Header session count = session.count + count ≤ 8
Room (Role.Data load) session count = LoadRoom session.configuration load count
