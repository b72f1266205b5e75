-- When what the truck hears is the echo that it waits for (02, E1; 01, "A serial session").
use Rattle.std.specs.Prelude.{ℕ, List, Bool, true, false, ◌&&◌, eqb, take}
use Rattle.octets.specs.Same.{same}
use Rattle.session_state.specs.declared.Port.{Port}
use Rattle.session_answers.specs.declared.Echo.{Echo}

-- an echo heard at a port is that of the load's port, by CAN under the identifier due; serial has none
abbrev pub heard_under : Port → Port → ℕ → ℕ → Bool
heard_under Port.Can Port.Can due identifier = eqb identifier due
heard_under Port.Can Port.Serial due identifier = false
heard_under Port.Serial Port.Can due identifier = false
heard_under Port.Serial Port.Serial due identifier = true

-- and it has the bytes due, no more and no fewer
unfoldable pub is_echo : Port → Echo → Port → ℕ → List ℕ → Bool
is_echo port due heard identifier bytes =
    heard_under port heard due.identifier identifier && same bytes (take due.length due.bytes)
