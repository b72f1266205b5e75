-- The echo that the sender waits for (02, E1): the one that the head gives for the item that is out, by the head's own definition.
use Rattle.std.specs.Prelude.{ℕ, List}
use Rattle.session_answers.specs.declared.Echo.{Echo}
use Rattle.session_answers.specs.Answers.{echo_of}
use Rattle.sender_load.specs.declared.Sender.{Sender}
use Rattle.sender_load.specs.Items.{role_at, part, along, item_count}

-- the echo of the item at the load's place
abbrev pub echo_due : Sender → List ℕ → Echo
echo_due sender image = echo_of (role_at sender) sender.port (part (role_at sender) sender image)

-- those of all items of a load, where it stands at its first place
abbrev pub echoes_of : Sender → List ℕ → List Echo
echoes_of sender image = along (λ at. echo_due at image) (item_count sender.port sender.length) sender
