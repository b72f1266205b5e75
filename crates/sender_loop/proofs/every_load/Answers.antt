-- The closed loop over the definitions.
use Rattle.sender_loop.proofs.Closing.{closed_loop}
use Rattle.sender_loop.proofs.every_load.Goals as goal

pub returns : goal.returns
returns c = closed_loop
