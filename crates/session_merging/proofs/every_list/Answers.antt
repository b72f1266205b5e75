-- Demand 3, of every list.
use Rattle.session_merging.proofs.Stream.{demand_three}
use Rattle.session_merging.proofs.every_list.Goals as goal

pub returns : goal.returns
returns c = record { holds = demand_three }
