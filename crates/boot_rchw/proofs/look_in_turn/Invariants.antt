-- With i places examined and none found, the search of all is the search of the rest.
use Rattle.std.proofs.Common.{◌≡◌, drop}
use Rattle.std.specs.Prelude.{None}
use Rattle.boot_rchw.specs.Places.{searched}
use Rattle.boot_rchw.proofs.look_in_turn.Given as goal

abbrev pub invariant-loop-place : goal.invariant-loop-place
invariant-loop-place l =
    record {
      none_yet : l.found ≡ None;
      counted : l.examined ≡ l.place-index;
      so_far : searched l.memory 0 l.places ≡ searched l.memory l.place-index (drop l.place-index l.places);
    }
