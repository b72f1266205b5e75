-- The closed loop, whole.
use Rattle.sender_loop.specs.Loop.{EveryLoad}
use Rattle.sender_loop.proofs.Turns.{asks_again}
use Rattle.sender_loop.proofs.Closed.{passes_own, begins, delivered, amid}
use Rattle.sender_loop.proofs.Refused.{turned_away}
use Rattle.sender_loop.proofs.Places.{stands}

pub closed_loop : EveryLoad
closed_loop =
    record {
      stands = stands;
      asks_again = asks_again;
      begins = begins;
      delivers =
          λ configuration port start vle image sram line legal.
          delivered configuration port start vle configuration.password image sram line (passes_own configuration.password legal);
      turns_away = turned_away;
      among_others =
          λ configuration port start vle image sram items line legal stream.
          amid configuration port start vle configuration.password image sram line (passes_own configuration.password legal)
          line.eight items stream;
    }
