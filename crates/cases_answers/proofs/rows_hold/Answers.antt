-- By the tests of the table's rows.
use Prim.Native.Nat.{ℕ}
use mathlib.Core.Path.{refl}
use mathlib.Core.List.{List}
use mathlib.Core.Bool.{Bool}
use Rattle.sram.specs.Region.{right_size}
use Rattle.session_state.specs.declared.Session.{Session}
use Rattle.session_state.specs.Sound.{sound}
use Rattle.session_items.specs.declared.Reaction.{Reaction}
use Rattle.session_items.specs.Items.{Item, well_formed}
use Rattle.session_items.specs.Reacting.{reaction}
use Rattle.cases_answers.proofs.Answering.{Tested, exactly, kept, unmoved, echoed, silent, jumps, leaves, configured, ended}
use Rattle.cases_answers.proofs.rows_hold.Goals as goal

-- what holds whatever the tests say holds
by_tests : (session : Session) (sram : List ℕ) (item : Item) {P : Type 0}
    → ((a b c : Bool) (r : Reaction) → Tested session sram item a b c r → P)
    → P
by_tests session sram item all =
    all (right_size session.configuration sram) (sound session) (well_formed item) (reaction session.stage item) (refl, refl, refl, refl)

pub returns : goal.returns
returns c =
    record {
      exactly = λ session sram item. by_tests session sram item (exactly session sram item);
      only_0_and_5 = λ session sram item. by_tests session sram item (kept session sram item);
      unmoved = λ session sram item. by_tests session sram item (unmoved session sram item);
      echoed = λ session sram item. by_tests session sram item (echoed session sram item);
      silent = λ session sram item. by_tests session sram item (silent session sram item);
      jumps = λ session sram item port load s.
          jumps session sram item port load s _ _ _ _ _ _ refl refl refl refl refl refl;
      leaves = λ session sram item. by_tests session sram item (leaves session sram item);
      configured = λ session sram item. by_tests session sram item (configured session sram item);
      ended = λ session sram item. by_tests session sram item (ended session sram item);
    }
