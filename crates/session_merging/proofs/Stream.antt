-- Demand 3 over the rules: a list and its stream.
use Prim.Native.Nat.{ℕ}
use mathlib.Core.Path.{◌≡◌, subst}
use mathlib.Core.List.{List}
use mathlib.Core.Bool.{true}
use lib.ListN.{length}
use Rattle.session_configuration.specs.declared.Configuration.{Configuration}
use Rattle.sram.specs.Region.{right_size}
use Rattle.sram.proofs.Laws.{stored_loaded}
use Rattle.session_state.specs.Sound.{sound}
use Rattle.session_items.specs.Items.{Item}
use Rattle.session_answers.proofs.Laws.{Accepted}
use Rattle.session_fresh.specs.Fresh.{fresh_session}
use Rattle.session_merging.specs.Merging.{picked_port, in_stream, plain_of, plain_header, announced, Merging}
use Rattle.session_merging.proofs.Splitting.{announced-in_range}
use Rattle.session_merging.proofs.Ports.{Along, passed_along, run_alike, passed_at}
use Rattle.session_merging.proofs.Forward.{forward}

pub demand_three : (configuration : Configuration) (sram : List ℕ) (items : List Item) → length configuration.password ≡ 8
    → sound (fresh_session configuration) ≡ true
    → right_size configuration sram ≡ true
    → Merging configuration sram items
demand_three configuration sram items eight fine right =
    let fresh = fresh_session configuration in
    let ok : Accepted fresh sram = record { right = right; fine = fine } in
    let wanted = in_stream (picked_port items) in
    let all = passed_along configuration sram items ok in
    let same = run_alike wanted fresh sram items all in
    let plain = plain_of configuration items in
    let end = forward configuration sram eight ok items in
    record {
      same_session = same.sessions;
      same_sram = same.srams;
      same_answers = same.calls;
      others = same.others;
      unmoved =
          λ before item later split e. passed_at wanted fresh sram before item later
          (subst (λ (l : List Item). Along wanted fresh sram l) split all) e;
      jumps = end.jumps;
      loaded =
          λ c. rw (end.loads c)
          (stored_loaded configuration sram (plain_header configuration plain).start.0 (announced configuration plain) right
          (announced-in_range configuration plain c));
    }
