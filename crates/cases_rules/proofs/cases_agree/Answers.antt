-- Each case holds by computation.
use mathlib.Core.Path.{refl}
use Rattle.octets.specs.Same.{same}
use Rattle.boot_rchw.specs.Places.{good_place}
use Rattle.password.specs.Passing.{passes}
use Rattle.sram.specs.Region.{size, base, in_range}
use Rattle.session_state.specs.Sound.{sound}
use Rattle.header.specs.Reading.{validated}
use Rattle.session_items.specs.Reacting.{reaction}
use Rattle.session_answers.specs.Answers.{precheck}
use Rattle.session.specs.Rules.{step, taken_as, transition, password_received, checked, header_received}
use Rattle.cases_rules.specs.Trials.{table}
use Rattle.cases_rules.proofs.Flash.{fourth_boots, blank-boots}
use Rattle.cases_rules.proofs.cases_agree.Goals as goal

pub returns : goal.returns
unfolding
    table good_place same passes size base in_range sound precheck step reaction
    taken_as transition password_received checked header_received validated
returns c =
    (refl, (refl, (refl, (refl, (refl, (refl, (refl, (refl, (refl, (fourth_boots, (blank-boots, (refl, (refl, (refl, tt))))))))))))))
