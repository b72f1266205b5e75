-- Each case holds by computation.
use mathlib.Core.Path.{refl}
use Rattle.octets.specs.Same.{same}
use Rattle.password.specs.Passing.{passes}
use Rattle.sram.specs.Region.{size, base, in_range, aligned, stored}
use Rattle.session_state.specs.Sound.{sound}
use Rattle.header.specs.Reading.{validated}
use Rattle.session_items.specs.Reacting.{reaction}
use Rattle.session_answers.specs.Answers.{precheck}
use Rattle.session.specs.Rules.{step, taken_as, transition, password_received, checked, header_received, loaded, sram_after}
use Rattle.session.specs.Running.{ran}
use Rattle.session_merging.specs.Merging.{picked_port, only, clean_run, bytes_from_clean, data_bytes, bytes_from_header, bytes_from_password, complete}
use Rattle.cases_lists.specs.Lists.{list_table}
use Rattle.cases_lists.proofs.lists_agree.Goals as goal

pub returns : goal.returns
unfolding
    list_table same passes size base in_range aligned stored sound precheck step reaction taken_as transition password_received checked header_received validated loaded sram_after
    ran picked_port only clean_run bytes_from_clean data_bytes bytes_from_header bytes_from_password complete
returns c = (refl, (refl, (refl, (refl, (refl, (refl, (refl, (refl, (refl, (refl, (refl, (refl, (refl, (refl, (refl, (refl, (refl, (refl, (refl, (refl, (refl, (refl, (refl, (refl, (refl, (refl, (refl, (refl, (refl, (refl, (refl, (refl, (refl, tt)))))))))))))))))))))))))))))))))
