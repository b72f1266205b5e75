-- Each case holds by computation.
use mathlib.Core.Path.{refl}
use Rattle.octets.specs.Same.{same}
use Rattle.capture.specs.Records.{good_record, header_found}
use Rattle.password.specs.Passing.{passes}
use Rattle.sram.specs.Region.{size, base, in_range, aligned, stored}
use Rattle.session_state.specs.Sound.{sound}
use Rattle.header.specs.Reading.{validated}
use Rattle.session_items.specs.Items.{source_of}
use Rattle.session_items.specs.Reacting.{reaction}
use Rattle.session_answers.specs.Answers.{precheck}
use Rattle.session.specs.Rules.{step, taken_as, transition, password_received, checked, header_received, loaded, sram_after}
use Rattle.replay_record.specs.Handling.{record_step, handling_of}
use Rattle.replay_window.specs.Printing.{printing_after, printing_of, text_from}
use Rattle.cases_captures.specs.Samples.{sample_table}
use Rattle.cases_captures.proofs.samples_agree.Goals as goal

pub returns : goal.returns
unfolding
    sample_table same passes validated size base in_range aligned stored sound source_of reaction precheck step taken_as transition password_received checked header_received loaded sram_after good_record header_found record_step handling_of printing_after printing_of text_from
returns c = (refl, (refl, (refl, (refl, (refl, (refl, (refl, (refl, (refl, (refl, tt))))))))))
