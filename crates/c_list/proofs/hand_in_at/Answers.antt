-- The places of the answer are lent: the item is refused for its form, which is written there, or its answer has been.
use Rattle.std.proofs.Common.{◌≡◌, ◌∙◌, sym, ap}
use Rattle.session_answers.specs.declared.Fault.{Fault}
use Rattle.session_answers.specs.declared.Outcome.{Outcome}
use Rattle.session_answers.specs.Answers.{Result, without_echo}
use Rattle.session.specs.Rules.{step}
use Rattle.c_answer.specs.Writing.{as_flat, answer_flat, answer_places}
use Rattle.c_session.specs.Reading.{session_in}
use Rattle.c_items.specs.Calls.{Reply}
use Rattle.c_list.specs.Calls.{answer_at}
use Rattle.c_list.proofs.Laws.{echo_part, answer_part, put_parts, put_there, parts_placed, parts_answered, six, other}
use Rattle.c_list.proofs.hand_in_at.Goals as goal

pub returns-then-number-from : goal.returns-then-number-from
returns-then-number-from c =
    let a = c.args in
    let echoes = a.echoes.now in
    let answers = a.answers.now in
    let there = parts_placed a.i echoes answers c.requires.1 c.requires.2 in
    let says = six (as_flat a.session_bytes.now a.session.now) a.sram.now a.item.now
    (as_flat (echo_part a.i echoes) (answer_part a.i answers)) _ c.item-number.ensures there c.requires.0 (c.if-number-from.true ∙ c.from.ensures) in
    let kept : as_flat c.item-number.new.echo c.item-number.new.answer ≡ as_flat (echo_part a.i echoes) (answer_part a.i answers) =
    ap (λ (r : Reply). r.answer) says.reply_is in
    let said : as_flat c.put_answer.new.echo c.put_answer.new.answer ≡ answer_flat (without_echo (Outcome.Refused Fault.Form)) =
    c.put_answer.ensures ∙ put_there c.without_echo-refused.result _ (ap answer_places kept ∙ there) ∙ ap answer_flat c.without_echo-refused.ensures in
    record {
      session_is = c.item-number.ensures.reads_back there;
      sram_is = ap (λ (r : Reply). r.sram) says.reply_is ∙ sym (ap (λ (r : Result). r.sram) says.step_is);
      answer_is =
          ap (put_parts a.i echoes answers) said
          ∙ parts_answered a.i echoes answers c.requires.1 c.requires.2 (without_echo (Outcome.Refused Fault.Form))
          ∙ sym (ap (λ (r : Result). answer_at a.i r.answer (as_flat echoes answers)) says.step_is);
    }

pub returns-else-number-from : goal.returns-else-number-from
returns-else-number-from c =
    let a = c.args in
    let echoes = a.echoes.now in
    let answers = a.answers.now in
    let there = parts_placed a.i echoes answers c.requires.1 c.requires.2 in
    let says = other (as_flat a.session_bytes.now a.session.now) a.sram.now a.item.now
    (as_flat (echo_part a.i echoes) (answer_part a.i answers)) _ c.item-number.ensures there c.requires.0 (λ e. c.if-number-from.false (e ∙ sym c.from.ensures)) in
    record {
      session_is = c.item-number.ensures.reads_back there;
      sram_is = ap (λ (r : Reply). r.sram) says;
      answer_is =
          ap (λ (r : Reply). put_parts a.i echoes answers r.answer) says
          ∙ parts_answered a.i echoes answers c.requires.1 c.requires.2
          (step (session_in (as_flat a.session_bytes.now a.session.now)) a.sram.now a.item.now).answer;
    }
