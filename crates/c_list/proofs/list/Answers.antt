-- What is due is answered, or lists that fit are run.
use Rattle.std.specs.Prelude.{Ok}
use Rattle.std.proofs.Common.{rules, of_calls, ◌≡◌, sym, length}
use Rattle.session_answers.specs.Answers.{precheck}
use Rattle.c_answer.specs.Writing.{as_flat}
use Rattle.c_session.specs.Reading.{session_in}
use Rattle.c_list.specs.Calls.{list_fits}
use Rattle.c_list.proofs.Claiming.{passes, due_some, refused_list, ran_list}
use Rattle.c_list.proofs.list.Goals as goal

pub returns-in-Err : goal.returns-in-Err
returns-in-Err c =
    let a = c.args in
    let due = rw (c.read_session-read.ensures, c.fit-formed.ensures, c.in-Err.is) at c.item_precheck.ensures in
    refused_list (as_flat a.session_bytes.now a.session.now) a.sram.now a.kinds.now a.identifiers.now a.counts.now a.bytes.now (as_flat a.echoes.now a.answers.now) _
    (search (rules, of_calls)) (λ zero. due_some c.in-Err.due (search (rules, of_calls)))

pub run_items-requires : goal.run_items-requires
run_items-requires c =
    passes _ _ _ (sym (rw (c.read_session-read.ensures, c.fit-formed.ensures, c.in_default.is) at c.item_precheck.ensures))

pub returns : goal.returns
returns c =
    let a = c.args in
    let due : precheck (session_in (as_flat a.session_bytes.now a.session.now)) a.sram.now
    (list_fits a.kinds.now a.identifiers.now a.counts.now (length a.bytes.now) (length a.echoes.now) (length a.answers.now))
    ≡ Ok tt =
    passes _ _ _ (sym (rw (c.read_session-read.ensures, c.fit-formed.ensures, c.in_default.is) at c.item_precheck.ensures)) in
    ran_list (as_flat a.session_bytes.now a.session.now) a.sram.now a.kinds.now a.identifiers.now a.counts.now a.bytes.now (as_flat a.echoes.now a.answers.now) _
    due c.run_items.ensures
