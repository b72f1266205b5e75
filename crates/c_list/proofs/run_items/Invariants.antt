-- After i items the run of all is what was written and the run of the rest.
use Rattle.c_list.proofs.Handing.{Under}
use Rattle.c_list.proofs.run_items.Given as goal

abbrev pub invariant-loop-i : goal.invariant-loop-i
invariant-loop-i l =
    Under l.fn.session_bytes l.fn.session l.fn.sram l.kinds l.identifiers l.counts l.items.bytes.now l.fn.echoes l.fn.answers
    l.session_bytes l.session l.sram l.echoes l.answers l.rest l.i
