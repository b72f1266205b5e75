-- With some items looked at, all fit when the rest fit the bytes that are left.
use Rattle.std.proofs.Common.{◌≡◌, length}
use Rattle.c_list.specs.Calls.{parts_fit}
use Rattle.c_list.proofs.Items.parts_fit.Given as goal

abbrev pub invariant-loop-kind : goal.invariant-loop-kind
invariant-loop-kind l =
    (length l.kind-iterator.b.rest.now ≡ length l.kind-iterator.a.rest.now)
    × (parts_fit l.self.kinds.now l.self.counts.now (length l.self.bytes.now) ≡ parts_fit l.kind-iterator.a.rest.now l.kind-iterator.b.rest.now l.left)
