-- With sizes allowed, the claim follows from what `chosen` ensures.
use Rattle.boot.proofs.Claim.{claimed}
use Rattle.boot.proofs.Inputs.choose.Goals as goal

pub returns-then-is_allowed : goal.returns-then-is_allowed
returns-then-is_allowed c =
    let given = c.args.self in
    claimed given.bootcfg given.flash.now given.shadow.now given.external.now _ _ c.is_allowed.ensures (cc)
