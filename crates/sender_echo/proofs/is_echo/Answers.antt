-- Eight bytes are all that an echo has places for.
use Rattle.std.proofs.Common.{rules, arith, ◌≡◌, length, take}
use lib.Seq.{take_all}
use Rattle.octets.proofs.Comparing.{same_pointwise}
use Rattle.sender_echo.specs.Hearing.{is_echo}
use Rattle.sender_echo.proofs.is_echo.Goals as goal

pub returns-in-Some : goal.returns-in-Some
unfolding is_echo
returns-in-Some c =
    let due = c.args.due in
    let eight : length due.bytes ≡ 8 = search rules in
    let whole : take 8 due.bytes ≡ due.bytes = take_all 8 due.bytes (omega arith) in
    search (rules, whole, same_pointwise c.args.heard.bytes.now due.bytes)
