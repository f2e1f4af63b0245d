-- `is_askew` meets its contract: a number of 32 bits is 0 where its bits are (`bits_zero`).
use Rattle.turns.proofs.Nets.{one_askew}
use Rattle.turns.proofs.Signed.{is_zero, not_zero, bits_zero}
use Rattle.turns.proofs.is_askew.Goals as goal

pub returns-then-x-ne0 : goal.returns-then-x-ne0
returns-then-x-ne0 c = rw (one_askew, not_zero c.args.x c.if-x-ne0.true, bits_zero c.args.y c.ranges.y)

pub returns-else-x-ne0 : goal.returns-else-x-ne0
returns-else-x-ne0 c = rw (one_askew, is_zero c.args.x c.ranges.x c.if-x-ne0.false, c.if-x-ne0.false)
