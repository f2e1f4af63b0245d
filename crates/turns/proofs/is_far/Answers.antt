-- `is_far` meets its contract: the two ends of the range are the one test of the distance from zero (`below`, `above`).
use mir.Facts.{to_z-of_z}
use Rattle.turns.proofs.Signed.{below, above}
use Rattle.turns.proofs.is_far.Goals as goal

pub returns-then-x-ltminus16777215 : goal.returns-then-x-ltminus16777215
returns-then-x-ltminus16777215 c = rw (to_z-of_z c.ranges.x) (below c.args.x (rw (to_z-of_z c.ranges.x) at c.if-x-ltminus16777215.true))

pub returns-else-x-ltminus16777215 : goal.returns-else-x-ltminus16777215
returns-else-x-ltminus16777215 c = rw (to_z-of_z c.ranges.x) (above c.args.x (rw (to_z-of_z c.ranges.x) at c.if-x-ltminus16777215.false))
