-- `unwind` meets its contract: at level 0 the state is over.
use Rattle.machine.proofs.Making.{unwinds_over, unwinds_on}
use Rattle.machine.proofs.unwind.Goals as goal

pub returns-then-level-eq0 : goal.returns-then-level-eq0
returns-then-level-eq0 c = unwinds_over _ c.if-level-eq0.true c.over_at.ensures.0 c.over_at.ensures.1

pub returns : goal.returns
returns c = unwinds_on c.if-level-eq0.false (rw (c.zero_at.ensures, c.at_level.ensures))
