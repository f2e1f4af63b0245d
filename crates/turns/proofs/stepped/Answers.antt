-- `stepped` meets its contract: numbers within 2^61 of zero negate and add without a wrap.
use mir.Facts.{to_z-of_z}
use Rattle.turns.specs.Nets.{signed}
use Rattle.turns.proofs.Signed.{sum_fits, neg_fits, neg_back, neg_sum_fits}
use Rattle.turns.proofs.stepped.Goals as goal

pub overflow_sub-result : goal.overflow_sub-result
overflow_sub-result c = rw (to_z-of_z c.ranges.x) (neg_fits c.args.x c.requires.0)

pub overflow_add-result : goal.overflow_add-result
overflow_add-result c = rw (to_z-of_z c.ranges.x, to_z-of_z c.ranges.by, neg_back c.args.x c.requires.0) (neg_sum_fits c.args.x c.args.by c.requires.0 c.requires.1)

pub overflow_add-result-else-negate : goal.overflow_add-result-else-negate
overflow_add-result-else-negate c = rw (to_z-of_z c.ranges.x, to_z-of_z c.ranges.by) (sum_fits c.args.x c.args.by c.requires.0 c.requires.1)

pub returns-then-negate : goal.returns-then-negate
unfolding signed
returns-then-negate c = rw (to_z-of_z c.ranges.x, to_z-of_z c.ranges.by, neg_back c.args.x c.requires.0, to_z-of_z (neg_sum_fits c.args.x c.args.by c.requires.0 c.requires.1), c.if-negate.true)

pub returns-else-negate : goal.returns-else-negate
unfolding signed
returns-else-negate c = rw (to_z-of_z c.ranges.x, to_z-of_z c.ranges.by, to_z-of_z (sum_fits c.args.x c.args.by c.requires.0 c.requires.1), c.if-negate.false)
