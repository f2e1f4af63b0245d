-- `translation` meets its contract: two numbers of 32 bits, widened, are the step.
use Rattle.turns.proofs.Nets.{translates}
use Rattle.turns.proofs.Signed.{narrow, wide, worth}
use Rattle.turns.proofs.translation.Goals as goal

pub overflow_cast-result : goal.overflow_cast-result
overflow_cast-result c = wide c.args.x c.ranges.x

pub overflow_cast-result-2 : goal.overflow_cast-result-2
overflow_cast-result-2 c = wide c.args.y c.ranges.y

pub returns : goal.returns
returns c = translates c.args.x c.args.y _ (rw (worth c.args.x c.ranges.x, worth c.args.y c.ranges.y)) (narrow c.args.x c.ranges.x) (narrow c.args.y c.ranges.y)
