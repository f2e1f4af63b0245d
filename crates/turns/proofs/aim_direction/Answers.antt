-- `aim_direction` meets its contract: without its step a net transformation does to a point what it does to a direction (`unmoved`).
use mathlib.Core.Path.{◌∙◌}
use native.Mathlib.Omega.{arith}
use Rattle.definition.specs.Words.{point}
use Rattle.turns.proofs.Nets.{unmoved}
use Rattle.turns.proofs.Signed.{wide, worth, widened}
use Rattle.turns.proofs.aim_direction.Goals as goal

pub overflow_cast-x : goal.overflow_cast-x
overflow_cast-x c = wide c.args.x c.ranges.x

pub overflow_cast-y : goal.overflow_cast-y
overflow_cast-y c = wide c.args.y c.ranges.y

pub placed-requires : goal.placed-requires
placed-requires c = (rw c.oriented-turns.ensures (record { across = omega arith; up = omega arith }), widened c.args.x c.ranges.x, widened c.args.y c.ranges.y)

pub returns : goal.returns
returns c = c.placed.ensures ∙ rw (worth c.args.x c.ranges.x, worth c.args.y c.ranges.y, c.oriented-turns.ensures) (unmoved c.args.net (point c.args.x c.args.y))
