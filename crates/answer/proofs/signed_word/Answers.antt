-- `signed_word` meets its contract, for every number of 64 bits.
use native.Mathlib.Omega.{arith}
use mir.Facts.{to_z-of_z}
use Rattle.digits.proofs.Signs.{negative, positive, at_least, at_most}
use Rattle.answer.proofs.Signs.{not_below, below}
use Rattle.answer.proofs.signed_word.Goals as goal

pub overflow_cast-result : goal.overflow_cast-result
overflow_cast-result c = let n = positive c.args.z c.ranges.z (at_least c.args.z c.ranges.z c.if-z-ge0.true) in rw (to_z-of_z c.ranges.z, n.is) (tt, record { fits = omega arith })

pub returns-then-z-ge0 : goal.returns-then-z-ge0
returns-then-z-ge0 c = not_below c.args.z c.ranges.z (positive c.args.z c.ranges.z (at_least c.args.z c.ranges.z c.if-z-ge0.true))

pub overflow_add-result : goal.overflow_add-result
overflow_add-result c = let n = negative c.args.z c.ranges.z (at_most c.args.z c.ranges.z c.if-z-ge0.false) in n.up_fits

pub overflow_sub-result : goal.overflow_sub-result
overflow_sub-result c = let n = negative c.args.z c.ranges.z (at_most c.args.z c.ranges.z c.if-z-ge0.false) in n.turn-fits

pub overflow_cast-result-2 : goal.overflow_cast-result-2
overflow_cast-result-2 c = let n = negative c.args.z c.ranges.z (at_most c.args.z c.ranges.z c.if-z-ge0.false) in rw n.turned (tt, record { fits = omega arith })

pub overflow_sub-result-2 : goal.overflow_sub-result-2
overflow_sub-result-2 c = let n = negative c.args.z c.ranges.z (at_most c.args.z c.ranges.z c.if-z-ge0.false) in rw n.turned (omega (arith, n.small))

pub returns : goal.returns
returns c = below c.args.z (negative c.args.z c.ranges.z (at_most c.args.z c.ranges.z c.if-z-ge0.false))
