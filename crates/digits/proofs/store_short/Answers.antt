-- `digits::store_short` meets its contract: the digits that are left and the product from which they fall out agree.
use native.Mathlib.Omega.{arith}
use Rattle.digits.proofs.Digits.{begins_to_fall, falls, fallen, lasts-length}
use Rattle.digits.proofs.store_short.Goals as goal

pub loop-i-init : goal.loop-i-init
loop-i-init c = begins_to_fall c.requires.width.0 c.requires.width.1

pub loop-i-preserved : goal.loop-i-preserved
loop-i-preserved c = falls c.loop-i.invariant (omega (arith, lasts-length c.args.width.count c.args.n))

pub returns : goal.returns
returns c = fallen c.loop-i.invariant (omega (arith, lasts-length c.args.width.count c.args.n)) (λ h. omega arith)
