-- `places` meets its contract. The invariant: the places of the first calls are told, and after them stand zeros.
use Rattle.std.proofs.Common.{arith}
use Rattle.chain.proofs.Telling.{few_opened, none_told, one_told, all_told}
use Rattle.chain.proofs.places.Goals as goal

pub loop-next-init : goal.loop-next-init
loop-next-init c = none_told _

pub loop-next-preserved : goal.loop-next-preserved
loop-next-preserved c = one_told c.loop-next.invariant (omega (arith, few_opened c.args.run.now))

pub returns : goal.returns
returns c = all_told c.loop-next.invariant (omega arith)
