-- `clear` meets its contract, part by part.
use Rattle.std.proofs.Common.{arith}
use Rattle.library.proofs.Clearing.{cleared}
use Rattle.library.proofs.clear.Goals as goal

pub returns : goal.returns
returns c = cleared _ _ _ c.loop-i.invariant (omega arith)
