-- `move_fours` meets its contract, four by four (proofs/Runs.antt).
use Rattle.std.proofs.Common.{refl, arith}
use Rattle.library.proofs.Runs.{moved_on}
use Rattle.library.proofs.move_fours.Goals as goal

pub loop-k-preserved : goal.loop-k-preserved
loop-k-preserved c = (omega (arith, c.loop-k.invariant.0), moved_on c.requires.0 c.loop-k.invariant.1 c.move_four.ensures refl)
