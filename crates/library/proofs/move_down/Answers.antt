-- `move_down` meets its contract: four by four, and then the rest.
use Rattle.std.proofs.Common.{arith}
use Rattle.library.proofs.Runs.{moved_on}
use Rattle.library.proofs.move_down.Goals as goal

pub returns : goal.returns
returns c = moved_on c.requires.0 c.move_fours-k.ensures.1 c.move_singly.ensures (omega (arith, c.move_fours-k.ensures.0))
