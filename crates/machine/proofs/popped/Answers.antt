-- `popped` meets its contract.
use Rattle.machine.proofs.popped.Goals as goal

pub returns : goal.returns
returns c = rw (c.zero_to.ensures, c.at_level.ensures, c.accepted-none.ensures, c.no_counts.ensures)
