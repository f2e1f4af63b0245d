-- `over` meets its contract.
use Rattle.machine.proofs.over.Goals as goal

pub returns : goal.returns
returns c = (rw (c.zero_to.ensures, c.fresh.ensures), c.clear.ensures)
