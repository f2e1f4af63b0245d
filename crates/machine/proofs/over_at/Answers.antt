-- `over_at` meets its contract.
use Rattle.machine.proofs.over_at.Goals as goal

pub returns : goal.returns
returns c = (rw (c.zero_at.ensures, c.fresh.ensures), c.clear.ensures)
