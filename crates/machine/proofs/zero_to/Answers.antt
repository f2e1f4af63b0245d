-- `zero_to` meets its contract: no body goes on by the state.
use Rattle.machine.proofs.zero_to.Goals as goal

pub returns : goal.returns
returns c = c.zero_at.ensures
