-- `stopped_outside` meets its contract: no body is open there.
use Rattle.machine.proofs.stopped_outside.Goals as goal

pub stopped-requires : goal.stopped-requires
stopped-requires c = c.requires

pub returns : goal.returns
returns c = c.stopped.ensures
