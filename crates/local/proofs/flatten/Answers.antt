-- `flatten` meets its contract: `run` goes on from the state where the drawing begins.
use Rattle.local.proofs.RunSoFar.{begun, within}
use Rattle.local.proofs.flatten.Goals as goal

pub run-over-requires : goal.run-over-requires
run-over-requires c = (begun c.begin-s.ensures, c.requires)

pub returns : goal.returns
returns c = within c.begin-s.ensures c.run-over.ensures
