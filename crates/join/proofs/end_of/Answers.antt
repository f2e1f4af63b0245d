-- `end_of` meets its contract: by whether there is a last letter E.
use Rattle.join.proofs.LastE.{cut}
use Rattle.join.proofs.end_of.Goals as goal

pub returns : goal.returns
returns c = cut _ _ c.last_e.ensures c.unwrap_or.ensures
