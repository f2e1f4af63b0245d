-- `head_at` meets its contract.
use Rattle.engine.proofs.Heads.{head_is}
use Rattle.engine.proofs.head_at.Goals as goal

pub returns : goal.returns
returns c = head_is c.args.bodies.now c.args.at _ _ c.size_at-head.ensures c.size_at-place.ensures
