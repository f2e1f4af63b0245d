-- `refused_outside` meets its contract: a run of zeros tells that no call is open.
use Rattle.chain.specs.Chain.{open_calls}
use Rattle.answer.proofs.refused_outside.Goals as goal

pub returns : goal.returns
unfolding open_calls
returns c = c.refused.ensures
