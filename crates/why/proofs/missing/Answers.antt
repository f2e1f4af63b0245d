-- `missing` meets its contract.
use Rattle.why.proofs.Telling.{missing_made}
use Rattle.why.proofs.missing.Goals as goal

pub returns : goal.returns
returns c = missing_made _ c.refused_outside_by-answer.ensures c.refused.ensures
