-- `counts::count_redefinition` meets its contract: the record with one redefinition more is the definition's.
use Rattle.counts.proofs.ByValue.{redefinition-counted}
use Rattle.counts.proofs.count_redefinition.Goals as goal

pub returns : goal.returns
returns c = redefinition-counted _
