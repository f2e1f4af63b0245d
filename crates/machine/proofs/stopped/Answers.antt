-- `stopped` meets its contract: the run tells the calls that are open.
use mathlib.Core.Path.{◌∙◌}
use Rattle.machine.proofs.Making.{stopped_so}
use Rattle.machine.proofs.stopped.Goals as goal

pub stop-requires : goal.stop-requires
stop-requires c = (c.requires.1, c.requires.0)

pub refused_by-answer-requires : goal.refused_by-answer-requires
refused_by-answer-requires c = c.stop.auto.run ∙ c.requires.0

pub returns : goal.returns
returns c = stopped_so _ _ _ c.refused_by-answer.ensures c.stop.ensures c.unwind.ensures
