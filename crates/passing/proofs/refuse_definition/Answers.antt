-- `refuse_definition` meets its contract: the run tells that no call is open.
use mathlib.Core.Path.{refl, ◌∙◌}
use native.Mathlib.Omega.{arith}
use Rattle.chain.proofs.Runs.{none_open}
use Rattle.passing.proofs.refuse_definition.Goals as goal

pub stop-requires : goal.stop-requires
stop-requires c = (omega arith, c.requires)

pub returns : goal.returns
returns c = record { is = refl; none_open = c.stop.ensures.chain_is ∙ none_open _ }
