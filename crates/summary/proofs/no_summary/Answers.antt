-- `no_summary` meets its contract.
use Rattle.definition.specs.Summary.{empty_summary}
use Rattle.summary.proofs.no_summary.Goals as goal

pub returns : goal.returns
unfolding empty_summary
returns c = simp (c.number_of.ensures, c.position_of-position.ensures.line_is, c.position_of-position.ensures.column_is)
