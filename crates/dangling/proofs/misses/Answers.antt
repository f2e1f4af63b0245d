-- `misses` meets its contract.
use Rattle.dangling.proofs.Searching.{misses_by}
use Rattle.dangling.proofs.misses.Goals as goal

pub returns : goal.returns
returns c = misses_by _ _ _ _ c.find.ensures _ c.is_none.ensures
