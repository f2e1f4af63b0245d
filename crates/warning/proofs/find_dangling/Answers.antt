-- `find_dangling` meets its contract.
use Rattle.warning.proofs.Along.{same_found}
use Rattle.warning.proofs.find_dangling.Goals as goal

pub returns-in-Some : goal.returns-in-Some
returns-in-Some c = same_found _ _ c.requires.searched c.in-Some.is c.if-live-before.true
