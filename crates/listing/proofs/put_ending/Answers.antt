-- `listing::put_ending` meets its contract: the total's line, and after it the window's.
use Rattle.digits.proofs.Writing.{both}
use Rattle.listing.proofs.put_ending.Goals as goal

pub returns-clause-writes : goal.returns-clause-writes
returns-clause-writes c = both c.put_total-next.ensures.writes c.put_window.ensures.writes
