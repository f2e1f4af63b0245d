-- `too_long` meets its contract: 18 at place 0, outside of every call.
use Rattle.reader.proofs.too_long.Goals as goal

pub returns : goal.returns
returns c = c.refused_outside_by.ensures
