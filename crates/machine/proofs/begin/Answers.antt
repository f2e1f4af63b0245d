-- `begin` meets its contract: no shape counts as drawn before.
use Rattle.machine.specs.Underway.{none_earlier}
use Rattle.machine.proofs.begin.Goals as goal

pub begin_at-requires : goal.begin_at-requires
begin_at-requires c = (c.requires, none_earlier)

pub returns : goal.returns
returns c = c.begin_at.ensures none_earlier
