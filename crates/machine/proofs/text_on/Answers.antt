-- `text_on` meets its contract.
use Rattle.machine.proofs.text_on.Goals as goal

pub write-requires : goal.write-requires
write-requires c = (c.if-c.true, c.requires)

pub returns-then-c : goal.returns-then-c
returns-then-c c = c.write.ensures

pub measure-requires : goal.measure-requires
measure-requires c = (c.if-c.false, c.requires)

pub returns-else-c : goal.returns-else-c
returns-else-c c = c.measure.ensures
