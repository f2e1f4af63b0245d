-- `read_text` meets its contract: refusals 1 to 9 as `first_fault` finds them, and else as `flatten_passed` answers.
use Rattle.reader.proofs.Promises.{fault-told, passes}
use Rattle.reader.proofs.read_text.Goals as goal

pub flatten_passed-requires : goal.flatten_passed-requires
flatten_passed-requires c = passes c.first_fault.ensures c.in-Ok.is

pub returns-in-Err : goal.returns-in-Err
returns-in-Err c = fault-told c.first_fault.ensures c.in-Err.is c.refused_outside_by.ensures
