-- `sum_up` meets its contract.
use Rattle.summary.proofs.Telling.{starts-stopped, starts-named, starts-told}
use Rattle.summary.proofs.sum_up.Goals as goal

pub tell_passed-requires : goal.tell_passed-requires
tell_passed-requires c = starts-named _ c.begin.ensures c.in-Ok.is

pub returns-in-Err : goal.returns-in-Err
returns-in-Err c = starts-stopped _ c.begin.ensures c.in-Err.is c.no_summary.ensures

pub returns-in-Ok : goal.returns-in-Ok
returns-in-Ok c = starts-told _ c.begin.ensures c.in-Ok.is c.tell_passed.ensures
