-- `start` meets its contract: 1 to 9, or it is measured (proofs/Starting.antt).
use mathlib.Core.Path.{ap}
use Rattle.machine.specs.declared.Course.{Course}
use Rattle.machine.proofs.Starting.{sooner, start-refused, start_at, start_bound}
use Rattle.machine.proofs.start.Goals as goal

pub measure-requires : goal.measure-requires
measure-requires c = (ap (λ (x : Course). x.writing) c.fresh-c.ensures, (_, (_, start_at c.requires.1.1.0 c.requires.1.1.1 c.first_fault.ensures c.in-Ok.is c.fresh-c.ensures)))

pub returns-in-Err : goal.returns-in-Err
returns-in-Err c = λ h fs x blank. start-refused x blank c.first_fault.ensures c.in-Err.is c.refused_outside_by-answer.ensures c.over.ensures.0 c.over.ensures.1

pub returns-in-Ok : goal.returns-in-Ok
returns-in-Ok c = λ h fs x blank. sooner (c.measure.ensures h fs (start_at x blank c.first_fault.ensures c.in-Ok.is c.fresh-c.ensures)) (start_bound c.fresh-c.ensures)
