-- `written` meets its contract.
use native.Mathlib.Omega.{arith}
use Rattle.machine.proofs.written.Goals as goal

pub put_end-requires : goal.put_end-requires
put_end-requires c = c.requires

pub overflow_add-end : goal.overflow_add-end
overflow_add-end c = omega (arith, c.requires)

pub returns : goal.returns
returns c = record { is = rw (c.over.ensures.0, c.accepted-answer.ensures); words = c.over.ensures.1; laid = c.put_end.ensures.laid }
