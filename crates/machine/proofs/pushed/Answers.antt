-- `pushed` meets its contract.
use native.Mathlib.Omega.{arith}
use Rattle.machine.proofs.pushed.Goals as goal

pub start_at-from-requires : goal.start_at-from-requires
start_at-from-requires c = c.requires.2

pub length_at-size-requires : goal.length_at-size-requires
length_at-size-requires c = c.requires.2

pub overflow_add-here : goal.overflow_add-here
overflow_add-here c = omega (arith, c.start_at-from.ensures, c.length_at-size.ensures, c.requires.3)

pub push-requires : goal.push-requires
push-requires c = (c.requires.1, c.requires.0)

pub overflow_add-course : goal.overflow_add-course
overflow_add-course c = omega (arith, c.requires.1)

pub returns : goal.returns
returns c = record { run = _; pushed = c.push.ensures; same = c.push.auto.run; fits = c.frame_of-put.ensures.1; is = rw (c.frame_of-put.ensures.0, c.start_at-from.ensures, c.length_at-size.ensures, c.accepted-none.ensures, c.no_counts.ensures) }
