-- `turn` meets its contract: by the kind of the state, what it means is what the function of that kind asks (proofs/Turning.antt).
use native.Mathlib.Omega.{arith}
use Rattle.machine.proofs.Turning.{clear_asks, clear_slot, push_asks, pop_asks, clear-turns, push_turns, pop_turns, unwind_turns}
use Rattle.machine.proofs.turn.Goals as goal

pub overflow_add-s : goal.overflow_add-s
overflow_add-s c = let z = clear_slot c.requires c.in-Clear.is in omega arith

pub clear-requires : goal.clear-requires
clear-requires c = clear_asks c.requires c.in-Clear.is

pub body_on-requires : goal.body_on-requires
body_on-requires c = push_asks c.requires c.in-Push.is

pub back_on-requires : goal.back_on-requires
back_on-requires c = pop_asks c.requires c.in-Pop.is

pub returns-in-Clear : goal.returns-in-Clear
returns-in-Clear c = clear-turns c.in-Clear.is c.clear.ensures

pub returns-in-Push : goal.returns-in-Push
returns-in-Push c = push_turns c.in-Push.is c.body_on.ensures

pub returns-in-Pop : goal.returns-in-Pop
returns-in-Pop c = pop_turns c.in-Pop.is c.back_on.ensures

pub returns-in-Unwind : goal.returns-in-Unwind
returns-in-Unwind c = unwind_turns c.in-Unwind.is c.unwind.ensures
