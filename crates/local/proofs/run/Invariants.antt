-- `local::run` meets its contract: the loop's invariant is `RunSoFar`, and each need is one law of it.
use Rattle.machine.specs.Underway.{turns_left}
use Rattle.local.proofs.RunSoFar.{RunSoFar}
use Rattle.local.proofs.run.Given as goal

abbrev pub invariant-loop-s : goal.invariant-loop-s
invariant-loop-s l = RunSoFar l.text l.records l.initial.s l.initial.rows l.initial.words l.initial.room l.frames l.s l.rows l.words l.room

abbrev pub decreases-loop-s : goal.decreases-loop-s
decreases-loop-s l = turns_left l.s
