-- The loop's invariant is that the drawing is under way with the records that were lent (`Underway` of machine), and the loop ends since each turn lowers `turns_left`.
use Rattle.std.proofs.Common.{length}
use Rattle.machine.specs.Underway.{Underway, turns_left}
use Rattle.frames.proofs.flatten.Given as goal

abbrev pub invariant-loop-s : goal.invariant-loop-s
invariant-loop-s l = Underway l.text (length l.fn.words) l.fn.room (length l.fn.records) l.s l.records l.rows l.words l.room

abbrev pub decreases-loop-s : goal.decreases-loop-s
decreases-loop-s l = turns_left l.s
