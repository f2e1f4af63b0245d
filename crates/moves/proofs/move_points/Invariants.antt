-- `move_points` meets its contract. The invariant, whatever the points are called: those done stand in their places (`Moving`).
use Prim.Native.Nat.{◌-◌}
use Rattle.moves.specs.Moves.{Pointed}
use Rattle.moves.proofs.Moves.{Moving}
use Rattle.moves.proofs.move_points.Given as goal

abbrev pub invariant-loop-next : goal.invariant-loop-next
invariant-loop-next l =
    (h : Pointed l.words l.from l.end) → Moving l.words l.end l.net h.points l.initial.numbers l.from l.next (record { x = l.x; y = l.y }) l.numbers

abbrev pub decreases-loop-next : goal.decreases-loop-next
decreases-loop-next l = l.end - l.next
