-- `first_dangling` meets its contract: `Between` holds before each definition, and `Within` before each of its commands.
use Prim.Native.Nat.{◌-◌}
use Rattle.dangling.proofs.Searching.{Between, Within}
use Rattle.dangling.proofs.first_dangling.Given as goal

abbrev pub invariant-loop-i : goal.invariant-loop-i
invariant-loop-i l = Between l.rows l.bodies l.live l.i

abbrev pub invariant-loop-at : goal.invariant-loop-at
invariant-loop-at l = Within l.rows l.bodies l.live l.i l.end l.at

abbrev pub decreases-loop-at : goal.decreases-loop-at
decreases-loop-at l = l.end - l.at
