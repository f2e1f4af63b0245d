-- `keep_body` meets its contract: `KeptSoFar` holds before each command, and what is left of the text falls, or a command is tried once more.
use Prim.Native.Nat.{◌+◌, ◌-◌, ◌*◌}
use lib.ListN.{length}
use Rattle.keeping.proofs.Bodies.{unmoved, KeptSoFar}
use Rattle.keeping.proofs.keep_body.Given as goal

abbrev pub invariant-loop-to : goal.invariant-loop-to
invariant-loop-to l =
    KeptSoFar l.text l.initial.spot l.a l.b l.initial.rows l.initial.bodies l.live l.row l.rows l.bodies l.spot l.used l.layered l.moved

abbrev pub decreases-loop-to : goal.decreases-loop-to
decreases-loop-to l =
    2 * (length l.text - l.spot.at) + unmoved l.moved
