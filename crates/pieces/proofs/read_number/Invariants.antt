-- `read_number` meets its contract: Digits holds at each byte, and what is left of the text falls.
use Prim.Native.Nat.{◌-◌}
use lib.ListN.{length}
use Rattle.pieces.proofs.Digits.{Digits}
use Rattle.pieces.proofs.read_number.Given as goal

abbrev pub invariant-loop-i : goal.invariant-loop-i
invariant-loop-i l = Digits l.text l.first.to.state l.initial.i l.initial.v l.i l.v

abbrev pub decreases-loop-i : goal.decreases-loop-i
decreases-loop-i l = length l.text - l.i
