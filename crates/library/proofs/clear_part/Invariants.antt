-- `clear_part` meets its contract: all words passed are zero.
use Rattle.library.specs.Clearing.{Cleared}
use Rattle.library.proofs.clear_part.Given as goal

abbrev pub invariant-loop-i : goal.invariant-loop-i
invariant-loop-i l = Cleared l.initial.bodies l.bodies l.i
