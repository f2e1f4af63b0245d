-- `nearest` meets its contract: each comparison halves the rows at which the number can stand.
use Prim.Native.Nat.{◌≤◌}
use Rattle.library.specs.Memory.{most}
use Rattle.library.proofs.Seeking.{Seeking}
use Rattle.library.proofs.nearest.Given as goal

abbrev pub invariant-loop-reach : goal.invariant-loop-reach
invariant-loop-reach l = Seeking l.rows l.live l.symbol l.at l.reach × (l.reach ≤ most)

abbrev pub decreases-loop-reach : goal.decreases-loop-reach
decreases-loop-reach l = l.reach
