-- `walk` meets its contract: it meets the bodies in order, and each is moved down (proofs/Walking.antt).
use mathlib.Core.List.{List}
use lib.IntN.{ℤ}
use lib.ListN.{length}
use Rattle.library.specs.Moving.{Laid, Tagged}
use Rattle.library.proofs.Walking.{Walking}
use Prim.Native.Nat.{◌-◌}
use Rattle.library.proofs.walk.Given as goal

abbrev pub invariant-loop-at : goal.invariant-loop-at
invariant-loop-at l = (b : List ℤ) → Laid l.initial.rows l.live (length b) → Tagged l.initial.rows b l.live 0 l.initial.bodies l.firsts → Walking l.initial.rows b l.live l.rows l.bodies l.firsts l.to l.at

abbrev pub decreases-loop-at : goal.decreases-loop-at
decreases-loop-at l = length l.initial.bodies - l.at
