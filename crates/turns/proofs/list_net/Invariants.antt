-- `list_net` meets its contract. The invariant holds for every list that the words are those of: a part is done, whose net transformation is kept,
-- and what is left stands in the words from here on (`ComposedSoFar`).
use Prim.Native.Nat.{◌-◌}
use Rattle.turns.specs.Nets.{Written}
use Rattle.turns.proofs.Lists.{ComposedSoFar}
use Rattle.turns.proofs.list_net.Given as goal

abbrev pub invariant-loop-at : goal.invariant-loop-at
invariant-loop-at l = (h : Written l.words l.from l.end) → ComposedSoFar l.words l.from l.end h l.at l.net l.askew

abbrev pub decreases-loop-at : goal.decreases-loop-at
decreases-loop-at l = l.end - l.at
