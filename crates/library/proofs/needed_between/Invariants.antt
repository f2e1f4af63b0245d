-- `needed_between` meets its contract: what is counted so far is what the rows passed need (proofs/Forgetting.antt).
use Rattle.std.proofs.Common.{◌≡◌, ◌+◌}
use Rattle.library.specs.Memory.{needed_in}
use Rattle.library.proofs.needed_between.Given as goal

abbrev pub invariant-loop-i : goal.invariant-loop-i
invariant-loop-i l = needed_in l.rows l.left + l.sum ≡ needed_in l.rows l.i
