-- `is_open` meets its contract. The invariant: none of the calls looked at is one of this symbol.
use Rattle.std.proofs.Common.{◌≡◌, false}
use Rattle.chain.proofs.Runs.{among}
use Rattle.chain.proofs.is_open.Given as goal

abbrev pub invariant-loop-i : goal.invariant-loop-i
invariant-loop-i l = among l.run l.symbol l.i ≡ false
