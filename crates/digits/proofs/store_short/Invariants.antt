-- `digits::store_short` meets its contract: the digits that are left and the product from which they fall out agree.
use Rattle.digits.specs.Tens.{lasts}
use Rattle.digits.proofs.Digits.{Falling}
use Rattle.digits.proofs.store_short.Given as goal

abbrev pub invariant-loop-i : goal.invariant-loop-i
invariant-loop-i l = Falling l.initial.room l.room l.at l.i (lasts l.fn.width.count l.n) l.left
