-- `digits::put_first` meets its contract: as many digits as the number has.
use native.Mathlib.Omega.{arith}
use Rattle.digits.proofs.Writing.{same_bytes}
use Rattle.digits.proofs.Digits.{below_wide, all_wide}
use Rattle.digits.proofs.put_first.Goals as goal

pub put_short-requires : goal.put_short-requires
put_short-requires c = (c.width_of.ensures.raises, below_wide c.width_of.ensures, omega arith)

pub returns : goal.returns
returns c = same_bytes (all_wide c.width_of.ensures) c.put_short.ensures
