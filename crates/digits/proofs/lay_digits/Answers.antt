-- `digits::lay_digits` meets its contract: one digit is its own byte, up to nine fall out of a product, and more are written in parts.
use mathlib.Core.Path.{sym}
use native.Mathlib.Omega.{arith}
use Rattle.digits.proofs.Writing.{same_bytes}
use Rattle.digits.proofs.Digits.{one_digit, below_wide, all_wide}
use Rattle.digits.proofs.lay_digits.Goals as goal

pub returns-then-n-le9 : goal.returns-then-n-le9
returns-then-n-le9 c = same_bytes (sym (one_digit _ (omega arith))) c.lay.ensures

pub lay_short-requires : goal.lay_short-requires
lay_short-requires c = (c.width_of.ensures.raises, below_wide c.width_of.ensures, omega (arith, c.width_of.ensures.raises.few, c.requires.0))

pub returns-then-n-lt-BILLION : goal.returns-then-n-lt-BILLION
returns-then-n-lt-BILLION c = same_bytes (all_wide c.width_of.ensures) c.lay_short.ensures
