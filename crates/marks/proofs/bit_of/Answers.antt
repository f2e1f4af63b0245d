-- `bit_of` meets its contract.
use mathlib.Core.Path.{refl}
use native.Mathlib.Omega.{arith}
use Rattle.marks.proofs.Marking.{one_bit, mark_low}
use Rattle.marks.proofs.bit_of.Goals as goal

pub returns-in-Some : goal.returns-in-Some
returns-in-Some c = record { mark = _; is_mark = c.in-Some.ensures; is = one_bit _ (omega (arith, mark_low c.in-Some.ensures, c.requires)) }

pub returns-in-None : goal.returns-in-None
returns-in-None c = record { mark = _; is_mark = c.in-None.ensures; is = refl }
