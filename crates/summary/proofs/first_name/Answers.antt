-- `first_name` meets its contract: the lowest mark is the first layer in the text.
use mathlib.Core.Path.{refl}
use native.Mathlib.Omega.{arith}
use Rattle.summary.proofs.Telling.{not_zero, no_first, mark-within, the_first}
use Rattle.summary.proofs.first_name.Goals as goal

pub returns-then-set-eq0 : goal.returns-then-set-eq0
returns-then-set-eq0 c = λ count ns ls n e. no_first ls n e c.if-set-eq0.true

pub offset_bounds-names-mark : goal.offset_bounds-names-mark
offset_bounds-names-mark c = let z = mark-within c.requires.layers c.requires.noted c.requires.is (not_zero _ c.if-set-eq0.false) refl in omega (arith, z, c.requires.noted.few)

pub returns : goal.returns
returns c = λ count ns ls n e. the_first ls n e (not_zero _ c.if-set-eq0.false) refl
