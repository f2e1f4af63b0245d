-- `first_point` meets its contract: the letter tells how many sizes there are.
use mathlib.Core.Path.{sym, ◌∙◌}
use native.Mathlib.Omega.{arith}
use Rattle.moves.proofs.Moves.{sizes_P, sizes_B, sizes_other}
use Rattle.moves.proofs.first_point.Goals as goal

pub returns-then-letter-eq80 : goal.returns-then-letter-eq80
returns-then-letter-eq80 c = record { behind_sizes = λ k e. omega (arith, sizes_P k (sym e ∙ c.if-letter-eq80.true)) }

pub returns-then-letter-eq66 : goal.returns-then-letter-eq66
returns-then-letter-eq66 c = record { behind_sizes = λ k e. omega (arith, sizes_B k (sym e ∙ c.if-letter-eq66.true)) }

pub returns : goal.returns
returns c = record { behind_sizes = λ k e. omega (arith, sizes_other k (λ q. c.if-letter-eq80.false (e ∙ q)) (λ q. c.if-letter-eq66.false (e ∙ q))) }
