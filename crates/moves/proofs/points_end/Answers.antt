-- `points_end` meets its contract: only a box has a direction, of two numbers.
use mathlib.Core.Path.{sym, ◌∙◌}
use native.Mathlib.Omega.{arith}
use Rattle.moves.proofs.Moves.{directions_B, directions_other}
use Rattle.moves.proofs.points_end.Goals as goal

pub returns-then-letter-eq66 : goal.returns-then-letter-eq66
returns-then-letter-eq66 c = record { before_directions = λ k e. omega (arith, directions_B k (sym e ∙ c.if-letter-eq66.true)) }

pub returns : goal.returns
returns c = record { before_directions = λ k e. omega (arith, directions_other k (λ q. c.if-letter-eq66.false (e ∙ q))) }
