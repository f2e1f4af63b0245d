-- Request 2 (RULES 6): the rounded distances of a text, each counted once, whether it is drawn or not. Outside definitions a and b are 1, so
-- nothing is rounded there.
use Rattle.std.specs.Prelude.{not, List, [], ◌∷◌, ℕ, ◌+◌, length}
use Rattle.definition.specs.Words.{Placed, those}
use Rattle.definition.specs.Commands.{Number, Command}
use Rattle.definition.specs.Standing.{Standing, outside, after, whole}
use Rattle.definition.specs.Faults.{distances}

unfoldable pub ragged : Standing → Command → List Number  -- the distances of a command that are not whole when they are scaled
ragged s c = those (λ d. not (whole s d.what)) (distances c)

unfoldable pub rounded_from : Standing → List (Placed Command) → ℕ  -- how many the commands have, from where this stands
rounded_from s [] = 0
rounded_from s (c ∷ cs) = length (ragged s c.what) + rounded_from (after c.what s) cs

unfoldable pub rounded : List (Placed Command) → ℕ
rounded cs = rounded_from (outside []) cs
