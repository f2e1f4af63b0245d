-- `lines::stretch` meets its contract: the number is doubled, and the reach goes to both sides; nothing wraps.
use mathlib.Core.Path.{ap₂, ◌∙◌}
use native.Mathlib.Omega.{arith}
use Rattle.std.proofs.lemmas.Int.{ints}
use Rattle.lines.specs.Followed.{span, widened, stretched}
use Rattle.lines.proofs.stretch.Goals as goal

pub returns : goal.returns
unfolding stretched
returns c = c.widen.ensures ∙ ap₂ (λ l h. widened c.args.span (span l h)) (omega (arith, ints, c.requires)) (omega (arith, ints, c.requires))
