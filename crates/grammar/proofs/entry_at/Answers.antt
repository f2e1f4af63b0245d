-- `entry_at` meets its contract: the entry at the byte's kind.
use mathlib.Core.Path.{ap, ◌∙◌}
use Prim.Native.Nat.{ℕ}
use Rattle.grammar.specs.Steps.{entry_of}
use Rattle.grammar.proofs.entry_at.Goals as goal

pub returns : goal.returns
returns c = c.entry.ensures ∙ ap (λ (k : ℕ). entry_of c.args.q k) c.kind-k.ensures.0
