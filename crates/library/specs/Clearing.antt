-- Words cleared from the first on. A running account, not to be believed.
-- Assumes nothing.
use Rattle.std.specs.Prelude.{◌≡◌, List, ℕ, ◌<◌, ℤ, pos, length, get_or}

-- as many words as there were, and the first of them zero
pub record Cleared (b b' : List ℤ) (i : ℕ) : Type 0 where
  pub size : length b' ≡ length b
  pub zeros : (k : ℕ) → k < i → get_or b' k (pos 0) ≡ pos 0
