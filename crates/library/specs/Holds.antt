-- The table of a text, held in memory: each live row stands for one of its definitions, whose body is kept lean, and tells how many words the whole
-- body needs. A running account, not to be believed.
-- Assumes nothing.
use Rattle.std.specs.Prelude.{◌≡◌, List, [], ◌∷◌, ℕ, ◌+◌, ℤ, length}
use Rattle.definition.specs.Table.{Definition, Table}
use Rattle.definition.specs.Held.{words_of_body}
use Rattle.definition.specs.Lean.{lean_definition}
use Rattle.library.specs.Memory.{needed_at, definition_at}

pub record Means (rows : List ℕ) (b : List ℤ) (i : ℕ) (d : Definition) : Type 0 where
  pub kept_lean : definition_at rows b i ≡ lean_definition d
  pub needs : needed_at rows i ≡ words_of_body d.body

unfoldable pub HoldsFrom : List ℕ → List ℤ → ℕ → Table → Type 0
HoldsFrom rows b i [] = Unit {0}
HoldsFrom rows b i (d ∷ t) = Means rows b i d × HoldsFrom rows b (i + 1) t

pub record Holds (rows : List ℕ) (b : List ℤ) (live : ℕ) (t : Table) : Type 0 where
  pub many : length t ≡ live
  pub each : HoldsFrom rows b 0 t
