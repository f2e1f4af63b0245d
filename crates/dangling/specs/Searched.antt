-- What the search answers, in the definition's words: the warning that is due after a DD. The table is the one that the memory holds.
-- Assumes nothing.
use Rattle.std.specs.Prelude.{◌≡◌, Bool, List, [], ◌∷◌, ℕ, Option, Some, None, ℤ}
use Rattle.definition.specs.Words.{first, none?}
use Rattle.definition.specs.Table.{find}
use Rattle.definition.specs.Warnings.{Warning, dangling, dangling_calls, dangling_at}
use Rattle.library.specs.Memory.{table_of}

-- a number is not live, whatever the bodies are
abbrev pub Misses : (rows : List ℕ) (live symbol : ℕ) → Bool → Type 0
Misses rows live symbol r = (b : List ℤ) → r ≡ none? (find symbol (table_of rows b live))

-- the warning that an answer stands for
abbrev pub warning_by : Option ℕ → List Warning
warning_by (Some p) = dangling p ∷ []
warning_by None = []

-- the contract of `first_dangling`
abbrev pub Searched : (rows : List ℕ) (b : List ℤ) (live : ℕ) → Option ℕ → Type 0
Searched rows b live r = warning_by r ≡ dangling_at (first (dangling_calls (table_of rows b live)))
