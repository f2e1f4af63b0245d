-- The calls of a body, and the next of them in its words. A running account, not to be believed.
-- Assumes nothing.
use Rattle.std.specs.Prelude.{◌≡◌, List, [], ◌∷◌, ℕ, Option, Some, None, ◌-◌, ◌≤◌, ◌<◌, ℤ, length}
use Rattle.definition.specs.Words.{Placed}
use Rattle.definition.specs.Table.{Step, shape, instance, setting}
use Rattle.library.specs.Memory.{most_words, words_at}
use Rattle.library.specs.Sound.{all_words, Proper}
use Rattle.heights.specs.declared.Next.{Next}

unfoldable pub call_in : Step → List ℕ → List ℕ
call_in (shape l k) cs = cs
call_in (instance n ts) cs = n ∷ cs
call_in (setting l) cs = cs

-- the symbols that a body calls, in written order
unfoldable pub calls_of : List (Placed Step) → List ℕ
calls_of [] = []
calls_of (s ∷ ss) = call_in s.what (calls_of ss)

-- what is left of a body from here to its end has these calls
pub record Remains (b : List ℤ) (from end : ℕ) (cs : List ℕ) : Type 0 where
  pub low : from ≤ end
  pub inside : end ≤ length b
  pub short : length b ≤ most_words
  pub layer : List ℕ
  pub steps : List (Placed Step)
  pub proper : Proper layer steps
  pub words : words_at b from (end - from) ≡ all_words steps
  pub calls : calls_of steps ≡ cs

-- the contract of `next_call`
unfoldable pub CallNext : List ℤ → (from end : ℕ) → List ℕ → Option Next → Type 0
CallNext b from end cs (Some c) = (rest : List ℕ) × (cs ≡ c.symbol ∷ rest) × Remains b c.at end rest × (from < c.at)
CallNext b from end cs None = cs ≡ []
