-- A call's words, and what is read from them where calls are open already. A running account, not to be believed: crate engine shows that the words of
-- every call of a body are such.
-- Assumes nothing.
use Rattle.std.specs.Prelude.{◌≡◌, List, ◌∷◌, ◌++◌, ℕ, ◌+◌, ◌^◌, ◌≤◌, ℤ, nat_abs, length, drop}
use Rattle.definition.specs.Commands.{Turn}
use Rattle.definition.specs.Turns.{off_axes}
use Rattle.turns.specs.Words.{turns_words}
use Rattle.turns.specs.Nets.{Carries, Near}
use Rattle.turns.specs.declared.Net.{Net}
use Rattle.opening.specs.declared.Call.{Call}

-- the words after the first two, up to this place, are a call's: its symbol and its list
pub record CalledAt (words : List ℤ) (end : ℕ) : Type 0 where
  pub symbol : ℤ
  pub turns : List (Turn ℤ)
  pub rest : List ℤ
  pub are : drop 2 words ≡ symbol ∷ (turns_words turns ++ rest)
  pub ends : end ≡ 3 + length (turns_words turns)
  pub few : length turns ≤ 32

-- the call's own list acts before those of the open calls, and adds at most one level's step
pub record ReadsCall (n : ℤ) (ts : List (Turn ℤ)) (outer : Net) (place : ℕ) (r : Call) : Type 0 where
  pub symbol : r.symbol ≡ nat_abs n
  pub askew : r.askew ≡ off_axes ts
  pub at_place : r.place ≡ place
  pub carries : (before : List (Turn ℤ)) → Carries before outer → Carries (ts ++ before) r.net
  pub near : (most : ℕ) → Near most outer → Near (2 ^ 36 + most) r.net
