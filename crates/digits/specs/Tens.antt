-- Digits from the highest on, as the code writes them: a running account, not to be believed. What a number's digits are is said by
-- definition/specs/Flat.antt.
-- Assumes nothing.
use Rattle.std.specs.Prelude.{◌≡◌, List, [], ◌∷◌, ◌++◌, ℕ, zero, suc, ◌+◌, ◌*◌, ◌-◌, ◌/◌, ◌%◌, ◌≤◌, ◌<◌, length}
use Rattle.definition.specs.Flat.{shortest}

unfoldable pub tens : ℕ → ℕ  -- 10 to the power k
tens zero = 1
tens (suc k) = 10 * tens k

-- the last digits of a number, as many as said
unfoldable pub lasts : ℕ → ℕ → List ℕ
lasts zero n = []
lasts (suc k) n = lasts k (n / 10) ++ ((48 + n % 10) ∷ [])

-- a product by which the digits of a number fall out one after the other stands in units of 2^57
abbrev pub whole : ℕ
whole = 144115188075855872

-- by how much a number of so many digits is multiplied, so that its first digit stands above 2^57: 2^57 / 10^(count - 1), rounded up so little that no
-- digit of the number is reached by it
pub record Raises (count unit : ℕ) : Type 0 where
  pub few : count ≤ 9
  pub over : 10 * whole ≤ unit * tens count
  pub close : (unit * tens count - 10 * whole) * tens count < 10 * whole

-- how many digits a number has, and such a unit for it
pub record Wide (n count unit : ℕ) : Type 0 where
  pub all : count ≡ length (shortest n)
  pub raises : Raises count unit
