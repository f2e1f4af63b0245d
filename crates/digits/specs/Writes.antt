-- What a function that writes into a lent room does: a running account, not to be believed. What is written is said by definition/specs/Flat.antt.
-- Assumes nothing.
use Rattle.std.specs.Prelude.{◌≡◌, List, [], ◌∷◌, ℕ, ◌+◌, ℤ, pos, negsuc, length}
use Rattle.std.proofs.lemmas.List.Edits.{sets}

-- the bytes stand in the room from a place on, as far as it reaches; the rest of it is as it was, and the next place is the one behind them all
pub record Writes (old new : List ℕ) (at next : ℕ) (bytes : List ℕ) : Type 0 where
  pub kept : length new ≡ length old
  pub laid : new ≡ sets old at bytes
  pub ends : next ≡ at + length bytes

-- what stands before a number's digits
abbrev pub sign : ℤ → List ℕ
sign (pos n) = []
sign (negsuc n) = 45 ∷ []
