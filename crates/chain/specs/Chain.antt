-- What the run of the open calls means: two numbers for each call, its place and its symbol, the outermost first, and as the last number how many were open
-- where a drawing was refused. The chain is a function of the run. Not to be believed: what a chain is, is said by crates/definition.
-- Assumes nothing.
use Rattle.std.specs.Prelude.{◌≡◌, List, [], ◌∷◌, ◌++◌, ℕ, zero, suc, ◌+◌, ◌*◌, ltb, get_or, take, if◌then◌else◌}
use Rattle.definition.specs.Words.{at}
use Rattle.definition.specs.Limits.{deepest}
use Rattle.definition.specs.Drawing.{Chain}

-- two numbers for each of 32 calls, and one
abbrev pub run_length : ℕ
run_length = 65

unfoldable pub open_calls : List ℕ → (level : ℕ) → Chain  -- the first calls of the run
open_calls run zero = []
open_calls run (suc level) = open_calls run level ++ (at (get_or run (2 * level) 0) (get_or run (2 * level + 1) 0) ∷ [])

abbrev pub stopped_at : List ℕ → ℕ  -- how many were open where the drawing was refused
stopped_at run = if ltb deepest (get_or run 64 0) then deepest else get_or run 64 0

abbrev pub chain_in : List ℕ → Chain
chain_in run = open_calls run (stopped_at run)

-- the calls up to this level are as they were
pub record Kept (level : ℕ) (run run' : List ℕ) : Type 0 where
  pub first_are : take (2 * level) run' ≡ take (2 * level) run

-- the call is open after those up to this level
pub record Pushed (level place symbol : ℕ) (run run' : List ℕ) : Type 0 where
  pub deeper : open_calls run' (suc level) ≡ open_calls run level ++ (at place symbol ∷ [])
  pub kept : Kept level run run'

-- the drawing was refused where so many were open
pub record Stopped (level : ℕ) (run run' : List ℕ) : Type 0 where
  pub chain_is : chain_in run' ≡ open_calls run level
  pub kept : Kept level run run'
