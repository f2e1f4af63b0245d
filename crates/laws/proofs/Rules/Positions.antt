-- What is told of where a refusal stands (RULES 12, request 4): line and column count from 1, so that 0 says success; and the chain as it is given back holds the places
-- of the open calls, as many as it says, in as many numbers as there can be levels.
-- Assumes nothing.
use mathlib.Core.Path.{◌≡◌, ap, ◌∙◌}
use mathlib.Core.List.{List}
use Prim.Native.Nat.{ℕ, ◌-◌, ◌+◌, ◌≤◌}
use native.Mathlib.Omega.{arith}
use lib.ListN.{length, length-append, length-map, length-replicate, take, replicate}
use lib.Seq.{take_at}
use Rattle.definition.specs.Limits.{deepest}
use Rattle.definition.specs.Drawing.{Chain}
use Rattle.definition.specs.Position.{line_of, column_of, places_of, chain_told}

pub line_from-1 : (t : List ℕ) (p : ℕ) → 1 ≤ line_of t p
unfolding line_of
line_from-1 t p = omega arith

pub column_from-1 : (t : List ℕ) (p : ℕ) → 1 ≤ column_of t p
unfolding column_of
column_from-1 t p = omega arith

pub as_many_places : (chain : Chain) → length (places_of chain) ≡ length chain
as_many_places chain = length-map chain (λ c. c.place)

-- the first numbers of a told chain are its places, and it has 32 numbers
pub told_places : (chain : Chain) → take (length chain) (chain_told chain) ≡ places_of chain
told_places chain = take_at (places_of chain) (replicate (deepest - length chain) 0) (length chain) (as_many_places chain)

pub told-length : (chain : Chain) → length chain ≤ deepest → length (chain_told chain) ≡ deepest
told-length chain h =
    length-append (places_of chain) (replicate (deepest - length chain) 0)
    ∙ ap (λ (n : ℕ). n + length {A = ℕ} (replicate (deepest - length chain) 0)) (as_many_places chain)
    ∙ ap (λ (n : ℕ). length chain + n) (length-replicate (deepest - length chain) 0)
    ∙ omega arith
