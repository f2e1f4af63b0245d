-- RULES 12, request 4: where a place is in the text, as an editor counts: its line and its column. And the chain of a refusal as it is given back: the places of the
-- calls that are open there.
use Rattle.std.specs.Prelude.{Bool, List, [], ◌∷◌, ◌++◌, map, ℕ, ◌+◌, ◌-◌, eqb, length, take, replicate, if◌then◌else◌}
use Rattle.definition.specs.Limits.{deepest}
use Rattle.definition.specs.Words.{any, those}
use Rattle.definition.specs.Drawing.{Chain}

abbrev pub line_end? : ℕ → Bool  -- a line end is byte 10, and no other
line_end? b = eqb b 10

unfoldable pub line_of : List ℕ → (place : ℕ) → ℕ  -- one more than the line ends before it
line_of t p = length (those line_end? (take p t)) + 1

unfoldable pub since_line_end : List ℕ → List ℕ  -- the bytes since the last line end: none of them is one
since_line_end [] = []
since_line_end (b ∷ bs) = let rest = since_line_end bs in if any line_end? (b ∷ bs) then rest else b ∷ bs

unfoldable pub column_of : List ℕ → (place : ℕ) → ℕ  -- one more than the bytes since the last of these
column_of t p = length (since_line_end (take p t)) + 1

abbrev pub places_of : Chain → List ℕ  -- the place of every call already open, outermost first
places_of chain = map (λ c. c.place) chain

abbrev pub chain_told : Chain → List ℕ  -- and zeros after them, for as many levels as there can be
chain_told chain = places_of chain ++ replicate (deepest - length chain) 0
