-- Two texts joined (RULES 18, request 14): the first cut at its E, then `DD0;`, then the second; and all that is said of it. proofs/Joining.antt proves it. It stands in
-- specs/ so that a contract can cite it.
use Rattle.std.specs.Prelude.{◌≡◌, List, [], ◌∷◌, ◌++◌, map, ℕ, ◌+◌, ◌≤◌, eqb, ℤ, length, if◌then◌else◌}
use Rattle.definition.specs.Limits.{most_bytes, most_calls, most_shapes}
use Rattle.definition.specs.Words.{Placed, at, any, bytes_of}
use Rattle.definition.specs.Commands.{Shape, Command}
use Rattle.definition.specs.Rounded.{rounded}
use Rattle.definition.specs.Drawing.{Drawn, Event}
use Rattle.definition.specs.Counts.{Counts, counts, shapes_of}
use Rattle.definition.specs.Flat.{flat}
use Rattle.definition.specs.Answer.{accepted, Answers}

-- the bytes before the last letter E, byte 69. In a text of the grammar that is the End command: only blanks follow it, and no upper-case letter is one
unfoldable pub before_e : List ℕ → List ℕ
before_e [] = []
before_e (b ∷ t) = let rest = before_e t in if any (λ c. eqb c 69) t then b ∷ rest else []

unfoldable pub joined : (first second : List ℕ) → List ℕ
joined first second = before_e first ++ (bytes_of "DD0;" ++ second)

-- where the second text begins in the joined one: after what is left of the first, and `DD0;`
abbrev pub second_start : (first : List ℕ) → ℕ
second_start first = length (before_e first) + 4

-- a shape that the second text draws, as the joined one draws it: its own place and those of the open calls are so many bytes further on; layer, shape and
-- transformations are the same
abbrev pub further_on : (bytes : ℕ) → Drawn → Drawn
further_on n d = record { place = n + d.place; chain = map (λ c. at (n + c.place) c.what) d.chain; net = d.net; layer_of = d.layer_of; itself = d.itself }

abbrev pub layer_and_shape : Drawn → List ℕ × Shape ℤ  -- a shape without its places
layer_and_shape d = (d.layer_of, d.itself)

abbrev pub added : Counts → Counts → Counts  -- the sums
added c d = counts (c.calls + d.calls) (c.shapes + d.shapes) (c.redefinitions + d.redefinitions)

-- the joined text of two, of which the first counts c₁ and draws ds₁ and the second c₂ and ds₂, stays within the limits
pub record WithinLimits (first second : List ℕ) (c₁ c₂ : Counts) (ds₁ ds₂ : List Drawn) : Type 0 where
  pub calls : c₁.calls + c₂.calls ≤ most_calls
  pub shapes : c₁.shapes + c₂.shapes ≤ most_shapes
  pub text_length : length (joined first second) ≤ most_bytes
  pub flat_length_lem : length (flat (ds₁ ++ ds₂)) ≤ most_bytes

-- words enough for the joined text: as many as each of the two was lent, since `DD0;` frees those of the first; or as many as it has bytes
pub data Enough (first second : List ℕ) (words₁ words₂ words : ℕ) : Type 0 where
  as_for_each : words₁ ≤ words → words₂ ≤ words → Enough first second words₁ words₂ words
  as_long : length (joined first second) ≤ words → Enough first second words₁ words₂ words

-- what comes of the joined text with so many words and this room, where the two have these commands, counts and events: it is accepted, calls, shapes and redefinitions are the
-- sums, and so are the rounded distances; it draws the first list followed by the second; and its flat file is that of the two lists joined
pub record Joins (first second : List ℕ) (words room : ℕ) (cs₁ cs₂ : List (Placed Command)) (c₁ c₂ : Counts) (es₁ es₂ : List Event) : Type 0 where
  pub its_commands : List (Placed Command)
  pub its_events : List Event
  pub answers : Answers (joined first second) words room (accepted its_commands (added c₁ c₂) its_events)
  pub draws : shapes_of its_events ≡ shapes_of es₁ ++ map (further_on (second_start first)) (shapes_of es₂)
  pub same_shapes : map layer_and_shape (shapes_of its_events) ≡ map layer_and_shape (shapes_of es₁ ++ shapes_of es₂)
  pub flat_file_lem : flat (shapes_of its_events) ≡ flat (shapes_of es₁ ++ shapes_of es₂)
  pub rounds : rounded its_commands ≡ rounded cs₁ + rounded cs₂
