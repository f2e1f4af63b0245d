-- Words that hold a body: those of its steps, one after another. A running account, not to be believed: such words come back as these steps
-- (proofs/Decoded.antt), so contracts speak of the steps that the memory holds.
-- Assumes nothing.
use Rattle.std.specs.Prelude.{◌≡◌, List, [], ◌∷◌, ◌++◌, ℕ, ◌+◌, ◌*◌, ◌≤◌, ◌<◌, ℤ, pos, length}
use Rattle.definition.specs.Limits.{most_turns}
use Rattle.definition.specs.Words.{Placed}
use Rattle.definition.specs.Table.{Step, shape, instance, setting}
use Rattle.definition.specs.Flat.{letter_of, numbers_of_shape}
use Rattle.turns.specs.Words.{turns_words}
use Rattle.names.specs.Names.{name_of, packed}
use Rattle.moves.specs.Moves.{size_count, direction_count, most_values}
use Rattle.library.specs.Memory.{words_at, call_letter, layer_letter, layer_after, start_at, length_at, most}

unfoldable pub letter_of_step : Step → ℕ
letter_of_step (shape l k) = letter_of k.kind
letter_of_step (instance n ts) = call_letter
letter_of_step (setting l) = layer_letter

unfoldable pub values_of : Step → List ℤ
values_of (shape l k) = numbers_of_shape k
values_of (instance n ts) = pos n ∷ turns_words ts
values_of (setting l) = pos (packed l) ∷ []

abbrev pub step_words : Placed Step → List ℤ
step_words s = pos (letter_of_step s.what + 256 * length (values_of s.what)) ∷ pos s.place ∷ values_of s.what

unfoldable pub all_words : List (Placed Step) → List ℤ
all_words [] = []
all_words (s ∷ ss) = step_words s ++ all_words ss

-- a step that words can hold, where this layer stands
unfoldable pub Fair : List ℕ → Step → Type 0
Fair l (shape m k) = (m ≡ l) × (length k.sizes ≡ size_count k.kind) × (length k.directions ≡ direction_count k.kind)
Fair l (instance n ts) = length ts ≤ most_turns
Fair l (setting m) = name_of (packed m) ≡ m

unfoldable pub Proper : List ℕ → List (Placed Step) → Type 0
Proper l [] = Unit {0}
Proper l (s ∷ ss) = Fair l s.what × (length (values_of s.what) ≤ most_values) × Proper (layer_after s.what l) ss

-- so many words from a place on are those of a body
pub record Sound (b : List ℤ) (from n : ℕ) : Type 0 where
  pub steps : List (Placed Step)
  pub proper : Proper [] steps
  pub words : words_at b from n ≡ all_words steps

-- every live row has a body
pub record Stocked (rows : List ℕ) (b : List ℤ) (live : ℕ) : Type 0 where
  pub few : live ≤ most
  pub within : (i : ℕ) → i < live → start_at rows i + length_at rows i ≤ length b
  pub sound : (i : ℕ) → i < live → Sound b (start_at rows i) (length_at rows i)
