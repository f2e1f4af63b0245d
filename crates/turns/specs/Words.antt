-- The words that a call's transformations are kept in between reading and drawing. A running account, not to be believed: the contracts of
-- the functions that write these words and of those that read them both cite it, so that nothing rests on the choice made here.
-- Assumes nothing.
use Rattle.std.specs.Prelude.{List, [], ◌∷◌, ◌++◌, ℤ, pos}
use Rattle.definition.specs.Commands.{Turn, translate, mirror_x, mirror_y, rotate}

-- the letter T or R and two numbers; of a mirror the letter of its axis
unfoldable pub turn_words : Turn ℤ → List ℤ
turn_words (translate d) = pos 84 ∷ d.x ∷ d.y ∷ []
turn_words mirror_x = pos 88 ∷ []
turn_words mirror_y = pos 89 ∷ []
turn_words (rotate d) = pos 82 ∷ d.x ∷ d.y ∷ []

unfoldable pub turns_words : List (Turn ℤ) → List ℤ
turns_words [] = []
turns_words (t ∷ ts) = turn_words t ++ turns_words ts
