-- The words of a text's commands, computed: with a direction and a scale that are left out, a distance that is scaled, and directions that are not.
-- Assumes nothing.
use mathlib.Core.Path.{◌≡◌, refl}
use mathlib.Core.List.{List, [], ◌∷◌}
use Prim.Native.Nat.{ℕ, ◌+◌, ◌*◌}
use lib.IntN.{ℤ, pos, negsuc}
use Rattle.grammar.specs.Notation.{dec}
use Rattle.grammar.specs.Tables.{kinds, table}
use Rattle.grammar.specs.Steps.{kind_of, entry_of, next_of, mode_after, mark_of, role_of, marked}
use Rattle.definition.specs.Words.{bytes_of}
use Rattle.definition.specs.Commands.{worth}
use Rattle.definition.specs.Standing.{nearest}
use Rattle.pieces.specs.Pieces.{capped, pieces}
use Rattle.rules.specs.Written.{Written, items_of, stops, written, letters, last_of, packed_by}
use Rattle.rules.specs.Rules.{shapely, distance}
use Rattle.commands.specs.Words.{held, word, letter_words, body_of, closing, tally, words_of}

spelled : ℕ → ℕ → List Written → List (List ℤ)
spelled a b [] = []
spelled a b (c ∷ cs) = words_of a b c ∷ spelled a b cs

laid_out : spelled 50 2 (written (pieces 0 0 (marked 0 0 (bytes_of "DS7;LCM;B4 2 -1 0;C7MXT9 8R0 4;"))))
    ≡ (pos (83 + 256 * 3) ∷ pos 0 ∷ pos 7 ∷ pos 1 ∷ pos 1 ∷ [])
    ∷ (pos (76 + 256 * 1) ∷ pos 4 ∷ pos 1129119744 ∷ [])
    ∷ (pos (66 + 256 * 6) ∷ pos 8 ∷ pos 100 ∷ pos 50 ∷ negsuc 24 ∷ pos 0 ∷ pos 1 ∷ pos 0 ∷ [])
    ∷ (pos (67 + 256 * 8) ∷ pos 18 ∷ pos 7 ∷ pos 88 ∷ pos 84 ∷ pos 225 ∷ pos 200 ∷ pos 82 ∷ pos 0 ∷ pos 4 ∷ [])
    ∷ []
unfolding spelled nearest bytes_of dec kinds table kind_of entry_of next_of mode_after mark_of role_of marked worth capped pieces items_of stops written letters last_of packed_by shapely distance held word letter_words body_of closing tally words_of
laid_out = refl
