-- The lines of the list program (RULES 13): read off the outcome, so that the program adds nothing of its own.
use Rattle.std.specs.Prelude.{List, [], ◌∷◌, ◌++◌, map, ℕ, ◌+◌, ◌<◌, ◌≤◌, pos, length}
use Rattle.std.proofs.Math.Option.{Option, none, some}
use Rattle.definition.specs.Words.{bytes_of}
use Rattle.definition.specs.declared.Rule.TheVariants.{TextTooLong}
use Rattle.definition.specs.Rules.{number_of, refuse}
use Rattle.definition.specs.Drawing.{Drawn}
use Rattle.definition.specs.Counts.{shapes_of}
use Rattle.definition.specs.Flat.{decimal, spaced, letter_of, numbers_of_shape}
use Rattle.definition.specs.Warnings.{warning_lines}
use Rattle.definition.specs.Position.{line_of, column_of, places_of}
use Rattle.definition.specs.Window.{Window, window_of}
use Rattle.definition.specs.Answer.{Outcome, accepted, rejected, Answers}

unfoldable pub fields : List (List ℕ) → List ℕ  -- fields behind a word, each after a tab
fields [] = bytes_of "\n"
fields (f ∷ fs) = bytes_of "\t" ++ (f ++ fields fs)

unfoldable pub shape_lines : ℕ → List Drawn → List ℕ  -- `shape`, its count, layer, kind letter, its numbers parted by spaces
shape_lines n [] = []
shape_lines n (d ∷ ds) =
    bytes_of "shape" ++ (fields (decimal (pos n) ∷ d.layer_of ∷ (letter_of d.itself.kind ∷ []) ∷ spaced (numbers_of_shape d.itself) ∷ [])
    ++ shape_lines (n + 1) ds)

unfoldable pub window_line : Option Window → List ℕ  -- RULES 13, request 6: the window that holds the figures, in half units
window_line none = bytes_of "window" ++ fields (bytes_of "none" ∷ [])
window_line (some w) = bytes_of "window" ++ fields (map decimal (w.left ∷ w.bottom ∷ w.right ∷ w.top ∷ []))

-- of a text. RULES 13, request 1: the warnings stand directly before the total. Request 4: line, column and the places of the chain come after the place
unfoldable pub listing : List ℕ → Outcome → List ℕ
listing t (accepted cs c es) =
    shape_lines 1 (shapes_of es)
    ++ (warning_lines es
    ++ (bytes_of "total" ++ (fields (decimal (pos c.shapes) ∷ decimal (pos c.calls) ∷ decimal (pos c.redefinitions) ∷ [])
    ++ window_line (window_of (map (λ d. d.itself) (shapes_of es))))))
listing t (rejected r chain) =
    bytes_of "refused"
    ++ fields (map (λ n. decimal (pos n)) (number_of r.rule ∷ r.place ∷ line_of t r.place ∷ column_of t r.place ∷ places_of chain))

pub data Lists (t : List ℕ) : List ℕ → Type 0 where  -- it takes at most 32,768 bytes, a longer text is refusal 1, its room is 32,768 bytes, and it lends 32,768 words
  over : 32768 < length t → Lists t (listing t (rejected (refuse TextTooLong 0) []))
  within : {o : Outcome} → length t ≤ 32768 → Answers t 32768 32768 o → Lists t (listing t o)
