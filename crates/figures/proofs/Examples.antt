-- What the definitions give for some figures, computed: so that a reader sees them at work. Assumes nothing.
use mathlib.Core.Path.{◌≡◌, refl}
use mathlib.Core.List.{List, [], ◌∷◌, flat_map}
use mathlib.Core.Option.{some}
use lib.IntN.{ℤ, pos, negsuc, neg_ℤ}
use Rattle.definition.specs.Words.{Point, point}
use Rattle.definition.specs.Commands.{box, shape_of}
use Rattle.definition.specs.Window.{extreme}
use Rattle.figures.specs.Figure.{segments, closed, edges, turn, crossing, winding}
use Rattle.definition.specs.Window.{box_reach, reach_of, reach, around, windows, hull, joined, window_of}

-- RULES 13, request 6: the example, B100 50 75 0 -1 0, gives 50, -50, 250, 50
of_document : window_of (shape_of box (pos 100 ∷ pos 50 ∷ []) (point (pos 75) (pos 0) ∷ []) (point (negsuc 0) (pos 0) ∷ []) ∷ []) ≡ some (record { left = pos 50; bottom = neg_ℤ (pos 50); right = pos 250; top = pos 50 })
unfolding windows around reach reach_of box_reach flat_map joined hull extreme
of_document = refl

-- 7.1.2.2, Figure 7.1.2 (a): P 0,0 10,0 0,12, counter-clockwise; within it, at the height of a vertex, and outside on either side
triangle : List (Point ℤ)
triangle = point (pos 0) (pos 0) ∷ point (pos 10) (pos 0) ∷ point (pos 0) (pos 12) ∷ []

within : winding (point (pos 2) (pos 3)) (edges triangle) ≡ pos 1
unfolding winding crossing turn segments closed triangle
within = refl

beside : winding (point (negsuc 4) (pos 3)) (edges triangle) ≡ pos 0
unfolding winding crossing turn segments closed triangle
beside = refl

level : winding (point (negsuc 4) (pos 0)) (edges triangle) ≡ pos 0
unfolding winding crossing turn segments closed triangle
level = refl

-- a five-pointed star: its middle is wound round twice, its points once
star : List (Point ℤ)
star = point (pos 0) (pos 10) ∷ point (negsuc 5) (negsuc 7) ∷ point (pos 10) (pos 3) ∷ point (negsuc 9) (pos 3) ∷ point (pos 6) (negsuc 7) ∷ []

middle : winding (point (pos 0) (pos 0)) (edges star) ≡ pos 2
unfolding winding crossing turn segments closed star
middle = refl

tip : winding (point (pos 0) (pos 8)) (edges star) ≡ pos 1
unfolding winding crossing turn segments closed star
tip = refl

-- Figure 7.1.2 (b): a square with a hole, joined by a channel of no width
holed : List (Point ℤ)
holed = point (pos 0) (pos 0) ∷ point (pos 9) (pos 0) ∷ point (pos 9) (pos 9) ∷ point (pos 0) (pos 9) ∷ point (pos 0) (pos 0)
    ∷ point (pos 3) (pos 3) ∷ point (pos 3) (pos 6) ∷ point (pos 6) (pos 6) ∷ point (pos 6) (pos 3) ∷ point (pos 3) (pos 3) ∷ []

in_hole : winding (point (pos 4) (pos 4)) (edges holed) ≡ pos 0
unfolding winding crossing turn segments closed holed
in_hole = refl

in_rim : winding (point (pos 7) (pos 4)) (edges holed) ≡ pos 1
unfolding winding crossing turn segments closed holed
in_rim = refl

-- the other way round
clockwise : winding (point (pos 1) (pos 1)) (edges (point (pos 0) (pos 0) ∷ point (pos 0) (pos 2) ∷ point (pos 2) (pos 2) ∷ point (pos 2) (pos 0) ∷ [])) ≡ negsuc 0
unfolding winding crossing turn segments closed
clockwise = refl
