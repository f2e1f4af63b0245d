-- What the definition makes of the point (3, 5) and of the direction (1, 0): under each of the eight turns and mirrors, by RULES 9's own
-- examples, and through twelve levels of calls. One table, computed twice: by the definition, and by the account that code keeps.
-- Assumes nothing.
use mathlib.Core.Path.{◌≡◌, refl}
use mathlib.Core.List.{List, [], ◌∷◌, ◌++◌, map, flat_map}
use lib.IntN.{ℤ, pos, negsuc}
use lib.ListN.{replicate}
use Rattle.definition.specs.Words.{Point, point}
use Rattle.definition.specs.Commands.{Turn, translate, mirror_x, mirror_y, rotate}
use Rattle.definition.specs.Turns.{negative, heading, rotated, act, aim, in_order}
use Rattle.turns.specs.declared.Net.{Net}
use Rattle.turns.specs.Nets.{signed, turned, apply, after}
use Rattle.turns.proofs.Nets.{single, net_of}

-- the lists of the open calls, the innermost first; where the point goes, and where the direction then points
record Row : Type 0 where
  levels : List (List (Turn ℤ))
  spot : Point ℤ
  direction : Point ℤ

abbrev row : List (List (Turn ℤ)) → Point ℤ → Point ℤ → Row
row ls p d = record { levels = ls; spot = p; direction = d }

abbrev T : ℤ → ℤ → Turn ℤ
T x y = translate (point x y)

abbrev R : ℤ → ℤ → Turn ℤ
R x y = rotate (point x y)

abbrev far : List (Turn ℤ)
far = T (pos 16777215) (negsuc 16777214) ∷ []

abbrev back : List (Turn ℤ)
back = T (negsuc 16777214) (pos 16777215) ∷ []

abbrev rows : List Row
rows =
    row ((R (pos 7) (pos 0) ∷ []) ∷ []) (point (pos 3) (pos 5)) (point (pos 1) (pos 0))
    ∷ row ((R (pos 0) (pos 2) ∷ []) ∷ []) (point (negsuc 4) (pos 3)) (point (pos 0) (pos 1))
    ∷ row ((R (negsuc 0) (pos 0) ∷ []) ∷ []) (point (negsuc 2) (negsuc 4)) (point (negsuc 0) (pos 0))
    ∷ row ((R (pos 0) (negsuc 4) ∷ []) ∷ []) (point (pos 5) (negsuc 2)) (point (pos 0) (negsuc 0))
    ∷ row ((mirror_x ∷ []) ∷ []) (point (negsuc 2) (pos 5)) (point (negsuc 0) (pos 0))
    ∷ row ((mirror_y ∷ []) ∷ []) (point (pos 3) (negsuc 4)) (point (pos 1) (pos 0))
    ∷ row ((mirror_x ∷ R (pos 0) (pos 1) ∷ []) ∷ []) (point (negsuc 4) (negsuc 2)) (point (pos 0) (negsuc 0))
    ∷ row ((mirror_y ∷ R (pos 0) (pos 1) ∷ []) ∷ []) (point (pos 5) (pos 3)) (point (pos 0) (pos 1))
    ∷ row ((T (pos 500) (pos 0) ∷ mirror_x ∷ []) ∷ []) (point (negsuc 502) (pos 5)) (point (negsuc 0) (pos 0))
    ∷ row ((mirror_x ∷ T (pos 500) (pos 0) ∷ []) ∷ []) (point (pos 497) (pos 5)) (point (negsuc 0) (pos 0))
    ∷ row ((R (pos 0) (pos 1) ∷ []) ∷ (T (pos 10) (pos 0) ∷ []) ∷ []) (point (pos 5) (pos 3)) (point (pos 0) (pos 1))
    ∷ row
    ((R (pos 0) (pos 7) ∷ []) ∷ (mirror_x ∷ []) ∷ (T (pos 10) (pos 0) ∷ []) ∷ (R (negsuc 2) (pos 0) ∷ [])
    ∷ (mirror_y ∷ T (pos 0) (pos 4) ∷ []) ∷ (R (pos 0) (negsuc 1) ∷ []) ∷ (mirror_x ∷ R (pos 0) (pos 1) ∷ []) ∷ (T (negsuc 4) (negsuc 4) ∷ [])
    ∷ (R (pos 9) (pos 0) ∷ []) ∷ (mirror_y ∷ []) ∷ (R (pos 0) (pos 1) ∷ T (pos 1) (pos 1) ∷ []) ∷ (mirror_x ∷ mirror_y ∷ []) ∷ [])
    (point (pos 11) (pos 19)) (point (pos 1) (pos 0))
    ∷ row (replicate 12 (T (pos 1) (pos 2) ∷ R (pos 0) (pos 1) ∷ [])) (point (pos 3) (pos 5)) (point (pos 1) (pos 0))
    ∷ row (replicate 6 far ++ (replicate 5 back ++ ((back ++ (R (pos 0) (negsuc 0) ∷ [])) ∷ []))) (point (pos 5) (negsuc 2)) (point (pos 0) (negsuc 0))
    ∷ []

abbrev told : Row → List (Point ℤ)
told r = r.spot ∷ r.direction ∷ []

abbrev netted : List (List (Turn ℤ)) → Net
netted [] = net_of []
netted (l ∷ ls) = after (net_of l) (netted ls)

by_definition : map (λ (r : Row). in_order act (flat_map (λ l. l) r.levels) (point (pos 3) (pos 5)) ∷ in_order aim (flat_map (λ l. l) r.levels) (point (pos 1) (pos 0)) ∷ []) rows ≡ map told rows
unfolding flat_map in_order act aim rotated heading negative
by_definition = refl

by_account : map (λ (r : Row). apply (netted r.levels) (point (pos 3) (pos 5)) ∷ turned (netted r.levels) (point (pos 1) (pos 0)) ∷ []) rows ≡ map told rows
unfolding net_of single after apply turned signed heading negative
by_account = refl
