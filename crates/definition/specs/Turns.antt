-- What the transformations of a call do to points, directions and shapes, exactly, over the whole numbers: the range is looked at by Drawing, at the
-- final points.
use Rattle.std.specs.Prelude.{Bool, true, false, List, [], ◌∷◌, map, ℤ, pos, negsuc, neg_ℤ, ◌+ℤ◌, if◌then◌else◌}
use Rattle.std.proofs.Math.Option.{Option, none, some}
use Rattle.definition.specs.Words.{Point, point, any, none?}
use Rattle.definition.specs.Commands.{Shape, shape_of, Turn, translate, mirror_x, mirror_y, rotate}
use Rattle.definition.specs.Faults.{zero?, bearings}

pub data Heading : Type 0 where  -- 7.1.2, Directions: the axis that a direction points along, whatever its length
  +x +y -x -y : Heading

unfoldable pub negative : ℤ → Bool
negative (pos n) = false
negative (negsuc n) = true

unfoldable pub heading : Point ℤ → Option Heading  -- none where it lies off the axes
heading d =
    if zero? d.y then some (if negative d.x then -x else +x)
    else if zero? d.x then some (if negative d.y then -y else +y) else none

unfoldable pub rotated : Option Heading → Point ℤ → Point ℤ  -- RULES 9: what R does; one off the axes draws nothing, by refusal 11
rotated (some +x) p = p
rotated (some +y) p = point (neg_ℤ p.y) p.x
rotated (some -x) p = point (neg_ℤ p.x) (neg_ℤ p.y)
rotated (some -y) p = point p.y (neg_ℤ p.x)
rotated none p = p

unfoldable pub act : Turn ℤ → Point ℤ → Point ℤ  -- 7.1.2.3: T adds the point, MX multiplies x by -1, MY y, R turns the x axis to the direction
act (translate d) p = point (p.x +ℤ d.x) (p.y +ℤ d.y)
act mirror_x p = point (neg_ℤ p.x) p.y
act mirror_y p = point p.x (neg_ℤ p.y)
act (rotate d) p = rotated (heading d) p

unfoldable pub aim : Turn ℤ → Point ℤ → Point ℤ  -- RULES 9: directions take the mirrors and turns and not the T
aim (translate d) p = p
aim mirror_x p = act mirror_x p
aim mirror_y p = act mirror_y p
aim (rotate d) p = act (rotate d) p

-- 7.1.2.3: the first transformation of a list acts first, then the second, and so on
unfoldable pub in_order : (Turn ℤ → Point ℤ → Point ℤ) → List (Turn ℤ) → Point ℤ → Point ℤ
in_order f [] p = p
in_order f (t ∷ ts) p = in_order f ts (f t p)

unfoldable pub moved : List (Turn ℤ) → Shape ℤ → Shape ℤ  -- RULES 9: lengths, widths and diameters never change
moved ts k = shape_of k.kind k.sizes (map (in_order act ts) k.points) (map (in_order aim ts) k.directions)

unfoldable pub off_axes : List (Turn ℤ) → Bool  -- RULES 12, refusal 11: an R off the axes
off_axes ts = any (λ t. any (λ d. none? (heading d)) (bearings t)) ts
