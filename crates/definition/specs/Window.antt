-- The window of a shape, and of a list of shapes, in half units (RULES 13, request 6): all four numbers are doubled, so that it holds the figures and not only their
-- points. That it does, and that no smaller one does save for slanting boxes, is shown in crates/figures.
use Rattle.std.specs.Prelude.{Bool, false, not, ◌&&◌, ℤ, pos, ◌+ℤ◌, ◌-ℤ◌, ◌*ℤ◌, get_or, if◌then◌else◌}
use mathlib.Core.List.{List, [], ◌∷◌, map, flat_map}
use Rattle.std.proofs.Math.Option.{Option, none, some}
use Rattle.std.specs.Int.Signed.{le_z}
use Rattle.definition.specs.Words.{Point, point, any}
use Rattle.definition.specs.Commands.{Kind, box, flash, wire, polygon, Shape}
use Rattle.definition.specs.Faults.{zero?}

unfoldable pub extreme : (ℤ → ℤ → Bool) → ℤ → List ℤ → ℤ  -- the lowest, or the highest, of numbers: the one before which the test puts it
extreme before z [] = z
extreme before z (y ∷ ys) = extreme before (if before z y then z else y) ys

pub record Window : Type 0 where
  pub left : ℤ
  pub bottom : ℤ
  pub right : ℤ
  pub top : ℤ

-- a box along x reaches its length and width, one along y its width and length, a slanting one length plus width on all four sides
unfoldable pub box_reach : ℤ → ℤ → Point ℤ → Point ℤ
box_reach l w d = if zero? d.y then point l w else if zero? d.x then point w l else point (l +ℤ w) (l +ℤ w)

unfoldable pub slants : Kind → List (Point ℤ) → Bool  -- a box along neither axis
slants box ds = any (λ d. not (zero? d.y) && not (zero? d.x)) ds
slants flash ds = false
slants wire ds = false
slants polygon ds = false

abbrev pub slanting : Shape ℤ → Bool
slanting k = slants k.kind k.directions

-- how far a shape reaches beyond each doubled point, along x and along y
unfoldable pub reach_of : Kind → ℤ → ℤ → Point ℤ → Point ℤ
reach_of flash d _ _ = point d d
reach_of wire w _ _ = point w w
reach_of polygon _ _ _ = point (pos 0) (pos 0)
reach_of box l w d = box_reach l w d

unfoldable pub reach : Shape ℤ → Point ℤ
reach k = reach_of k.kind (get_or k.sizes 0 (pos 0)) (get_or k.sizes 1 (pos 0)) (get_or k.directions 0 (point (pos 1) (pos 0)))

unfoldable pub around : Point ℤ → Point ℤ → Window
around r p = record { left = pos 2 *ℤ p.x -ℤ r.x; bottom = pos 2 *ℤ p.y -ℤ r.y; right = pos 2 *ℤ p.x +ℤ r.x; top = pos 2 *ℤ p.y +ℤ r.y }

unfoldable pub windows : Shape ℤ → List Window  -- one about each point
windows k = map (around (reach k)) k.points

unfoldable pub hull : Window → List Window → Window  -- the least window that holds these
hull w ws = record {
  left = extreme le_z w.left (map (λ v. v.left) ws);
  bottom = extreme le_z w.bottom (map (λ v. v.bottom) ws);
  right = extreme (λ a b. le_z b a) w.right (map (λ v. v.right) ws);
  top = extreme (λ a b. le_z b a) w.top (map (λ v. v.top) ws);
}

unfoldable pub joined : List Window → Option Window
joined [] = none
joined (w ∷ ws) = some (hull w ws)

abbrev pub window_of : List (Shape ℤ) → Option Window  -- the window of the list's last line
window_of ks = joined (flat_map windows ks)
