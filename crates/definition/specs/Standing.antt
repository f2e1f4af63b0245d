-- What stands while a command is read: whether a definition is open, its scale, and the layer. So scale and layer of a shape can be told from the
-- text alone, and nothing is carried out of a called symbol.
use Rattle.std.specs.Prelude.{Bool, true, false, List, [], map, ℕ, ◌+◌, ◌*◌, ◌/◌, ◌%◌, eqb, ℤ, pos, negsuc, neg_ℤ, nat_abs}
use Rattle.definition.specs.Words.{Point, point}
use Rattle.definition.specs.Commands.{Number, Shape, shape_of, Turn, translate, mirror_x, mirror_y, rotate}
use Rattle.definition.specs.Commands.{Command, draw, layer, call, start, finish, delete, nothing}

-- 7.1.2.3, RULES 7: whether a definition is open, its a and b, the layer that is set, by its name (empty where none is), and the layer set before the DS
pub record Standing : Type 0 where
  pub inside : Bool
  pub a : ℕ
  pub b : ℕ
  pub layer_set : List ℕ
  pub layer_outside : List ℕ

abbrev pub outside : List ℕ → Standing  -- outside definitions distances are as written
outside l = record { inside = false; a = 1; b = 1; layer_set = l; layer_outside = [] }

-- what stands after a command: a definition starts with no layer set, and after DF the outer layer is what it was before DS
unfoldable pub after : Command → Standing → Standing
after (layer l) s = record { inside = s.inside; a = s.a; b = s.b; layer_set = l; layer_outside = s.layer_outside }
after (start n a b) s = record { inside = true; a = nat_abs a.what; b = nat_abs b.what; layer_set = []; layer_outside = s.layer_set }
after finish s = outside s.layer_outside
after (draw k) s = s
after (call n ts) s = s
after (delete n) s = s
after nothing s = s

unfoldable pub nearest : ℕ → ℕ → ℕ  -- the whole number nearest to n / b, the higher of two: n / b and a half more, cut off
nearest n b = (2 * n + b) / (2 * b)

-- 7.1.2.3, RULES 6, request 2: each distance d becomes a * d / b, to the nearest whole number, halves away from zero
unfoldable pub scaled : Standing → ℤ → ℤ
scaled s (pos d) = pos (nearest (s.a * d) s.b)
scaled s (negsuc d) = neg_ℤ (pos (nearest (s.a * nat_abs (negsuc d)) s.b))

unfoldable pub whole : Standing → ℤ → Bool  -- a * d / b is a whole number, so that nothing is rounded
whole s d = eqb (s.a * nat_abs d % s.b) 0

abbrev pub scaled_point : Standing → Point Number → Point ℤ  -- a shape or a transformation with its distances scaled, and directions as given
scaled_point s p = point (scaled s p.x.what) (scaled s p.y.what)

abbrev pub given : Point Number → Point ℤ
given p = point p.x.what p.y.what

unfoldable pub scaled_shape : Standing → Shape Number → Shape ℤ
scaled_shape s k = shape_of k.kind (map (λ d. scaled s d.what) k.sizes) (map (scaled_point s) k.points) (map given k.directions)

unfoldable pub scaled_turn : Standing → Turn Number → Turn ℤ
scaled_turn s (translate p) = translate (scaled_point s p)
scaled_turn s mirror_x = mirror_x
scaled_turn s mirror_y = mirror_y
scaled_turn s (rotate d) = rotate (given d)
