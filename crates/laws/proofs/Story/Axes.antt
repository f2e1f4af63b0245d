-- What happens at a shape: 16 where some x of its final points lies beyond the range, or else 20 where some y does, or else it is drawn, and then none of
-- their numbers lies beyond. Every law about all that happens goes by these three cases.
-- Assumes nothing.
use Rattle.std.specs.Prelude.{if◌then◌else◌}
use mathlib.Core.Path.{◌≡◌, refl, subst}
use mathlib.Core.Bool.{Bool, true, false, ◌||◌}
use mathlib.Core.List.{List, [], ◌∷◌}
use Prim.Native.Nat.{ℕ}
use lib.Dec.{T}
use lib.IntN.{ℤ}
use Rattle.definition.specs.Words.{Point, any}
use Rattle.definition.specs.declared.Rule.TheVariants.{XOutOfRange, YOutOfRange}
use Rattle.definition.specs.Rules.{refuse}
use Rattle.definition.specs.Commands.{Shape, Turn}
use Rattle.definition.specs.Faults.{beyond, both}
use Rattle.definition.specs.Turns.{moved}
use Rattle.definition.specs.Drawing.{Chain, Event, drew, refused, drawn_shape}

abbrev pub beyond_x : List (Point ℤ) → Bool  -- the two tests of a shape's final points, as `drawn_shape` makes them
beyond_x ps = any (λ q. beyond q.x) ps

abbrev pub beyond_y : List (Point ℤ) → Bool
beyond_y ps = any (λ q. beyond q.y) ps

-- where both fail no number of the points is beyond, and the other way round
neither : (a b c d r : Bool) → (a || b) ≡ false → (c || d) ≡ false → (b ≡ false → d ≡ false → r ≡ false) → (a || (c || r)) ≡ false
neither true b c d r e f g = e
neither false b true d r e f g = f
neither false b false d r e f g = g e f

each_axis : (a b c d r : Bool) → (a || (c || r)) ≡ false → (r ≡ false → (b ≡ false) × (d ≡ false)) → ((a || b) ≡ false) × ((c || d) ≡ false)
each_axis true b c d r e g = (e, absurd (subst T e tt))
each_axis false b true d r e g = (absurd (subst T e tt), e)
each_axis false b false d r e g = g e

pub points-within : (ps : List (Point ℤ)) → beyond_x ps ≡ false → beyond_y ps ≡ false → any beyond (both ps) ≡ false
unfolding any
points-within [] e f = refl
points-within (p ∷ ps) e f = neither (beyond p.x) (beyond_x ps) (beyond p.y) (beyond_y ps) (any beyond (both ps)) e f (points-within ps)

pub axes_within : (ps : List (Point ℤ)) → any beyond (both ps) ≡ false → (beyond_x ps ≡ false) × (beyond_y ps ≡ false)
unfolding any
axes_within [] e = (refl, refl)
axes_within (p ∷ ps) e = each_axis (beyond p.x) (beyond_x ps) (beyond p.y) (beyond_y ps) (any beyond (both ps)) e (axes_within ps)

module _ (chain : Chain) (net : List (Turn ℤ)) (p : ℕ) (l : List ℕ) (k : Shape ℤ) where
  abbrev pub drew_it : Event  -- the shape is drawn
  drew_it = drew (record { place = p; chain = chain; net = net; layer_of = l; itself = moved net k })

  pub by_axes : (P : Event → Type 0) → P (refused (refuse XOutOfRange p) chain) → P (refused (refuse YOutOfRange p) chain)
      → (any beyond (both (moved net k).points) ≡ false → P drew_it) → P (drawn_shape chain net p l k)
  unfolding drawn_shape
  by_axes P x y z = go (beyond_x (moved net k).points) (beyond_y (moved net k).points) refl refl
    where
      go : (a b : Bool) → beyond_x (moved net k).points ≡ a → beyond_y (moved net k).points ≡ b
          → P (if a then refused (refuse XOutOfRange p) chain else if b then refused (refuse YOutOfRange p) chain else drew_it)
      go true b e f = x
      go false true e f = y
      go false false e f = z (points-within (moved net k).points e f)

  pub drawn-within : any beyond (both (moved net k).points) ≡ false → drawn_shape chain net p l k ≡ drew_it
  unfolding drawn_shape
  drawn-within h = let w = axes_within (moved net k).points h in rw w.0 (rw w.1)
