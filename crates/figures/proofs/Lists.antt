-- Points of a path and ends of its segments; windows within windows.
-- Assumes nothing.
use mathlib.Core.Path.{sym, subst}
use mathlib.Core.List.Memᴰ
use mathlib.Core.List.{List, [], ◌∷◌, map}
use lib.IntN.{ℤ, pos, ◌*ℤ◌}
use lib.Signed.{◌≤ℤ◌}
use Rattle.definition.specs.Words.{Point}
use Rattle.laws.proofs.Lists.Range.{All, all-++}
use Rattle.figures.specs.Figure.{◌∈◌, segments, closed}
use Rattle.definition.specs.Window.{Window}

pub all_at : {A : Type 0} (P : A → Type 0) {a : A} {l : List A} → All P l → a ∈ l → P a
unfolding All
all_at P h (Memᴰ.head e) = subst P (sym e) h.0
all_at P h (Memᴰ.tail m) = all_at P h.1 m

pub all_of_map : {A B : Type 0} (P : B → Type 0) (f : A → B) (l : List A) → All P (map f l) → All (λ a. P (f a)) l
unfolding All
all_of_map P f [] h = tt
all_of_map P f (a ∷ l) h = (h.0, all_of_map P f l h.1)

-- what holds of the points of a path holds of the ends of its segments
pub all_ends : (P : Point ℤ → Type 0) (ps : List (Point ℤ)) → All P ps → All (λ e. P e.from × P e.to) (segments ps)
unfolding All segments
all_ends P [] h = tt
all_ends P (a ∷ []) h = ((h.0, h.0), tt)
all_ends P (a ∷ b ∷ ps) h = ((h.0, h.1.0), all_ends P (b ∷ ps) h.1)

pub all_closed : (P : Point ℤ → Type 0) (ps : List (Point ℤ)) → All P ps → All P (closed ps)
unfolding All closed
all_closed P [] h = tt
all_closed P (a ∷ ps) h = (h.0, all-++ P ps (a ∷ []) h.1 (h.0, tt))

-- u lies in v
pub record Spans (v u : Window) : Type 0 where
  pub left : v.left ≤ℤ u.left
  pub bottom : v.bottom ≤ℤ u.bottom
  pub right : u.right ≤ℤ v.right
  pub top : u.top ≤ℤ v.top

-- the whole point p lies in v
pub record Holds (v : Window) (p : Point ℤ) : Type 0 where
  pub from_left : v.left ≤ℤ (pos 2 *ℤ p.x)
  pub from_bottom : v.bottom ≤ℤ (pos 2 *ℤ p.y)
  pub to_right : (pos 2 *ℤ p.x) ≤ℤ v.right
  pub to_top : (pos 2 *ℤ p.y) ≤ℤ v.top
