-- A point that lies left of all vertices, or right of them, or above or below them all, has winding number 0.
-- Assumes nothing.
use mathlib.Core.Path.{◌≡◌, refl, ap₂, ◌∙◌}
use mathlib.Core.Bool.{Bool, true, false}
use mathlib.Core.List.{List, [], ◌∷◌, ◌++◌}
use native.Mathlib.Nat.{le_of_lt}
use native.Mathlib.Omega.{arith}
use lib.IntN.{ℤ, pos, negsuc, ◌+ℤ◌, +ℤ_idr}
use lib.Signed.{lt_z}
use Rattle.definition.specs.Words.{Point}
use Rattle.laws.proofs.Lists.Range.{All, all_to}
use Rattle.figures.specs.Figure.{Segment, segments, closed, edges, turn, above, side, crossing, winding}
use Rattle.figures.proofs.Sums.{Sum, whole, count, ◌⊟◌, ◌⊠◌, lt→, →lt, →nlt, rearranged, rearranged<}
use Rattle.figures.proofs.Lists.{all_ends, all_closed}

-- ---- edges that count nothing

none : (p : Point ℤ) (es : List Segment) → All (λ e. crossing p e ≡ pos 0) es → winding p es ≡ pos 0
unfolding All winding
none p [] h = refl
none p (e ∷ es) h = rw (h.0, none p es h.1)

high : (p : Point ℤ) (e : Segment) → (above p e.from ≡ false) × (above p e.to ≡ false) → crossing p e ≡ pos 0
unfolding crossing turn
high p e h = rw (h.0, h.1)

deep : (p : Point ℤ) (e : Segment) → (above p e.from ≡ true) × (above p e.to ≡ true) → crossing p e ≡ pos 0
unfolding crossing turn
deep p e h = rw (h.0, h.1)

-- ---- the side of an edge

module _ (e : Segment) (p : Point ℤ) where
  X : Sum
  X = whole p.x

  Y : Sum
  Y = whole p.y

  ax : Sum
  ax = whole e.from.x

  ay : Sum
  ay = whole e.from.y

  bx : Sum
  bx = whole e.to.x

  by : Sum
  by = whole e.to.y

  turning : Sum
  turning = (bx ⊟ ax) ⊠ (Y ⊟ ay) ⊟ (by ⊟ ay) ⊠ (X ⊟ ax)

  -- p right of both ends, then left of both
  right_up : lt_z e.from.x p.x ≡ true → lt_z e.to.x p.x ≡ true → above p e.from ≡ false → above p e.to ≡ true → lt_z (pos 0) (side e p) ≡ false
  unfolding X Y ax ay bx by turning
  right_up f g h k = →nlt (count 0) turning (omega (arith, rearranged (le_of_lt (lt→ Y by true k)) (le_of_lt (lt→ ax X true f)), rearranged (lt→ Y ay false h) (le_of_lt (lt→ bx X true g))))

  right_down : lt_z e.from.x p.x ≡ true → lt_z e.to.x p.x ≡ true → above p e.from ≡ true → above p e.to ≡ false → lt_z (side e p) (pos 0) ≡ false
  unfolding X Y ax ay bx by turning
  right_down f g h k = →nlt turning (count 0) (omega (arith, rearranged (lt→ Y by false k) (le_of_lt (lt→ ax X true f)), rearranged (le_of_lt (lt→ Y ay true h)) (le_of_lt (lt→ bx X true g))))

  left_up : lt_z p.x e.from.x ≡ true → lt_z p.x e.to.x ≡ true → above p e.from ≡ false → above p e.to ≡ true → lt_z (pos 0) (side e p) ≡ true
  unfolding X Y ax ay bx by turning
  left_up f g h k = →lt (count 0) turning (omega (arith, rearranged< (lt→ Y by true k) (lt→ X ax true f), rearranged (lt→ Y ay false h) (le_of_lt (lt→ X bx true g))))

  left_down : lt_z p.x e.from.x ≡ true → lt_z p.x e.to.x ≡ true → above p e.from ≡ true → above p e.to ≡ false → lt_z (side e p) (pos 0) ≡ true
  unfolding X Y ax ay bx by turning
  left_down f g h k = →lt turning (count 0) (omega (arith, rearranged (lt→ Y by false k) (le_of_lt (lt→ X ax true f)), rearranged< (lt→ Y ay true h) (lt→ X bx true g)))

-- ---- right of all: no edge counts

right : (p : Point ℤ) (e : Segment) → (lt_z e.from.x p.x ≡ true) × (lt_z e.to.x p.x ≡ true) → crossing p e ≡ pos 0
unfolding crossing turn
right p e h = go (above p e.from) refl (above p e.to) refl
  where
    go : (a : Bool) → above p e.from ≡ a → (b : Bool) → above p e.to ≡ b → turn a b (lt_z (pos 0) (side e p)) (lt_z (side e p) (pos 0)) ≡ pos 0
    go false f false g = refl
    go false f true g = rw (right_up e p h.0 h.1 f g)
    go true f false g = rw (right_down e p h.0 h.1 f g)
    go true f true g = refl

-- ---- left of all: every crossing counts, and as many go up as down

rise : Bool → Bool → ℤ
rise false false = pos 0
rise false true = pos 1
rise true false = negsuc 0
rise true true = pos 0

left : (p : Point ℤ) (e : Segment) → (lt_z p.x e.from.x ≡ true) × (lt_z p.x e.to.x ≡ true) → crossing p e ≡ rise (above p e.from) (above p e.to)
unfolding crossing turn rise
left p e h = go (above p e.from) refl (above p e.to) refl
  where
    go : (a : Bool) → above p e.from ≡ a → (b : Bool) → above p e.to ≡ b → turn a b (lt_z (pos 0) (side e p)) (lt_z (side e p) (pos 0)) ≡ rise a b
    go false f false g = refl
    go false f true g = rw (left_up e p h.0 h.1 f g)
    go true f false g = rw (left_down e p h.0 h.1 f g)
    go true f true g = refl

rises : (a b c : Bool) → rise a b +ℤ rise b c ≡ rise a c
unfolding rise
rises false false false = refl
rises false false true = refl
rises false true false = refl
rises false true true = refl
rises true false false = refl
rises true false true = refl
rises true true false = refl
rises true true true = refl

level : (a : Bool) → rise a a ≡ pos 0
unfolding rise
level false = refl
level true = refl

along : (p a z : Point ℤ) (ps : List (Point ℤ)) → All (λ e. crossing p e ≡ rise (above p e.from) (above p e.to)) (segments (a ∷ (ps ++ (z ∷ []))))
    → winding p (segments (a ∷ (ps ++ (z ∷ [])))) ≡ rise (above p a) (above p z)
unfolding All segments winding
along p a z [] h = rw (h.0, h.1.0, level (above p z)) (+ℤ_idr (rise (above p a) (above p z)))
along p a z (b ∷ ps) h = ap₂ (λ u v. u +ℤ v) h.0 (along p b z ps h.1) ∙ rises (above p a) (above p b) (above p z)

-- ---- all four

abbrev Ends : (Point ℤ → Type 0) → Segment → Type 0
Ends P e = P e.from × P e.to

ends : (P : Point ℤ → Type 0) (ps : List (Point ℤ)) → All P ps → All (Ends P) (edges ps)
ends P ps h = all_ends P (closed ps) (all_closed P ps h)

pub unwound_high : (p : Point ℤ) (ps : List (Point ℤ)) → All (λ v. above p v ≡ false) ps → winding p (edges ps) ≡ pos 0
unwound_high p ps h = none p (edges ps) (all_to (Ends (λ v. above p v ≡ false)) (λ e. crossing p e ≡ pos 0) (high p) (edges ps) (ends (λ v. above p v ≡ false) ps h))

pub unwound_deep : (p : Point ℤ) (ps : List (Point ℤ)) → All (λ v. above p v ≡ true) ps → winding p (edges ps) ≡ pos 0
unwound_deep p ps h = none p (edges ps) (all_to (Ends (λ v. above p v ≡ true)) (λ e. crossing p e ≡ pos 0) (deep p) (edges ps) (ends (λ v. above p v ≡ true) ps h))

pub unwound_right : (p : Point ℤ) (ps : List (Point ℤ)) → All (λ v. lt_z v.x p.x ≡ true) ps → winding p (edges ps) ≡ pos 0
unwound_right p ps h = none p (edges ps) (all_to (Ends (λ v. lt_z v.x p.x ≡ true)) (λ e. crossing p e ≡ pos 0) (right p) (edges ps) (ends (λ v. lt_z v.x p.x ≡ true) ps h))

pub unwound_left : (p : Point ℤ) (ps : List (Point ℤ)) → All (λ v. lt_z p.x v.x ≡ true) ps → winding p (edges ps) ≡ pos 0
unfolding closed segments winding
unwound_left p [] h = refl
unwound_left p (a ∷ ps) h =
    along p a a ps (all_to (Ends (λ v. lt_z p.x v.x ≡ true)) (λ e. crossing p e ≡ rise (above p e.from) (above p e.to)) (left p) (edges (a ∷ ps)) (ends (λ v. lt_z p.x v.x ≡ true) (a ∷ ps) h))
    ∙ level (above p a)
