-- What the contracts speak of and no memory holds is there: a list for every net transformation, and a list that is off the axes or not. So a contract
-- over all of them says something.
-- Assumes nothing.
use mathlib.Core.Path.{◌≡◌, refl, sym, ap}
use mathlib.Core.Bool.{Bool, true, false}
use mathlib.Core.List.{List, [], ◌∷◌, ◌++◌}
use lib.IntN.{ℤ, pos, negsuc, ◌+ℤ◌, neg_ℤ-neg_ℤ}
use Rattle.definition.specs.Words.{any, point}
use Rattle.definition.specs.Commands.{Turn, translate, mirror_x, mirror_y, rotate}
use Rattle.definition.specs.Faults.{bearings}
use Rattle.definition.specs.Turns.{negative, heading, rotated, act, aim, in_order, off_axes}
use Rattle.turns.specs.declared.Net.{Net}
use Rattle.turns.specs.Nets.{net, signed, turned, apply, Carries}

-- a quarter turn to the left, one to the right
abbrev left : Turn ℤ
left = rotate (point (pos 0) (pos 1))

abbrev right : Turn ℤ
right = rotate (point (pos 0) (negsuc 0))

-- its list, by its turn and its mirrors; the step comes last
listed : (s x y : Bool) (dx dy : ℤ) → (ts : List (Turn ℤ)) × Carries ts (net s x y dx dy)
unfolding in_order act aim rotated heading negative apply turned signed
listed false false false dx dy = (translate (point dx dy) ∷ [], record { acts = λ p. refl; aims = λ p. refl })
listed false true false dx dy = (mirror_x ∷ translate (point dx dy) ∷ [], record { acts = λ p. refl; aims = λ p. refl })
listed false false true dx dy = (mirror_y ∷ translate (point dx dy) ∷ [], record { acts = λ p. refl; aims = λ p. refl })
listed false true true dx dy = (mirror_x ∷ mirror_y ∷ translate (point dx dy) ∷ [], record { acts = λ p. refl; aims = λ p. refl })
listed true true false dx dy = (left ∷ translate (point dx dy) ∷ [], record { acts = λ p. refl; aims = λ p. refl })
listed true false true dx dy = (right ∷ translate (point dx dy) ∷ [], record { acts = λ p. refl; aims = λ p. refl })
listed true true true dx dy = (left ∷ mirror_y ∷ translate (point dx dy) ∷ [], record { acts = λ p. refl; aims = λ p. refl })
listed true false false dx dy = (
  left ∷ mirror_x ∷ translate (point dx dy) ∷ [],
  record { acts = λ p. ap (λ (z : ℤ). point (z +ℤ dx) (p.x +ℤ dy)) (sym (neg_ℤ-neg_ℤ p.y)); aims = λ p. ap (λ (z : ℤ). point z p.x) (sym (neg_ℤ-neg_ℤ p.y)) },
)

pub some_list : (n : Net) → (ts : List (Turn ℤ)) × Carries ts n
some_list n = listed n.swap n.negx n.negy n.tx n.ty

-- ---- a call's own list: an R off the axes moves nothing

pub turned_by : Bool → List (Turn ℤ)
turned_by true = rotate (point (pos 1) (pos 1)) ∷ []
turned_by false = []

pub turned_so : (b : Bool) → b ≡ off_axes (turned_by b)
unfolding turned_by off_axes any bearings heading
turned_so true = refl
turned_so false = refl

pub turned_still : (b : Bool) {ts : List (Turn ℤ)} {n : Net} → Carries ts n → Carries (turned_by b ++ ts) n
unfolding turned_by in_order act aim rotated heading
turned_still true h = record { acts = h.acts; aims = h.aims }
turned_still false h = h
