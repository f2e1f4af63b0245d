-- The net transformation of a shape as it is told: a matrix, one of eight turns and mirrors, and one translation after it. They send every point as the list of transformations does, and
-- directions without the translation; so a shape under the list is the shape under these. And they are those of the net transformation that code keeps.
-- Assumes nothing.
use Rattle.std.specs.Prelude.{if◌then◌else◌}
use mathlib.Core.Path.{◌≡◌, refl, sym, ap, ap₂, ◌∙◌, subst}
use mathlib.Core.Bool.{Bool, true, false}
use mathlib.Core.List.{List, [], ◌∷◌, map}
use Prim.Native.Nat.{ℕ, zero, suc, ◌*◌}
use native.Mathlib.Omega.{arith}
use lib.IntN.{ℤ, pos, negsuc, neg_ℤ, ◌+ℤ◌, ◌*ℤ◌, +ℤ_idl, +ℤ_idr}
use Rattle.definition.specs.Words.{Point, point}
use Rattle.definition.specs.Commands.{Shape, shape_of, Turn}
use Rattle.definition.specs.Turns.{act, aim, in_order, moved}
use Rattle.definition.specs.Why.{along_x, along_y, origin_to}
use Rattle.turns.specs.declared.Net.{Net}
use Rattle.turns.specs.Nets.{net, signed, turned, apply, Carries}
use Rattle.turns.proofs.Nets.{net_of, net-acts, net-aims}

-- (x, y) goes to (a x + b y, c x + d y), where u is (a, c) and v is (b, d); and then to that and (tx, ty), which is o
abbrev pub turned_to : (u v p : Point ℤ) → Point ℤ
turned_to u v p = point (u.x *ℤ p.x +ℤ v.x *ℤ p.y) (u.y *ℤ p.x +ℤ v.y *ℤ p.y)

abbrev pub sent_to : (u v o p : Point ℤ) → Point ℤ
sent_to u v o p = point ((turned_to u v p).x +ℤ o.x) ((turned_to u v p).y +ℤ o.y)

-- ---- times 1, 0 and -1

once : (z : ℤ) → pos 1 *ℤ z ≡ z
once (pos n) = ap pos (omega arith)
once (negsuc n) = ap (λ (k : ℕ). neg_ℤ (pos k)) (one_time n)
  where
    one_time : (m : ℕ) → 1 * suc m ≡ suc m
    one_time m = omega arith

never : (z : ℤ) → pos 0 *ℤ z ≡ pos 0
never (pos n) = ap pos (omega arith)
never (negsuc n) = ap (λ (k : ℕ). neg_ℤ (pos k)) (no_time n)
  where
    no_time : (m : ℕ) → 0 * suc m ≡ 0
    no_time m = omega arith

back : (z : ℤ) → negsuc 0 *ℤ z ≡ neg_ℤ z
back (pos n) = ap (λ (k : ℕ). neg_ℤ (pos k)) (one_time n)
  where
    one_time : (m : ℕ) → 1 * m ≡ m
    one_time m = omega arith
back (negsuc n) = ap pos (one_time n)
  where
    one_time : (m : ℕ) → 1 * suc m ≡ suc m
    one_time m = omega arith

-- a sum of which one part is 0
left_alone : (a b z : ℤ) → a ≡ z → b ≡ pos 0 → a +ℤ b ≡ z
left_alone a b z h k = ap₂ {C = ℤ} (λ (x y : ℤ). x +ℤ y) h k ∙ +ℤ_idr z

right_alone : (a b z : ℤ) → a ≡ pos 0 → b ≡ z → a +ℤ b ≡ z
right_alone a b z h k = ap₂ {C = ℤ} (λ (x y : ℤ). x +ℤ y) h k ∙ +ℤ_idl z

-- a row of the matrix: 1 or -1 at one of the two, and 0 at the other
first-row : (s n : Bool) (x y : ℤ) → signed n (if s then pos 0 else pos 1) *ℤ x +ℤ signed n (if s then pos 1 else pos 0) *ℤ y ≡ signed n (if s then y else x)
unfolding signed
first-row false false x y = left_alone _ _ x (once x) (never y)
first-row false true x y = left_alone _ _ (neg_ℤ x) (back x) (never y)
first-row true false x y = right_alone _ _ y (never x) (once y)
first-row true true x y = right_alone _ _ (neg_ℤ y) (never x) (back y)

second_row : (s n : Bool) (x y : ℤ) → signed n (if s then pos 1 else pos 0) *ℤ x +ℤ signed n (if s then pos 0 else pos 1) *ℤ y ≡ signed n (if s then x else y)
unfolding signed
second_row false false x y = right_alone _ _ y (never x) (once y)
second_row false true x y = right_alone _ _ (neg_ℤ y) (never x) (back y)
second_row true false x y = left_alone _ _ x (once x) (never y)
second_row true true x y = left_alone _ _ (neg_ℤ x) (back x) (never y)

-- ---- the net transformation that code keeps

abbrev east : Point ℤ
east = point (pos 1) (pos 0)

abbrev north : Point ℤ
north = point (pos 0) (pos 1)

abbrev origin : Point ℤ
origin = point (pos 0) (pos 0)

net-turns : (n : Net) (p : Point ℤ) → turned n p ≡ turned_to (turned n east) (turned n north) p
unfolding turned
net-turns n p = λ i. point (sym (first-row n.swap n.negx p.x p.y) i) (sym (second_row n.swap n.negy p.x p.y) i)

net_origin : (n : Net) → apply n origin ≡ point n.tx n.ty
unfolding apply turned
net_origin n = λ i. point (alone n.swap n.negx n.tx i) (alone n.swap n.negy n.ty i)
  where
    still : (b : Bool) → signed b (pos 0) ≡ pos 0
    still true = unfold signed in refl
    still false = unfold signed in refl

    alone : (s b : Bool) (z : ℤ) → signed b (if s then pos 0 else pos 0) +ℤ z ≡ z
    alone true b z = right_alone _ z z (still b) refl
    alone false b z = right_alone _ z z (still b) refl

net_sends : (n : Net) (p : Point ℤ) → apply n p ≡ sent_to (turned n east) (turned n north) (apply n origin) p
net_sends n p =
    unfolded n p ∙ ap (λ (q : Point ℤ). point (q.x +ℤ n.tx) (q.y +ℤ n.ty)) (net-turns n p)
    ∙ ap (λ (o : Point ℤ). sent_to (turned n east) (turned n north) o p) (sym (net_origin n))
  where
    unfolded : (k : Net) (q : Point ℤ) → apply k q ≡ point ((turned k q).x +ℤ k.tx) ((turned k q).y +ℤ k.ty)
    unfolded k q = unfold apply in refl

-- what is told of a list is what its net transformation says
pub record TellsNet (ts : List (Turn ℤ)) (n : Net) : Type 0 where
  pub first_column : along_x ts ≡ turned n (point (pos 1) (pos 0))
  pub second_column : along_y ts ≡ turned n (point (pos 0) (pos 1))
  pub translation : origin_to ts ≡ point n.tx n.ty

pub tells-net : {ts : List (Turn ℤ)} {n : Net} → Carries ts n → TellsNet ts n
tells-net {ts} {n} h = record { first_column = sym (h.aims east); second_column = sym (h.aims north); translation = sym (h.acts origin) ∙ net_origin n }

-- ---- lists of transformations

carried : (ts : List (Turn ℤ)) → Carries ts (net_of ts)
carried ts = record { acts = net-acts ts; aims = net-aims ts }

-- a list sends every point by its matrix and translation, and every direction by its matrix
pub sends_points : (ts : List (Turn ℤ)) (p : Point ℤ) → in_order act ts p ≡ sent_to (along_x ts) (along_y ts) (origin_to ts) p
sends_points ts p =
    sym (net-acts ts p) ∙ net_sends (net_of ts) p
    ∙ (λ i. sent_to (net-aims ts east i) (net-aims ts north i) (net-acts ts origin i) p)

pub sends_directions : (ts : List (Turn ℤ)) (p : Point ℤ) → in_order aim ts p ≡ turned_to (along_x ts) (along_y ts) p
sends_directions ts p = sym (net-aims ts p) ∙ net-turns (net_of ts) p ∙ (λ i. turned_to (net-aims ts east i) (net-aims ts north i) p)

-- RULES 9: so a shape under the list is the shape with each point sent so, and each direction turned so
pub moved_by_matrix : (ts : List (Turn ℤ)) (k : Shape ℤ)
    → moved ts k ≡ shape_of k.kind k.sizes (map (sent_to (along_x ts) (along_y ts) (origin_to ts)) k.points) (map (turned_to (along_x ts) (along_y ts)) k.directions)
unfolding moved
moved_by_matrix ts k = λ i. shape_of k.kind k.sizes (map (λ p. sends_points ts p i) k.points) (map (λ d. sends_directions ts d i) k.directions)

-- the eight turns and mirrors: where the directions along x and along y go
pub data OneOfEight : Point ℤ → Point ℤ → Type 0 where
  as_it_is : OneOfEight (point (pos 1) (pos 0)) (point (pos 0) (pos 1))
  quarter_turn : OneOfEight (point (pos 0) (pos 1)) (point (negsuc 0) (pos 0))
  half_turn : OneOfEight (point (negsuc 0) (pos 0)) (point (pos 0) (negsuc 0))
  three_quarter_turn : OneOfEight (point (pos 0) (negsuc 0)) (point (pos 1) (pos 0))
  mirrored_in_x : OneOfEight (point (negsuc 0) (pos 0)) (point (pos 0) (pos 1))
  mirrored_in_y : OneOfEight (point (pos 1) (pos 0)) (point (pos 0) (negsuc 0))
  exchanged : OneOfEight (point (pos 0) (pos 1)) (point (pos 1) (pos 0))
  exchanged_and-turned : OneOfEight (point (pos 0) (negsuc 0)) (point (negsuc 0) (pos 0))

pub one_of_eight : (ts : List (Turn ℤ)) → OneOfEight (along_x ts) (along_y ts)
one_of_eight ts = subst (λ (v : Point ℤ). OneOfEight (along_x ts) v) (net-aims ts north) (subst (λ (u : Point ℤ). OneOfEight u (turned (net_of ts) north)) (net-aims ts east) (go (net_of ts)))
  where
    by_signs : (s x y : Bool) (n : Net) → n ≡ net s x y n.tx n.ty → OneOfEight (turned n east) (turned n north)
    by_signs false false false n e = rw e (unfold turned signed in as_it_is)
    by_signs true true false n e = rw e (unfold turned signed in quarter_turn)
    by_signs false true true n e = rw e (unfold turned signed in half_turn)
    by_signs true false true n e = rw e (unfold turned signed in three_quarter_turn)
    by_signs false true false n e = rw e (unfold turned signed in mirrored_in_x)
    by_signs false false true n e = rw e (unfold turned signed in mirrored_in_y)
    by_signs true false false n e = rw e (unfold turned signed in exchanged)
    by_signs true true true n e = rw e (unfold turned signed in exchanged_and-turned)

    go : (n : Net) → OneOfEight (turned n east) (turned n north)
    go n = by_signs n.swap n.negx n.negy n refl
