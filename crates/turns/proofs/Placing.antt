-- Request 14 (RULES 18), placing, for the nets that code keeps: what `compose` gives of the nets of two lists draws what one list draws and then the other, before the
-- range is looked at. And the two lists are one list of at most three transformations, so that one call can always stand for two.
-- Assumes nothing.
use mathlib.Core.Path.{◌≡◌, refl, sym, ap, ◌∙◌}
use mathlib.Core.Bool.{Bool, true, false}
use mathlib.Core.List.{List, [], ◌∷◌, ◌++◌, map, map-map}
use Prim.Native.Nat.{◌≤◌}
use native.Mathlib.Omega.{arith}
use lib.IntN.{ℤ, pos, negsuc, ◌+ℤ◌, neg_ℤ-neg_ℤ}
use lib.ListN.{length}
use Rattle.definition.specs.Words.{Point, point, any}
use Rattle.definition.specs.Commands.{Shape, shape_of, Turn, translate, mirror_x, mirror_y, rotate}
use Rattle.definition.specs.Faults.{bearings}
use Rattle.definition.specs.Turns.{negative, heading, rotated, act, aim, in_order, moved, off_axes}
use Rattle.turns.specs.declared.Net.{Net}
use Rattle.turns.specs.Nets.{net, signed, turned, apply, after, Carries, Composed}
use Rattle.turns.proofs.Nets.{net_of, net-acts, net-aims, composed, moved_by}

-- a shape under a net: points take all of it, directions no step, sizes nothing
abbrev pub under : Net → Shape ℤ → Shape ℤ
under n k = shape_of k.kind k.sizes (map (apply n) k.points) (map (turned n) k.directions)

-- the net r draws what the list `inner` draws and then the list `outer`
pub record DrawsBoth (inner outer : List (Turn ℤ)) (r : Net) : Type 0 where
  pub points : (p : Point ℤ) → apply r p ≡ in_order act outer (in_order act inner p)
  pub directions : (d : Point ℤ) → turned r d ≡ in_order aim outer (in_order aim inner d)
  pub shape : (k : Shape ℤ) → under r k ≡ moved outer (moved inner k)
  pub shapes : (ks : List (Shape ℤ)) → map (under r) ks ≡ map (moved outer) (map (moved inner) ks)

pub nets_composed : {inner outer : List (Turn ℤ)} {i o r : Net} → Carries inner i → Carries outer o → Composed i o r → DrawsBoth inner outer r
nets_composed {inner} {outer} {i} {o} {r} hi ho h = record {
  points = λ p. h.acts p ∙ (ap (apply o) (hi.acts p) ∙ ho.acts (in_order act inner p));
  directions = λ d. h.aims d ∙ (ap (turned o) (hi.aims d) ∙ ho.aims (in_order aim inner d));
  shape = one;
  shapes = λ ks. (λ j. map (λ k. one k j) ks) ∙ sym (map-map (moved outer) (moved inner) ks);
}
  where
    two_nets : (k : Shape ℤ) → under r k ≡ under o (under i k)
    two_nets k =
        λ j. shape_of k.kind k.sizes
        (((λ e. map (λ p. h.acts p e) k.points) ∙ sym (map-map (apply o) (apply i) k.points)) j)
        (((λ e. map (λ d. h.aims d e) k.directions) ∙ sym (map-map (turned o) (turned i) k.directions)) j)

    one : (k : Shape ℤ) → under r k ≡ moved outer (moved inner k)
    one k = two_nets k ∙ (ap (under o) (sym (moved_by inner i k hi)) ∙ sym (moved_by outer o (moved inner k) ho))

-- ---- one list for two

-- a net as a list: a mirror, a turn, a step
unfoldable pub angles : (swap negx negy : Bool) → List (Turn ℤ)
angles false false false = []
angles false true false = mirror_x ∷ []
angles false false true = mirror_y ∷ []
angles false true true = rotate (point (negsuc 0) (pos 0)) ∷ []
angles true true false = rotate (point (pos 0) (pos 1)) ∷ []
angles true false true = rotate (point (pos 0) (negsuc 0)) ∷ []
angles true false false = mirror_y ∷ rotate (point (pos 0) (pos 1)) ∷ []
angles true true true = mirror_x ∷ rotate (point (pos 0) (pos 1)) ∷ []

unfoldable pub list_of : Net → List (Turn ℤ)
list_of n = angles n.swap n.negx n.negy ++ (translate (point n.tx n.ty) ∷ [])

list_few : (s a b : Bool) (x y : ℤ) → length (list_of (net s a b x y)) ≤ 3
unfolding list_of angles
list_few false false false x y = omega arith
list_few false true false x y = omega arith
list_few false false true x y = omega arith
list_few false true true x y = omega arith
list_few true true false x y = omega arith
list_few true false true x y = omega arith
list_few true false false x y = omega arith
list_few true true true x y = omega arith

list_right : (s a b : Bool) (x y : ℤ) → off_axes (list_of (net s a b x y)) ≡ false
unfolding list_of angles off_axes any bearings heading
list_right false false false x y = refl
list_right false true false x y = refl
list_right false false true x y = refl
list_right false true true x y = refl
list_right true true false x y = refl
list_right true false true x y = refl
list_right true false false x y = refl
list_right true true true x y = refl

list_carries : (s a b : Bool) (x y : ℤ) → Carries (list_of (net s a b x y)) (net s a b x y)
unfolding list_of angles in_order act aim heading rotated negative apply turned signed
list_carries false false false x y = record { acts = λ p. refl; aims = λ d. refl }
list_carries false true false x y = record { acts = λ p. refl; aims = λ d. refl }
list_carries false false true x y = record { acts = λ p. refl; aims = λ d. refl }
list_carries false true true x y = record { acts = λ p. refl; aims = λ d. refl }
list_carries true true false x y = record { acts = λ p. refl; aims = λ d. refl }
list_carries true false true x y = record { acts = λ p. refl; aims = λ d. refl }
list_carries true false false x y = record {
  acts = λ p. ap (λ (z : ℤ). point (z +ℤ x) (p.x +ℤ y)) (sym (neg_ℤ-neg_ℤ p.y));
  aims = λ d. ap (λ (z : ℤ). point z d.x) (sym (neg_ℤ-neg_ℤ d.y));
}
list_carries true true true x y = record { acts = λ p. refl; aims = λ d. refl }

-- the composed list of two: at most three transformations, each R by a right angle, and it draws what they draw one after the other
abbrev pub one_for : (inner outer : List (Turn ℤ)) → List (Turn ℤ)
one_for inner outer = list_of (after (net_of inner) (net_of outer))

pub record OneList (inner outer : List (Turn ℤ)) : Type 0 where
  pub few : length (one_for inner outer) ≤ 3
  pub right_angled : off_axes (one_for inner outer) ≡ false
  pub points : (p : Point ℤ) → in_order act (one_for inner outer) p ≡ in_order act outer (in_order act inner p)
  pub directions : (d : Point ℤ) → in_order aim (one_for inner outer) d ≡ in_order aim outer (in_order aim inner d)
  pub shape : (k : Shape ℤ) → moved (one_for inner outer) k ≡ moved outer (moved inner k)
  pub shapes : (ks : List (Shape ℤ)) → map (moved (one_for inner outer)) ks ≡ map (moved outer) (map (moved inner) ks)

pub one_list : (inner outer : List (Turn ℤ)) → OneList inner outer
one_list inner outer = record {
  few = list_few r.swap r.negx r.negy r.tx r.ty;
  right_angled = list_right r.swap r.negx r.negy r.tx r.ty;
  points = λ p. sym (one.acts p) ∙ both.points p;
  directions = λ d. sym (one.aims d) ∙ both.directions d;
  shape = λ k. moved_by (list_of r) r k one ∙ both.shape k;
  shapes = λ ks. (λ j. map (λ k. moved_by (list_of r) r k one j) ks) ∙ both.shapes ks;
}
  where
    carried : (ts : List (Turn ℤ)) → Carries ts (net_of ts)
    carried ts = record { acts = net-acts ts; aims = net-aims ts }

    r : Net
    r = after (net_of inner) (net_of outer)

    one : Carries (list_of r) r
    one = list_carries r.swap r.negx r.negy r.tx r.ty

    both : DrawsBoth inner outer r
    both = nets_composed (carried inner) (carried outer) (composed (net_of inner) (net_of outer) r refl)
