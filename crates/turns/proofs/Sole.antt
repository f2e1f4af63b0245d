-- The contracts leave one result: what is done to points tells the net transformation.
-- Assumes nothing.
use Rattle.std.specs.Prelude.{if◌then◌else◌}
use mathlib.Core.Path.{◌≡◌, refl, sym, ap, ◌∙◌}
use mathlib.Core.Bool.{Bool, true, false}
use mathlib.Core.List.{List}
use lib.Dec.{eqb}
use lib.IntN.{ℤ, pos, ◌+ℤ◌, ◌-ℤ◌, nat_abs, +ℤ_idl, +ℤ-neg_ℤ_cancel}
use Rattle.definition.specs.Words.{Point, point}
use Rattle.definition.specs.Commands.{Turn}
use Rattle.definition.specs.Turns.{negative}
use Rattle.turns.specs.declared.Net.{Net}
use Rattle.turns.specs.declared.Listed.{Listed}
use Rattle.turns.specs.Nets.{net, signed, turned, apply, Carries, Composed, IsListed}

-- where the origin goes is the step
origin : (n : Net) → apply n (point (pos 0) (pos 0)) ≡ point n.tx n.ty
unfolding apply turned signed
origin n = λ k. point (go n.negx n.swap n.tx k) (go n.negy n.swap n.ty k)
  where
    go : (a s : Bool) (t : ℤ) → signed a (if s then pos 0 else pos 0) +ℤ t ≡ t
    go true true t = +ℤ_idl t
    go true false t = +ℤ_idl t
    go false true t = +ℤ_idl t
    go false false t = +ℤ_idl t

-- where (1, 2) then stands tells the rest
tells : (n : Net) → let p = turned n (point (pos 1) (pos 2)) in (eqb (nat_abs p.x) 2 ≡ n.swap) × (negative p.x ≡ n.negx) × (negative p.y ≡ n.negy)
unfolding turned signed negative
tells n = go n.swap n.negx n.negy
  where
    go : (s a b : Bool) → let x = signed a (if s then pos 2 else pos 1) in let y = signed b (if s then pos 1 else pos 2) in (eqb (nat_abs x) 2 ≡ s) × (negative x ≡ a) × (negative y ≡ b)
    go true true true = (refl, refl, refl)
    go true true false = (refl, refl, refl)
    go true false true = (refl, refl, refl)
    go true false false = (refl, refl, refl)
    go false true true = (refl, refl, refl)
    go false true false = (refl, refl, refl)
    go false false true = (refl, refl, refl)
    go false false false = (refl, refl, refl)

unstepped : (n : Net) (p : Point ℤ) → turned n p ≡ point ((apply n p).x -ℤ n.tx) ((apply n p).y -ℤ n.ty)
unfolding apply
unstepped n p = λ k. point (sym (+ℤ-neg_ℤ_cancel (turned n p).x n.tx) k) (sym (+ℤ-neg_ℤ_cancel (turned n p).y n.ty) k)

pub sole : (n m : Net) → ((p : Point ℤ) → apply n p ≡ apply m p) → n ≡ m
sole n m same =
    let step : point n.tx n.ty ≡ point m.tx m.ty = sym (origin n) ∙ same (point (pos 0) (pos 0)) ∙ origin m in
    let x : n.tx ≡ m.tx = ap (λ (p : Point ℤ). p.x) step in
    let y : n.ty ≡ m.ty = ap (λ (p : Point ℤ). p.y) step in
    let q : Point ℤ = point (pos 1) (pos 2) in
    let t : turned n q ≡ turned m q =
    unstepped n q ∙ (λ k. point ((same q k).x -ℤ x k) ((same q k).y -ℤ y k)) ∙ sym (unstepped m q) in
    let a = sym (tells n).0 ∙ ap (λ (p : Point ℤ). eqb (nat_abs p.x) 2) t ∙ (tells m).0 in
    let b = sym (tells n).1 ∙ ap (λ (p : Point ℤ). negative p.x) t ∙ (tells m).1 in
    let c = sym (tells n).2 ∙ ap (λ (p : Point ℤ). negative p.y) t ∙ (tells m).2 in
    λ k. net (a k) (b k) (c k) (x k) (y k)

pub carries_sole : (n m : Net) (ts : List (Turn ℤ)) → Carries ts n → Carries ts m → n ≡ m
carries_sole n m ts a b = sole n m (λ p. a.acts p ∙ sym (b.acts p))

pub composed_sole : (i o n m : Net) → Composed i o n → Composed i o m → n ≡ m
composed_sole i o n m a b = sole n m (λ p. a.acts p ∙ sym (b.acts p))

pub listed_sole : (ts : List (Turn ℤ)) (r s : Listed) → IsListed ts r → IsListed ts s → r ≡ s
listed_sole ts r s a b = let n = carries_sole r.net s.net ts a.carries b.carries in let k : r.askew ≡ s.askew = a.askew ∙ sym b.askew in λ i. record { net = n i; askew = k i }
