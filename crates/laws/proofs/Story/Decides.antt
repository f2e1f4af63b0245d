-- The tests that the drawing makes, and the facts that they decide: so what RULES 12 says can be stated as facts.
-- Assumes nothing.
use Rattle.std.specs.Prelude.{if◌then◌else◌}
use mathlib.Core.Path.{◌≡◌, refl, sym, ap, subst}
use mathlib.Core.Bool.{Bool, true, false, not, ◌&&◌, ◌||◌}
use mathlib.Core.List.Memᴰ
use mathlib.Core.List.{List, [], ◌∷◌, map, Memᴰ}
use mathlib.Core.Logic.{◌⊎◌, inl, inr}
use mathlib.Core.Option.{none, some}
use Prim.Native.Nat.{ℕ, suc, ◌+◌, ◌-◌, ◌≤◌, ◌<◌}
use native.Mathlib.Omega.{arith}
use borrow.Author.Tests.{ltb-true, ltb-false, eqb-true, eqb-false}
use lib.Dec.{ltb, eqb}
use lib.IntN.{ℤ, pos, negsuc, nat_abs}
use Rattle.definition.specs.Limits.{largest, deepest}
use Rattle.definition.specs.Words.{Placed, Point, any, none?}
use Rattle.definition.specs.Commands.{Shape, Turn, translate, mirror_x, mirror_y, rotate}
use Rattle.definition.specs.Faults.{beyond, zero?, bearings}
use Rattle.definition.specs.Turns.{+x, +y, -x, -y, negative, heading, act, in_order, moved, off_axes}
use Rattle.definition.specs.Table.{Definition, Table, find}
use Rattle.definition.specs.Drawing.{Chain}

pub data Decides (P : Type 0) : Bool → Type 0 where
  holds : P → Decides P true
  fails : (P → ⊥) → Decides P false

decides : {P Q : Type 0} {b : Bool} → (P → Q) → (Q → P) → Decides P b → Decides Q b
decides f g (holds p) = holds (f p)
decides f g (fails n) = fails (λ q. n (g q))

by_test : (P : Type 0) (b : Bool) → (b ≡ true → P) → (b ≡ false → P → ⊥) → Decides P b
by_test P true f g = holds (f refl)
by_test P false f g = fails (g refl)

decides_not : {P : Type 0} {b : Bool} → Decides P b → Decides (P → ⊥) (not b)
decides_not (holds p) = fails (λ n. n p)
decides_not (fails n) = holds n

decides_and : {P Q : Type 0} {a b : Bool} → Decides P a → Decides Q b → Decides (P × Q) (a && b)
decides_and (holds p) (holds q) = holds (p, q)
decides_and (holds p) (fails n) = fails (λ x. n x.1)
decides_and (fails n) y = fails (λ x. n x.0)

decides_or : {P Q : Type 0} {a b : Bool} → Decides P a → Decides Q b → Decides (P ⊎ Q) (a || b)
decides_or (holds p) y = holds (inl p)
decides_or (fails n) (holds q) = holds (inr q)
decides_or {P} {Q} (fails n) (fails m) = fails go
  where
    go : P ⊎ Q → ⊥
    go (inl p) = n p
    go (inr q) = m q

-- some element of the list has the property
pub record Among {A : Type 0} (P : A → Type 0) (l : List A) : Type 0 where
  pub one : A
  pub listed : Memᴰ one l
  pub so : P one

module _ {A : Type 0} (P : A → Type 0) where
  pub among_first : {a : A} {l : List A} → P a → Among P (a ∷ l)
  among_first {a} h = record { one = a; listed = Memᴰ.head refl; so = h }

  pub among_later : {a : A} {l : List A} → Among P l → Among P (a ∷ l)
  among_later h = record { one = h.one; listed = Memᴰ.tail h.listed; so = h.so }

  pub among_none : Among P [] → ⊥
  among_none h = Memᴰ.not-nil h.listed

  pub among_cases : {a : A} {l : List A} → Among P (a ∷ l) → P a ⊎ Among P l
  among_cases {a} {l} h = go (Memᴰ.cases_cons h.listed)
    where
      go : (h.one ≡ a) ⊎ Memᴰ h.one l → P a ⊎ Among P l
      go (inl e) = inl (subst P e h.so)
      go (inr m) = inr (record { one = h.one; listed = m; so = h.so })

  among-joined : {a : A} {l : List A} → P a ⊎ Among P l → Among P (a ∷ l)
  among-joined (inl h) = among_first h
  among-joined (inr h) = among_later h

  pub any_decides : (t : A → Bool) → ((a : A) → Decides (P a) (t a)) → (l : List A) → Decides (Among P l) (any t l)
  unfolding any
  any_decides t each [] = fails among_none
  any_decides t each (a ∷ l) = decides among-joined among_cases (decides_or (each a) (any_decides t each l))

pub eqb_decides : (m n : ℕ) → Decides (m ≡ n) (eqb m n)
eqb_decides m n = by_test (m ≡ n) (eqb m n) (eqb-true m n) (eqb-false m n)

pub ltb_decides : (m n : ℕ) → Decides (m < n) (ltb m n)
ltb_decides m n = by_test (m < n) (ltb m n) (ltb-true m n) (λ e h. let k : n ≤ m = ltb-false m n e in omega arith)

nat_abs_zero : (z : ℤ) → nat_abs z ≡ 0 → z ≡ pos 0
nat_abs_zero (pos n) e = ap pos e
nat_abs_zero (negsuc n) e = absurd (go e)
  where
    go : suc n ≡ 0 → ⊥
    go h = omega arith

zero_decides : (z : ℤ) → Decides (z ≡ pos 0) (zero? z)
zero_decides z = decides (nat_abs_zero z) (ap nat_abs) (eqb_decides (nat_abs z) 0)

-- RULES 12, refusal 11: an R off the axes, both of whose parts are not 0
pub data Askew : Turn ℤ → Type 0 where
  askew : {v : Point ℤ} → (v.x ≡ pos 0 → ⊥) → (v.y ≡ pos 0 → ⊥) → Askew (rotate v)

-- a direction lies off the axes exactly where neither part is 0
pub off_the_axes : (v : Point ℤ) → none? (heading v) ≡ (not (zero? v.x) && not (zero? v.y))
unfolding heading
off_the_axes v = go (zero? v.x) (zero? v.y)
  where
    go : (a b : Bool) → none? (if b then some (if negative v.x then -x else +x) else if a then some (if negative v.y then -y else +y) else none) ≡ (not a && not b)
    go true true = refl
    go true false = refl
    go false true = refl
    go false false = refl

askew_decides : (t : Turn ℤ) → Decides (Askew t) (any (λ d. none? (heading d)) (bearings t))
unfolding any bearings
askew_decides (translate v) = fails (elim [ ])
askew_decides mirror_x = fails (elim [ ])
askew_decides mirror_y = fails (elim [ ])
askew_decides (rotate v) =
    decides turned parts
    (decides_or (subst (Decides Parts) (sym (off_the_axes v)) (decides_and (decides_not (zero_decides v.x)) (decides_not (zero_decides v.y)))) (fails (λ h. h)))
  where
    Parts : Type 0
    Parts = (v.x ≡ pos 0 → ⊥) × (v.y ≡ pos 0 → ⊥)

    turned : Parts ⊎ ⊥ → Askew (rotate v)
    turned (inl h) = askew h.0 h.1
    turned (inr h) = absurd h

    parts : Askew (rotate v) → Parts ⊎ ⊥
    parts (askew h k) = inl (h, k)

pub off_axes_decides : (ts : List (Turn ℤ)) → Decides (Among Askew ts) (off_axes ts)
unfolding off_axes
off_axes_decides ts = any_decides Askew (λ t. any (λ d. none? (heading d)) (bearings t)) askew_decides ts

-- RULES 12, refusal 12: a live definition has the number, or none has it
abbrev pub Defined : Table → ℕ → Type 0
Defined t n = Among (λ (d : Definition). d.symbol ≡ n) t

pub undefined_decides : (n : ℕ) (t : Table) → Decides (Defined t n → ⊥) (none? (find n t))
unfolding find
undefined_decides n [] = holds (among_none (λ (d : Definition). d.symbol ≡ n))
undefined_decides n (d ∷ t) = go (eqb_decides d.symbol n) (undefined_decides n t)
  where
    Numbered : Definition → Type 0
    Numbered e = e.symbol ≡ n

    neither : (Numbered d → ⊥) → (Among Numbered t → ⊥) → Numbered d ⊎ Among Numbered t → ⊥
    neither m h (inl e) = m e
    neither m h (inr x) = h x

    go : {b : Bool} → Decides (Numbered d) b → Decides (Among Numbered t → ⊥) (none? (find n t))
        → Decides (Among Numbered (d ∷ t) → ⊥) (none? (if b then some d else find n t))
    go (holds e) r = fails (λ h. h (among_first Numbered e))
    go (fails m) r = decides (λ h x. neither m h (among_cases Numbered x)) (λ h x. h (among_later Numbered x)) r

-- RULES 12, refusal 13: an open call is of that symbol
abbrev pub IsBeingDrawn : Chain → ℕ → Type 0
IsBeingDrawn chain n = Among (λ (o : Placed ℕ). o.what ≡ n) chain

pub being_drawn_decides : (n : ℕ) (chain : Chain) → Decides (IsBeingDrawn chain n) (any (λ c. eqb c.what n) chain)
being_drawn_decides n chain = any_decides (λ (c : Placed ℕ). c.what ≡ n) (λ c. eqb c.what n) (λ c. eqb_decides c.what n) chain

-- RULES 12, refusal 14
pub depth_decides : (depth : ℕ) → Decides (deepest < depth + 1) (eqb (deepest - depth) 0)
depth_decides depth = decides (λ e. omega arith) (λ h. omega arith) (eqb_decides (deepest - depth) 0)

-- RULES 12, refusals 16 and 20: of a shape's points, in their final places, some x, or some y, lies beyond 16,777,215
module _ (axis : Point ℤ → ℤ) (f : Point ℤ → Point ℤ) where
  abbrev Out : Point ℤ → Type 0
  Out p = largest < nat_abs (axis (f p))

  final_decides : (ps : List (Point ℤ)) → Decides (Among Out ps) (any (λ q. beyond (axis q)) (map f ps))
  unfolding any beyond
  final_decides [] = fails (among_none Out)
  final_decides (p ∷ ps) = decides (among-joined Out) (among_cases Out) (decides_or (ltb_decides largest (nat_abs (axis (f p)))) (final_decides ps))

abbrev pub FinallyBeyondX : List (Turn ℤ) → Shape ℤ → Type 0
FinallyBeyondX net k = Among (λ (p : Point ℤ). largest < nat_abs (in_order act net p).x) k.points

abbrev pub FinallyBeyondY : List (Turn ℤ) → Shape ℤ → Type 0
FinallyBeyondY net k = Among (λ (p : Point ℤ). largest < nat_abs (in_order act net p).y) k.points

pub final_x_decides : (net : List (Turn ℤ)) (k : Shape ℤ) → Decides (FinallyBeyondX net k) (any (λ q. beyond q.x) (moved net k).points)
unfolding moved
final_x_decides net k = final_decides (λ q. q.x) (in_order act net) k.points

pub final_y_decides : (net : List (Turn ℤ)) (k : Shape ℤ) → Decides (FinallyBeyondY net k) (any (λ q. beyond q.y) (moved net k).points)
unfolding moved
final_y_decides net k = final_decides (λ q. q.y) (in_order act net) k.points
