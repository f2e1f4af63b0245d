-- Sizes that are capped: digits that come later find a capped size as good as the size itself.
-- Assumes nothing.
use Rattle.std.specs.Prelude.{if◌then◌else◌}
use mathlib.Core.Path.{◌≡◌, refl, sym, ap, ◌∙◌}
use mathlib.Core.Bool.{Bool, true, false}
use mathlib.Core.List.{List, [], ◌∷◌}
use Prim.Native.Nat.{ℕ, ◌+◌, ◌-◌, ◌*◌, ◌≤◌, ◌<◌}
use native.Mathlib.Omega.{arith}
use borrow.Author.Tests.{lt-ltb, le-ltb, ltb-true, ltb-false}
use lib.Dec.{ltb}
use Rattle.grammar.specs.Notation.{Letter, dec, Role-discrete, later}
use Rattle.definition.specs.Commands.{worth}
use Rattle.pieces.specs.Pieces.{too_large, capped}

pub cap_low : (n : ℕ) → n < too_large → capped n ≡ n
unfolding capped
cap_low n h = rw (lt-ltb n too_large h)

pub cap_high : (n : ℕ) → too_large ≤ n → capped n ≡ too_large
unfolding capped
cap_high n h = rw (le-ltb n too_large h)

pub cap_le : (n : ℕ) → capped n ≤ too_large
cap_le n = go (ltb n too_large) refl
  where
    go : (s : Bool) → ltb n too_large ≡ s → capped n ≤ too_large
    go true e = omega (arith, ltb-true n too_large e, cap_low n (ltb-true n too_large e))
    go false e = omega (arith, cap_high n (ltb-false n too_large e))

pub cap_small : (n : ℕ) → n ≤ too_large → capped n ≡ n
cap_small n h = go (ltb n too_large) refl
  where
    go : (s : Bool) → ltb n too_large ≡ s → capped n ≡ n
    go true e = cap_low n (ltb-true n too_large e)
    go false e = let k = ltb-false n too_large e in cap_high n k ∙ omega arith

pub cap_twice : (n : ℕ) → capped (capped n) ≡ capped n
cap_twice n = cap_small (capped n) (cap_le n)

-- one digit more
cap_grow : (x y d : ℕ) → capped x ≡ capped y → capped (10 * x + d) ≡ capped (10 * y + d)
cap_grow x y d h = go (ltb x too_large) (ltb y too_large) refl refl
  where
    go : (s t : Bool) → ltb x too_large ≡ s → ltb y too_large ≡ t → capped (10 * x + d) ≡ capped (10 * y + d)
    go true true e f = ap (λ (n : ℕ). capped (10 * n + d)) (sym (cap_low x (ltb-true x too_large e)) ∙ h ∙ cap_low y (ltb-true y too_large f))
    go true false e f = absurd (omega (arith, ltb-true x too_large e, cap_low x (ltb-true x too_large e), cap_high y (ltb-false y too_large f)))
    go false true e f = absurd (omega (arith, ltb-true y too_large f, cap_low y (ltb-true y too_large f), cap_high x (ltb-false x too_large e)))
    go false false e f =
        let p : too_large ≤ 10 * x + d = omega (arith, ltb-false x too_large e) in
        let q : too_large ≤ 10 * y + d = omega (arith, ltb-false y too_large f) in
        cap_high (10 * x + d) p ∙ sym (cap_high (10 * y + d) q)

-- all the digits that follow
pub worth-capped : (m : List Letter) (x y : ℕ) → capped x ≡ capped y → capped (worth x m) ≡ capped (worth y m)
unfolding worth
worth-capped [] x y h = h
worth-capped (l ∷ m) x y h =
    go (dec (Role-discrete l.role later)) (worth-capped m (10 * x + (l.byte - 48)) (10 * y + (l.byte - 48)) (cap_grow x y (l.byte - 48) h))
  where
    go : (s : Bool) → capped (worth (10 * x + (l.byte - 48)) m) ≡ capped (worth (10 * y + (l.byte - 48)) m)
        → capped (if s then worth (10 * x + (l.byte - 48)) m else x) ≡ capped (if s then worth (10 * y + (l.byte - 48)) m else y)
    go true e = e
    go false e = h
