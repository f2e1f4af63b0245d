-- The numbers of a window lie within four times 16,777,215 of zero, where sizes and points lie within 16,777,215: sums of 64 bits hold them.
-- Assumes nothing.
use Rattle.std.specs.Prelude.{if◌then◌else◌}
use mathlib.Core.Bool.{Bool, true, false}
use mathlib.Core.List.{List, [], ◌∷◌, map}
use Prim.Native.Nat.{ℕ, ◌*◌, ◌≤◌}
use native.Mathlib.Omega.{arith}
use lib.IntN.{ℤ, pos, nat_abs, ◌+ℤ◌, ◌-ℤ◌, ◌*ℤ◌}
use lib.ListN.{get_or}
use Rattle.definition.specs.Words.{Point, point}
use Rattle.definition.specs.Commands.{Kind, box, flash, wire, polygon, Shape}
use Rattle.definition.specs.Faults.{zero?}
use Rattle.laws.proofs.Lists.Range.{All}
use Rattle.definition.specs.Window.{Window, box_reach, reach_of, reach, around, windows}
use Rattle.figures.proofs.Sums.{whole, count, ◌⊞◌, ◌⊟◌, ◌⊠◌, abs→, →abs, abs_add}

module _ (m : ℕ) where
  abbrev Small : Point ℤ → Type 0
  Small p = (nat_abs p.x ≤ m) × (nat_abs p.y ≤ m)

  abbrev Twice : Point ℤ → Type 0
  Twice p = (nat_abs p.x ≤ 2 * m) × (nat_abs p.y ≤ 2 * m)

  pub record Ranged (w : Window) : Type 0 where
    pub left : nat_abs w.left ≤ 4 * m
    pub bottom : nat_abs w.bottom ≤ 4 * m
    pub right : nat_abs w.right ≤ 4 * m
    pub top : nat_abs w.top ≤ 4 * m

  first_small : (zs : List ℤ) → All (λ z. nat_abs z ≤ m) zs → nat_abs (get_or zs 0 (pos 0)) ≤ m
  unfolding All
  first_small [] h = omega arith
  first_small (z ∷ zs) h = h.0

  second_small : (zs : List ℤ) → All (λ z. nat_abs z ≤ m) zs → nat_abs (get_or zs 1 (pos 0)) ≤ m
  unfolding All
  second_small [] h = omega arith
  second_small (y ∷ zs) h = first_small zs h.1

  box_twice : (l w : ℤ) (d : Point ℤ) → nat_abs l ≤ m → nat_abs w ≤ m → Twice (box_reach l w d)
  unfolding box_reach
  box_twice l w d h k = go (zero? d.y) (zero? d.x)
    where
      go : (a b : Bool) → Twice (if a then point l w else if b then point w l else point (l +ℤ w) (l +ℤ w))
      go true b = omega arith
      go false true = omega arith
      go false false = omega (arith, abs_add l w)

  kind_twice : (k : Kind) (l w : ℤ) (d : Point ℤ) → nat_abs l ≤ m → nat_abs w ≤ m → Twice (reach_of k l w d)
  unfolding reach_of
  kind_twice box l w d h k = box_twice l w d h k
  kind_twice flash l w d h k = omega arith
  kind_twice wire l w d h k = omega arith
  kind_twice polygon l w d h k = omega arith

  low-most : (c r : ℤ) → nat_abs c ≤ m → nat_abs r ≤ 2 * m → nat_abs (pos 2 *ℤ c -ℤ r) ≤ 4 * m
  low-most c r h k = →abs (count 2 ⊠ whole c ⊟ whole r) (4 * m) (omega (arith, abs→ (whole c), abs→ (whole r))) (omega (arith, abs→ (whole c), abs→ (whole r)))

  high_most : (c r : ℤ) → nat_abs c ≤ m → nat_abs r ≤ 2 * m → nat_abs (pos 2 *ℤ c +ℤ r) ≤ 4 * m
  high_most c r h k = →abs (count 2 ⊠ whole c ⊞ whole r) (4 * m) (omega (arith, abs→ (whole c), abs→ (whole r))) (omega (arith, abs→ (whole c), abs→ (whole r)))

  around_ranged : (r c : Point ℤ) → Twice r → Small c → Ranged (around r c)
  unfolding around
  around_ranged r c h k = record {
    left = low-most c.x r.x k.0 h.0;
    bottom = low-most c.y r.y k.1 h.1;
    right = high_most c.x r.x k.0 h.0;
    top = high_most c.y r.y k.1 h.1;
  }

  all_ranged : (r : Point ℤ) (ps : List (Point ℤ)) → Twice r → All Small ps → All Ranged (map (around r) ps)
  unfolding All
  all_ranged r [] h k = tt
  all_ranged r (p ∷ ps) h k = (around_ranged r p h k.0, all_ranged r ps h k.1)

  pub windows_ranged : (k : Shape ℤ) → All (λ z. nat_abs z ≤ m) k.sizes → All Small k.points → All Ranged (windows k)
  unfolding windows reach
  windows_ranged k h p = all_ranged (reach k) k.points (kind_twice k.kind _ _ _ (first_small k.sizes h) (second_small k.sizes h)) p
