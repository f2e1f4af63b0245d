-- How far discs, segments with their width, and boxes reach along x and along y.
-- Assumes nothing.
use Rattle.std.specs.Prelude.{if◌then◌else◌}
use mathlib.Core.Path.{◌≡◌, refl, ap, subst}
use mathlib.Core.Bool.{Bool, true, false}
use Prim.Native.Nat.{ℕ, ◌+◌, ◌*◌, ◌≤◌, ◌<◌}
use native.Mathlib.Nat.{mul-le-mul, mul-le-mul_left, le_of_mul-le-mul_left}
use native.Mathlib.Omega.{arith}
use borrow.Author.Tests.{eqb-true}
use lib.IntN.{ℤ, pos, negsuc, nat_abs, ◌+ℤ◌, ◌-ℤ◌, ◌*ℤ◌}
use lib.Signed.{◌≤ℤ◌}
use Rattle.definition.specs.Words.{Point, point}
use Rattle.definition.specs.Faults.{zero?}
use Rattle.figures.specs.Figure.{◌⊖◌, squared, norm, Within, toward, aside, Boxed, Segment, Near}
use Rattle.definition.specs.Window.{Window, box_reach, around}
use Rattle.figures.proofs.Sums.{Sum, whole, count, ◌⊞◌, ◌⊟◌, ◌⊠◌, eq→, →eq, le→, →le, abs→, abs_mul, abs_add, abs_sub, root}
use Rattle.figures.proofs.Lists.{Spans, Holds}

-- ---- one coordinate

low : (c : ℤ) (r : ℕ) (x l : ℤ) → 2 * nat_abs (x -ℤ c) ≤ r → l ≤ℤ (pos 2 *ℤ c -ℤ pos r) → l ≤ℤ (pos 2 *ℤ x)
low c r x l h k = →le (whole l) (count 2 ⊠ whole x) (omega (arith, abs→ (whole x ⊟ whole c), le→ (whole l) (count 2 ⊠ whole c ⊟ count r) k))

high : (c : ℤ) (r : ℕ) (x l : ℤ) → 2 * nat_abs (x -ℤ c) ≤ r → (pos 2 *ℤ c +ℤ pos r) ≤ℤ l → (pos 2 *ℤ x) ≤ℤ l
high c r x l h k = →le (count 2 ⊠ whole x) (whole l) (omega (arith, abs→ (whole x ⊟ whole c), le→ (count 2 ⊠ whole c ⊞ count r) (whole l) k))

module _ (s t w : ℕ) (some : 0 < s + t) (a b x : ℤ) (h : 2 * nat_abs (pos (s + t) *ℤ x -ℤ (pos s *ℤ a +ℤ pos t *ℤ b)) ≤ (s + t) * w) where
  mid : Sum
  mid = count (s + t) ⊠ whole x ⊟ (count s ⊠ whole a ⊞ count t ⊠ whole b)

  near-low : (l : ℤ) → l ≤ℤ (pos 2 *ℤ a -ℤ pos w) → l ≤ℤ (pos 2 *ℤ b -ℤ pos w) → l ≤ℤ (pos 2 *ℤ x)
  unfolding mid
  near-low l f g =
      →le (whole l) (count 2 ⊠ whole x) (le_of_mul-le-mul_left {k = s + t} (omega (
        arith,
        abs→ mid,
        mul-le-mul_left s (le→ (whole l) (count 2 ⊠ whole a ⊟ count w) f),
        mul-le-mul_left t (le→ (whole l) (count 2 ⊠ whole b ⊟ count w) g),
      )) some)

  near_high : (l : ℤ) → (pos 2 *ℤ a +ℤ pos w) ≤ℤ l → (pos 2 *ℤ b +ℤ pos w) ≤ℤ l → (pos 2 *ℤ x) ≤ℤ l
  unfolding mid
  near_high l f g =
      →le (count 2 ⊠ whole x) (whole l) (le_of_mul-le-mul_left {k = s + t} (omega (
        arith,
        abs→ mid,
        mul-le-mul_left s (le→ (count 2 ⊠ whole a ⊞ count w) (whole l) f),
        mul-le-mul_left t (le→ (count 2 ⊠ whole b ⊞ count w) (whole l) g),
      )) some)

-- ---- discs and segments

within-x : {d : ℕ} {q p : Point ℤ} → Within d q p → 2 * nat_abs (p.x -ℤ q.x) ≤ d
within-x {d} {q} {p} h = root (2 * nat_abs (p.x -ℤ q.x)) d (omega (arith, h.close))

within-y : {d : ℕ} {q p : Point ℤ} → Within d q p → 2 * nat_abs (p.y -ℤ q.y) ≤ d
within-y {d} {q} {p} h = root (2 * nat_abs (p.y -ℤ q.y)) d (omega (arith, h.close))

-- an offset of at most r / 2 along x and along y
pub record Reached (r u : Point ℤ) : Type 0 where
  pub rx : ℕ
  pub ry : ℕ
  pub is : r ≡ point (pos rx) (pos ry)
  pub x-most : 2 * nat_abs u.x ≤ rx
  pub y-most : 2 * nat_abs u.y ≤ ry

pub disc-reached : {d : ℕ} {c p : Point ℤ} → Within d c p → Reached (point (pos d) (pos d)) (p ⊖ c)
disc-reached {d} h = record { rx = d; ry = d; is = refl; x-most = within-x h; y-most = within-y h }

pub reached-held : {v : Window} {r : Point ℤ} (c p : Point ℤ) → Reached r (p ⊖ c) → Spans v (around r c) → Holds v p
unfolding around
reached-held {v} {r} c p h k = go (subst (λ (q : Point ℤ). Spans v (around q c)) h.is k)
  where
    go : Spans v (around (point (pos h.rx) (pos h.ry)) c) → Holds v p
    go s = record {
      from_left = low c.x h.rx p.x v.left h.x-most s.left;
      from_bottom = low c.y h.ry p.y v.bottom h.y-most s.bottom;
      to_right = high c.x h.rx p.x v.right h.x-most s.right;
      to_top = high c.y h.ry p.y v.top h.y-most s.top;
    }

pub near-held : {v : Window} {w : ℕ} {e : Segment} {p : Point ℤ} → Near w e p
    → Spans v (around (point (pos w) (pos w)) e.from) × Spans v (around (point (pos w) (pos w)) e.to) → Holds v p
unfolding around
near-held {v} {w} {e} {p} h k =
    let a = e.from in
    let b = e.to in
    let hx = within-x h.close in
    let hy = within-y h.close in
    record {
      from_left = near-low h.s h.t w h.some a.x b.x p.x hx v.left k.0.left k.1.left;
      from_bottom = near-low h.s h.t w h.some a.y b.y p.y hy v.bottom k.0.bottom k.1.bottom;
      to_right = near_high h.s h.t w h.some a.x b.x p.x hx v.right k.0.right k.1.right;
      to_top = near_high h.s h.t w h.some a.y b.y p.y hy v.top k.0.top k.1.top;
    }

-- ---- boxes: the offset u is what it goes along the direction and across it, put together again

norm_is : (x y : ℤ) → nat_abs (x *ℤ x +ℤ y *ℤ y) ≡ squared x + squared y
norm_is (pos a) (pos b) = refl
norm_is (pos a) (negsuc b) = refl
norm_is (negsuc a) (pos b) = refl
norm_is (negsuc a) (negsuc b) = refl

straight : (e f x : ℤ) → (e *ℤ e +ℤ f *ℤ f) *ℤ x ≡ x *ℤ e *ℤ e +ℤ x *ℤ f *ℤ f
straight e f x =
    →eq ((whole e ⊠ whole e ⊞ whole f ⊠ whole f) ⊠ whole x) (whole x ⊠ whole e ⊠ whole e ⊞ whole x ⊠ whole f ⊠ whole f) (omega arith)

turned : (e f x : ℤ) → x *ℤ f *ℤ e ≡ x *ℤ e *ℤ f
turned e f x = →eq (whole x ⊠ whole f ⊠ whole e) (whole x ⊠ whole e ⊠ whole f) (omega arith)

gather_x : (n p q r s e f : ℤ) → n ≡ p *ℤ e +ℤ r *ℤ f → q *ℤ e ≡ s *ℤ f → n ≡ (p +ℤ q) *ℤ e +ℤ (r -ℤ s) *ℤ f
gather_x n p q r s e f h k =
    →eq (whole n) ((whole p ⊞ whole q) ⊠ whole e ⊞ (whole r ⊟ whole s) ⊠ whole f)
    (omega (arith, eq→ (whole n) (whole p ⊠ whole e ⊞ whole r ⊠ whole f) h, eq→ (whole q ⊠ whole e) (whole s ⊠ whole f) k))

gather_y : (n p q r s e f : ℤ) → n ≡ s *ℤ e +ℤ q *ℤ f → p *ℤ f ≡ r *ℤ e → n ≡ (p +ℤ q) *ℤ f -ℤ (r -ℤ s) *ℤ e
gather_y n p q r s e f h k =
    →eq (whole n) ((whole p ⊞ whole q) ⊠ whole f ⊟ (whole r ⊟ whole s) ⊠ whole e)
    (omega (arith, eq→ (whole n) (whole s ⊠ whole e ⊞ whole q ⊠ whole f) h, eq→ (whole p ⊠ whole f) (whole r ⊠ whole e) k))

module _ (d u : Point ℤ) where
  split-x : (d.x *ℤ d.x +ℤ d.y *ℤ d.y) *ℤ u.x ≡ toward d u *ℤ d.x +ℤ aside d u *ℤ d.y
  split-x = gather_x _ (u.x *ℤ d.x) (u.y *ℤ d.y) (u.x *ℤ d.y) (u.y *ℤ d.x) d.x d.y (straight d.x d.y u.x) (turned d.x d.y u.y)

  split-y : (d.x *ℤ d.x +ℤ d.y *ℤ d.y) *ℤ u.y ≡ toward d u *ℤ d.y -ℤ aside d u *ℤ d.x
  split-y = gather_y _ (u.x *ℤ d.x) (u.y *ℤ d.y) (u.x *ℤ d.y) (u.y *ℤ d.x) d.x d.y (straight d.x d.y u.y) (turned d.y d.x u.x)

  most-x : norm d * nat_abs u.x ≤ nat_abs (toward d u) * nat_abs d.x + nat_abs (aside d u) * nat_abs d.y
  most-x = rw (← norm_is d.x d.y, ← abs_mul (d.x *ℤ d.x +ℤ d.y *ℤ d.y) u.x, split-x, ← abs_mul (toward d u) d.x, ← abs_mul (aside d u) d.y)
      (abs_add (toward d u *ℤ d.x) (aside d u *ℤ d.y))

  most-y : norm d * nat_abs u.y ≤ nat_abs (toward d u) * nat_abs d.y + nat_abs (aside d u) * nat_abs d.x
  most-y = rw (← norm_is d.x d.y, ← abs_mul (d.x *ℤ d.x +ℤ d.y *ℤ d.y) u.y, split-y, ← abs_mul (toward d u) d.y, ← abs_mul (aside d u) d.x)
      (abs_sub (toward d u *ℤ d.y) (aside d u *ℤ d.x))

leg : (a l n g : ℕ) → 4 * (a * a) ≤ l * l * n → g * g ≤ n → 2 * (a * g) ≤ l * n
leg a l n g h k = root (2 * (a * g)) (l * n) (omega (arith, mul-le-mul h k))

-- over natural numbers: a and b are what goes along and across, e and f the direction, x and y the offset
record Legs (l w e f x y : ℕ) : Type 0 where
  slanting : (2 * x ≤ l + w) × (2 * y ≤ l + w)
  flat : f ≡ 0 → (2 * x ≤ l) × (2 * y ≤ w)
  steep : e ≡ 0 → (2 * x ≤ w) × (2 * y ≤ l)

legs : (l w a b e f x y : ℕ) → 0 < e * e + f * f → 4 * (a * a) ≤ l * l * (e * e + f * f) → 4 * (b * b) ≤ w * w * (e * e + f * f)
    → (e * e + f * f) * x ≤ a * e + b * f → (e * e + f * f) * y ≤ a * f + b * e → Legs l w e f x y
legs l w a b e f x y n h k p q =
    let n₀ = e * e + f * f in
    let shorter : (m₁ m₂ : ℕ) → n₀ * m₁ ≤ n₀ * m₂ → m₁ ≤ m₂ = λ m₁ m₂ i. le_of_mul-le-mul_left {m = m₁} {n = m₂} i n in
    let ae = leg a l n₀ e h (omega arith) in
    let af = leg a l n₀ f h (omega arith) in
    let be = leg b w n₀ e k (omega arith) in
    let bf = leg b w n₀ f k (omega arith) in
    record {
      slanting = (shorter (2 * x) (l + w) (omega arith), shorter (2 * y) (l + w) (omega arith));
      flat = λ z. (shorter (2 * x) l (omega (arith, ap (λ i. b * i) z)), shorter (2 * y) w (omega (arith, ap (λ i. a * i) z)));
      steep = λ z. (shorter (2 * x) w (omega (arith, ap (λ i. a * i) z)), shorter (2 * y) l (omega (arith, ap (λ i. b * i) z)));
    }

pub box_reached : {l w : ℕ} {c d p : Point ℤ} → Boxed l w c d p → Reached (box_reach (pos l) (pos w) d) (p ⊖ c)
unfolding box_reach
box_reached {l} {w} {c} {d} {p} h =
    let u = p ⊖ c in
    go (legs l w (nat_abs (toward d u)) (nat_abs (aside d u)) (nat_abs d.x) (nat_abs d.y) (nat_abs u.x) (nat_abs u.y) h.aimed h.along h.across (most-x d u) (most-y d u))
    (zero? d.y) refl (zero? d.x) refl
  where
    go : Legs l w (nat_abs d.x) (nat_abs d.y) (nat_abs (p.x -ℤ c.x)) (nat_abs (p.y -ℤ c.y)) → (b : Bool) → zero? d.y ≡ b → (t : Bool) → zero? d.x ≡ t
        → Reached (if b then point (pos l) (pos w) else if t then point (pos w) (pos l) else point (pos l +ℤ pos w) (pos l +ℤ pos w)) (p ⊖ c)
    go g true e t f = record { rx = l; ry = w; is = refl; x-most = (g.flat (eqb-true _ _ e)).0; y-most = (g.flat (eqb-true _ _ e)).1 }
    go g false e true f = record { rx = w; ry = l; is = refl; x-most = (g.steep (eqb-true _ _ f)).0; y-most = (g.steep (eqb-true _ _ f)).1 }
    go g false e false f = record { rx = l + w; ry = l + w; is = refl; x-most = g.slanting.0; y-most = g.slanting.1 }
