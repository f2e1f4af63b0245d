-- A point has many names, (x / n, y / n) and (m x / m n, m y / m n): whether a figure covers it does not depend on the name.
-- Assumes nothing.
use mathlib.Core.Path.{◌≡◌, refl, sym, ap, ap₂, ◌∙◌, subst}
use mathlib.Core.Logic.{◌≢◌, ◌⊎◌, inl, inr, ◌↔◌}
use mathlib.Core.Bool.{Bool, true, false, cond}
use mathlib.Core.List.{List, [], ◌∷◌, map, map-append}
use Prim.Native.Nat.{ℕ, ◌+◌, ◌*◌, ◌≤◌, ◌<◌}
use native.Mathlib.Nat.{mul-le-mul, mul-le-mul_left, le_of_mul-le-mul_left, mul-lt-mul_of_pos_left}
use native.Mathlib.Omega.{arith}
use lib.IntN.{ℤ, pos, nat_abs, ◌+ℤ◌, ◌-ℤ◌, ◌*ℤ◌}
use lib.Signed.{lt_z}
use Rattle.definition.specs.Words.{Point, point}
use Rattle.definition.specs.Commands.{box, flash, wire, polygon, Shape, shape_of}
use Rattle.laws.proofs.FlatFile.Shapes
use Rattle.laws.proofs.FlatFile.Shapes.{Formed}
use Rattle.figures.specs.Figure.{◌∈◌, ◌·◌, ◌⊕◌, ◌⊖◌, norm, Within, toward, aside, Boxed, Segment, segment, segments, Near, closed, edges, side, crossing, winding, Covers, disc, boxed, wired, bordered, wound, magnified, Figure}
use Rattle.figures.proofs.Sums.{whole, count, ◌⊞◌, ◌⊟◌, ◌⊠◌, hi, lo, →eq, lt→, →lt, →nlt, abs_mul}
use Rattle.figures.proofs.Tight.{in_map, of_map}

-- ---- m times as far

minus : (m : ℕ) (x y : ℤ) → pos m *ℤ x -ℤ pos m *ℤ y ≡ pos m *ℤ (x -ℤ y)
minus m x y = →eq (count m ⊠ whole x ⊟ count m ⊠ whole y) (count m ⊠ (whole x ⊟ whole y)) (omega arith)

times : (m : ℕ) (x : ℤ) → nat_abs (pos m *ℤ x) ≡ m * nat_abs x
times m x = abs_mul (pos m) x

parts : (m s t : ℕ) (x a b : ℤ) → pos (s + t) *ℤ (pos m *ℤ x) -ℤ (pos s *ℤ (pos m *ℤ a) +ℤ pos t *ℤ (pos m *ℤ b)) ≡ pos m *ℤ (pos (s + t) *ℤ x -ℤ (pos s *ℤ a +ℤ pos t *ℤ b))
parts m s t x a b = →eq (count (s + t) ⊠ (count m ⊠ whole x) ⊟ (count s ⊠ (count m ⊠ whole a) ⊞ count t ⊠ (count m ⊠ whole b))) (count m ⊠ (count (s + t) ⊠ whole x ⊟ (count s ⊠ whole a ⊞ count t ⊠ whole b))) (omega arith)

sum : (m : ℕ) (x y d e : ℤ) → pos m *ℤ x *ℤ d +ℤ pos m *ℤ y *ℤ e ≡ pos m *ℤ (x *ℤ d +ℤ y *ℤ e)
sum m x y d e = →eq (count m ⊠ whole x ⊠ whole d ⊞ count m ⊠ whole y ⊠ whole e) (count m ⊠ (whole x ⊠ whole d ⊞ whole y ⊠ whole e)) (omega arith)

difference : (m : ℕ) (x y d e : ℤ) → pos m *ℤ x *ℤ d -ℤ pos m *ℤ y *ℤ e ≡ pos m *ℤ (x *ℤ d -ℤ y *ℤ e)
difference m x y d e = →eq (count m ⊠ whole x ⊠ whole d ⊟ count m ⊠ whole y ⊠ whole e) (count m ⊠ (whole x ⊠ whole d ⊟ whole y ⊠ whole e)) (omega arith)

module _ (m : ℕ) (some : 0 < m) where
  -- an inequality between squares, and the same with both sides m times as long
  both : (a b d a' b' d' : ℕ) → a' ≡ m * a → b' ≡ m * b → d' ≡ m * d → (4 * (a * a + b * b) ≤ d * d) ↔ (4 * (a' * a' + b' * b') ≤ d' * d')
  both a b d a' b' d' e f g =
      rw (e, f, g) (λ h. omega (arith, mul-le-mul_left (m * m) h), λ h. le_of_mul-le-mul_left {m = 4 * (a * a + b * b)} {n = d * d} {k = m * m} (omega arith) (mul-le-mul some some))

  one : (a d n a' d' : ℕ) → a' ≡ m * a → d' ≡ m * d → (4 * (a * a) ≤ d * d * n) ↔ (4 * (a' * a') ≤ d' * d' * n)
  one a d n a' d' e g =
      rw (e, g) (λ h. omega (arith, mul-le-mul_left (m * m) h), λ h. le_of_mul-le-mul_left {m = 4 * (a * a)} {n = d * d * n} {k = m * m} (omega arith) (mul-le-mul some some))

  within_more : (d : ℕ) (q p : Point ℤ) → Within d q p ↔ Within (m * d) (m · q) (m · p)
  within_more d q p =
      let i = both (nat_abs (p.x -ℤ q.x)) (nat_abs (p.y -ℤ q.y)) d _ _ (m * d)
      (ap nat_abs (minus m p.x q.x) ∙ times m (p.x -ℤ q.x)) (ap nat_abs (minus m p.y q.y) ∙ times m (p.y -ℤ q.y)) refl in
      (λ h. record { close = i.0 h.close }, λ h. record { close = i.1 h.close })

  -- ---- boxes

  toward-more : (c d p : Point ℤ) → nat_abs (toward d (m · p ⊖ m · c)) ≡ m * nat_abs (toward d (p ⊖ c))
  toward-more c d p =
      ap nat_abs (ap₂ (λ u v. u *ℤ d.x +ℤ v *ℤ d.y) (minus m p.x c.x) (minus m p.y c.y) ∙ sum m (p.x -ℤ c.x) (p.y -ℤ c.y) d.x d.y) ∙ times m (toward d (p ⊖ c))

  aside-more : (c d p : Point ℤ) → nat_abs (aside d (m · p ⊖ m · c)) ≡ m * nat_abs (aside d (p ⊖ c))
  aside-more c d p =
      ap nat_abs (ap₂ (λ u v. u *ℤ d.y -ℤ v *ℤ d.x) (minus m p.x c.x) (minus m p.y c.y) ∙ difference m (p.x -ℤ c.x) (p.y -ℤ c.y) d.y d.x) ∙ times m (aside d (p ⊖ c))

  boxed-more : (l w : ℕ) (c d p : Point ℤ) → Boxed l w c d p ↔ Boxed (m * l) (m * w) (m · c) d (m · p)
  boxed-more l w c d p =
      let t = one (nat_abs (toward d (p ⊖ c))) l (norm d) _ (m * l) (toward-more c d p) refl in
      let a = one (nat_abs (aside d (p ⊖ c))) w (norm d) _ (m * w) (aside-more c d p) refl in
      (λ h. record { aimed = h.aimed; along = t.0 h.along; across = a.0 h.across }, λ h. record { aimed = h.aimed; along = t.1 h.along; across = a.1 h.across })

  -- ---- segments

  abbrev farther : Segment → Segment
  farther e = segment (m · e.from) (m · e.to)

  near-more : (w : ℕ) (e : Segment) (p : Point ℤ) → Near w e p ↔ Near (m * w) (farther e) (m · p)
  near-more w e p = (
    λ h. record { s = h.s; t = h.t; some = h.some; close = record { close = (i h.s h.t).0 h.close.close } },
    λ h. record { s = h.s; t = h.t; some = h.some; close = record { close = (i h.s h.t).1 h.close.close } },
  )
    where
      off : ℕ → ℕ → ℤ → ℤ → ℤ → ℤ
      off s t x a b = pos (s + t) *ℤ x -ℤ (pos s *ℤ a +ℤ pos t *ℤ b)

      i : (s t : ℕ) → (4 * norm ((s + t) · p ⊖ (s · e.from ⊕ t · e.to)) ≤ (s + t) * w * ((s + t) * w))
          ↔ (4 * norm ((s + t) · (m · p) ⊖ (s · (m · e.from) ⊕ t · (m · e.to))) ≤ (s + t) * (m * w) * ((s + t) * (m * w)))
      i s t = both (nat_abs (off s t p.x e.from.x e.to.x)) (nat_abs (off s t p.y e.from.y e.to.y)) ((s + t) * w) _ _ ((s + t) * (m * w))
          (ap nat_abs (parts m s t p.x e.from.x e.to.x) ∙ times m (off s t p.x e.from.x e.to.x))
          (ap nat_abs (parts m s t p.y e.from.y e.to.y) ∙ times m (off s t p.y e.from.y e.to.y)) (omega arith)

  -- ---- paths

  abbrev far : List (Point ℤ) → List (Point ℤ)
  far ps = map (λ p. m · p) ps

  segments-more : (ps : List (Point ℤ)) → segments (far ps) ≡ map farther (segments ps)
  unfolding segments
  segments-more [] = refl
  segments-more (a ∷ []) = refl
  segments-more (a ∷ b ∷ ps) = ap (λ (es : List Segment). segment (m · a) (m · b) ∷ es) (segments-more (b ∷ ps))

  closed-more : (ps : List (Point ℤ)) → closed (far ps) ≡ far (closed ps)
  unfolding closed
  closed-more [] = refl
  closed-more (a ∷ ps) = ap (λ (qs : List (Point ℤ)). m · a ∷ qs) (sym (map-append (λ p. m · p) ps (a ∷ [])))

  edges_more : (ps : List (Point ℤ)) → edges (far ps) ≡ map farther (edges ps)
  edges_more ps = ap segments (closed-more ps) ∙ segments-more (closed ps)

  -- ---- winding numbers

  less-more : (x y : ℤ) → lt_z (pos m *ℤ x) (pos m *ℤ y) ≡ lt_z x y
  less-more x y = go (lt_z x y) (lt→ (whole x) (whole y) _ refl)
    where
      go : (t : Bool) → cond t (hi (whole x) + lo (whole y) < hi (whole y) + lo (whole x)) (hi (whole y) + lo (whole x) ≤ hi (whole x) + lo (whole y)) → lt_z (pos m *ℤ x) (pos m *ℤ y) ≡ t
      go true h = →lt (count m ⊠ whole x) (count m ⊠ whole y) (omega (arith, mul-lt-mul_of_pos_left h some))
      go false h = →nlt (count m ⊠ whole x) (count m ⊠ whole y) (omega (arith, mul-le-mul_left m h))

  product : (x y : ℤ) → pos m *ℤ x *ℤ (pos m *ℤ y) ≡ pos m *ℤ (pos m *ℤ (x *ℤ y))
  product x y = →eq (count m ⊠ whole x ⊠ (count m ⊠ whole y)) (count m ⊠ (count m ⊠ (whole x ⊠ whole y))) (omega arith)

  side-more : (e : Segment) (p : Point ℤ) → side (farther e) (m · p) ≡ pos m *ℤ (pos m *ℤ side e p)
  side-more e p =
      let a = e.from in
      let b = e.to in
      ap₂ (λ u v. u -ℤ v)
      (ap₂ (λ u v. u *ℤ v) (minus m b.x a.x) (minus m p.y a.y) ∙ product (b.x -ℤ a.x) (p.y -ℤ a.y))
      (ap₂ (λ u v. u *ℤ v) (minus m b.y a.y) (minus m p.x a.x) ∙ product (b.y -ℤ a.y) (p.x -ℤ a.x))
      ∙ minus m (pos m *ℤ ((b.x -ℤ a.x) *ℤ (p.y -ℤ a.y))) (pos m *ℤ ((b.y -ℤ a.y) *ℤ (p.x -ℤ a.x)))
      ∙ ap (λ z. pos m *ℤ z) (minus m ((b.x -ℤ a.x) *ℤ (p.y -ℤ a.y)) ((b.y -ℤ a.y) *ℤ (p.x -ℤ a.x)))

  zeros : pos 0 ≡ pos m *ℤ (pos m *ℤ pos 0)
  zeros = →eq (count 0) (count m ⊠ (count m ⊠ count 0)) (omega arith)

  crossing-more : (p : Point ℤ) (e : Segment) → crossing (m · p) (farther e) ≡ crossing p e
  unfolding crossing
  crossing-more p e = rw (less-more p.y e.from.y, less-more p.y e.to.y, left-more, right-more)
    where
      left-more : lt_z (pos 0) (side (farther e) (m · p)) ≡ lt_z (pos 0) (side e p)
      left-more = ap₂ lt_z zeros (side-more e p) ∙ less-more (pos m *ℤ pos 0) (pos m *ℤ side e p) ∙ less-more (pos 0) (side e p)

      right-more : lt_z (side (farther e) (m · p)) (pos 0) ≡ lt_z (side e p) (pos 0)
      right-more = ap₂ lt_z (side-more e p) zeros ∙ less-more (pos m *ℤ side e p) (pos m *ℤ pos 0) ∙ less-more (side e p) (pos 0)

  winding-more : (p : Point ℤ) (es : List Segment) → winding (m · p) (map farther es) ≡ winding p es
  unfolding winding
  winding-more p [] = refl
  winding-more p (e ∷ es) = ap₂ (λ u v. u +ℤ v) (crossing-more p e) (winding-more p es)

  wound-more : (p : Point ℤ) (ps : List (Point ℤ)) → winding (m · p) (edges (far ps)) ≡ winding p (edges ps)
  wound-more p ps = ap (winding (m · p)) (edges_more ps) ∙ winding-more p (edges ps)

  -- ---- shapes

  pub covers_more : {k : Shape ℤ} {p : Point ℤ} → Covers k p → Covers (magnified m k) (m · p)
  unfolding magnified
  covers_more (disc {d = d} {c = c} {p = p} h) = disc ((within_more d c p).0 h)
  covers_more (boxed {l = l} {w = w} {c = c} {d = d} {p = p} h) = boxed ((boxed-more l w c d p).0 h)
  covers_more (wired {w = w} {ps = ps} {p = p} e i h) = wired (farther e) (subst (λ (es : List Segment). farther e ∈ es) (sym (segments-more ps)) (in_map farther i)) ((near-more w e p).0 h)
  covers_more (bordered {ps = ps} {p = p} e i h) =
      bordered (farther e) (subst (λ (es : List Segment). farther e ∈ es) (sym (edges_more ps)) (in_map farther i)) (subst (λ (w : ℕ). Near w (farther e) (m · p)) (omega arith) ((near-more 0 e p).0 h))
  covers_more (wound {ps = ps} {p = p} h) = wound (λ z. h (sym (wound-more p ps) ∙ z))

-- what covers a point of each kind
flash_covers : {d : ℕ} {c p : Point ℤ} → Covers (shape_of flash (pos d ∷ []) (c ∷ []) []) p → Within d c p
flash_covers (disc h) = h

box_covers : {l w : ℕ} {c d p : Point ℤ} → Covers (shape_of box (pos l ∷ pos w ∷ []) (c ∷ []) (d ∷ [])) p → Boxed l w c d p
box_covers (boxed h) = h

wire_covers : {w : ℕ} {ps : List (Point ℤ)} {p : Point ℤ} → Covers (shape_of wire (pos w ∷ []) ps []) p → (e : Segment) × (e ∈ segments ps) × Near w e p
wire_covers (wired e i h) = (e, i, h)

polygon_covers : {ps : List (Point ℤ)} {p : Point ℤ} → Covers (shape_of polygon [] ps []) p → ((e : Segment) × (e ∈ edges ps) × Near 0 e p) ⊎ (winding p (edges ps) ≢ pos 0)
polygon_covers (bordered e i h) = inl (e, i, h)
polygon_covers (wound h) = inr h

module _ (m : ℕ) (some : 0 < m) where
  pub covers_less : {k : Shape ℤ} (p : Point ℤ) → Formed k → Covers (magnified m k) (m · p) → Covers k p
  unfolding magnified
  covers_less p (Shapes.a_flash d c) h = disc ((within_more m some d c p).1 (flash_covers h))
  covers_less p (Shapes.a_box l w c d) h = boxed ((boxed-more m some l w c d p).1 (box_covers h))
  covers_less p (Shapes.a_wire w ps) h =
      let r = wire_covers h in
      let e = of_map (farther m some) (segments ps) (subst (λ (es : List Segment). r.0 ∈ es) (segments-more m some ps) r.1) in
      wired e.0 e.1 ((near-more m some w e.0 p).1 (subst (λ (f : Segment). Near (m * w) f (m · p)) e.2 r.2))
  covers_less p (Shapes.a_polygon ps) h = go (polygon_covers h)
    where
      go : ((e : Segment) × (e ∈ edges (map (λ q. m · q) ps)) × Near 0 e (m · p)) ⊎ (winding (m · p) (edges (map (λ q. m · q) ps)) ≢ pos 0) → Covers (shape_of polygon [] ps []) p
      go (inl r) =
          let e = of_map (farther m some) (edges ps) (subst (λ (es : List Segment). r.0 ∈ es) (edges_more m some ps) r.1) in
          let n : Near 0 (farther m some e.0) (m · p) = subst (λ (f : Segment). Near 0 f (m · p)) e.2 r.2 in
          bordered e.0 e.1 ((near-more m some 0 e.0 p).1 (subst (λ (w : ℕ). Near w (farther m some e.0) (m · p)) (omega arith) n))
      go (inr f) = wound (λ z. f (wound-more m some p ps ∙ z))

-- ---- fractions

again : (m n : ℕ) (z : ℤ) → pos m *ℤ (pos n *ℤ z) ≡ pos (m * n) *ℤ z
again m n z = →eq (count m ⊠ (count n ⊠ whole z)) (count (m * n) ⊠ whole z) (omega arith)

all_again : {A : Type 0} (f g h : A → A) → ((a : A) → f (g a) ≡ h a) → (l : List A) → map f (map g l) ≡ map h l
all_again f g h e [] = refl
all_again f g h e (a ∷ l) = ap₂ (λ b c. b ∷ c) (e a) (all_again f g h e l)

magnified-again : (m n : ℕ) (k : Shape ℤ) → magnified m (magnified n k) ≡ magnified (m * n) k
unfolding magnified
magnified-again m n k =
    ap₂ (λ zs ps. shape_of k.kind zs ps k.directions) (all_again _ _ _ (again m n) k.sizes) (all_again _ _ _ (λ p. ap₂ (λ x y. point x y) (again m n p.x) (again m n p.y)) k.points)

formed_magnified : (n : ℕ) {k : Shape ℤ} → Formed k → Formed (magnified n k)
unfolding magnified
formed_magnified n (Shapes.a_box a b c d) = Shapes.a_box (n * a) (n * b) (n · c) d
formed_magnified n (Shapes.a_flash a c) = Shapes.a_flash (n * a) (n · c)
formed_magnified n (Shapes.a_wire a ps) = Shapes.a_wire (n * a) (map (λ p. n · p) ps)
formed_magnified n (Shapes.a_polygon ps) = Shapes.a_polygon (map (λ p. n · p) ps)

pub any_name : (m : ℕ) → 0 < m → {k : Shape ℤ} → Formed k → (n : ℕ) → 0 < n → (p : Point ℤ) → Figure k n p ↔ Figure k (m * n) (m · p)
any_name m i {k} f n j p = (
  λ h. record { some = mul-le-mul i j; covered = subst (λ (c : Shape ℤ). Covers c (m · p)) (magnified-again m n k) (covers_more m i h.covered) },
  λ h. record { some = j; covered = covers_less m i p (formed_magnified n f) (subst (λ (c : Shape ℤ). Covers c (m · p)) (sym (magnified-again m n k)) h.covered) },
)
