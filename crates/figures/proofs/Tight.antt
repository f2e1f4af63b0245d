-- On each side of the window about a point of a shape lies a point of its figure, save for slanting boxes: there the window can be too large, by no more
-- than the longer of length and width.
-- Assumes nothing.
use mathlib.Core.Path.{◌≡◌, refl, sym, ap, subst}
use mathlib.Core.Bool.{Bool, true, false, not, ◌&&◌, ◌||◌}
use mathlib.Core.List.Memᴰ
use mathlib.Core.List.{List, [], ◌∷◌, map, nil≢cons}
use Prim.Native.Nat.{ℕ, zero, suc, ◌+◌, ◌*◌, ◌≤◌, ◌<◌}
use native.Mathlib.Nat.{mul-le-mul, mul-le-mul_right, le_trans, le_refl}
use native.Mathlib.Omega.{arith}
use borrow.Author.Tests.{eqb-true, eqb-false}
use lib.Dec.{T, ltb}
use lib.IntN.{ℤ, pos, neg_ℤ, nat_abs, ◌+ℤ◌, ◌-ℤ◌, ◌*ℤ◌}
use lib.ListN.{length}
use Rattle.definition.specs.Words.{Point, point, any}
use Rattle.definition.specs.Commands.{Kind, box, flash, wire, polygon, Shape, shape_of}
use Rattle.definition.specs.Faults.{zero?, nowhere, least, empty_shape}
use Rattle.laws.proofs.FlatFile.Shapes
use Rattle.laws.proofs.FlatFile.Shapes.{Formed}
use Rattle.laws.proofs.FlatFile.Said.{or_first, or_second}
use Rattle.figures.specs.Figure.{◌∈◌, ◌·◌, ◌⊕◌, ◌⊖◌, norm, Within, toward, aside, Boxed, Segment, segment, segments, Near, closed, Covers, disc, boxed, wired, bordered, magnified, Figure}
use Rattle.definition.specs.Window.{Window, slants, slanting, box_reach, reach_of, reach, around, windows}
use Rattle.figures.proofs.Sums.{whole, count, ◌⊞◌, ◌⊟◌, ◌⊠◌, →eq, →abs, abs→, abs_mul, abs_add, abs_sub}

-- the shapes that are drawn, but for slanting boxes
pub data Plain : Shape ℤ → Type 0 where
  flash_plain : (d : ℕ) (c : Point ℤ) → Plain (shape_of flash (pos d ∷ []) (c ∷ []) [])
  along-x : (l w : ℕ) (c d : Point ℤ) → 0 < norm d → zero? d.y ≡ true → Plain (shape_of box (pos l ∷ pos w ∷ []) (c ∷ []) (d ∷ []))
  along-y : (l w : ℕ) (c d : Point ℤ) → 0 < norm d → zero? d.y ≡ false → zero? d.x ≡ true → Plain (shape_of box (pos l ∷ pos w ∷ []) (c ∷ []) (d ∷ []))
  wire_plain : (w : ℕ) (ps : List (Point ℤ)) → Plain (shape_of wire (pos w ∷ []) ps [])
  polygon_plain : (ps : List (Point ℤ)) → Plain (shape_of polygon [] ps [])

-- an offset along an axis, of at most rx or ry
pub data Offset (rx ry : ℕ) : Point ℤ → Type 0 where
  sideways : {x : ℤ} → nat_abs x ≤ rx → Offset rx ry (point x (pos 0))
  upright : {y : ℤ} → nat_abs y ≤ ry → Offset rx ry (point (pos 0) y)

undo : (c o : ℤ) → c +ℤ o -ℤ c ≡ o
undo c o = →eq (whole c ⊞ whole o ⊟ whole c) (whole o) (omega arith)

offset_most : {r : ℕ} {o : Point ℤ} → Offset r r o → norm o ≤ r * r
offset_most (sideways h) = omega (arith, mul-le-mul h h)
offset_most (upright h) = omega (arith, mul-le-mul h h)

-- ---- flashes

disc_met : {d : ℕ} (c o : Point ℤ) → Offset d d o → Within (2 * d) (2 · c) (2 · c ⊕ o)
disc_met c o h = record { close = rw (undo (pos 2 *ℤ c.x) o.x, undo (pos 2 *ℤ c.y) o.y) (omega (arith, offset_most h)) }

-- ---- wires and polygons: a point of the path begins a segment

begins : {q : Point ℤ} (ps : List (Point ℤ)) → q ∈ ps → (e : Segment) × (e ∈ segments ps) × (e.from ≡ q)
unfolding segments
begins [] m = elim m [ ]
begins (a ∷ []) (Memᴰ.head e) = (segment a a, Memᴰ.head refl, sym e)
begins (a ∷ []) (Memᴰ.tail m) = elim m [ ]
begins (a ∷ b ∷ ps) (Memᴰ.head e) = (segment a b, Memᴰ.head refl, sym e)
begins (a ∷ b ∷ ps) (Memᴰ.tail m) = let r = begins (b ∷ ps) m in (r.0, Memᴰ.tail r.1, r.2)

in_closed : {q : Point ℤ} (ps : List (Point ℤ)) → q ∈ ps → q ∈ closed ps
unfolding closed
in_closed [] m = m
in_closed (a ∷ ps) m = Memᴰ.append_left (a ∷ []) m

pub in_map : {A B : Type 0} (f : A → B) {a : A} {l : List A} → a ∈ l → f a ∈ map f l
in_map f (Memᴰ.head e) = Memᴰ.head (ap f e)
in_map f (Memᴰ.tail m) = Memᴰ.tail (in_map f m)

first_part : (q o b : ℤ) → nat_abs (pos 1 *ℤ (q +ℤ o) -ℤ (pos 1 *ℤ q +ℤ pos 0 *ℤ b)) ≤ nat_abs o
first_part q o b = →abs (count 1 ⊠ (whole q ⊞ whole o) ⊟ (count 1 ⊠ whole q ⊞ count 0 ⊠ whole b)) (nat_abs o) (omega (arith, abs→ (whole o))) (omega (arith, abs→ (whole o)))

near_met : {w : ℕ} (e : Segment) (q o : Point ℤ) → e.from ≡ q → Offset w w o → Near (2 * w) e (q ⊕ o)
near_met {w} e q o f h = record {
  s = 1;
  t = 0;
  some = omega arith;
  close = record {
    close = subst (λ (a : Point ℤ). 4 * norm (1 · (q ⊕ o) ⊖ (1 · a ⊕ 0 · e.to)) ≤ 1 * (2 * w) * (1 * (2 * w))) (sym f)
        (omega (arith, offset_most h, mul-le-mul (first_part q.x o.x e.to.x) (first_part q.x o.x e.to.x), mul-le-mul (first_part q.y o.y e.to.y) (first_part q.y o.y e.to.y)));
  };
}

-- ---- boxes

within-length : (a l g n : ℕ) → a ≤ l * g → g * g ≤ n → 4 * (a * a) ≤ 2 * l * (2 * l) * n
within-length a l g n h k = omega (arith, mul-le-mul h h, mul-le-mul (le_refl (l * l)) k)

toward-most : (d o : Point ℤ) → nat_abs (toward d o) ≤ nat_abs o.x * nat_abs d.x + nat_abs o.y * nat_abs d.y
toward-most d o = rw (← abs_mul o.x d.x, ← abs_mul o.y d.y) (abs_add (o.x *ℤ d.x) (o.y *ℤ d.y))

aside-most : (d o : Point ℤ) → nat_abs (aside d o) ≤ nat_abs o.x * nat_abs d.y + nat_abs o.y * nat_abs d.x
aside-most d o = rw (← abs_mul o.x d.y, ← abs_mul o.y d.x) (abs_sub (o.x *ℤ d.y) (o.y *ℤ d.x))

box_by : (l w : ℕ) (c d o : Point ℤ) (g h : ℕ) → 0 < norm d → g * g ≤ norm d → h * h ≤ norm d → nat_abs (toward d o) ≤ l * g → nat_abs (aside d o) ≤ w * h → Boxed (2 * l) (2 * w) (2 · c) d (2 · c ⊕ o)
box_by l w c d o g h n i j t a = record {
  aimed = n;
  along = rw (undo (pos 2 *ℤ c.x) o.x, undo (pos 2 *ℤ c.y) o.y) (within-length (nat_abs (toward d o)) l g (norm d) t i);
  across = rw (undo (pos 2 *ℤ c.x) o.x, undo (pos 2 *ℤ c.y) o.y) (within-length (nat_abs (aside d o)) w h (norm d) a j);
}

flat_met : {l w : ℕ} (c d o : Point ℤ) → 0 < norm d → nat_abs d.y ≡ 0 → Offset l w o → Boxed (2 * l) (2 * w) (2 · c) d (2 · c ⊕ o)
flat_met {l} {w} c d _ n z (sideways {x} h) = let e = nat_abs d.x in
    box_by l w c d _ e e n (omega arith) (omega arith) (omega (arith, toward-most d (point x (pos 0)), mul-le-mul_right e h)) (omega (arith, aside-most d (point x (pos 0)), ap (λ i. nat_abs x * i) z))
flat_met {l} {w} c d _ n z (upright {y} h) = let e = nat_abs d.x in
    box_by l w c d _ e e n (omega arith) (omega arith) (omega (arith, toward-most d (point (pos 0) y), ap (λ i. nat_abs y * i) z)) (omega (arith, aside-most d (point (pos 0) y), mul-le-mul_right e h))

steep_met : {l w : ℕ} (c d o : Point ℤ) → 0 < norm d → nat_abs d.x ≡ 0 → Offset w l o → Boxed (2 * l) (2 * w) (2 · c) d (2 · c ⊕ o)
steep_met {l} {w} c d _ n z (sideways {x} h) = let f = nat_abs d.y in
    box_by l w c d _ f f n (omega arith) (omega arith) (omega (arith, toward-most d (point x (pos 0)), ap (λ i. nat_abs x * i) z)) (omega (arith, aside-most d (point x (pos 0)), mul-le-mul_right f h))
steep_met {l} {w} c d _ n z (upright {y} h) = let f = nat_abs d.y in
    box_by l w c d _ f f n (omega arith) (omega arith) (omega (arith, toward-most d (point (pos 0) y), mul-le-mul_right f h)) (omega (arith, aside-most d (point (pos 0) y), ap (λ i. nat_abs y * i) z))

-- ---- each plain shape covers what lies on an axis through one of its points, up to its reach

record Axes (k : Shape ℤ) : Type 0 where
  rx : ℕ
  ry : ℕ
  is : reach k ≡ point (pos rx) (pos ry)
  covers : (q : Point ℤ) → q ∈ k.points → (o : Point ℤ) → Offset rx ry o → Covers (magnified 2 k) (2 · q ⊕ o)

axes : {k : Shape ℤ} → Plain k → Axes k
unfolding reach reach_of box_reach magnified
axes (flash_plain d c) = record { rx = d; ry = d; is = refl; covers = λ q m o h. subst (λ (b : Point ℤ). Covers (magnified 2 (shape_of flash (pos d ∷ []) (c ∷ []) [])) (2 · b ⊕ o)) (sym (Memᴰ.eq_of_singleton m)) (disc (disc_met c o h)) }
axes (along-x l w c d n z) = record { rx = l; ry = w; is = rw z; covers = λ q m o h. subst (λ (b : Point ℤ). Covers (magnified 2 (shape_of box (pos l ∷ pos w ∷ []) (c ∷ []) (d ∷ []))) (2 · b ⊕ o)) (sym (Memᴰ.eq_of_singleton m)) (boxed (flat_met c d o n (eqb-true _ _ z) h)) }
axes (along-y l w c d n y z) = record { rx = w; ry = l; is = rw (y, z); covers = λ q m o h. subst (λ (b : Point ℤ). Covers (magnified 2 (shape_of box (pos l ∷ pos w ∷ []) (c ∷ []) (d ∷ []))) (2 · b ⊕ o)) (sym (Memᴰ.eq_of_singleton m)) (boxed (steep_met c d o n (eqb-true _ _ z) h)) }
axes (wire_plain w ps) = record {
  rx = w;
  ry = w;
  is = refl;
  covers = λ q m o h.
      let b = begins (map (λ p. 2 · p) ps) (in_map (λ p. 2 · p) m) in wired b.0 b.1 (near_met b.0 (2 · q) o b.2 h);
}
axes (polygon_plain ps) = record {
  rx = 0;
  ry = 0;
  is = refl;
  covers = λ q m o h.
      let b = begins (closed (map (λ p. 2 · p) ps)) (in_closed (map (λ p. 2 · p) ps) (in_map (λ p. 2 · p) m)) in bordered b.0 b.1 (near_met b.0 (2 · q) o b.2 h);
}

-- on each side a point of the figure: (x / 2, y / 2) stands at x and y in half units
pub record Met (k : Shape ℤ) (u : Window) : Type 0 where
  pub on_left : (p : Point ℤ) × (p.x ≡ u.left) × Figure k 2 p
  pub on_bottom : (p : Point ℤ) × (p.y ≡ u.bottom) × Figure k 2 p
  pub on_right : (p : Point ℤ) × (p.x ≡ u.right) × Figure k 2 p
  pub on_top : (p : Point ℤ) × (p.y ≡ u.top) × Figure k 2 p

pub neg_most : (n : ℕ) → nat_abs (neg_ℤ (pos n)) ≤ n
neg_most zero = omega arith
neg_most (suc n) = omega arith

met_at : {k : Shape ℤ} → Axes k → (q : Point ℤ) → q ∈ k.points → Met k (around (reach k) q)
unfolding around
met_at {k} a q m = subst (λ (r : Point ℤ). Met k (around r q)) (sym a.is) (record {
  on_left = (2 · q ⊕ point (neg_ℤ (pos a.rx)) (pos 0), refl, at (point (neg_ℤ (pos a.rx)) (pos 0)) (sideways (neg_most a.rx)));
  on_bottom = (2 · q ⊕ point (pos 0) (neg_ℤ (pos a.ry)), refl, at (point (pos 0) (neg_ℤ (pos a.ry))) (upright (neg_most a.ry)));
  on_right = (2 · q ⊕ point (pos a.rx) (pos 0), refl, at (point (pos a.rx) (pos 0)) (sideways (le_refl a.rx)));
  on_top = (2 · q ⊕ point (pos 0) (pos a.ry), refl, at (point (pos 0) (pos a.ry)) (upright (le_refl a.ry)));
})
  where
    at : (o : Point ℤ) → Offset a.rx a.ry o → Figure k 2 (2 · q ⊕ o)
    at o h = record { some = omega arith; covered = a.covers q m o h }

pub of_map : {A B : Type 0} (f : A → B) {b : B} (l : List A) → b ∈ map f l → (a : A) × (a ∈ l) × (b ≡ f a)
of_map f [] m = elim m [ ]
of_map f (a ∷ l) (Memᴰ.head e) = (a, Memᴰ.head refl, e)
of_map f (a ∷ l) (Memᴰ.tail m) = let r = of_map f l m in (r.0, Memᴰ.tail r.1, r.2)

pub met : {k : Shape ℤ} → Plain k → {u : Window} → u ∈ windows k → Met k u
unfolding windows
met {k} p {u} m = let r = of_map (around (reach k)) k.points m in subst (Met k) (sym r.2) (met_at (axes p) r.0 r.1)

-- ---- the shapes that are drawn: made by a command, and not empty (RULES 12, refusal 7)

pub record Drawable (k : Shape ℤ) : Type 0 where
  pub formed : Formed k
  pub full : empty_shape k ≡ false

aimed : (d : Point ℤ) → nowhere d ≡ false → 0 < norm d
aimed d e = go (zero? d.x) refl (zero? d.y) refl e
  where
    square : (n : ℕ) → (n ≡ 0 → ⊥) → 0 < n * n
    square n h = let p : 0 < n = omega arith in omega (arith, mul-le-mul p p)

    go : (a : Bool) → zero? d.x ≡ a → (b : Bool) → zero? d.y ≡ b → (a && b) ≡ false → 0 < norm d
    go true f true g h = absurd (subst T h tt)
    go false f b g h = omega (arith, square (nat_abs d.x) (eqb-false _ _ f))
    go true f false g h = omega (arith, square (nat_abs d.y) (eqb-false _ _ g))

pub plain : {k : Shape ℤ} → Drawable k → slanting k ≡ false → Plain k
unfolding empty_shape slants any
plain {k} h s = go h.formed h.full s
  where
    go : {j : Shape ℤ} → Formed j → empty_shape j ≡ false → slanting j ≡ false → Plain j
    go (Shapes.a_flash a c) f e = flash_plain a c
    go (Shapes.a_wire a ps) f e = wire_plain a ps
    go (Shapes.a_polygon ps) f e = polygon_plain ps
    go (Shapes.a_box a b c d) f e = by (zero? d.y) refl (zero? d.x) refl e
      where
        turned : 0 < norm d
        turned = aimed d (or_first (nowhere d) false (or_second (any zero? (pos a ∷ pos b ∷ [])) _ (or_first (any zero? (pos a ∷ pos b ∷ []) || (nowhere d || false)) _ f)))

        by : (t : Bool) → zero? d.y ≡ t → (u : Bool) → zero? d.x ≡ u → ((not t && not u) || false) ≡ false → Plain (shape_of box (pos a ∷ pos b ∷ []) (c ∷ []) (d ∷ []))
        by true y u x z = along-x a b c d turned y
        by false y true x z = along-y a b c d turned y x
        by false y false x z = absurd (subst T z tt)

pub some_window : {k : Shape ℤ} → Drawable k → windows k ≡ [] → ⊥
unfolding windows empty_shape least
some_window {k} h e = go k.kind k.points (or_second (any zero? k.sizes || any nowhere k.directions) _ h.full) e
  where
    go : (j : Kind) (ps : List (Point ℤ)) → ltb (length ps) (least j) ≡ false → map (around (reach k)) ps ≡ [] → ⊥
    go box [] f e' = subst T f tt
    go flash [] f e' = subst T f tt
    go wire [] f e' = subst T f tt
    go polygon [] f e' = subst T f tt
    go j (p ∷ ps) f e' = nil≢cons (sym e')

-- ---- a box in any direction covers the flash within it, whose diameter is the lesser of length and width: so a slanting box's window is too large by at
-- most the greater of them, on each side

pub inscribed : {l w m : ℕ} → m ≤ l → m ≤ w → (c d : Point ℤ) → 0 < norm d → {o : Point ℤ} → Offset m m o → Figure (shape_of box (pos l ∷ pos w ∷ []) (c ∷ []) (d ∷ [])) 2 (2 · c ⊕ o)
unfolding magnified
inscribed {l} {w} {m} ml mw c d n (sideways {x} h) = record {
  some = omega arith;
  covered = boxed (box_by l w c d (point x (pos 0)) (nat_abs d.x) (nat_abs d.y) n (omega arith) (omega arith)
      (omega (arith, toward-most d (point x (pos 0)), mul-le-mul_right (nat_abs d.x) (le_trans h ml))) (omega (arith, aside-most d (point x (pos 0)), mul-le-mul_right (nat_abs d.y) (le_trans h mw))));
}
inscribed {l} {w} {m} ml mw c d n (upright {y} h) = record {
  some = omega arith;
  covered = boxed (box_by l w c d (point (pos 0) y) (nat_abs d.y) (nat_abs d.x) n (omega arith) (omega arith)
      (omega (arith, toward-most d (point (pos 0) y), mul-le-mul_right (nat_abs d.y) (le_trans h ml))) (omega (arith, aside-most d (point (pos 0) y), mul-le-mul_right (nat_abs d.x) (le_trans h mw))));
}
