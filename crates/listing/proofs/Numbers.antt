-- The window along the flat file's lines: each number of a shape's line is worth what it says, and is taken where it is one of a point; an L line adds
-- nothing.
-- Assumes nothing.
use Rattle.std.specs.Prelude.{Option, Some, None, if◌then◌else◌}
use mathlib.Core.Path.{◌≡◌, refl, sym, ap, ◌∙◌, subst}
use mathlib.Core.Bool.{Bool, true, false}
use mathlib.Core.List.{List, [], ◌∷◌, ◌++◌, append_assoc}
use Prim.Native.Nat.{ℕ, suc, ◌+◌, ◌-◌, ◌*◌, ◌/◌, ◌≤◌, ◌<◌}
use native.Mathlib.Omega.{arith}
use borrow.Author.Tests.{ne_eqb, le-ltb}
use lib.Dec.{T, eqb, ltb}
use lib.IntN.{ℤ, pos, negsuc, nat_abs}
use lib.ListN.{length}
use Rattle.definition.specs.Words.{same}
use Rattle.definition.specs.Flat.{shortest, decimal, spaced}
use Rattle.definition.specs.Flat
use Rattle.laws.proofs.Lists.Range.{All}
use Rattle.definition.proofs.Rows.{same-eq}
use Rattle.laws.proofs.FlatFile.Decimals.{DigitByte, val, val_grows, digit_low, digit_high, shortest_is}
use Rattle.laws.proofs.FlatFile.Sound.{Near}
use Rattle.pen.specs.Names.{packed}
use Rattle.lines.specs.Followed.{line, fresh, named, line_after, numeral, ends, numeral_after, blank, kept, lead_after, axis_of, taken, span_after}
use Rattle.lines.specs.declared.Axis.{Axis}
use Rattle.lines.specs.declared.Line.{Line}
use Rattle.lines.specs.declared.Numeral.{Numeral}
use Rattle.lines.specs.declared.Lead.{Lead}
use Rattle.lines.specs.declared.Span.{Span}
use Rattle.listing.specs.Account.{spanned}
use Rattle.listing.proofs.Lines.{Inner, Drawing, gathered, layer-read, named_by, opens-layer, opens-shape, stays, line-ends}

-- a number as it is read, and all numbers from index i on
abbrev minus? : ℤ → Bool
minus? (pos v) = false
minus? (negsuc v) = true

abbrev pub numeral_of : (index : ℕ) → ℤ → Numeral
numeral_of i z = numeral i (minus? z) (nat_abs z)

unfoldable pub all_taken : Axis → (letter index : ℕ) → Lead → Option Span → List ℤ → Option Span
all_taken axis c i h w [] = w
all_taken axis c i h w (z ∷ zs) = all_taken axis c (i + 1) (kept h (numeral_of i z)) (taken axis c h w (numeral_of i z)) zs

-- ---- one byte

step : (axis : Axis) (s : Line) (n : Numeral) (h : Lead) (w : Option Span) (b : ℕ) (m : List ℕ) {r : Line} {k : Numeral} {g : Lead} {v : Option Span} → line_after s b ≡ r → numeral_after n b ≡ k
    → lead_after h n b ≡ g → span_after axis w s.letter h n b ≡ v → spanned axis s n h w (b ∷ m) ≡ spanned axis r k g v m
unfolding spanned
step axis s n h w b m {r} {k} {g} {v} e f l x =
    ap (λ (y : Line). spanned axis y (numeral_after n b) (lead_after h n b) (span_after axis w s.letter h n b) m) e
    ∙ (ap (λ (y : Numeral). spanned axis r y (lead_after h n b) (span_after axis w s.letter h n b) m) f
    ∙ (ap (λ (y : Lead). spanned axis r k y (span_after axis w s.letter h n b) m) l ∙ ap (λ (y : Option Span). spanned axis r k g y m) x))

-- where no number ends, none is taken and none is kept
unended : (axis : Axis) (c : Option ℕ) (n : Numeral) (h : Lead) (w : Option Span) (b : ℕ) → ends b ≡ false → span_after axis w c h n b ≡ w
unfolding span_after
unended axis None n h w b e = refl
unended axis (Some c) n h w b e = rw e

unkept : (h : Lead) (n : Numeral) (b : ℕ) → eqb b 10 ≡ false → ends b ≡ false → lead_after h n b ≡ h
unfolding lead_after
unkept h n b f e = rw (f, e)

-- the end of a line
feed : (axis : Axis) (n y u : ℕ) (c : Option ℕ) (k : Numeral) (h : Lead) (w : Option Span) (m : List ℕ) → spanned axis (line n y u c) k h w (10 ∷ m) ≡ spanned axis (fresh n y) (numeral 0 false 0) blank w m
feed axis n y u c k h w m = step axis (line n y u c) k h w 10 m (line-ends n y u c) (unfold numeral_after in refl) (unfold lead_after in refl) (unended axis c k h w 10 refl)

signed : (i : ℕ) → numeral_after (numeral i false 0) 45 ≡ numeral i true 0
unfolding numeral_after
signed i = refl

unstopped : (n y u : ℕ) → line_after (line n y u (Some 76)) 59 ≡ line n y u (Some 76)
unfolding line_after named
unstopped n y u = refl

-- ---- digits

module _ (axis : Axis) (n y c : ℕ) (d : Drawing c) where
  digits-read : (i : ℕ) (minus : Bool) (v : ℕ) (h : Lead) (w : Option Span) (cs m : List ℕ) → All DigitByte cs → val v cs ≤ 16777215
      → spanned axis (line n y 0 (Some c)) (numeral i minus v) h w (cs ++ m) ≡ spanned axis (line n y 0 (Some c)) (numeral i minus (val v cs)) h w m
  unfolding All val
  digits-read i minus v h w [] m a small = refl
  digits-read i minus v h w (b ∷ cs) m a small =
      step axis (line n y 0 (Some c)) (numeral i minus v) h w b (cs ++ m) (stays n y 0 c b d feedless) one (unkept h (numeral i minus v) b feedless inside) (unended axis (Some c) (numeral i minus v) h w b inside)
      ∙ digits-read i minus (10 * v + (b - 48)) h w cs m a.1 small
    where
      low : 48 ≤ b
      low = digit_low b a.0

      high : b ≤ 57
      high = digit_high b a.0

      feedless : eqb b 10 ≡ false
      feedless = ne_eqb b 10 (λ e. omega (arith, e, low))

      inside : ends b ≡ false
      inside = rw (ne_eqb b 32 (λ e. omega (arith, e, low))) (ne_eqb b 59 (λ e. omega (arith, e, high)))

      held : ltb 16777215 v ≡ false
      held = let g = val_grows (10 * v + (b - 48)) cs in le-ltb 16777215 v (omega (arith, g, small))

      one : numeral_after (numeral i minus v) b ≡ numeral i minus (10 * v + (b - 48))
      one = unfold numeral_after in rw (feedless, ne_eqb b 45 (λ e. omega (arith, e, low)), inside, le-ltb b 48 low, le-ltb 57 b high, held)

  -- ---- a number, and the byte at which it ends

  decimal-read : (i : ℕ) (h : Lead) (w : Option Span) (z : ℤ) (m : List ℕ) → Near z
      → spanned axis (line n y 0 (Some c)) (numeral i false 0) h w (decimal z ++ m) ≡ spanned axis (line n y 0 (Some c)) (numeral_of i z) h w m
  unfolding decimal
  decimal-read i h w (pos v) m a =
      let e = (shortest_is v).says.value in
      digits-read i false 0 h w (shortest v) m (shortest_is v).says.digit-bytes (omega (arith, e, a)) ∙ ap (λ (k : ℕ). spanned axis (line n y 0 (Some c)) (numeral i false k) h w m) e
  decimal-read i h w (negsuc v) m a =
      let e = (shortest_is (suc v)).says.value in
      let g : suc v ≤ 16777215 = a in
      step axis (line n y 0 (Some c)) (numeral i false 0) h w 45 (shortest (suc v) ++ m) (stays n y 0 c 45 d refl) (signed i) (unkept h (numeral i false 0) 45 refl refl)
      (unended axis (Some c) (numeral i false 0) h w 45 refl)
      ∙ (digits-read i true 0 h w (shortest (suc v)) m (shortest_is (suc v)).says.digit-bytes (omega (arith, e, g))
      ∙ ap (λ (k : ℕ). spanned axis (line n y 0 (Some c)) (numeral i true k) h w m) e)

  number-taken : (i : ℕ) (h : Lead) (w : Option Span) (z : ℤ) (b : ℕ) (m : List ℕ) → Near z → ends b ≡ true → eqb b 10 ≡ false → eqb b 45 ≡ false
      → spanned axis (line n y 0 (Some c)) (numeral i false 0) h w (decimal z ++ (b ∷ m))
      ≡ spanned axis (line n y 0 (Some c)) (numeral (i + 1) false 0) (kept h (numeral_of i z)) (taken axis c h w (numeral_of i z)) m
  number-taken i h w z b m a e f g =
      decimal-read i h w z (b ∷ m) a ∙ step axis (line n y 0 (Some c)) (numeral_of i z) h w b m (stays n y 0 c b d f) after keeps counted
    where
      after : numeral_after (numeral_of i z) b ≡ numeral (i + 1) false 0
      after = unfold numeral_after in rw (f, g, e)

      keeps : lead_after h (numeral_of i z) b ≡ kept h (numeral_of i z)
      keeps = unfold lead_after in rw (f, e)

      counted : span_after axis w (Some c) h (numeral_of i z) b ≡ taken axis c h w (numeral_of i z)
      counted = unfold span_after in rw e

  -- ---- the numbers of a line

  numbers-taken : (i : ℕ) (h : Lead) (w : Option Span) (z : ℤ) (zs : List ℤ) (m : List ℕ) → All Near (z ∷ zs)
      → spanned axis (line n y 0 (Some c)) (numeral i false 0) h w (spaced (z ∷ zs) ++ (59 ∷ 10 ∷ m)) ≡ spanned axis (fresh n y) (numeral 0 false 0) blank (all_taken axis c i h w (z ∷ zs)) m
  unfolding spaced All all_taken
  numbers-taken i h w z [] m a =
      number-taken i h w z 59 (10 ∷ m) a.0 refl refl refl ∙ feed axis n y 0 (Some c) (numeral (i + 1) false 0) (kept h (numeral_of i z)) (taken axis c h w (numeral_of i z)) m
  numbers-taken i h w z (x ∷ zs) m a =
      ap (spanned axis (line n y 0 (Some c)) (numeral i false 0) h w) (append_assoc (decimal z) (32 ∷ spaced (x ∷ zs)) (59 ∷ 10 ∷ m))
      ∙ (number-taken i h w z 32 (spaced (x ∷ zs) ++ (59 ∷ 10 ∷ m)) a.0 refl refl refl
      ∙ numbers-taken (i + 1) (kept h (numeral_of i z)) (taken axis c h w (numeral_of i z)) x zs m a.1)

-- ---- lines

-- a shape's line, whose numbers are these
pub shape-taken : (axis : Axis) (n y c : ℕ) (w : Option Span) (zs : List ℤ) (m : List ℕ) → Drawing c → 0 < length zs → All Near zs
    → spanned axis (fresh n y) (numeral 0 false 0) blank w (c ∷ (spaced zs ++ (59 ∷ 10 ∷ m))) ≡ spanned axis (fresh (n + 1) y) (numeral 0 false 0) blank (all_taken axis c 0 blank w zs) m
shape-taken axis n y c w [] m d p a = absurd (omega (arith, p))
shape-taken axis n y c w (z ∷ zs) m d p a =
    step axis (fresh n y) (numeral 0 false 0) blank w c (spaced (z ∷ zs) ++ (59 ∷ 10 ∷ m)) (opens-shape n y c d) none (unkept blank (numeral 0 false 0) c d.no_feed d.no_stop)
    (unended axis None (numeral 0 false 0) blank w c d.no_stop)
    ∙ numbers-taken axis (n + 1) y c d 0 blank w z zs m a
  where
    none : numeral_after (numeral 0 false 0) c ≡ numeral 0 false 0
    none = unfold numeral_after in rw (d.no_feed, d.no_minus, d.no_stop) (ap (numeral 0 false) d.no_digit)

-- no number of an L line is taken
unaxed : (axis : Axis) (k : Numeral) (h : Lead) (w : Option Span) (b : ℕ) → span_after axis w (Some 76) h k b ≡ w
unfolding span_after taken axis_of
unaxed axis k h w b = go (ends b)
  where
    go : (t : Bool) → (if t then taken axis 76 h w k else w) ≡ w
    go true = refl
    go false = refl

name-taken : (axis : Axis) (n y u : ℕ) (k : Numeral) (h : Lead) (w : Option Span) (l m : List ℕ) → All Inner l
    → spanned axis (line n y u (Some 76)) k h w (l ++ (59 ∷ 10 ∷ m)) ≡ spanned axis (fresh n (gathered y u l)) (numeral 0 false 0) blank w m
unfolding gathered All
name-taken axis n y u k h w [] m a =
    step axis (line n y u (Some 76)) k h w 59 (10 ∷ m) (unstopped n y u) refl refl (unaxed axis k h w 59) ∙ feed axis n y u (Some 76) (numeral_after k 59) (lead_after h k 59) w m
name-taken axis n y u k h w (b ∷ l) m a =
    step axis (line n y u (Some 76)) k h w b (l ++ (59 ∷ 10 ∷ m)) (named_by n y u b a.0) refl refl (unaxed axis k h w b)
    ∙ name-taken axis n (y + b * u) (u / 256) (numeral_after k b) (lead_after h k b) w l m a.1

pub layer-taken : (axis : Axis) (n : ℕ) (before l : List ℕ) (w : Option Span) (m : List ℕ) → All Inner l → length l ≤ 4
    → spanned axis (fresh n (packed before)) (numeral 0 false 0) blank w ((if same before l then [] else Flat.line 76 l) ++ m)
    ≡ spanned axis (fresh n (packed l)) (numeral 0 false 0) blank w m
layer-taken axis n before l w m a k = go (same before l) refl
  where
    go : (b : Bool) → same before l ≡ b
        → spanned axis (fresh n (packed before)) (numeral 0 false 0) blank w ((if b then [] else Flat.line 76 l) ++ m) ≡ spanned axis (fresh n (packed l)) (numeral 0 false 0) blank w m
    go true e = ap (λ (x : List ℕ). spanned axis (fresh n (packed x)) (numeral 0 false 0) blank w m) (same-eq before l (subst T (sym e) tt))
    go false e =
        ap (λ (x : List ℕ). spanned axis (fresh n (packed before)) (numeral 0 false 0) blank w (76 ∷ x)) (append_assoc l (59 ∷ 10 ∷ []) m)
        ∙ (step axis (fresh n (packed before)) (numeral 0 false 0) blank w 76 (l ++ (59 ∷ 10 ∷ m)) (opens-layer n (packed before)) refl (unkept blank (numeral 0 false 0) 76 refl refl)
        (unended axis None (numeral 0 false 0) blank w 76 refl)
        ∙ (name-taken axis n 0 16777216 (numeral_after (numeral 0 false 0) 76) blank w l m a
        ∙ ap (λ (p : ℕ). spanned axis (fresh n p) (numeral 0 false 0) blank w m) (layer-read l k)))
