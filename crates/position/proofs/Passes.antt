-- The pass of `position_of` over what comes before the place: after each byte line and column are those of the next. A line end begins a line, and every other byte
-- is a column.
-- Assumes nothing.
use Rattle.std.specs.Prelude.{if◌then◌else◌}
use mathlib.Core.Path.{◌≡◌, refl, ap, sym, ◌∙◌}
use mathlib.Core.Bool.{Bool, true, false, ◌||◌}
use mathlib.Core.List.{List, [], ◌∷◌, ◌++◌}
use Prim.Native.Nat.{ℕ, suc, ◌+◌, ◌≤◌, min}
use native.Mathlib.Omega.{arith}
use Rattle.std.proofs.Math.Bool.{or_assoc, or-false, or-true}
use borrow.Author.Tests.{eq-eqb, ne_eqb}
use lib.ListN.{length, length-append, take}
use Rattle.std.proofs.lemmas.List.{take_all, take_min}
use Rattle.definition.specs.Words.{any, those}
use Rattle.definition.specs.Position.{line_end?, line_of, since_line_end, column_of}
use Rattle.position.specs.Found.{Found}

-- ---- one byte more

any_more : (l : List ℕ) (b : ℕ) → any line_end? (l ++ (b ∷ [])) ≡ (any line_end? l || line_end? b)
unfolding any
any_more [] b = or-false (line_end? b)
any_more (a ∷ l) b = ap (λ (y : Bool). line_end? a || y) (any_more l b) ∙ sym (or_assoc (line_end? a) (any line_end? l) (line_end? b))

those-more : (l : List ℕ) (b : ℕ) (y : Bool) → line_end? b ≡ y → length (those line_end? (l ++ (b ∷ []))) ≡ length (those line_end? l) + (if y then 1 else 0)
unfolding those
those-more [] b true e = simp e
those-more [] b false e = simp e
those-more (a ∷ l) b y e = go (line_end? a) (those line_end? (l ++ (b ∷ []))) (those line_end? l) (if y then 1 else 0) (those-more l b y e)
  where
    go : (x : Bool) (u v : List ℕ) (n : ℕ) → length u ≡ length v + n → length (if x then a ∷ u else u) ≡ length (if x then a ∷ v else v) + n
    go true u v n q = ap suc q ∙ omega arith
    go false u v n q = q

after-line_end : (l : List ℕ) (b : ℕ) → line_end? b ≡ true → since_line_end (l ++ (b ∷ [])) ≡ []
unfolding since_line_end any
after-line_end [] b e = simp e
after-line_end (a ∷ l) b e = simp (any_more l b, e, after-line_end l b e, or-true)

after_other : (l : List ℕ) (b : ℕ) → line_end? b ≡ false → since_line_end (l ++ (b ∷ [])) ≡ since_line_end l ++ (b ∷ [])
unfolding since_line_end any
after_other [] b e = simp e
after_other (a ∷ l) b e =
    ap (λ (y : Bool). if line_end? a || y then since_line_end (l ++ (b ∷ [])) else a ∷ (l ++ (b ∷ []))) (any_more l b ∙ ap (λ (y : Bool). any line_end? l || y) e)
    ∙ go (line_end? a) (any line_end? l) (since_line_end (l ++ (b ∷ []))) (since_line_end l) (after_other l b e)
  where
    go : (x y : Bool) (u v : List ℕ) → u ≡ v ++ (b ∷ []) → (if x || (y || false) then u else a ∷ (l ++ (b ∷ []))) ≡ (if x || y then v else a ∷ l) ++ (b ∷ [])
    go true y u v q = q
    go false true u v q = q
    go false false u v q = refl

-- ---- the pass

-- after these bytes
pub record Counted (t : List ℕ) (line column : ℕ) : Type 0 where
  pub lines : line ≡ length (those line_end? t) + 1
  pub columns : column ≡ length (since_line_end t) + 1
  pub short-line : line ≤ length t + 1
  pub short_column : column ≤ length t + 1

pub begin : Counted [] 1 1
unfolding those since_line_end
begin = record { lines = refl; columns = refl; short-line = omega arith; short_column = omega arith }

pub at_line_end : {t : List ℕ} {b line column : ℕ} → Counted t line column → b ≡ 10 → Counted (t ++ (b ∷ [])) (line + 1) 1
at_line_end {t} {b} g e =
    let ends : line_end? b ≡ true = eq-eqb b 10 e in
    record {
      lines = omega (arith, g.lines, those-more t b true ends);
      columns = omega (arith, ap length (after-line_end t b ends));
      short-line = simp length-append (omega (arith, g.short-line));
      short_column = omega arith;
    }

pub at_other : {t : List ℕ} {b line column : ℕ} → Counted t line column → (b ≡ 10 → ⊥) → Counted (t ++ (b ∷ [])) line (column + 1)
at_other {t} {b} g e =
    let other : line_end? b ≡ false = ne_eqb b 10 e in
    record {
      lines = omega (arith, g.lines, those-more t b false other);
      columns = omega (arith, g.columns, simp length-append at (ap length (after_other t b other)));
      short-line = simp length-append (omega (arith, g.short-line));
      short_column = simp length-append (omega (arith, g.short_column));
    }

pub found : {t : List ℕ} {place n i line column : ℕ} → Counted (take i (take n t)) line column → length (take n t) ≤ i → n ≡ min place (length t)
    → Found t place (record { line = line; column = column })
unfolding line_of column_of
found {t} {place} {n} {i} g all e =
    let read : take i (take n t) ≡ take place t = take_all i (take n t) all ∙ (ap (λ (m : ℕ). take m t) e ∙ take_min place t) in
    record {
      line_is = g.lines ∙ ap (λ (l : List ℕ). length (those line_end? l) + 1) read;
      column_is = g.columns ∙ ap (λ (l : List ℕ). length (since_line_end l) + 1) read;
    }
