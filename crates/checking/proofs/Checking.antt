-- What holds while a text is checked, piece by piece: `Checking`, and how each piece keeps it. What the code needs so that nothing wraps is kept by
-- laws, so that the contracts of its parts are plain equations.
-- Assumes nothing.
use Rattle.std.specs.Prelude.{Err, Ok, Result}
use mathlib.Core.Path.{◌≡◌, refl, sym, ap, ◌∙◌, subst}
use mathlib.Core.Bool.{Bool, true, false, not, ◌&&◌, ◌||◌}
use mathlib.Core.List.{List, [], ◌∷◌}
use mathlib.Core.Logic.{◌⊎◌, ⊎_elim}
use Prim.Native.Nat.{ℕ, ◌+◌, ◌*◌, ◌/◌, ◌%◌, ◌≤◌, ◌<◌}
use native.Mathlib.Omega.{arith}
use borrow.Author.Tests.{ltb-false, eqb-false}
use lib.Dec.{ltb, eqb}
use Rattle.grammar.specs.Notation.{lead, head}
use Rattle.grammar.specs.Steps.{choose, number}
use Rattle.definition.specs.declared.Refusal.{Refusal}
use Rattle.pieces.specs.Pieces.{too_large, stream, start, Fit, Step}
use Rattle.pieces.specs.declared.Spot.{Spot}
use Rattle.pieces.specs.declared.Piece.{Piece}
use Rattle.pieces.specs.declared.Piece.TheVariants.{First, Second, Number, Word, Stop}
use Rattle.rules.specs.Letters.{letter_d, letter_l, no_refusal, byte_unit}
use Rattle.pieces.specs.Pieces.{letter_s, letter_f}
use Rattle.rules.specs.Written.{one, turning}
use Rattle.rules.specs.Rules.{distance, scaleless, few, bare, many, whole_refusal}
use Rattle.checking.specs.Account.{layer_of, refusal, scope, at_start}
use Rattle.checking.specs.Along.{fresh, begun, idle, counted, worded, after_doing, finished, onward, runs, Fair, Sane}
use Rattle.checking.specs.declared.Scope.{Scope}
use Rattle.checking.specs.declared.Doing.{Doing}
use Rattle.pieces.proofs.Finds.{Finds, none, some}
use Rattle.names.proofs.Naming.{name-room}

pub with_letter_is : (c : Doing) (w t v : ℕ) → t ≡ c.turns + one (turning w) → v ≡ c.name + w * c.unit
    → record { busy = c.busy; place = c.place; letter = c.letter; word = w; count = c.count; zero = c.zero; turns = t; unit = c.unit / byte_unit; a = c.a; b = c.b; name = v; no = c.no; at = c.at; rounded = c.rounded } ≡ worded c w
unfolding worded
with_letter_is c w t v et ev = rw (et, ev)

-- what the code needs is kept
abbrev FairEnd : Result Scope Refusal → Type 0
FairEnd (Ok s) = Fair s
FairEnd (Err r) = 0 ≤ 0

fair_after : (s : Scope) (c : Doing) → Fair s → c.a ≤ too_large → scaleless c.letter c.word c.a c.b ≡ false → Fair (after_doing s c)
unfolding scaleless
fair_after s c f ha h = go (eqb c.letter letter_d) (eqb c.word letter_s) (eqb c.word letter_f) (eqb c.letter letter_l) s.inside (eqb c.a 0) (eqb c.b 0) refl h
  where
    go : (l w v n i z y : Bool) → eqb c.b 0 ≡ y → (l && (w && (z || y))) ≡ false
        → Fair
        (choose l (choose w (scope true c.a c.b s.outer 0) (choose v (scope false 1 1 s.outer 0) s))
        (choose n (choose i (scope true s.a s.b s.outer c.name) (scope false s.a s.b c.name s.inner)) s))
    go true true v n i true y e g = absurd (let z : ◌≡◌ {A = ℕ} 0 1 = cc in omega arith)
    go true true v n i false true e g = absurd (let z : ◌≡◌ {A = ℕ} 0 1 = cc in omega arith)
    go true true v n i false false e g = record { a = ha; b = let k = eqb-false c.b 0 e in omega arith }
    go true false true n i z y e g = record { a = omega arith; b = omega arith }
    go true false false n i z y e g = f
    go false w v true true z y e g = record { a = f.a; b = f.b }
    go false w v true false z y e g = record { a = f.a; b = f.b }
    go false w v false i z y e g = f

no_scaleless : (x : Bool) (r : ℕ) → no_refusal ≤ choose x 4 r → x ≡ false
no_scaleless true r h = absurd (omega arith)
no_scaleless false r h = refl

fair_finished : (s : Scope) (c : Doing) → Fair s → c.a ≤ too_large → FairEnd (finished s c)
unfolding finished whole_refusal
fair_finished s c f ha =
    go c.busy (ltb k c.no) (ltb c.no no_refusal) refl refl
  where
    k : ℕ
    k = choose (scaleless c.letter c.word c.a c.b) 4 (choose (few c.letter c.count) 7 (choose (bare c.letter (layer_of s)) 8 (choose (many c.letter c.count c.turns) 9 no_refusal)))

    go : (x y z : Bool) → ltb k c.no ≡ y → ltb c.no no_refusal ≡ z → FairEnd (choose x (choose y (Err (refusal k c.place)) (choose z (Err (refusal c.no c.at)) (Ok (after_doing s c)))) (Ok s))
    go false y z ey ez = f
    go true true z ey ez = omega arith
    go true false true ey ez = omega arith
    go true false false ey ez =
        let h₁ = ltb-false k c.no ey in
        let h₂ = ltb-false c.no no_refusal ez in
        fair_after s c f ha (no_scaleless (scaleless c.letter c.word c.a c.b) (choose (few c.letter c.count) 7 (choose (bare c.letter (layer_of s)) 8 (choose (many c.letter c.count c.turns) 9 no_refusal))) (omega arith))

sane_fresh : (n : ℕ) (z : Bool) (p l k : ℕ) → k ≤ n → Sane n (fresh z p l k)
unfolding fresh
sane_fresh n z p l k h = record { count = omega arith; rounded = h; turns = omega arith; a = omega arith; name = omega arith }

kept_le : (b : Bool) (x y : ℕ) → x ≤ too_large → y ≤ too_large → choose b x y ≤ too_large
kept_le true x y h k = h
kept_le false x y h k = k

one_le : (b : Bool) → choose b 1 0 ≤ 1
one_le true = omega arith
one_le false = omega arith

sane_counted : (m : ℕ) (s : Scope) (c : Doing) (p n : ℕ) → n ≤ too_large → Sane m c → Sane (m + 1) (counted s c p n)
unfolding counted
sane_counted m s c p n h k = record {
  count = let i = k.count in omega arith;
  rounded = let i = k.rounded in let j = one_le (distance c.letter c.word c.count && not (eqb (s.a * n % s.b) 0)) in omega arith;
  turns = let i = k.turns in omega arith;
  a = kept_le (eqb c.count 1) n c.a h k.a;
  name = k.name;
}

sane_with_letter : (m : ℕ) (c : Doing) (w : ℕ) → w < 256 → Sane m c → Sane (m + 1) (worded c w)
unfolding worded
sane_with_letter m c w h k = record {
  count = let i = k.count in omega arith;
  rounded = let i = k.rounded in omega arith;
  turns = let i = k.turns in let j = one_le (turning w) in omega arith;
  a = k.a;
  name = name-room w c.unit c.name h k.name;
}

pub sane_up : (n m : ℕ) (c : Doing) → n ≤ m → Sane n c → Sane m c
sane_up n m c h k = record {
  count = let i = k.count in omega arith;
  rounded = let i = k.rounded in omega arith;
  turns = let i = k.turns in omega arith;
  a = k.a;
  name = k.name;
}

abbrev whole_run : List ℕ → Result ℕ Refusal
whole_run t = runs (stream t start) at_start (idle 0)

-- where the checker stands
pub record Checking (t : List ℕ) (spot : Spot) (s : Scope) (c : Doing) : Type 0 where
  pub fit : Fit t spot
  pub fair : Fair s
  pub sane : Sane spot.at c
  pub is : runs (stream t spot) s c ≡ whole_run t

pub checking_start : (t : List ℕ) (s : Scope) (c : Doing) → s ≡ at_start → c ≡ idle 0 → Checking t start s c
checking_start t s c es e = record {
  fit = record { within = omega arith; state = omega arith };
  fair = subst Fair (sym es) (record { a = omega arith; b = omega arith });
  sane = subst (Sane 0) (sym e) (sane_fresh 0 false 0 0 0 (omega arith));
  is = ap (λ (d : Doing). runs (stream t start) s d) e ∙ ap (λ (d : Scope). runs (stream t start) d (idle 0)) es;
}

module _ {t : List ℕ} {spot : Spot} {s : Scope} {c : Doing} (g : Checking t spot s c) where
  over : stream t spot ≡ [] → runs [] s c ≡ whole_run t
  over e = sym (ap (λ (l : List Piece). runs l s c) e) ∙ g.is

  -- a piece that leaves the scope s' and the command c'
  module _ {to : Spot} (x : Piece) (st : Step t spot x to) where
    before : runs (x ∷ stream t to) s c ≡ whole_run t
    before = sym (ap (λ (l : List Piece). runs l s c) st.is) ∙ g.is

    next : (s' : Scope) (c' : Doing) → Fair s' → Sane (spot.at + 1) c' → runs (stream t to) s' c' ≡ runs (x ∷ stream t to) s c → Checking t to s' c'
    next s' c' f k e =
        let a = st.ahead in
        record { fit = st.fit; fair = f; sane = sane_up (spot.at + 1) to.at c' (omega arith) k; is = e ∙ before }

  pub checking_number : {to : Spot} {p : ℕ} {σ : Bool} {n : ℕ} {d : Doing} → Step t spot (Number p σ n) to → d ≡ counted s c p n → Checking t to s d
  unfolding runs
  checking_number {to} {p} {σ} {n} {d} st e =
      next (Number p σ n) st s d g.fair (subst (Sane (spot.at + 1)) (sym e) (sane_counted spot.at s c p n st.small g.sane))
      (ap (λ (k : Doing). runs (stream t to) s k) e)

  pub checking_letter : {to : Spot} {w : ℕ} {d : Doing} → Step t spot (Second w) to ⊎ Step t spot (Word w) to → d ≡ worded c w → Checking t to s d
  unfolding runs
  checking_letter {to} {w} {d} l e =
      ⊎_elim (λ st. next (Second w) st s d g.fair (sane st.small) is) (λ st. next (Word w) st s d g.fair (sane st.small) is) l
    where
      sane : w < 256 → Sane (spot.at + 1) d
      sane h = subst (Sane (spot.at + 1)) (sym e) (sane_with_letter spot.at c w h g.sane)

      is : runs (stream t to) s d ≡ runs (stream t to) s (worded c w)
      is = ap (λ (k : Doing). runs (stream t to) s k) e

  -- a piece that ends a command, or the end of the pieces
  module _ {e : Result Scope Refusal} (ee : e ≡ finished s c) where
    ends : (f : Scope → Result ℕ Refusal) {y : Result Scope Refusal} → e ≡ y → onward f y ≡ onward f (finished s c)
    ends f eu = sym (ap (λ (y : Result Scope Refusal). onward f y) (sym ee ∙ eu))

    pub checking_bad : {to : Spot} {n : ℕ} {r : Refusal} → Finds t spot to n → (n ≡ number lead → ⊥) → n ≤ number head → e ≡ Err r → Err r ≡ whole_run t
    unfolding runs
    checking_bad (none z h) l a eu = ends (λ v. Ok c.rounded) eu ∙ over h
    checking_bad {to} (some (First p b) z st) l a eu = ends (λ v. runs (stream t to) v (begun p b c.rounded)) eu ∙ before (First p b) st
    checking_bad (some (Second b) z st) l a eu = absurd (omega arith)
    checking_bad (some (Number p σ n) z st) l a eu = absurd (l z)
    checking_bad (some (Word b) z st) l a eu = absurd (omega arith)
    checking_bad {to} (some Stop z st) l a eu = ends (λ v. runs (stream t to) v (idle c.rounded)) eu ∙ before Stop st

    module _ {u : Scope} (eu : e ≡ Ok u) where
      fair_then : Fair u
      fair_then = subst FairEnd (sym ee ∙ eu) (fair_finished s c g.fair g.sane.a)

      pub checking_clear : stream t spot ≡ [] → Ok c.rounded ≡ whole_run t
      unfolding runs
      checking_clear h = ends (λ v. Ok c.rounded) eu ∙ over h

      pub checking_first : {to : Spot} {p l : ℕ} {d : Doing} → Step t spot (First p l) to → d ≡ begun p l c.rounded → Checking t to u d
      unfolding runs
      checking_first {to} {p} {l} {d} st ed =
          next (First p l) st u d fair_then (subst (Sane (spot.at + 1)) (sym ed) (sane_fresh (spot.at + 1) true p l c.rounded (let i = g.sane.rounded in omega arith)))
          (ap (λ (k : Doing). runs (stream t to) u k) ed ∙ ends (λ v. runs (stream t to) v (begun p l c.rounded)) eu)

      pub checking_stop : {to : Spot} {d : Doing} → Step t spot Stop to → d ≡ idle c.rounded → Checking t to u d
      unfolding runs
      checking_stop {to} {d} st ed =
          next Stop st u d fair_then (subst (Sane (spot.at + 1)) (sym ed) (sane_fresh (spot.at + 1) false 0 0 c.rounded (let i = g.sane.rounded in omega arith)))
          (ap (λ (k : Doing). runs (stream t to) u k) ed ∙ ends (λ v. runs (stream t to) v (idle c.rounded)) eu)
