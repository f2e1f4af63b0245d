-- Of commands without a fault every size and every direction that is drawn lies within 16,777,215 of zero, too.
-- Assumes nothing.
use Rattle.std.specs.Prelude.{if◌then◌else◌}
use mathlib.Core.Path.{◌≡◌, refl, sym, subst}
use mathlib.Core.Bool.{Bool, true, false}
use mathlib.Core.List.{List, [], ◌∷◌, ◌++◌, map, flat_map, nil≢cons}
use mathlib.Core.Option.{Option, none, some}
use Prim.Native.Nat.{ℕ, zero, suc}
use lib.IntN.{ℤ, pos, negsuc, neg_ℤ, nat_abs}
use Rattle.definition.specs.declared.Refusal.{Refusal}
use Rattle.definition.specs.declared.Rule.{Rule}
use Rattle.definition.specs.declared.Rule.TheVariants.{NumberTooLarge, ZeroFactor, ScaledTooLarge}
use Rattle.definition.specs.Words.{at, Point, those, first}
use Rattle.definition.specs.Commands.{Shape, Turn, Number, translate, mirror_x, mirror_y, rotate}
use Rattle.definition.specs.Commands.{Command, draw, layer, call, start, finish, delete, nothing}
use Rattle.definition.specs.Standing.{Standing, scaled, given, scaled_shape}
use Rattle.definition.specs.Faults.{beyond, both, parts_of, distances, numbers_of, at_numbers, at_command, zero_scale, faults}
use Rattle.definition.specs.Turns.{Heading, +x, +y, -x, -y, heading, rotated, act, aim, in_order, moved}
use Rattle.definition.specs.Table.{Step, shape, instance, setting}
use Rattle.definition.specs.Drawing.{step_of}
use Rattle.laws.proofs.Lists.Range.{All}

-- ---- lists

pub nil-left : {A : Type 0} (a b : List A) → a ++ b ≡ [] → a ≡ []
nil-left [] b e = refl
nil-left (x ∷ a) b e = absurd (nil≢cons (sym e))

pub nil-right : {A : Type 0} (a b : List A) → a ++ b ≡ [] → b ≡ []
nil-right [] b e = e
nil-right (x ∷ a) b e = absurd (nil≢cons (sym e))

pub nil-map : {A B : Type 0} (f : A → B) (l : List A) → map f l ≡ [] → l ≡ []
nil-map f [] e = refl
nil-map f (x ∷ l) e = absurd (nil≢cons (sym e))

pub all_left : {A : Type 0} (P : A → Type 0) (a b : List A) → All P (a ++ b) → All P a
unfolding All
all_left P [] b x = tt
all_left P (e ∷ a) b x = (x.0, all_left P a b x.1)

pub all_right : {A : Type 0} (P : A → Type 0) (a b : List A) → All P (a ++ b) → All P b
unfolding All
all_right P [] b x = x
all_right P (e ∷ a) b x = all_right P a b x.1

pub all_map : {A B : Type 0} (P : B → Type 0) (f : A → B) (l : List A) → All (λ a. P (f a)) l → All P (map f l)
unfolding All
all_map P f [] x = tt
all_map P f (a ∷ l) x = (x.0, all_map P f l x.1)

-- none of those is none that passes
pub none_pass : {A : Type 0} (t : A → Bool) (l : List A) → those t l ≡ [] → All (λ a. t a ≡ false) l
unfolding those All
none_pass t [] e = tt
none_pass t (a ∷ l) e = go (t a) refl (none_pass t l) e
  where
    go : (b : Bool) → t a ≡ b → (those t l ≡ [] → All (λ c. t c ≡ false) l) → (if b then a ∷ those t l else those t l) ≡ [] → (t a ≡ false) × All (λ c. t c ≡ false) l
    go true h f e' = absurd (nil≢cons (sym e'))
    go false h f e' = (h, f e')

-- ---- what is within range

abbrev pub Fits : ℤ → Type 0
Fits z = beyond z ≡ false

abbrev pub Fits₂ : Point ℤ → Type 0
Fits₂ p = Fits p.x × Fits p.y

abbrev pub Fit : Shape ℤ → Type 0
Fit k = All Fits k.sizes × All Fits₂ k.directions

unfoldable pub FitStep : Step → Type 0
FitStep (shape l k) = Fit k
FitStep (instance n ts) = Unit {0}
FitStep (setting l) = Unit {0}

-- ---- commands without a fault

pub at_numbers_lem : (r : Rule) (t : ℤ → Bool) (ds : List Number) → at_numbers r t ds ≡ [] → All (λ d. t d.what ≡ false) ds
unfolding at_numbers
at_numbers_lem r t ds e = none_pass (λ d. t d.what) ds (nil-map _ _ e)

points_of : (ds : List (Point Number)) → All (λ d. beyond d.what ≡ false) (both ds) → All (λ p. Fits₂ (given p)) ds
unfolding All
points_of [] x = tt
points_of (p ∷ ds) x = ((x.0, x.1.0), points_of ds x.1.1)

pub fit-step : (s : Standing) (p : ℕ) (c : Command) → faults s (at p c) ≡ [] → All FitStep (step_of s c)
unfolding faults step_of All FitStep scaled_shape distances numbers_of parts_of flat_map
fit-step s p (draw k) e =
    let n = numbers_of (draw k) in
    let d = distances (draw k) in
    let e₁ = nil-right (at_numbers NumberTooLarge beyond n) _ e in
    let e₂ = nil-right (at_command ZeroFactor (zero_scale (draw k)) p) _ e₁ in
    let six = at_numbers_lem ScaledTooLarge (λ z. beyond (scaled s z)) d (nil-left (at_numbers ScaledTooLarge (λ z. beyond (scaled s z)) d) _ e₂) in
    let three = at_numbers_lem NumberTooLarge beyond n (nil-left (at_numbers NumberTooLarge beyond n) _ e) in
    let sb = k.sizes ++ both k.points in
    let sbd = k.sizes ++ (both k.points ++ both k.directions) in (
      (
        all_map Fits (λ z. scaled s z.what) k.sizes (all_left _ k.sizes (both k.points) (all_left _ sb [] (all_left _ (sb ++ []) [] six))),
        all_map Fits₂ given k.directions
            (points_of k.directions
            (all_right _ (both k.points) (both k.directions) (all_right _ k.sizes _ (all_left _ sbd [] (all_left _ (sbd ++ []) [] three))))),
      ),
      tt,
    )
fit-step s p (call n ts) e = (tt, tt)
fit-step s p (layer l) e = (tt, tt)
fit-step s p (start n a b) e = tt
fit-step s p finish e = tt
fit-step s p (delete n) e = tt
fit-step s p nothing e = tt

-- ---- the drawing

pub abs_neg : (z : ℤ) → nat_abs (neg_ℤ z) ≡ nat_abs z
abs_neg (pos zero) = refl
abs_neg (pos (suc n)) = refl
abs_neg (negsuc n) = refl

fit_neg : (z : ℤ) → Fits z → Fits (neg_ℤ z)
unfolding beyond
fit_neg z h = rw (abs_neg z) h

fit-rotated : (h : Option Heading) (p : Point ℤ) → Fits₂ p → Fits₂ (rotated h p)
unfolding rotated
fit-rotated (some +x) p x = x
fit-rotated (some +y) p x = (fit_neg p.y x.1, x.0)
fit-rotated (some -x) p x = (fit_neg p.x x.0, fit_neg p.y x.1)
fit-rotated (some -y) p x = (x.1, fit_neg p.x x.0)
fit-rotated none p x = x

fit-aim : (t : Turn ℤ) (p : Point ℤ) → Fits₂ p → Fits₂ (aim t p)
unfolding aim act
fit-aim (translate d) p x = x
fit-aim mirror_x p x = (fit_neg p.x x.0, x.1)
fit-aim mirror_y p x = (x.0, fit_neg p.y x.1)
fit-aim (rotate d) p x = fit-rotated (heading d) p x

pub fit-aims : (ts : List (Turn ℤ)) (p : Point ℤ) → Fits₂ p → Fits₂ (in_order aim ts p)
unfolding in_order
fit-aims [] p x = x
fit-aims (t ∷ ts) p x = fit-aims ts (aim t p) (fit-aim t p x)

pub all_by : {A B : Type 0} (P : A → Type 0) (Q : B → Type 0) (f : A → B) → ((a : A) → P a → Q (f a)) → (l : List A) → All P l → All Q (map f l)
unfolding All
all_by P Q f h [] x = tt
all_by P Q f h (a ∷ l) x = (h a x.0, all_by P Q f h l x.1)

pub fit-moved : (ts : List (Turn ℤ)) (k : Shape ℤ) → Fit k → Fit (moved ts k)
unfolding moved
fit-moved ts k x = (x.0, all_by Fits₂ Fits₂ (in_order aim ts) (fit-aims ts) k.directions x.1)

pub no_fault : (l : List Refusal) → first l ≡ none → l ≡ []
unfolding first
no_fault [] e = refl
no_fault (r ∷ l) e = let z : ◌≡◌ {A = Option Refusal} (some r) none = e in absurd (subst some? z tt)
  where
    some? : Option Refusal → Type 0
    some? (some x) = Unit {0}
    some? none = ⊥
