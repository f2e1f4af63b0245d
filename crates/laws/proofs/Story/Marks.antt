-- Sets of layers as numbers of marks (crates/definition, specs/Marks.antt): of joined lists, of one layer, how many marks are set, and which is the lowest.
-- Assumes nothing.
use Rattle.std.specs.Prelude.{if◌then◌else◌}
use mathlib.Core.Path.{◌≡◌, refl, sym, ap, ap₂, ◌∙◌, subst}
use mathlib.Core.Bool.{Bool, true, false, ◌||◌}
use mathlib.Core.List.{List, [], ◌∷◌, ◌++◌}
use mathlib.Core.Option.{Option, none, some}
use Prim.Native.Nat.{ℕ, zero, suc, ◌+◌, ◌*◌, ◌/◌, ◌%◌, ◌^◌, ◌≤◌, ◌<◌, max}
use native.Mathlib.Omega.{arith}
use native.Mathlib.Nat.{pow-suc}
use lib.Dec.{T, eqb, eqb_refl}
use lib.Bits.{bit_or, or_step}
use lib.Count.{ones, ones_step, count_trailing_zeros, under}
use lib.ListN.{length, get_or}
use Rattle.definition.specs.Words.{any, those, first, same}
use Rattle.definition.specs.Summary.{Names, among, appearing}
use Rattle.definition.specs.Marks.{set_of_layers}
use Rattle.definition.proofs.Rows.{same-eq}

abbrev pub bit : Bool → ℕ
bit b = if b then 1 else 0

bit_low : (b : Bool) → bit b < 2
bit_low true = omega arith
bit_low false = omega arith

bit_or_lem : (a b : Bool) → bit (a || b) ≡ max (bit a) (bit b)
bit_or_lem true true = refl
bit_or_lem true false = refl
bit_or_lem false true = refl
bit_or_lem false false = refl

upper : (x : ℕ) (b : Bool) → (x * 2 + bit b) / 2 ≡ x
upper x true = omega arith
upper x false = omega arith

lower : (x : ℕ) (b : Bool) → (x * 2 + bit b) % 2 ≡ bit b
lower x true = omega arith
lower x false = omega arith

pub any-++ : {A : Type 0} (t : A → Bool) (a b : List A) → any t (a ++ b) ≡ (any t a || any t b)
unfolding any
any-++ t [] b = refl
any-++ t (x ∷ a) b = ap (λ (r : Bool). t x || r) (any-++ t a b) ∙ go (t x)
  where
    go : (c : Bool) → (c || (any t a || any t b)) ≡ ((c || any t a) || any t b)
    go true = refl
    go false = refl

pub among-++ : (l : List ℕ) (a b : Names) → among l (a ++ b) ≡ (among l a || among l b)
unfolding among
among-++ l a b = any-++ (same l) a b

-- no layers, no marks
pub set_none : (ns : Names) → set_of_layers ns [] ≡ 0
unfolding set_of_layers among any
set_none [] = refl
set_none (n ∷ ns) = ap (λ (x : ℕ). x * 2 + 0) (set_none ns)

pub set-joined : (ns a b : Names) → set_of_layers ns (a ++ b) ≡ bit_or (set_of_layers ns a) (set_of_layers ns b)
unfolding set_of_layers
set-joined [] a b = refl
set-joined (n ∷ ns) a b =
    let x : ℕ = set_of_layers ns a in
    let y : ℕ = set_of_layers ns b in
    ap₂ (λ (k : ℕ) (c : Bool). k * 2 + bit c) (set-joined ns a b) (among-++ n a b)
    ∙ ap₂ (λ (k m : ℕ). k * 2 + m) (ap₂ bit_or (sym (upper x (among n a))) (sym (upper y (among n b))))
    (bit_or_lem (among n a) (among n b) ∙ ap₂ max (sym (lower x (among n a))) (sym (lower y (among n b))))
    ∙ sym (or_step (x * 2 + bit (among n a)) (y * 2 + bit (among n b)))

-- one mark for each name
pub set_below : (ns ls : Names) → set_of_layers ns ls < 2 ^ length ns
unfolding set_of_layers
set_below [] ls = omega arith
set_below (n ∷ ns) ls =
    let b = bit_low (among n ls) in
    let h = set_below ns ls in
    subst (λ (k : ℕ). set_of_layers ns ls * 2 + bit (among n ls) < k) (sym (pow-suc 2 (length ns))) (omega arith)

-- as many marks as layers of the text are among them
pub set-ones : (ns ls : Names) → ones (set_of_layers ns ls) ≡ length (appearing ns ls)
unfolding set_of_layers appearing those ones
set-ones [] ls = refl
set-ones (n ∷ ns) ls =
    ones_step (set_of_layers ns ls * 2 + bit (among n ls))
    ∙ ap₂ (λ (k m : ℕ). k + ones m) (lower (set_of_layers ns ls) (among n ls)) (upper (set_of_layers ns ls) (among n ls))
    ∙ ap (λ (k : ℕ). bit (among n ls) + k) (set-ones ns ls)
    ∙ go (among n ls)
  where
    go : (b : Bool) → bit b + length (appearing ns ls) ≡ length (if b then n ∷ appearing ns ls else appearing ns ls)
    go true = omega arith
    go false = omega arith

-- the lowest mark is the first of them to appear; with no mark set, there is none
abbrev pub marked_first : Names → (set lowest : ℕ) → Option (List ℕ)
marked_first names zero lowest = none
marked_first names (suc set) lowest = some (get_or names lowest [])

pub some_mark : (names : Names) (set lowest : ℕ) → 0 < set → marked_first names set lowest ≡ some (get_or names lowest [])
some_mark names zero lowest l = absurd (omega arith)
some_mark names (suc set) lowest l = refl

later_first : (n : List ℕ) (ns : Names) (k y : ℕ) → marked_first ns y k ≡ marked_first (n ∷ ns) (y * 2 + 0) (suc k)
later_first n ns k zero = refl
later_first n ns k (suc y) = sym (some_mark (n ∷ ns) (suc y * 2 + 0) (suc k) (omega arith))

pub set_first : (k : ℕ) (ns ls : Names) → length ns ≤ k → first (appearing ns ls) ≡ marked_first ns (set_of_layers ns ls) (count_trailing_zeros k (set_of_layers ns ls))
unfolding set_of_layers appearing those first count_trailing_zeros
set_first k [] ls h = refl
set_first zero (n ∷ ns) ls h = absurd (omega arith)
set_first (suc k) (n ∷ ns) ls h = go (among n ls) (set_first k ns ls (omega arith))
  where
    x : ℕ
    x = set_of_layers ns ls

    go : (b : Bool) → first (appearing ns ls) ≡ marked_first ns x (count_trailing_zeros k x)
        → first (if b then n ∷ appearing ns ls else appearing ns ls)
        ≡ marked_first (n ∷ ns) (x * 2 + bit b) (under ((x * 2 + bit b) % 2) (count_trailing_zeros k ((x * 2 + bit b) / 2)))
    go true rest = sym (some_mark (n ∷ ns) (x * 2 + 1) 0 (omega arith)) ∙ ap (λ (m : ℕ). marked_first (n ∷ ns) (x * 2 + 1) (under m (count_trailing_zeros k ((x * 2 + 1) / 2)))) (sym (lower x true))
    go false rest =
        rest ∙ later_first n ns (count_trailing_zeros k x) x
        ∙ ap₂ (λ (m y : ℕ). marked_first (n ∷ ns) (x * 2 + 0) (under m (count_trailing_zeros k y))) (sym (lower x false)) (sym (upper x false))

-- ---- the mark of one layer

T-is : (b : Bool) → T b → b ≡ true
T-is true t = refl
T-is false t = absurd t

same_self : (l : List ℕ) → same l l ≡ true
unfolding same
same_self [] = refl
same_self (a ∷ l) = ap (λ (b : Bool). if b then same l l else false) (T-is (eqb a a) (eqb_refl a)) ∙ same_self l

same_other : (a b : List ℕ) → (a ≡ b → ⊥) → same a b ≡ false
same_other a b h = go (same a b) refl
  where
    go : (c : Bool) → same a b ≡ c → same a b ≡ false
    go false e = e
    go true e = absurd (h (same-eq a b (subst T (sym e) tt)))

alone : (b : Bool) → (b || false) ≡ b
alone true = refl
alone false = refl

is_among : (n l : List ℕ) → among n (l ∷ []) ≡ same n l
unfolding among any
is_among n l = alone (same n l)

-- a layer that is none of the text's has no mark
set_no_one : (ns : Names) (l : List ℕ) → ((j : ℕ) → j < length ns → get_or ns j [] ≡ l → ⊥) → set_of_layers ns (l ∷ []) ≡ 0
unfolding set_of_layers
set_no_one [] l h = refl
set_no_one (n ∷ ns) l h =
    ap₂ (λ (x : ℕ) (b : Bool). x * 2 + bit b) (set_no_one ns l (λ j k. h (suc j) (omega arith))) (is_among n l ∙ same_other n l (h 0 (omega arith)))

-- where it is the one at place i, and no other, that mark alone is set
pub set_one : (ns : Names) (l : List ℕ) (i : ℕ) → i < length ns → get_or ns i [] ≡ l → ((j : ℕ) → j < length ns → get_or ns j [] ≡ l → j ≡ i) → set_of_layers ns (l ∷ []) ≡ 2 ^ i
unfolding set_of_layers
set_one [] l i h e one = absurd (omega arith)
set_one (n ∷ ns) l zero h e one =
    ap₂ (λ (x : ℕ) (b : Bool). x * 2 + bit b) (set_no_one ns l (λ j k f. absurd (impossible (one (suc j) (omega arith) f))))
    (is_among n l ∙ ap (λ (m : List ℕ). same m l) e ∙ same_self l)
  where
    impossible : {j : ℕ} → suc j ≡ 0 → ⊥
    impossible f = omega arith
set_one (n ∷ ns) l (suc i) h e one =
    ap₂ (λ (x : ℕ) (b : Bool). x * 2 + bit b) (set_one ns l i (omega arith) e (λ j k f. pred (one (suc j) (omega arith) f)))
    (is_among n l ∙ same_other n l (λ f. absurd (impossible (one 0 (omega arith) f))))
    ∙ (omega arith ∙ sym (pow-suc 2 i))
  where
    pred : {j : ℕ} → suc j ≡ suc i → j ≡ i
    pred f = omega arith

    impossible : 0 ≡ suc i → ⊥
    impossible f = omega arith
