-- What a decimal is: the digits of n are worth n and have no leading zero, and they are the only such and the fewest. It stands before Again.antt,
-- which reads them.
-- Assumes nothing.
use mathlib.Core.Path.{◌≡◌, refl, sym, ap, ◌∙◌, subst}
use mathlib.Core.Bool.{Bool, true, false, ◌&&◌}
use mathlib.Core.List.{List, [], ◌∷◌, ◌++◌}
use Prim.Native.Nat.{ℕ, zero, suc, ◌+◌, ◌-◌, ◌*◌, ◌/◌, ◌%◌, ◌≤◌, ◌<◌}
use native.Mathlib.Omega.{arith}
use borrow.Author.Tests.{ltb-true, ltb-false, lt-ltb, le-ltb}
use lib.Dec.{T, ltb, leb, le→leb, leb→le}
use lib.ListN.{length, get_or, length-append}
use Rattle.grammar.proofs.Tests.{and_left, and_right, and_both}
use Rattle.definition.specs.Flat.{digits, shortest}
use Rattle.laws.proofs.Lists.Range.{All, all-++}
use Rattle.laws.proofs.Commands.Sizes.{all_left, all_right}

abbrev pub DigitByte : ℕ → Type 0
DigitByte a = T (leb 48 a && leb a 57)

-- what digits are worth behind digits worth v
unfoldable pub val : ℕ → List ℕ → ℕ
val v [] = v
val v (c ∷ cs) = val (10 * v + (c - 48)) cs

-- digits that say n
pub record Says (n : ℕ) (cs : List ℕ) : Type 0 where
  pub some : 0 < length cs
  pub digit-bytes : All DigitByte cs
  pub value : val 0 cs ≡ n

-- no leading zero: the first of them is none, or there is no other
abbrev pub Lean : List ℕ → Type 0
Lean cs = 1 < length cs → get_or cs 0 48 ≡ 48 → ⊥

-- the law of `shortest n`
pub record Shortest (n : ℕ) (cs : List ℕ) : Type 0 where
  pub says : Says n cs
  pub lean : 0 < n → get_or cs 0 48 ≡ 48 → ⊥
  pub nought : n ≡ 0 → cs ≡ 48 ∷ []
  pub only : (ds : List ℕ) → Says n ds → Lean ds → ds ≡ cs
  pub fewest : (ds : List ℕ) → Says n ds → length cs ≤ length ds

-- ---- one digit, or more

by_ten : {A : Type 0} (n : ℕ) → (n < 10 → A) → (10 ≤ n → A) → A
by_ten {A} n f g = go (ltb n 10) refl
  where
    go : (b : Bool) → ltb n 10 ≡ b → A
    go true e = f (ltb-true n 10 e)
    go false e = g (ltb-false n 10 e)

digits_low : (d n : ℕ) → n < 10 → digits (suc d) n ≡ (48 + n) ∷ []
unfolding digits
digits_low d n h = rw (lt-ltb n 10 h) (ap (λ (k : ℕ). (48 + k) ∷ []) (omega (arith, h)))

digits_high : (d n : ℕ) → 10 ≤ n → digits (suc d) n ≡ digits d (n / 10) ++ ((48 + n % 10) ∷ [])
unfolding digits
digits_high d n h = rw (le-ltb n 10 h)

-- what holds of one digit, and of the digits of n if of those of n / 10, holds of all digits
by_digits : (P : ℕ → List ℕ → Type 0) → ((n : ℕ) → n < 10 → P n ((48 + n) ∷ []))
    → ((n : ℕ) (cs : List ℕ) → 10 ≤ n → P (n / 10) cs → P n (cs ++ ((48 + n % 10) ∷ []))) → (d n : ℕ) → n < d → P n (digits d n)
by_digits P low high zero n h = absurd (omega (arith, h))
by_digits P low high (suc d) n h =
    by_ten n (λ l. subst (P n) (sym (digits_low d n l)) (low n l))
    (λ g. subst (P n) (sym (digits_high d n g)) (high n (digits d (n / 10)) g (by_digits P low high d (n / 10) (omega arith))))

pub by_shortest : (P : ℕ → List ℕ → Type 0) → ((n : ℕ) → n < 10 → P n ((48 + n) ∷ []))
    → ((n : ℕ) (cs : List ℕ) → 10 ≤ n → P (n / 10) cs → P n (cs ++ ((48 + n % 10) ∷ []))) → (n : ℕ) → P n (shortest n)
by_shortest P low high n = by_digits P low high (suc n) n (omega arith)

-- ---- lists and their last

val_snoc : (v : ℕ) (cs : List ℕ) (c : ℕ) → val v (cs ++ (c ∷ [])) ≡ 10 * val v cs + (c - 48)
unfolding val
val_snoc v [] c = refl
val_snoc v (d ∷ cs) c = val_snoc (10 * v + (d - 48)) cs c

pub val_grows : (v : ℕ) (cs : List ℕ) → v ≤ val v cs
unfolding val
val_grows v [] = omega arith
val_grows v (c ∷ cs) = let h : 10 * v + (c - 48) ≤ val (10 * v + (c - 48)) cs = val_grows (10 * v + (c - 48)) cs in omega (arith, h)

some_snoc : (cs : List ℕ) (c : ℕ) → 0 < length (cs ++ (c ∷ []))
some_snoc cs c = simp length-append (omega arith)

first_snoc : (cs : List ℕ) (c : ℕ) → 0 < length cs → get_or (cs ++ (c ∷ [])) 0 48 ≡ get_or cs 0 48
first_snoc [] c h = absurd (omega (arith, h))
first_snoc (d ∷ cs) c h = refl

split : (c : ℕ) (cs : List ℕ) → (i : List ℕ) × (a : ℕ) × (c ∷ cs ≡ i ++ (a ∷ []))
split c [] = ([], c, refl)
split c (d ∷ cs) = let r = split d cs in (c ∷ r.0, r.1, ap (λ (x : List ℕ). c ∷ x) r.2)

digit-byte : (k : ℕ) → k < 10 → DigitByte (48 + k)
digit-byte k h = and_both (leb 48 (48 + k)) (leb (48 + k) 57) (le→leb 48 (48 + k) (omega arith)) (le→leb (48 + k) 57 (omega arith))

pub digit_low : (a : ℕ) → DigitByte a → 48 ≤ a
digit_low a h = leb→le 48 a (and_left (leb 48 a) (leb a 57) h)

pub digit_high : (a : ℕ) → DigitByte a → a ≤ 57
digit_high a h = leb→le a 57 (and_right (leb 48 a) (leb a 57) h)

-- whatever says n ends in its last digit, behind what is worth n / 10
record Ended (n : ℕ) (cs : List ℕ) : Type 0 where
  before : List ℕ
  is : cs ≡ before ++ ((48 + n % 10) ∷ [])
  bytes-before : All DigitByte before
  value_before : val 0 before ≡ n / 10

ended : (n : ℕ) (cs : List ℕ) → Says n cs → Ended n cs
unfolding All
ended n [] s = absurd (let h = s.some in omega (arith, h))
ended n (c ∷ cs) s = go (split c cs)
  where
    go : (i : List ℕ) × (a : ℕ) × (c ∷ cs ≡ i ++ (a ∷ [])) → Ended n (c ∷ cs)
    go (i, a, e) =
        let bytes : All DigitByte (i ++ (a ∷ [])) = subst (All DigitByte) e s.digit-bytes in
        let last : All DigitByte (a ∷ []) = all_right DigitByte i (a ∷ []) bytes in
        let low : 48 ≤ a = digit_low a last.0 in
        let high : a ≤ 57 = digit_high a last.0 in
        let worth : 10 * val 0 i + (a - 48) ≡ n = sym (val_snoc 0 i a) ∙ ap (val 0) (sym e) ∙ s.value in
        let a-is : a ≡ 48 + n % 10 = omega arith in
        record { before = i; is = e ∙ ap (λ (k : ℕ). i ++ (k ∷ [])) a-is; bytes-before = all_left DigitByte i (a ∷ []) bytes; value_before = omega arith }

-- ---- the law

low_is : (n : ℕ) → n < 10 → Shortest n ((48 + n) ∷ [])
unfolding All val
low_is n h = record {
  says = record { some = omega arith; digit-bytes = (digit-byte n h, tt); value = omega arith };
  lean = λ p e. omega (arith, p, e);
  nought = λ e. ap (λ (k : ℕ). (48 + k) ∷ []) e;
  only = λ ds s l. let r = ended n ds s in alone ds l r.before r.is r.bytes-before r.value_before;
  fewest = λ ds s. s.some;
}
  where
    alone : (ds : List ℕ) → Lean ds → (i : List ℕ) → ds ≡ i ++ ((48 + n % 10) ∷ []) → All DigitByte i → val 0 i ≡ n / 10 → ds ≡ (48 + n) ∷ []
    alone ds l [] e b v = e ∙ ap (λ (k : ℕ). (48 + k) ∷ []) (omega arith)
    alone ds l (c ∷ i) e b v =
        let long : 1 < length ds = subst (λ (x : List ℕ). 1 < length x) (sym e) (let q = some_snoc i (48 + n % 10) in omega (arith, q)) in
        let first : c ≡ 48 → ⊥ = λ q. l long (ap (λ (x : List ℕ). get_or x 0 48) e ∙ q) in
        let low : 48 ≤ c = digit_low c b.0 in
        let some : 10 * 0 + (c - 48) ≤ val (10 * 0 + (c - 48)) i = val_grows (10 * 0 + (c - 48)) i in
        absurd (omega (arith, first, low, some, v))

high_is : (n : ℕ) (cs : List ℕ) → 10 ≤ n → Shortest (n / 10) cs → Shortest n (cs ++ ((48 + n % 10) ∷ []))
unfolding All val
high_is n cs h r = record {
  says = record {
    some = some_snoc cs (48 + n % 10);
    digit-bytes = all-++ DigitByte cs _ r.says.digit-bytes (digit-byte (n % 10) (omega arith), tt);
    value = val_snoc 0 cs (48 + n % 10) ∙ (let q = r.says.value in omega (arith, q));
  };
  lean = λ p e. r.lean (omega arith) (sym (first_snoc cs (48 + n % 10) r.says.some) ∙ e);
  nought = λ e. absurd (omega (arith, e));
  only = λ ds s l. let x = ended n ds s in same ds l x.before x.is x.bytes-before x.value_before;
  fewest = λ ds s. let x = ended n ds s in more ds x.before x.is x.bytes-before x.value_before;
}
  where
    said-before : (i : List ℕ) → All DigitByte i → val 0 i ≡ n / 10 → Says (n / 10) i
    said-before [] b v = absurd (let none : 0 ≡ n / 10 = v in omega (arith, none))
    said-before (c ∷ i) b v = record { some = omega arith; digit-bytes = b; value = v }

    same : (ds : List ℕ) → Lean ds → (i : List ℕ) → ds ≡ i ++ ((48 + n % 10) ∷ []) → All DigitByte i → val 0 i ≡ n / 10 → ds ≡ cs ++ ((48 + n % 10) ∷ [])
    same ds l i e b v =
        let s : Says (n / 10) i = said-before i b v in
        let long : 1 < length ds = subst (λ (x : List ℕ). 1 < length x) (sym e) (let q = s.some in simp length-append (omega (arith, q))) in
        e ∙ ap (λ (x : List ℕ). x ++ ((48 + n % 10) ∷ []))
        (r.only i s (λ _ q. l long (ap (λ (x : List ℕ). get_or x 0 48) e ∙ first_snoc i (48 + n % 10) s.some ∙ q)))

    more : (ds i : List ℕ) → ds ≡ i ++ ((48 + n % 10) ∷ []) → All DigitByte i → val 0 i ≡ n / 10 → length (cs ++ ((48 + n % 10) ∷ [])) ≤ length ds
    more ds i e b v =
        let q : length cs ≤ length i = r.fewest i (said-before i b v) in
        subst (λ (x : List ℕ). length (cs ++ ((48 + n % 10) ∷ [])) ≤ length x) (sym e) (simp length-append (omega arith))

pub shortest_is : (n : ℕ) → Shortest n (shortest n)
shortest_is n = by_shortest Shortest low_is high_is n
