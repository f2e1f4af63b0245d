-- A layer's name packed into one number: 0 for none only, and another name gives another number.
-- Assumes nothing.
use mathlib.Core.Path.{◌≡◌, refl, sym, ap₂, ◌∙◌}
use mathlib.Core.List.{List, [], ◌∷◌}
use mathlib.Core.Logic.{inl, inr}
use Prim.Native.Nat.{ℕ, zero, suc, ◌+◌, ◌*◌, ◌≤◌, ◌<◌}
use native.Mathlib.Omega.{arith}
use borrow.Author.Tests.{ne_eqb}
use lib.Dec.{leb, eqb, leb→le}
use lib.ListN.{length, get_or}
use Rattle.grammar.specs.Notation.{has}
use Rattle.grammar.proofs.Tests.{and_left, and_right}
use Rattle.laws.proofs.Lists.Range.{All}
use Rattle.laws.proofs.FlatFile.Spelling.{NameChar}
use Rattle.laws.proofs.Commands.Made.{Name}
use Rattle.rules.specs.Letters.{first_unit}
use Rattle.rules.specs.Written.{packed_by}

abbrev pub packed : List ℕ → ℕ
packed l = packed_by first_unit l

pub record NameByte (b : ℕ) : Type 0 where
  pub some : 0 < b
  pub small : b ≤ 90

pub name-byte : {b : ℕ} → NameChar b → NameByte b
unfolding has
name-byte {b} (inl h) = let l = leb→le 48 b (and_left (leb 48 b) (leb b 57) h) in let m = leb→le b 57 (and_right (leb 48 b) (leb b 57) h) in record { some = omega arith; small = omega arith }
name-byte {b} (inr h) = let l = leb→le 65 b (and_left (leb 65 b) (leb b 90) h) in let m = leb→le b 90 (and_right (leb 65 b) (leb b 90) h) in record { some = omega arith; small = omega arith }

pub packed_none : (l : List ℕ) → Name l → eqb (packed l) 0 ≡ eqb (length l) 0
unfolding packed_by All
packed_none [] k = refl
packed_none (b ∷ l) k =
    let h = name-byte k.chars.0 in
    ne_eqb (packed (b ∷ l)) 0 (λ e. omega arith) ∙ sym (ne_eqb (suc (length l)) 0 (λ e. omega arith))

-- a name's bytes, with 0 behind them
byte-below : (l : List ℕ) → All NameChar l → (i : ℕ) → get_or l i 0 ≤ 90
unfolding All
byte-below [] h i = omega arith
byte-below (b ∷ l) h zero = let x = name-byte h.0 in x.small
byte-below (b ∷ l) h (suc i) = byte-below l h.1 i

four_bytes : (l : List ℕ) → length l ≤ 4 → packed l ≡ get_or l 0 0 * 16777216 + (get_or l 1 0 * 65536 + (get_or l 2 0 * 256 + get_or l 3 0))
unfolding packed_by
four_bytes [] h = refl
four_bytes (a ∷ []) h = omega arith
four_bytes (a ∷ b ∷ []) h = omega arith
four_bytes (a ∷ b ∷ c ∷ []) h = omega arith
four_bytes (a ∷ b ∷ c ∷ d ∷ []) h = omega arith
four_bytes (a ∷ b ∷ c ∷ d ∷ e ∷ l) h = absurd (omega arith)

-- it fits into a word
pub packed-most : (l : List ℕ) → Name l → packed l ≤ 2147483647
packed-most l n =
    let e = four_bytes l n.short in
    let b₀ = byte-below l n.chars 0 in
    let b₁ = byte-below l n.chars 1 in
    let b₂ = byte-below l n.chars 2 in
    let b₃ = byte-below l n.chars 3 in
    omega arith

past_end : (l : List ℕ) (i : ℕ) → length l ≤ i → get_or l i 0 ≡ 0
past_end [] i h = refl
past_end (b ∷ l) zero h = absurd (omega arith)
past_end (b ∷ l) (suc i) h = past_end l i (omega arith)

same_bytes : (l k : List ℕ) → All NameChar l → All NameChar k → ((i : ℕ) → get_or l i 0 ≡ get_or k i 0) → l ≡ k
unfolding All
same_bytes [] [] x y e = refl
same_bytes [] (b ∷ k) x y e = let h = name-byte y.0 in absurd (let z : 0 ≡ b = e 0 in omega arith)
same_bytes (a ∷ l) [] x y e = let h = name-byte x.0 in absurd (let z : a ≡ 0 = e 0 in omega arith)
same_bytes (a ∷ l) (b ∷ k) x y e = ap₂ {C = List ℕ} (λ (c : ℕ) (m : List ℕ). c ∷ m) (e 0) (same_bytes l k x.1 y.1 (λ i. e (suc i)))

pub packed_one : (l k : List ℕ) → Name l → Name k → packed l ≡ packed k → l ≡ k
packed_one l k x y e = same_bytes l k x.chars y.chars go
  where
    P : ℕ → ℕ
    P i = get_or l i 0

    Q : ℕ → ℕ
    Q i = get_or k i 0

    sum : P 0 * 16777216 + (P 1 * 65536 + (P 2 * 256 + P 3)) ≡ Q 0 * 16777216 + (Q 1 * 65536 + (Q 2 * 256 + Q 3))
    sum = sym (four_bytes l x.short) ∙ (e ∙ four_bytes k y.short)

    apart : (a b c d m n p q : ℕ) → b ≤ 90 → c ≤ 90 → d ≤ 90 → n ≤ 90 → p ≤ 90 → q ≤ 90
        → a * 16777216 + (b * 65536 + (c * 256 + d)) ≡ m * 16777216 + (n * 65536 + (p * 256 + q)) → (a ≡ m) × (b ≡ n) × (c ≡ p) × (d ≡ q)
    apart a b c d m n p q h₁ h₂ h₃ h₄ h₅ h₆ f = (omega arith, omega arith, omega arith, omega arith)

    all : (P 0 ≡ Q 0) × (P 1 ≡ Q 1) × (P 2 ≡ Q 2) × (P 3 ≡ Q 3)
    all =
        apart (P 0) (P 1) (P 2) (P 3) (Q 0) (Q 1) (Q 2) (Q 3) (byte-below l x.chars 1) (byte-below l x.chars 2) (byte-below l x.chars 3)
        (byte-below k y.chars 1) (byte-below k y.chars 2) (byte-below k y.chars 3) sum

    go : (i : ℕ) → get_or l i 0 ≡ get_or k i 0
    go zero = all.0
    go (suc zero) = all.1
    go (suc (suc zero)) = all.2
    go (suc (suc (suc zero))) = all.3
    go (suc (suc (suc (suc i)))) = past_end l (suc (suc (suc (suc i)))) (omega (arith, x.short)) ∙ sym (past_end k (suc (suc (suc (suc i)))) (omega (arith, y.short)))
