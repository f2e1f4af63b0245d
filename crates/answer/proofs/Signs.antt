-- A number that may be below 0 as a host is told it, and the words after the places of the calls.
-- Assumes nothing.
use mathlib.Core.Path.{◌≡◌, sym, ap, ◌∙◌}
use mathlib.Core.List.{List, [], ◌∷◌, ◌++◌}
use Prim.Native.Nat.{ℕ, suc, ◌+◌, ◌-◌}
use native.Mathlib.Omega.{arith}
use lib.IntN.{ℤ, nat_abs}
use lib.ListN.{length, set}
use mir.Facts.{to_z-of_z}
use mir.Syntax.{w64}
use mir.Val.{SFits}
use Rattle.definition.specs.declared.Why.{Why}
use Rattle.digits.proofs.Signs.{wrap, turn, Negative, Positive}
use Rattle.answer.specs.Words.{zeros, answer_words, why_answer, signed_word, why_words}

pub not_below : (z : ℤ) → SFits w64 z → Positive z → nat_abs (wrap z) ≡ signed_word z
not_below z f h = rw (to_z-of_z f, h.is)

pub below : (z : ℤ) → Negative z → 18446744073709551615 - nat_abs (wrap (turn z)) ≡ signed_word z
below z h = rw (h.turned, h.is)

-- of a signed field of a struct, which comes wrapped
pub signed_as : {k : ℕ} (z : ℤ) → wrap z ≡ z → k ≡ signed_word (wrap z) → k ≡ signed_word z
signed_as z same e = e ∙ ap (λ (y : ℤ). signed_word y) same

set_past : (l q : List ℕ) (n i v : ℕ) → length l ≡ n → set (l ++ q) (n + i) v ≡ l ++ set q i v
set_past l q n i v e = ap (λ (k : ℕ). set (l ++ q) (k + i) v) (sym e) ∙ go l
  where
    go : (l : List ℕ) → set (l ++ q) (length l + i) v ≡ l ++ set q i v
    go [] = let z : 0 + i ≡ i = omega arith in ap (λ (k : ℕ). set q k v) z
    go (x ∷ l) = let z : suc (length l) + i ≡ suc (length l + i) = omega arith in ap (λ (k : ℕ). set (x ∷ (l ++ q)) k v) z ∙ ap (λ (m : List ℕ). x ∷ m) (go l)

after-calls : (l : List ℕ) → length l ≡ 32 → (s a b c d x y : ℕ)
    → set (set (set (set (set (set (set (l ++ zeros 16) 32 s) 33 a) 34 b) 35 c) 36 d) 37 x) 38 y ≡ l ++ (s ∷ a ∷ b ∷ c ∷ d ∷ x ∷ y ∷ zeros 9)
after-calls l many s a b c d x y =
    ap (λ (m : List ℕ). set (set (set (set (set (set m 33 a) 34 b) 35 c) 36 d) 37 x) 38 y) (set_past l (zeros 16) 32 0 s many)
    ∙ ap (λ (m : List ℕ). set (set (set (set (set m 34 b) 35 c) 36 d) 37 x) 38 y) (set_past l (s ∷ zeros 15) 32 1 a many)
    ∙ ap (λ (m : List ℕ). set (set (set (set m 35 c) 36 d) 37 x) 38 y) (set_past l (s ∷ a ∷ zeros 14) 32 2 b many)
    ∙ ap (λ (m : List ℕ). set (set (set m 36 d) 37 x) 38 y) (set_past l (s ∷ a ∷ b ∷ zeros 13) 32 3 c many)
    ∙ ap (λ (m : List ℕ). set (set m 37 x) 38 y) (set_past l (s ∷ a ∷ b ∷ c ∷ zeros 12) 32 4 d many)
    ∙ ap (λ (m : List ℕ). set m 38 y) (set_past l (s ∷ a ∷ b ∷ c ∷ d ∷ zeros 11) 32 5 x many)
    ∙ set_past l (s ∷ a ∷ b ∷ c ∷ d ∷ x ∷ zeros 10) 32 6 y many

pub why_told : {w : List ℕ} (y : Why) {a b c d x z : ℕ} → w ≡ answer_words (why_answer y) → length y.chain ≡ 32 → a ≡ signed_word y.a → b ≡ signed_word y.b → c ≡ signed_word y.c → d ≡ signed_word y.d
    → x ≡ signed_word y.tx → z ≡ signed_word y.ty
    → set (set (set (set (set (set (set w 48 y.shape) 49 a) 50 b) 51 c) 52 d) 53 x) 54 z ≡ why_words y
why_told y e many ka kb kc kd kx kz =
    (λ i. set (set (set (set (set (set (set (e i) 48 y.shape) 49 (ka i)) 50 (kb i)) 51 (kc i)) 52 (kd i)) 53 (kx i)) 54 (kz i))
    ∙ ap (λ (l : List ℕ). y.number ∷ y.place ∷ 0 ∷ 0 ∷ 0 ∷ 0 ∷ 0 ∷ y.line ∷ y.column ∷ y.opened ∷ (zeros 6 ++ l))
    (after-calls y.chain many y.shape (signed_word y.a) (signed_word y.b) (signed_word y.c) (signed_word y.d) (signed_word y.tx) (signed_word y.ty))
