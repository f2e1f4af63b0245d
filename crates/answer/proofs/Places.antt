-- The places of the open calls, copied among an answer's words one after the other and read back from them.
-- Assumes nothing.
use mathlib.Core.Path.{◌≡◌, refl, ap, ◌∙◌, subst}
use mathlib.Core.List.{List, ◌++◌, append-nil}
use Prim.Native.Nat.{ℕ, zero, suc, ◌+◌, ◌≤◌, ◌<◌}
use native.Mathlib.Omega.{arith}
use lib.ListN.{length, get_or, set, take}
use lib.Seq.{paste, paste-zero, paste-suc, take_all}
use Rattle.definition.specs.declared.Answer.{Answer}
use Rattle.answer.specs.Words.{zeros, first_words, answer_words, words_from, chain_by}

-- so many elements of a list are copied into another from this index on
pub record Copied (base : List ℕ) (at : ℕ) (from : List ℕ) (i : ℕ) (now : List ℕ) : Type 0 where
  pub is : now ≡ paste base at from i
  pub within : i ≤ 32
  pub room : at + 32 ≤ length base
  pub enough : 32 ≤ length from

pub none_copied : (base : List ℕ) (at : ℕ) (from : List ℕ) → at + 32 ≤ length base → 32 ≤ length from → Copied base at from 0 base
none_copied base at from room enough = record { is = paste-zero base at from; within = omega arith; room = room; enough = enough }

pub one_copied : {base : List ℕ} {at : ℕ} {from : List ℕ} {i : ℕ} {now : List ℕ} → Copied base at from i now → i < 32 → Copied base at from (i + 1) (set now (at + i) (get_or from i 0))
one_copied {base} {at} {from} {i} {now} g h = record {
  is =
      ap (λ (l : List ℕ). set l (at + i) (get_or from i 0)) g.is
      ∙ (paste-suc base at from i 0 (omega (arith, g.room)) (omega (arith, g.enough)) ∙ (let one : suc i ≡ i + 1 = omega arith in ap (paste base at from) one));
  within = omega (arith, h);
  room = g.room;
  enough = g.enough;
}

pub all_copied : {base : List ℕ} {at : ℕ} {from : List ℕ} {i : ℕ} {now : List ℕ} → Copied base at from i now → 32 ≤ i → now ≡ paste base at from 32
all_copied {base} {at} {from} {i} {now} g h =
    let all : i ≡ 32 = omega (arith, g.within) in
    g.is ∙ ap (paste base at from) all

-- ---- into the words

pub all_told : {a : Answer} {i : ℕ} {told now : List ℕ} → told ≡ first_words a ++ zeros 54 → Copied told 16 a.chain i now → 32 ≤ i → length a.chain ≡ 32 → now ≡ answer_words a
all_told {a} {i} {told} {now} e g h many =
    all_copied g h ∙ (ap (λ (l : List ℕ). paste l 16 a.chain 32) e ∙ ap (λ (l : List ℕ). first_words a ++ (zeros 6 ++ (l ++ zeros 16))) (take_all 32 a.chain (omega (arith, many))))

-- ---- and from them

length_words : (i n : ℕ) (w : List ℕ) → length (words_from i n w) ≡ n
unfolding words_from
length_words i zero w = refl
length_words i (suc n) w = ap suc (length_words (suc i) n w)

get_d_words : (i n : ℕ) (w : List ℕ) (j : ℕ) → j < n → get_or (words_from i n w) j 0 ≡ get_or w (i + j) 0
unfolding words_from
get_d_words i zero w j h = absurd (omega arith)
get_d_words i (suc n) w zero h = let e : i ≡ i + 0 = omega arith in ap (λ (k : ℕ). get_or w k 0) e
get_d_words i (suc n) w (suc j) h = let e : suc i + j ≡ i + suc j = omega arith in get_d_words (suc i) n w j (omega arith) ∙ ap (λ (k : ℕ). get_or w k 0) e

pub none_read : (w : List ℕ) → Copied (zeros 32) 0 (chain_by w) 0 (zeros 32)
none_read w = none_copied (zeros 32) 0 (chain_by w) (omega arith) (omega (arith, length_words 16 32 w))

pub one_read : (w : List ℕ) {i : ℕ} {now : List ℕ} → Copied (zeros 32) 0 (chain_by w) i now → i < 32 → Copied (zeros 32) 0 (chain_by w) (i + 1) (set now i (get_or w (16 + i) 0))
one_read w {i} {now} g h =
    let e : 0 + i ≡ i = omega arith in
    subst (Copied (zeros 32) 0 (chain_by w) (i + 1)) (ap (λ (k : ℕ). set now k (get_or (chain_by w) i 0)) e ∙ ap (set now i) (get_d_words 16 32 w i h)) (one_copied g h)

pub all_read : (w : List ℕ) {i : ℕ} {now : List ℕ} → Copied (zeros 32) 0 (chain_by w) i now → 32 ≤ i → now ≡ chain_by w
all_read w {i} {now} g h = all_copied g h ∙ (append-nil (take 32 (chain_by w)) ∙ take_all 32 (chain_by w) (omega (arith, length_words 16 32 w)))
