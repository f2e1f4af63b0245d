-- The words that crates/definition counts of a body are the words that hold it. So what is stored is counted by the table that the memory means, and
-- where that has idle layers left out, it is less than what the definitions need.
-- Assumes nothing.
use mathlib.Core.Path.{◌≡◌, refl, sym, ap, ◌∙◌}
use mathlib.Core.List.{List, [], ◌∷◌}
use Prim.Native.Nat.{ℕ, zero, suc, ◌+◌, ◌≤◌, ◌<◌}
use native.Mathlib.Omega.{arith}
use lib.IntN.{ℤ}
use lib.ListN.{length, length-append}
use Rattle.definition.specs.Words.{Placed}
use Rattle.definition.specs.Commands.{Turn, translate, mirror_x, mirror_y, rotate}
use Rattle.definition.specs.Table.{Step, shape, instance, setting}
use Rattle.definition.specs.Held.{total, words_of_turn, words_of_step, words_of_body, words_in}
use Rattle.turns.specs.Words.{turn_words, turns_words}
use Rattle.library.specs.Memory.{steps_in, table_from, table_of, start_at, length_at, sum_of, words_held}
use Rattle.library.specs.Sound.{values_of, step_words, all_words, Sound, Stocked}
use Rattle.library.specs.Moving.{Compacted}
use Rattle.library.proofs.Sums.{sum_next}
use Rattle.library.proofs.Decoded.{steps_are, words_length}

turns-count : (ts : List (Turn ℤ)) → length (turns_words ts) ≡ total words_of_turn ts
unfolding turns_words turn_words words_of_turn
turns-count [] = refl
turns-count (translate p ∷ ts) = let h = turns-count ts in omega (arith, h)
turns-count (mirror_x ∷ ts) = let h = turns-count ts in omega (arith, h)
turns-count (mirror_y ∷ ts) = let h = turns-count ts in omega (arith, h)
turns-count (rotate p ∷ ts) = let h = turns-count ts in omega (arith, h)

pub step_count : (s : Placed Step) → length (step_words s) ≡ words_of_step s.what
step_count s = go s.what
  where
    go : (x : Step) → suc (suc (length (values_of x))) ≡ words_of_step x
    go (shape l k) = unfold values_of words_of_step in omega arith
    go (instance n ts) = let h = turns-count ts in unfold values_of words_of_step in omega (arith, h)
    go (setting l) = unfold values_of words_of_step in refl

pub body-count : (ss : List (Placed Step)) → length (all_words ss) ≡ words_of_body ss
unfolding all_words words_of_body
body-count [] = refl
body-count (s ∷ ss) =
    let a = step_count s in
    let b = body-count ss in
    let c = length-append (values_of s.what) (all_words ss) in
    omega (arith, a, b, c)

body_words : (b : List ℤ) (from n : ℕ) → Sound b from n → words_of_body (steps_in b from n) ≡ n
body_words b from n s =
    ap words_of_body (steps_are b from n s) ∙ (sym (body-count s.steps) ∙ (sym (ap length s.words) ∙ words_length b from n))

-- from the last row down
held_more : (rows : List ℕ) (b : List ℤ) (m j : ℕ) → ((k : ℕ) → j ≤ k → k < j + m → Sound b (start_at rows k) (length_at rows k)) → words_in (table_from rows b j m) + words_held rows j ≡ words_held rows (j + m)
unfolding words_in table_from
held_more rows b zero j h = let e : j + 0 ≡ j = omega arith in let q = ap (words_held rows) e in omega (arith, q)
held_more rows b (suc m) j h =
    let r = held_more rows b m (j + 1) (λ k l q. h k (omega arith) (omega arith)) in
    let a = body_words b (start_at rows j) (length_at rows j) (h j (omega arith) (omega arith)) in
    let c = sum_next (length_at rows) j in
    let e : j + 1 + m ≡ j + suc m = omega arith in
    let d = ap (words_held rows) e in
    omega (arith, r, a, c, d)

pub held_are : (rows : List ℕ) (b : List ℤ) (live : ℕ) → Stocked rows b live → words_held rows live ≡ words_in (table_of rows b live)
held_are rows b live s =
    let r = held_more rows b live 0 (λ k l q. s.sound k (omega arith)) in
    let e : 0 + live ≡ live = omega arith in
    let z : words_held rows 0 ≡ 0 = nothing (length_at rows) in
    let d = ap (words_held rows) e in
    omega (arith, r, z, d)
  where
    nothing : (f : ℕ → ℕ) → sum_of f 0 ≡ 0
    nothing f = unfold sum_of in refl

-- moved together, the bodies take as many words as the table's
pub used_are : (rows : List ℕ) (b : List ℤ) (live used : ℕ) (rows' : List ℕ) (b' : List ℤ) → Compacted rows b live used rows' b' → Stocked rows b live → used ≡ words_in (table_of rows b live)
used_are rows b live used rows' b' c s = c.tight ∙ held_are rows b live s
