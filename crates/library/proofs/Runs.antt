-- Words of a run, and tables, that are the same since each word and each row is.
-- Assumes nothing.
use mathlib.Core.Path.{◌≡◌, refl, sym, ap, ap₂, ◌∙◌}
use mathlib.Core.List.{List, [], ◌∷◌, ◌++◌}
use Prim.Native.Nat.{ℕ, zero, suc, ◌+◌, ◌-◌, ◌≤◌, ◌<◌}
use native.Mathlib.Numerals.{add-one}
use native.Mathlib.Omega.{arith}
use lib.IntN.{ℤ, pos}
use lib.ListN.{length, take, drop, get_or}
use lib.Seq.{drop-cons}
use Rattle.definition.specs.Table.{Definition, Table}
use Rattle.library.specs.Memory.{words_at, table_from, definition_at}
use Rattle.library.specs.Moving.{Moved}
use Rattle.library.proofs.Cases.{by_place}

pub same_words : (b b' : List ℤ) (n i j : ℕ) → ((k : ℕ) → k < n → get_or b' (i + k) (pos 0) ≡ get_or b (j + k) (pos 0)) → words_at b' i n ≡ words_at b j n
unfolding words_at
same_words b b' zero i j h = refl
same_words b b' (suc n) i j h =
    let p : i + 0 ≡ i = omega arith in
    let q : j + 0 ≡ j = omega arith in
    ap₂ {C = List ℤ} (λ (x : ℤ) (y : List ℤ). x ∷ y) (sym (ap (λ (x : ℕ). get_or b' x (pos 0)) p) ∙ (h 0 (omega arith) ∙ ap (λ (x : ℕ). get_or b x (pos 0)) q))
    (same_words b b' n (i + 1) (j + 1) (λ k l.
    let p : i + 1 + k ≡ i + (k + 1) = omega arith in
    let q : j + 1 + k ≡ j + (k + 1) = omega arith in
    ap (λ (x : ℕ). get_or b' x (pos 0)) p ∙ (h (k + 1) (omega arith) ∙ ap (λ (x : ℕ). get_or b x (pos 0)) (sym q))))

pub same-table : (rows rows' : List ℕ) (b b' : List ℤ) (n i : ℕ) → ((k : ℕ) → i ≤ k → k < i + n → definition_at rows' b' k ≡ definition_at rows b k)
    → table_from rows' b' i n ≡ table_from rows b i n
unfolding table_from
same-table rows rows' b b' zero i h = refl
same-table rows rows' b b' (suc n) i h =
    ap₂ {C = Table} (λ (x : Definition) (y : Table). x ∷ y) (h i (omega arith) (omega arith)) (same-table rows rows' b b' n (i + 1) (λ k l m. h k (omega arith) (omega arith)))

-- ---- words moved down

-- some words, and then others after them
pub moved_on : {b : List ℤ} {from to k m n : ℕ} {b' b'' : List ℤ} → to ≤ from → Moved b from to k b' → Moved b' (from + k) (to + k) m b'' → k + m ≡ n → Moved b from to n b''
moved_on {b} {from} {to} {k} {m} {n} {b'} {b''} h s r e = record {
  size = r.size ∙ s.size;
  here = λ j l. by_place _ j k (λ c. r.below (to + j) (omega arith) ∙ s.here j c)
      (λ c.
      let p : to + j ≡ to + k + (j - k) = omega arith in
      let q : from + k + (j - k) ≡ from + j = omega arith in
      ap (λ (x : ℕ). get_or b'' x (pos 0)) p ∙ (r.here (j - k) (omega arith) ∙ (ap (λ (x : ℕ). get_or b' x (pos 0)) q ∙ s.above (from + j) (omega arith))));
  below = λ j l. r.below j (omega arith) ∙ s.below j l;
  above = λ j l. r.above j (omega arith) ∙ s.above j (omega arith);
}

-- ---- parts of a run

pub split_words : (b : List ℤ) (xs ys : List ℤ) (i m : ℕ) → words_at b i m ≡ xs ++ ys
    → (length xs ≤ m) × (words_at b i (length xs) ≡ xs) × (words_at b (i + length xs) (m - length xs) ≡ ys)
unfolding words_at
split_words b [] ys i m e =
    let p : i + 0 ≡ i = omega arith in
    let q : m - 0 ≡ m = omega arith in
    (omega arith, refl, ap₂ {C = List ℤ} (λ (x y : ℕ). words_at b x y) p q ∙ e)
split_words b (x ∷ xs) ys i zero e = absurd (let z : ◌≡◌ {A = ℕ} 0 (suc (length (xs ++ ys))) = ap length e in omega (arith, z))
split_words b (x ∷ xs) ys i (suc m) e =
    let h : get_or b i (pos 0) ≡ x = cc in
    let t : words_at b (i + 1) m ≡ xs ++ ys = cc in
    let r = split_words b xs ys (i + 1) m t in
    let p : i + suc (length xs) ≡ i + 1 + length xs = omega arith in
    let q : suc m - suc (length xs) ≡ m - length xs = omega arith in (
      omega (arith, r.0),
      ap₂ {C = List ℤ} (λ (y : ℤ) (l : List ℤ). y ∷ l) h r.1,
      ap₂ {C = List ℤ} (λ (y z : ℕ). words_at b y z) p q ∙ r.2,
    )

pub part_words : (b : List ℤ) (m i : ℕ) → i + m ≤ length b → take m (drop i b) ≡ words_at b i m
unfolding words_at
part_words b zero i h = refl
part_words b (suc m) i h =
    let l : i < length b = omega arith in
    ap (take (suc m)) (drop-cons b i (pos 0) l)
    ∙ ap (λ (x : List ℤ). get_or b i (pos 0) ∷ x) (ap (λ (k : ℕ). take m (drop k b)) (sym (add-one i)) ∙ part_words b m (i + 1) (omega arith))
