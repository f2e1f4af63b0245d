-- Bodies moved together: up to `to` stand those that are done, after it the others as they stood. Each turn takes the lowest of these.
-- Assumes nothing.
use Rattle.std.specs.Prelude.{if◌then◌else◌}
use mathlib.Core.Path.{◌≡◌, refl, sym, ap, ap₂, ◌∙◌, subst}
use mathlib.Core.Bool.{Bool, true, false}
use mathlib.Core.List.{List, []}
use Prim.Native.Nat.{ℕ, zero, suc, ◌+◌, ◌*◌, ◌≤◌, ◌<◌}
use native.Mathlib.Omega.{arith}
use borrow.Author.Tests.{lt-ltb, le-ltb}
use lib.Dec.{ltb}
use lib.IntN.{ℤ, pos}
use lib.ListN.{length, get_or, set, length-set}
use lib.Seq.{get_or-set_same, get_or-set_other}
use Rattle.definition.specs.Words.{Placed}
use Rattle.definition.specs.Table.{Definition, Step}
use Rattle.library.specs.Memory.{words_at, steps_in, steps_of, definition_at, symbol_at, place_at, start_at, length_at, sum_of, words_held}
use Rattle.library.specs.Moving.{Laid, Moved, SameRow, length_below, held_below, Covered, Compacted}
use Rattle.library.proofs.Runs.{same_words, same-table}
use Rattle.library.proofs.Sums.{sum_same, sum_one}
use Rattle.library.proofs.Cases.{by_row, by_place, none_or_some}

-- of the first rows, the one whose body starts lowest from a place on; `none` where there is no such body
pub record Lowest (rows : List ℕ) (none to seen best : ℕ) : Type 0 where
  pub within : best ≡ none → (i : ℕ) → i < seen → 0 < length_at rows i → to ≤ start_at rows i → ⊥
  pub real : (best ≡ none → ⊥) → (best < seen) × (0 < length_at rows best) × (to ≤ start_at rows best)
  pub least : (best ≡ none → ⊥) → (i : ℕ) → i < seen → 0 < length_at rows i → to ≤ start_at rows i → start_at rows best ≤ start_at rows i

pub record Packing (rows : List ℕ) (b : List ℤ) (live : ℕ) (rows' : List ℕ) (b' : List ℤ) (to : ℕ) : Type 0 where
  pub size : length b' ≡ length b
  pub laid : Laid rows' live (length b)
  pub same : (i : ℕ) → i < live → SameRow rows b rows' b' i
  pub done : (i : ℕ) → i < live → 0 < length_at rows' i → start_at rows' i < to → start_at rows' i + length_at rows' i ≤ to
  pub sum : held_below rows' to live ≡ to
  pub starts : (i : ℕ) → i < live → 0 < length_at rows' i → start_at rows' i < to → start_at rows' i ≡ held_below rows (start_at rows i) live
  pub still : (i : ℕ) → i < live → length_at rows' i ≡ 0 → start_at rows' i ≡ start_at rows i
  pub covered : (k : ℕ) → k < to → Covered rows' live k
  pub rest : (k : ℕ) → 5 * live ≤ k → get_or rows' k 0 ≡ get_or rows k 0
  pub beyond : (k : ℕ) → to ≤ k → get_or b' k (pos 0) ≡ get_or b k (pos 0)
  pub within : to ≤ length b
  pub unmoved : (j : ℕ) → j < live → 0 < length_at rows' j → to ≤ start_at rows' j → start_at rows' j ≡ start_at rows j
  pub order : (i j : ℕ) → i < live → j < live → 0 < length_at rows' i → 0 < length_at rows' j → start_at rows' i < to → to ≤ start_at rows' j → start_at rows i < start_at rows j
  pub top : (i : ℕ) → i < live → 0 < length_at rows' i → start_at rows' i < to → ((j : ℕ) → j < live → 0 < length_at rows' j → start_at rows' j < to → start_at rows j ≤ start_at rows i)
      → start_at rows' i + length_at rows' i ≡ to

nothing-below : (rows : List ℕ) (n : ℕ) → held_below rows 0 n ≡ 0
unfolding sum_of
nothing-below rows zero = refl
nothing-below rows (suc n) = let h = nothing-below rows n in rw (le-ltb (start_at rows n) 0 (omega arith)) (omega arith)

pub pack_start : (rows : List ℕ) (b : List ℤ) (live : ℕ) → Laid rows live (length b) → Packing rows b live rows b 0
pack_start rows b live h = record {
  size = refl;
  laid = h;
  same = λ i l. record { symbol = refl; place = refl; words = refl; needed = refl; body = refl };
  done = λ i l m n. absurd (omega arith);
  sum = nothing-below rows live;
  starts = λ i l z t. absurd (omega arith);
  still = λ i l z. refl;
  covered = λ k l. absurd (omega arith);
  rest = λ k l. refl;
  beyond = λ k l. refl;
  within = omega arith;
  unmoved = λ j l z t. refl;
  order = λ i j k l x y t u. absurd (omega arith);
  top = λ i l z t h. absurd (omega arith);
}

none_of : (t : Bool) (x : ℕ) → x ≡ 0 → (if t then x else 0) ≡ 0
none_of true x e = e
none_of false x e = refl

-- every body that has words stands below the place
all_below : (rows : List ℕ) (to n : ℕ) → ((i : ℕ) → i < n → 0 < length_at rows i → start_at rows i < to) → held_below rows to n ≡ words_held rows n
all_below rows to n h =
    sum_same (length_at rows) (length_below rows to) n
    (λ k l. none_or_some _ (length_at rows k) (λ z. none_of (ltb (start_at rows k) to) (length_at rows k) z ∙ sym z) (λ y. rw (lt-ltb (start_at rows k) to (h k l y))))

definition_same : (s p : ℕ) (x y : List (Placed Step)) → x ≡ y → ◌≡◌ {A = Definition} (record { symbol = s; place = p; body = x }) (record { symbol = s; place = p; body = y })
definition_same s p x y e = ap (λ (z : List (Placed Step)). record { symbol = s; place = p; body = z }) e

pub row_same : (rows : List ℕ) (b : List ℤ) (rows' : List ℕ) (b' : List ℤ) (i : ℕ) → SameRow rows b rows' b' i → definition_at rows' b' i ≡ definition_at rows b i
row_same rows b rows' b' i h =
    ap₂ {C = Definition} (λ (x y : ℕ). record { symbol = x; place = y; body = steps_in b' (start_at rows' i) (length_at rows' i) }) h.symbol h.place
    ∙ definition_same (symbol_at rows i) (place_at rows i) (steps_in b' (start_at rows' i) (length_at rows' i)) (steps_in b (start_at rows i) (length_at rows i))
    (ap (λ (n : ℕ). steps_in b' (start_at rows' i) n) h.words ∙ ap (λ (ws : List ℤ). steps_of (length_at rows i) [] ws) h.body)

pub packed : (rows : List ℕ) (b : List ℤ) (live : ℕ) (rows' : List ℕ) (b' : List ℤ) (to i : ℕ) → Packing rows b live rows' b' to → Lowest rows' live to live i → i ≡ live
    → Compacted rows b live to rows' b'
packed rows b live rows' b' to i p w e = record {
  size = p.size;
  table = same-table rows rows' b b' live 0 (λ k l m. row_same rows b rows' b' k (p.same k (omega arith)));
  same = p.same;
  laid = record { few = p.laid.few; sized = p.laid.sized; within = λ k l m. p.done k l m (low k l m); apart = p.laid.apart };
  tight = sym p.sum ∙ (all_below rows' to live low ∙ sum_same (length_at rows) (length_at rows') live (λ k l. (p.same k l).words));
  within = p.within;
  starts = λ k l z. let q : 0 < length_at rows' k = omega (arith, (p.same k l).words) in p.starts k l q (low k l q);
  empties = λ k l z. p.still k l ((p.same k l).words ∙ z);
  covered = p.covered;
  rest = p.rest;
  beyond = p.beyond;
  highest =
      λ k l z h.
      let q : 0 < length_at rows' k = omega (arith, (p.same k l).words) in
      p.top k l q (low k l q) (λ j m y t. h j m (omega (arith, (p.same j m).words)));
}
  where
    low : (k : ℕ) → k < live → 0 < length_at rows' k → start_at rows' k < to
    low k l m = by_place _ (start_at rows' k) to (λ t. t) (λ t. absurd (w.within e k l m t))

-- ---- one body more

module _ (rows : List ℕ) (b : List ℤ) (live : ℕ) (rows' : List ℕ) (b' : List ℤ) (to m : ℕ) (p : Packing rows b live rows' b' to) (w : Lowest rows' live to live m) (some : m ≡ live → ⊥)
    (b'' : List ℤ) (moved : Moved b' (start_at rows' m) to (length_at rows' m) b'') where
  abbrev n : ℕ
  n = length_at rows' m

  abbrev rows'' : List ℕ
  rows'' = set rows' (5 * m + 2) to

  there : (m < live) × (0 < n) × (to ≤ start_at rows' m)
  there = w.real some

  pub ends : start_at rows' m + n ≤ length b
  ends = p.laid.within m there.0 there.1

  other : (k : ℕ) → (k ≡ 5 * m + 2 → ⊥) → get_or rows'' k 0 ≡ get_or rows' k 0
  other k h = get_or-set_other rows' (5 * m + 2) k to 0 h

  start_m : start_at rows'' m ≡ to
  start_m = get_or-set_same rows' (5 * m + 2) to 0 (omega (arith, p.laid.sized, p.laid.few, there.0))

  start_other : (i : ℕ) → (i ≡ m → ⊥) → start_at rows'' i ≡ start_at rows' i
  start_other i h = other (5 * i + 2) (λ e. h (omega arith))

  length_is : (i : ℕ) → length_at rows'' i ≡ length_at rows' i
  length_is i = other (5 * i + 3) (λ e. omega arith)

  -- the other bodies from the place on stand after the one that is moved
  far : (i : ℕ) → i < live → (i ≡ m → ⊥) → 0 < length_at rows' i → to ≤ start_at rows' i → start_at rows' m + n ≤ start_at rows' i
  far i l h z t = p.laid.apart m i there.0 l (λ e. h (sym e)) there.1 z (w.least some i l z t)

  -- another body's words stay
  stays : (i : ℕ) → i < live → (i ≡ m → ⊥) → (k : ℕ) → k < length_at rows' i → get_or b'' (start_at rows' i + k) (pos 0) ≡ get_or b' (start_at rows' i + k) (pos 0)
  stays i l h k z =
      by_place _ (start_at rows' i) to (λ t. let d = p.done i l (omega arith) t in moved.below (start_at rows' i + k) (omega arith))
      (λ t. let f = far i l h (omega arith) t in moved.above (start_at rows' i + k) (omega (arith, there.2)))

  same_row : (i : ℕ) → i < live → SameRow rows b rows'' b'' i
  same_row i l = record {
    symbol = other (5 * i) (λ e. omega arith) ∙ (p.same i l).symbol;
    place = other (5 * i + 1) (λ e. omega arith) ∙ (p.same i l).place;
    words = length_is i ∙ (p.same i l).words;
    needed = other (5 * i + 4) (λ e. omega arith) ∙ (p.same i l).needed;
    body = body ∙ (p.same i l).body;
  }
    where
      q : length_at rows' i ≡ length_at rows i
      q = (p.same i l).words

      body : words_at b'' (start_at rows'' i) (length_at rows i) ≡ words_at b' (start_at rows' i) (length_at rows i)
      body =
          subst (λ (x : ℕ). words_at b'' (start_at rows'' i) x ≡ words_at b' (start_at rows' i) x) q
          (by_row m (λ x. words_at b'' (start_at rows'' x) (length_at rows' x) ≡ words_at b' (start_at rows' x) (length_at rows' x)) i
          (ap (λ (x : ℕ). words_at b'' x n) start_m ∙ same_words b' b'' n to (start_at rows' m) moved.here)
          (λ h. ap (λ (x : ℕ). words_at b'' x (length_at rows' i)) (start_other i h) ∙ same_words b' b'' (length_at rows' i) (start_at rows' i) (start_at rows' i) (stays i l h)))

  -- what stands below the new place: what stood below the old, and the body that is moved
  term_other : (i : ℕ) → i < live → (i ≡ m → ⊥) → length_below rows'' (to + n) i ≡ length_below rows' to i
  term_other i l h =
      ap₂ {C = ℕ} (λ (x y : ℕ). if ltb x (to + n) then y else 0) (start_other i h) (length_is i)
      ∙ by_place _ (start_at rows' i) to (λ t. rw (lt-ltb (start_at rows' i) (to + n) (omega arith), lt-ltb (start_at rows' i) to t))
      (λ t. none_or_some _ (length_at rows' i)
      (λ z. none_of (ltb (start_at rows' i) (to + n)) (length_at rows' i) z ∙ sym (none_of (ltb (start_at rows' i) to) (length_at rows' i) z))
      (λ z. let f = far i l h z t in rw (le-ltb (start_at rows' i) (to + n) (omega (arith, there.2)), le-ltb (start_at rows' i) to t)))

  sum_on : held_below rows'' (to + n) live ≡ to + n
  sum_on =
      let a = sum_one (length_below rows' to) (length_below rows'' (to + n)) m live there.0 term_other in
      let new-m : length_below rows'' (to + n) m ≡ n = ap₂ {C = ℕ} (λ (x y : ℕ). if ltb x (to + n) then y else 0) start_m (length_is m) ∙ rw (lt-ltb to (to + n) (omega (arith, there.1))) in
      let old-m : length_below rows' to m ≡ 0 = rw (le-ltb (start_at rows' m) to there.2) in
      omega (arith, a, new-m, old-m, p.sum)

  -- the bodies below the place are those that stood below this one
  starts_m : to ≡ held_below rows (start_at rows m) live
  starts_m = sym p.sum ∙ sum_same (length_below rows (start_at rows m)) (length_below rows' to) live (λ k l. none_or_some _ (length_at rows' k) (no_term k l) (some_term k l))
    where
      no_term : (k : ℕ) → k < live → length_at rows' k ≡ 0 → length_below rows' to k ≡ length_below rows (start_at rows m) k
      no_term k l z = none_of (ltb (start_at rows' k) to) (length_at rows' k) z ∙ sym (none_of (ltb (start_at rows k) (start_at rows m)) (length_at rows k) (sym (p.same k l).words ∙ z))

      some_term : (k : ℕ) → k < live → 0 < length_at rows' k → length_below rows' to k ≡ length_below rows (start_at rows m) k
      some_term k l y =
          by_place _ (start_at rows' k) to
          (λ t.
          let o = p.order k m l there.0 y there.1 t there.2 in
          rw (lt-ltb (start_at rows' k) to t, lt-ltb (start_at rows k) (start_at rows m) o) (p.same k l).words)
          (λ t.
          let o = w.least some k l y t in
          let u = p.unmoved k l y t in
          let v = p.unmoved m there.0 there.1 there.2 in
          rw (le-ltb (start_at rows' k) to t, le-ltb (start_at rows k) (start_at rows m) (omega (arith, o, u, v))))

  laid_on : Laid rows'' live (length b)
  laid_on = record {
    few = p.laid.few;
    sized = length-set rows' (5 * m + 2) to ∙ p.laid.sized;
    within = λ i l. by_row m (λ x. x < live → 0 < length_at rows'' x → start_at rows'' x + length_at rows'' x ≤ length b) i
        (λ _ z. omega (arith, start_m, length_is m, ends, there.2))
        (λ h k z. let s = start_other i h in let t = length_is i in let q = p.laid.within i k (omega arith) in omega arith) l;
    apart = λ i j k l h. by_row m (λ x. x < live → (x ≡ j → ⊥) → Apart x j) i
        (λ _ g. by_row m (λ y. (m ≡ y → ⊥) → y < live → Apart m y) j (λ q. absurd (q refl)) (λ g q r. m_first j r g) g l)
        (λ g r q. by_row m (λ y. (i ≡ y → ⊥) → y < live → Apart i y) j (λ _ _. m_second i r g) (λ f _ s. both_other i j r s q g f) q l) k h;
  }
    where
      Apart : ℕ → ℕ → Type 0
      Apart i j = 0 < length_at rows'' i → 0 < length_at rows'' j → start_at rows'' i ≤ start_at rows'' j → start_at rows'' i + length_at rows'' i ≤ start_at rows'' j

      m_first : (j : ℕ) → j < live → (j ≡ m → ⊥) → Apart m j
      m_first j l h x y z =
          let s = start_other j h in
          let t = length_is j in
          let f = far j l h (omega arith) (omega (arith, start_m)) in
          omega (arith, start_m, length_is m, there.2)

      m_second : (i : ℕ) → i < live → (i ≡ m → ⊥) → Apart i m
      m_second i l h x y z =
          let s = start_other i h in
          let t = length_is i in
          by_place _ (start_at rows' i) to (λ u. let d = p.done i l (omega arith) u in omega (arith, start_m))
          (λ u. let f = far i l h (omega arith) u in absurd (omega (arith, start_m, there.1, there.2)))

      both_other : (i j : ℕ) → i < live → j < live → (i ≡ j → ⊥) → (i ≡ m → ⊥) → (j ≡ m → ⊥) → Apart i j
      both_other i j k l h f g x y z =
          let s = start_other i f in
          let t = length_is i in
          let u = start_other j g in
          let v = length_is j in
          let a = p.laid.apart i j k l h (omega arith) (omega arith) (omega arith) in
          omega arith

  -- another body, from the new place on, and below it
  undone : (j : ℕ) → 0 < length_at rows'' j → to + n ≤ start_at rows'' j → (j ≡ m → ⊥) × (0 < length_at rows' j) × (to ≤ start_at rows' j)
  undone j y u =
      let h : j ≡ m → ⊥ = λ e. absurd (let q : start_at rows'' j ≡ to = subst (λ (x : ℕ). start_at rows'' x ≡ to) (sym e) start_m in omega (arith, q, there.1)) in
      let s = start_other j h in
      let t = length_is j in
      (h, omega arith, omega arith)

  done_other : (i : ℕ) → i < live → (i ≡ m → ⊥) → 0 < length_at rows'' i → start_at rows'' i < to + n → (0 < length_at rows' i) × (start_at rows' i < to)
  done_other i l h x t =
      let s = start_other i h in
      let q = length_is i in
      let z : 0 < length_at rows' i = omega arith in
      (z, by_place _ (start_at rows' i) to (λ u. u) (λ u. let f = far i l h z u in absurd (omega (arith, there.2))))

  pub pack_on : Packing rows b live rows'' b'' (to + n)
  pack_on = record {
    size = moved.size ∙ p.size;
    laid = laid_on;
    same = same_row;
    done = λ i l. by_row m (λ x. x < live → 0 < length_at rows'' x → start_at rows'' x < to + n → start_at rows'' x + length_at rows'' x ≤ to + n) i
        (λ _ y z. omega (arith, start_m, length_is m))
        (λ h k y z.
        let s = start_other i h in
        let t = length_is i in
        by_place _ (start_at rows' i) to (λ u. let d = p.done i k (omega arith) u in omega arith)
        (λ u. let f = far i k h (omega arith) u in absurd (omega (arith, there.2)))) l;
    sum = sum_on;
    starts = λ i l. by_row m (λ x. x < live → 0 < length_at rows'' x → start_at rows'' x < to + n → start_at rows'' x ≡ held_below rows (start_at rows x) live) i
        (λ _ y z. start_m ∙ starts_m) (λ h k y z. let d = done_other i k h y z in start_other i h ∙ p.starts i k d.0 d.1) l;
    still = λ i l. by_row m (λ x. x < live → length_at rows'' x ≡ 0 → start_at rows'' x ≡ start_at rows x) i
        (λ _ y. absurd (omega (arith, length_is m, there.1))) (λ h k y. start_other i h ∙ p.still i k (sym (length_is i) ∙ y)) l;
    covered = λ k l. by_place _ k to
        (λ t.
        let d = p.covered k t in
        let h : d.row ≡ m → ⊥ = λ e. absurd (let q : start_at rows' d.row ≡ start_at rows' m = ap (start_at rows') e in omega (arith, q, d.from, there.2)) in
        let s = start_other d.row h in
        let r = length_is d.row in
        record { row = d.row; here = d.here; from = omega (arith, s, d.from); to = omega (arith, s, r, d.to) })
        (λ t. record { row = m; here = there.0; from = omega (arith, start_m); to = omega (arith, start_m, length_is m) });
    rest = λ k l. other k (λ e. omega (arith, there.0)) ∙ p.rest k l;
    beyond = λ k l. moved.above k l ∙ p.beyond k (omega arith);
    within = omega (arith, ends, there.2);
    unmoved = λ j l. by_row m (λ x. x < live → 0 < length_at rows'' x → to + n ≤ start_at rows'' x → start_at rows'' x ≡ start_at rows x) j
        (λ _ y z. absurd (omega (arith, start_m, there.1)))
        (λ h k y z. let s = start_other j h in let t = length_is j in s ∙ p.unmoved j k (omega arith) (omega arith)) l;
    order = λ i j k l. by_row m (λ x. x < live → 0 < length_at rows'' x → 0 < length_at rows'' j → start_at rows'' x < to + n → to + n ≤ start_at rows'' j → start_at rows x < start_at rows j) i
        (λ _ x y t u.
        let v = undone j y u in
        let f = far j l v.0 v.1 v.2 in
        let a = p.unmoved m there.0 there.1 there.2 in
        let c = p.unmoved j l v.1 v.2 in
        omega (arith, a, c, f, there.1))
        (λ h r x y t u. let v = undone j y u in let w = done_other i r h x t in p.order i j r l w.0 v.1 w.1 v.2) k;
    top = λ i l. by_row m (λ x. x < live → 0 < length_at rows'' x → start_at rows'' x < to + n
        → ((j : ℕ) → j < live → 0 < length_at rows'' j → start_at rows'' j < to + n → start_at rows j ≤ start_at rows x) → start_at rows'' x + length_at rows'' x ≡ to + n) i
        (λ _ z t h. omega (arith, start_m, length_is m))
        (λ g r z t h.
        let w = done_other i r g z t in
        let a = p.order i m r there.0 w.0 there.1 w.1 there.2 in
        let c = h m there.0 (omega (arith, length_is m, there.1)) (omega (arith, start_m, there.1)) in
        absurd (omega (arith, a, c))) l;
  }

-- the same, of what callees answered
module _ (rows : List ℕ) (b : List ℤ) (live : ℕ) (rows' : List ℕ) (b' : List ℤ) (to m from k : ℕ) (p : Packing rows b live rows' b' to) (w : Lowest rows' live to live m) (some : m ≡ live → ⊥)
    (f : from ≡ start_at rows' m) (e : k ≡ length_at rows' m) where
  pub pack_by : (b'' : List ℤ) → Moved b' from to k b'' → Packing rows b live (set rows' (5 * m + 2) to) b'' (to + k)
  pack_by b'' x =
      subst (λ (y : ℕ). Packing rows b live (set rows' (5 * m + 2) to) b'' (to + y)) (sym e)
      (pack_on rows b live rows' b' to m p w some b''
      (subst (λ (y : ℕ). Moved b' (start_at rows' m) to y b'') e (subst (λ (y : ℕ). Moved b' y to k b'') f x)))
