-- Bodies met in the order of their places: the first word of each is its row's number until the walk comes there.
-- Assumes nothing.
use mathlib.Core.Path.{◌≡◌, refl, sym, ap, ◌∙◌, subst}
use mathlib.Core.List.{List, ◌++◌}
use Prim.Native.Nat.{ℕ, ◌+◌, ◌-◌, ◌*◌, ◌≤◌, ◌<◌}
use native.Mathlib.Omega.{arith}
use lib.IntN.{ℤ, pos}
use lib.ListN.{length, take, drop, get_or, set, length-set, length-append, length-drop, get_or-append}
use lib.Seq.{ext_get_or, get_or-set_same, get_or-set_other, length-take-le, get_or-take, get_or-drop, get_or-append-add}
use Rattle.std.specs.Prelude.{Option, Some, None}
use Rattle.library.specs.Memory.{start_at, length_at, most}
use Rattle.library.specs.Moving.{Laid, Moved, Tagged, Owns, Settled, Compacted}
use Rattle.library.proofs.Packing.{Lowest, Packing, pack_start, packed, pack_by}
use Rattle.library.proofs.Cases.{equal_or, by_row, by_place}

-- ---- rows are numbered

-- no two bodies start at one place
pub start_once : {rows : List ℕ} {live n : ℕ} → Laid rows live n → (i j : ℕ) → i < live → j < live → (i ≡ j → ⊥) → 0 < length_at rows i → 0 < length_at rows j → start_at rows i ≡ start_at rows j → ⊥
start_once h i j k l e x y z = let a = h.apart i j k l e x y (omega arith) in omega arith

-- ---- the walk

-- Up to `at` all is as it is to be, from there on as it stood but for the first words: `clean` is the run with all of them back.
pub record Walking (rows : List ℕ) (b : List ℤ) (live : ℕ) (rows' : List ℕ) (b' firsts : List ℤ) (to at : ℕ) : Type 0 where
  pub clean : List ℤ
  pub packing : Packing rows b live rows' clean to
  pub low : (k : ℕ) → k < at → get_or clean k (pos 0) ≡ get_or b' k (pos 0)
  pub high : (k : ℕ) → at ≤ k → get_or clean k (pos 0) ≡ get_or b k (pos 0)
  pub tagged : Tagged rows' b live at b' firsts
  pub behind : to ≤ at
  pub inside : at ≤ length b
  pub ahead : (i : ℕ) → i < live → 0 < length_at rows' i → to ≤ start_at rows' i → at ≤ start_at rows' i

pub walk_start : {rows : List ℕ} {b : List ℤ} {live : ℕ} {b' firsts : List ℤ} → Laid rows live (length b) → Tagged rows b live 0 b' firsts → Walking rows b live rows b' firsts 0 0
walk_start {rows} {b} {live} h t = record {
  clean = b;
  packing = pack_start rows b live h;
  low = λ k l. absurd (omega arith);
  high = λ k l. refl;
  tagged = t;
  behind = omega arith;
  inside = omega arith;
  ahead = λ i l y z. z;
}

-- the first words of one run and then those of another
pub record Mixed (a b : List ℤ) (at : ℕ) : Type 0 where
  pub run : List ℤ
  pub size : length run ≡ length b
  pub low : (k : ℕ) → k < at → get_or run k (pos 0) ≡ get_or a k (pos 0)
  pub high : (k : ℕ) → at ≤ k → get_or run k (pos 0) ≡ get_or b k (pos 0)

mixed : (a b : List ℤ) (at : ℕ) → length a ≡ length b → at ≤ length b → Mixed a b at
mixed a b at e h = record {
  run = take at a ++ drop at b;
  size = length-append (take at a) (drop at b) ∙ (let q = length-drop at b in omega (arith, front, q));
  low = λ k l. get_or-append (take at a) (drop at b) (pos 0) k (omega (arith, front)) ∙ get_or-take at a k (pos 0) l;
  high = λ k l.
      let p : k ≡ length (take at a) + (k - at) = omega (arith, front) in
      let q : at + (k - at) ≡ k = omega arith in
      ap (λ (x : ℕ). get_or (take at a ++ drop at b) x (pos 0)) p
      ∙ (get_or-append-add (take at a) (drop at b) (k - at) (pos 0) ∙ (get_or-drop at b (k - at) (pos 0) ∙ ap (λ (x : ℕ). get_or b x (pos 0)) q));
}
  where
    front : length (take at a) ≡ at
    front = length-take-le at a (omega arith)

module _ {rows : List ℕ} {b : List ℤ} {live : ℕ} {rows' : List ℕ} {b' firsts : List ℤ} {to at : ℕ} (w : Walking rows b live rows' b' firsts to at) where
  abbrev p : Packing rows b live rows' w.clean to
  p = w.packing

  -- all bodies are met
  pub walked : length b' ≤ at → Compacted rows b live to rows' b'
  walked h =
      subst (λ (x : List ℤ). Compacted rows b live to rows' x) same
      (packed rows b live rows' w.clean to live p (record { within = λ _ i l y z. none i l y z; real = λ n. absurd (n refl); least = λ n. absurd (n refl) }) refl)
    where
      none : (i : ℕ) → i < live → 0 < length_at rows' i → to ≤ start_at rows' i → ⊥
      none i l y z = let a = w.ahead i l y z in let e = p.laid.within i l y in omega (arith, h, w.tagged.size)

      same : w.clean ≡ b'
      same = ext_get_or (pos 0) w.clean b' (p.size ∙ sym w.tagged.size) (λ k l. w.low k (omega (arith, p.size, w.tagged.size)))

  -- ---- a word of a hole

  module _ {r : Option ℕ} (o : Owns rows' b' live at r) (e : r ≡ None) (room : at < length b') where
    nobody : (i : ℕ) → i < live → 0 < length_at rows' i → start_at rows' i ≡ at → ⊥
    nobody i l y z = o.none e i l (subst (λ (x : ℕ). get_or b' x (pos 0) ≡ pos i) z (w.tagged.tags i l y (omega arith))) y z

    pub walk_past : Walking rows b live rows' b' firsts to (at + 1)
    walk_past = record {
      clean = w.clean;
      packing = p;
      low = λ k l. by_row at (λ x. x < at + 1 → get_or w.clean x (pos 0) ≡ get_or b' x (pos 0)) k
          (λ _. w.high at (omega arith) ∙ sym (w.tagged.others at (omega arith) nobody)) (λ g _. let f : ¬ (k ≡ at) = g in w.low k (omega arith)) l;
      high = λ k l. w.high k (omega arith);
      tagged = record {
        size = w.tagged.size;
        many = w.tagged.many;
        tags = λ i l y z. w.tagged.tags i l y (omega arith);
        noted = λ i l y z. w.tagged.noted i l y (omega arith);
        others = λ k l. w.tagged.others k (omega arith);
      };
      behind = omega (arith, w.behind);
      inside = omega (arith, w.tagged.size);
      ahead = λ i l y z. let a = w.ahead i l y z in let f : ¬ (start_at rows' i ≡ at) = nobody i l y in omega arith;
    }

  -- ---- a body

  module _ {r : Option ℕ} {i : ℕ} (o : Owns rows' b' live at r) (e : r ≡ Some i) where
    here : (i < live) × (0 < length_at rows' i) × (start_at rows' i ≡ at)
    here = o.some i e

    -- what settling it asks for
    pub at_a_body : (i < most) × (to ≤ at) × (0 < length_at rows' i) × (at + length_at rows' i ≤ length b')
    at_a_body = let l = p.laid.within i here.0 here.1 in (omega (arith, here.0, p.laid.few), w.behind, here.1, omega (arith, here.2, w.tagged.size))

    lowest : Lowest rows' live to live i
    lowest = record {
      within = λ x. absurd (omega (arith, here.0));
      real = λ _. (here.0, here.1, omega (arith, here.2, w.behind));
      least = λ _ j l y z. let a = w.ahead j l y z in omega (arith, here.2);
    }

    module _ {first : ℤ} (f : first ≡ get_or firsts i (pos 0)) {n : ℕ} {rows'' : List ℕ} {b'' : List ℤ} (s : Settled rows' b' i at to first n rows'' b'') where
      abbrev put : List ℤ
      put = set b' at first

      some : 0 < n
      some = omega (arith, s.words, here.1)

      ends : at + n ≤ length b
      ends = let l = p.laid.within i here.0 here.1 in omega (arith, here.2, s.words)

      -- the others start elsewhere
      others-start : (j : ℕ) → j < live → (j ≡ i → ⊥) → 0 < length_at rows' j → at ≤ start_at rows' j → at + n ≤ start_at rows' j
      others-start j l g y z = let a = p.laid.apart i j here.0 l (λ q. g (sym q)) here.1 y (omega (arith, here.2)) in omega (arith, here.2, s.words)

      -- up to the body's end the run is clean once its first word is back
      put_clean : (k : ℕ) → k < at + n → get_or put k (pos 0) ≡ get_or w.clean k (pos 0)
      put_clean k l =
          by_row at (λ x. x < at + n → get_or put x (pos 0) ≡ get_or w.clean x (pos 0)) k
          (λ _. get_or-set_same b' at first (pos 0) (omega (arith, w.tagged.size, ends, some))
          ∙ (f ∙ (w.tagged.noted i here.0 here.1 (omega (arith, here.2)) ∙ (ap (λ (x : ℕ). get_or b x (pos 0)) here.2 ∙ sym (w.high at (omega arith))))))
          (λ g m. get_or-set_other b' at k first (pos 0) g
          ∙ by_place _ k at (λ c. sym (w.low k c))
          (λ c. w.tagged.others k c (λ j q y z. inner g m j q y z c) ∙ sym (w.high k c))) l
        where
          inner : (k ≡ at → ⊥) → k < at + n → (j : ℕ) → j < live → 0 < length_at rows' j → start_at rows' j ≡ k → at ≤ k → ⊥
          inner g m j q y z c =
              let d : ¬ (k ≡ at) = g in
              equal_or _ j i (λ x. d (sym z ∙ (ap (start_at rows') x ∙ here.2))) (λ x. let a = others-start j q x y (omega arith) in omega arith)

      mix : Mixed b'' b (at + n)
      mix = mixed b'' b (at + n) (s.body.size ∙ (length-set b' at first ∙ w.tagged.size)) ends

      moved : Moved w.clean at to n mix.run
      moved = record {
        size = mix.size ∙ sym p.size;
        here = λ k l. mix.low (to + k) (omega (arith, w.behind)) ∙ (s.body.here k l ∙ put_clean (at + k) (omega arith));
        below = λ k l. mix.low k (omega (arith, w.behind)) ∙ (s.body.below k l ∙ put_clean k (omega (arith, w.behind)));
        above = λ k l. by_place _ k (at + n) (λ c. mix.low k c ∙ (s.body.above k l ∙ put_clean k c)) (λ c. mix.high k c ∙ sym (w.high k (omega arith)));
      }

      abbrev rows''' : List ℕ
      rows''' = set rows' (5 * i + 2) to

      onward : Packing rows b live rows''' mix.run (to + n)
      onward = pack_by rows b live rows' w.clean to i at n p lowest (λ x. omega (arith, here.0)) (sym here.2) s.words mix.run moved

      start_other : (j : ℕ) → (j ≡ i → ⊥) → start_at rows''' j ≡ start_at rows' j
      start_other j g = get_or-set_other rows' (5 * i + 2) (5 * j + 2) to 0 (λ x. g (omega arith))

      start-here : start_at rows''' i ≡ to
      start-here = get_or-set_same rows' (5 * i + 2) to 0 (omega (arith, p.laid.sized, p.laid.few, here.0))

      length_is : (j : ℕ) → length_at rows''' j ≡ length_at rows' j
      length_is j = get_or-set_other rows' (5 * i + 2) (5 * j + 3) to 0 (λ x. omega arith)

      -- a body that starts higher is another, and stands as it stood
      higher : (j : ℕ) → to < start_at rows''' j → (j ≡ i → ⊥) × (start_at rows''' j ≡ start_at rows' j)
      higher j l = let g : j ≡ i → ⊥ = λ x. let q : start_at rows''' j ≡ to = ap (start_at rows''') x ∙ start-here in omega (arith, q) in (g, start_other j g)

      -- a word after the body is as it was
      stays : (k : ℕ) → at + n ≤ k → get_or b'' k (pos 0) ≡ get_or b' k (pos 0)
      stays k l = s.body.above k (omega (arith, w.behind)) ∙ get_or-set_other b' at k first (pos 0) (λ x. omega (arith, some))

      retagged : Tagged rows''' b live (at + n) b'' firsts
      retagged = record {
        size = s.body.size ∙ (length-set b' at first ∙ w.tagged.size);
        many = w.tagged.many;
        tags = λ j l y z.
            let h = higher j (omega (arith, w.behind, some)) in
            ap (λ (x : ℕ). get_or b'' x (pos 0)) h.1 ∙ (stays (start_at rows' j) (omega (arith, h.1)) ∙ w.tagged.tags j l (omega (arith, length_is j)) (omega (arith, h.1)));
        noted = λ j l y z.
            let h = higher j (omega (arith, w.behind, some)) in
            w.tagged.noted j l (omega (arith, length_is j)) (omega (arith, h.1)) ∙ ap (λ (x : ℕ). get_or b x (pos 0)) (sym h.1);
        others = λ k l g.
            stays k l
            ∙ w.tagged.others k (omega arith) (λ j q y z.
            equal_or _ j i (λ x. let c : start_at rows' j ≡ at = ap (start_at rows') x ∙ here.2 in omega (arith, c, some)) (λ x. g j q (omega (arith, length_is j)) (start_other j x ∙ z)));
      }

      pub walk_on : Walking rows b live rows'' b'' firsts (to + n) (at + n)
      walk_on = subst (λ (x : List ℕ). Walking rows b live x b'' firsts (to + n) (at + n)) (sym s.row) (record {
        clean = mix.run;
        packing = onward;
        low = mix.low;
        high = mix.high;
        tagged = retagged;
        behind = omega (arith, w.behind);
        inside = ends;
        ahead = λ j l y z.
            let h = higher j (omega (arith, some)) in
            let a = w.ahead j l (omega (arith, length_is j)) (omega (arith, h.1)) in
            omega (arith, h.1, others-start j l h.0 (omega (arith, length_is j)) a);
      })
