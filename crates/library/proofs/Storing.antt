-- A command stored after the words used, or in the place of an L command that it follows: the table has one step more, and nothing else changes.
-- Assumes nothing.
use mathlib.Core.Path.{◌≡◌, refl, sym, ap, ap₂, ◌∙◌, subst}
use mathlib.Core.Bool.{Bool, true, false, ◌&&◌}
use mathlib.Core.List.{List, [], ◌∷◌, ◌++◌}
use Prim.Native.Nat.{ℕ, zero, suc, ◌+◌, ◌-◌, ◌*◌, ◌≤◌, ◌<◌, ◌^◌}
use native.Mathlib.Nat.{not-suc-le-zero}
use native.Mathlib.Omega.{arith}
use borrow.Author.Tests.{eq-eqb, ne_eqb}
use lib.IntN.{ℤ, pos}
use lib.ListN.{length, get_or, set, length-set, length-append}
use lib.Seq.{get_or-set_same, get_or-set_other}
use Rattle.definition.specs.Words.{Placed}
use Rattle.definition.specs.Table.{Step, Definition, Table}
use Rattle.definition.specs.Lean.{add}
use Rattle.moves.specs.Moves.{most_values}
use Rattle.library.specs.Memory.{words_at, steps_in, body_at, steps_of, definition_at, table_from, table_of, symbol_at, place_at, start_at, length_at, needed_at, needed_in, row_numbers}
use Rattle.library.specs.Sound.{values_of, step_words, all_words, Fair, Proper, Sound, Stocked}
use Rattle.library.specs.Moving.{Laid, SameRow}
use Rattle.library.specs.Storing.{start_of, extended, layer_words, Relayered, grown, layer_now, is_layer, last_sets, Growing, Grows, Put, Storable, Stores}
use Rattle.library.proofs.Runs.{same_words, same-table, split_words}
use Rattle.library.proofs.Sums.{sum_one}
use Rattle.library.proofs.Decoded.{steps_are, words_length}
use Rattle.library.proofs.Adding.{words_then, proper_then, add-plain, add-again, last-added, Front, front_of, proper_front, fair_anywhere, layer_words_lem}
use Rattle.library.proofs.Cases.{by_row, by_place, none_or_some}

pub words_add : (b : List ℤ) (m n i : ℕ) → words_at b i (m + n) ≡ words_at b i m ++ words_at b (i + m) n
unfolding words_at
words_add b zero n i =
    let p : i + 0 ≡ i = omega arith in
    let q : 0 + n ≡ n = omega arith in
    ap (words_at b i) q ∙ ap (λ (x : ℕ). words_at b x n) (sym p)
words_add b (suc m) n i =
    let p : i + suc m ≡ i + 1 + m = omega arith in
    let q : suc m + n ≡ suc (m + n) = omega arith in
    ap (words_at b i) q
    ∙ ap (λ (x : List ℤ). get_or b i (pos 0) ∷ x) (words_add b m n (i + 1) ∙ ap (λ (x : ℕ). words_at b (i + 1) m ++ words_at b x n) (sym p))

-- ---- one step more in memory

-- row i has the first m words of its body, which hold these steps, and the words of one step after them; all else stands as it did
pub record Renewed (rows : List ℕ) (b : List ℤ) (live i m from : ℕ) (steps : List (Placed Step)) (s : Placed Step) (rows' : List ℕ) (b' : List ℤ) : Type 0 where
  pub sized : length rows' ≡ row_numbers
  pub symbols : (k : ℕ) → symbol_at rows' k ≡ symbol_at rows k
  pub places : (k : ℕ) → place_at rows' k ≡ place_at rows k
  pub starts : (k : ℕ) → (k ≡ i → ⊥) → start_at rows' k ≡ start_at rows k
  pub lengths : (k : ℕ) → (k ≡ i → ⊥) → length_at rows' k ≡ length_at rows k
  pub needed : (k : ℕ) → (k ≡ i → ⊥) → needed_at rows' k ≡ needed_at rows k
  pub needs : needed_at rows' i ≡ needed_at rows i + length (step_words s)
  pub longer : length_at rows' i ≡ m + length (step_words s)
  pub ends : start_at rows' i + m ≡ from
  pub old : words_at b (start_at rows' i) m ≡ all_words steps
  pub low : (k : ℕ) → k < live → (k ≡ i → ⊥) → 0 < length_at rows k → start_at rows k + length_at rows k ≤ start_at rows' i
  pub put : Put b from s b'

module _ {rows : List ℕ} {b : List ℤ} {live used i : ℕ} {layered : Bool} (g : Growing rows b live used i layered) {m from : ℕ} {steps : List (Placed Step)} {s : Placed Step} {rows' : List ℕ} {b' : List ℤ}
    (r : Renewed rows b live i m from steps s rows' b') (proper : Proper [] steps) (fair : Fair (layer_now [] steps) s.what) (few : length (values_of s.what) ≤ most_values)
    (added : steps ++ (s ∷ []) ≡ add (g.stocked.sound i g.here).steps s) where
  abbrev n : ℕ
  n = length (step_words s)

  new_words : words_at b' (start_at rows' i) (length_at rows' i) ≡ all_words (steps ++ (s ∷ []))
  new_words =
      ap (λ (x : ℕ). words_at b' (start_at rows' i) x) r.longer
      ∙ (words_add b' m n (start_at rows' i)
      ∙ (ap₂ {C = List ℤ} (λ (x y : List ℤ). x ++ y)
      (same_words b b' m (start_at rows' i) (start_at rows' i) (λ k l. r.put.below (start_at rows' i + k) (omega (arith, r.ends))) ∙ r.old)
      (ap (λ (x : ℕ). words_at b' x n) r.ends ∙ r.put.words)
      ∙ sym (words_then steps s)))

  abbrev sound_i : Sound b' (start_at rows' i) (length_at rows' i)
  sound_i = record { steps = steps ++ (s ∷ []); proper = proper_then [] steps s proper fair few; words = new_words }

  body_i : body_at rows' b' i ≡ steps ++ (s ∷ [])
  body_i = steps_are b' (start_at rows' i) (length_at rows' i) sound_i

  -- another body stays
  stays : (k : ℕ) → k < live → (k ≡ i → ⊥) → words_at b' (start_at rows' k) (length_at rows' k) ≡ words_at b (start_at rows k) (length_at rows k)
  stays k l h =
      ap₂ {C = List ℤ} (λ (x y : ℕ). words_at b' x y) (r.starts k h) (r.lengths k h)
      ∙ same_words b b' (length_at rows k) (start_at rows k) (start_at rows k) (λ j q. let w = r.low k l h (omega arith) in r.put.below (start_at rows k + j) (omega (arith, r.ends)))

  abbrev more : Definition
  more = record { symbol = symbol_at rows i; place = place_at rows i; body = add (body_at rows b i) s }

  body-grown : body_at rows' b' i ≡ add (body_at rows b i) s
  body-grown = body_i ∙ (added ∙ ap (λ (x : List (Placed Step)). add x s) (sym (steps_are b (start_at rows i) (length_at rows i) (g.stocked.sound i g.here))))

  definition_i : definition_at rows' b' i ≡ more
  definition_i = λ j. record { symbol = r.symbols i j; place = r.places i j; body = body-grown j }

  definition_other : (k : ℕ) → k < live → (k ≡ i → ⊥) → definition_at rows' b' k ≡ definition_at rows b k
  definition_other k l h =
      let e : steps_in b' (start_at rows' k) (length_at rows' k) ≡ steps_in b (start_at rows k) (length_at rows k) = ap₂ {C = List (Placed Step)} (λ (x : ℕ) (y : List ℤ). steps_of x [] y) (r.lengths k h) (stays k l h) in
      λ j. record { symbol = r.symbols k j; place = r.places k j; body = e j }

  table_from_lem : (d c j : ℕ) → i ≡ j + d → d < c → j + c ≤ live → table_from rows' b' j c ≡ grown (symbol_at rows i) s (table_from rows b j c)
  unfolding table_from grown
  table_from_lem d zero j e l h = absurd (not-suc-le-zero l)
  table_from_lem zero (suc c) j e l h =
      let f : i ≡ j = omega arith in
      subst (λ (x : ℕ). definition_at rows' b' x ∷ table_from rows' b' (x + 1) c ≡ grown (symbol_at rows i) s (definition_at rows b x ∷ table_from rows b (x + 1) c)) f
      (unfold grown in rw (eq-eqb (symbol_at rows i) (symbol_at rows i) refl)
      (ap₂ {C = Table} (λ (x : Definition) (y : Table). x ∷ y) definition_i
      (same-table rows rows' b b' c (i + 1) (λ k a z. definition_other k (omega arith) (λ y. omega arith)))))
  table_from_lem (suc d) (suc c) j e l h =
      rw (ne_eqb (symbol_at rows j) (symbol_at rows i) (λ z. let o = g.sorted.rising j i (omega arith) g.here in omega arith))
      (ap₂ {C = Table} (λ (x : Definition) (y : Table). x ∷ y) (definition_other j (omega arith) (λ z. omega arith)) (table_from_lem d c (j + 1) (omega arith) (omega arith) (omega arith)))

  table_renewed : table_of rows' b' live ≡ grown (symbol_at rows i) s (table_of rows b live)
  table_renewed = table_from_lem i live 0 (omega arith) g.here (omega arith)

  stocked_on : Stocked rows' b' live
  stocked_on = record {
    few = g.stocked.few;
    within = λ k l. by_row i (λ x. x < live → start_at rows' x + length_at rows' x ≤ length b') k
        (λ _. omega (arith, r.longer, r.ends, r.put.room, r.put.size))
        (λ h q. let w = g.stocked.within k q in omega (arith, r.starts k h, r.lengths k h, r.put.size)) l;
    sound = λ k l. by_row i (λ x. x < live → Sound b' (start_at rows' x) (length_at rows' x)) k (λ _. sound_i)
        (λ h q. let o = g.stocked.sound k q in record { steps = o.steps; proper = o.proper; words = stays k q h ∙ o.words }) l;
  }

  laid_on : Laid rows' live (from + n)
  laid_on = record {
    few = g.laid.few;
    sized = r.sized;
    within = λ k l. by_row i (λ x. x < live → 0 < length_at rows' x → start_at rows' x + length_at rows' x ≤ from + n) k
        (λ _ z. omega (arith, r.longer, r.ends))
        (λ h q z. let t = r.lengths k h in let w = r.low k q h (omega arith) in omega (arith, r.starts k h, r.ends)) l;
    apart = λ k j p q h. by_row i (λ x. x < live → (x ≡ j → ⊥) → Apart x j) k
        (λ _ y. by_row i (λ x. (i ≡ x → ⊥) → x < live → Apart i x) j (λ z. absurd (z refl)) (λ y _ u. i_first j u y) y q)
        (λ y u z. by_row i (λ x. (k ≡ x → ⊥) → x < live → Apart k x) j (λ _ _. i_second k u y) (λ f _ v. both_other k j u v z y f) z q) p h;
  }
    where
      Apart : ℕ → ℕ → Type 0
      Apart k j = 0 < length_at rows' k → 0 < length_at rows' j → start_at rows' k ≤ start_at rows' j → start_at rows' k + length_at rows' k ≤ start_at rows' j

      -- no other body stands after it
      i_first : (j : ℕ) → j < live → (j ≡ i → ⊥) → Apart i j
      i_first j l h x y z = let t = r.lengths j h in let w = r.low j l h (omega arith) in absurd (omega (arith, r.starts j h))

      i_second : (k : ℕ) → k < live → (k ≡ i → ⊥) → Apart k i
      i_second k l h x y z = let t = r.lengths k h in let w = r.low k l h (omega arith) in omega (arith, r.starts k h)

      both_other : (k j : ℕ) → k < live → j < live → (k ≡ j → ⊥) → (k ≡ i → ⊥) → (j ≡ i → ⊥) → Apart k j
      both_other k j p q h f y a c d =
          let u = r.starts k f in
          let t = r.lengths k f in
          let v = r.starts j y in
          let z = r.lengths j y in
          let w = g.laid.apart k j p q h (omega arith) (omega arith) (omega arith) in
          omega arith

  same_other : (k : ℕ) → k < live → (k ≡ i → ⊥) → SameRow rows b rows' b' k
  same_other k l h = record {
    symbol = r.symbols k;
    place = r.places k;
    words = r.lengths k h;
    needed = r.needed k h;
    body = ap (words_at b' (start_at rows' k)) (sym (r.lengths k h)) ∙ stays k l h;
  }

  pub renewed_grows : Grows rows b live i s rows' b' (from + n)
  renewed_grows = record {
    symbol = r.symbols i;
    place = r.places i;
    body = body-grown;
    needs = r.needs;
    others = same_other;
    table = table_renewed;
    growing = record {
      stocked = stocked_on;
      laid = laid_on;
      sorted = record { few = g.sorted.few; rising = λ j k h l. let o = g.sorted.rising j k h l in omega (arith, r.symbols j, r.symbols k) };
      here = g.here;
      last = λ z. omega (arith, r.longer, r.ends);
      fits = omega (arith, r.put.room, r.put.size);
      layer_last = ap last_sets body_i ∙ last-added steps s;
    };
  }

-- ---- the two ways to grow

starts-empty : (rows : List ℕ) (i used : ℕ) → length_at rows i ≡ 0 → start_of rows i used ≡ used
starts-empty rows i used z = rw (eq-eqb (length_at rows i) 0 z)

starts_some : (rows : List ℕ) (i used : ℕ) → 0 < length_at rows i → start_of rows i used ≡ start_at rows i
starts_some rows i used y = rw (ne_eqb (length_at rows i) 0 (λ e. omega arith))

module _ {rows : List ℕ} {b : List ℤ} {live used i : ℕ} {layered : Bool} (g : Growing rows b live used i layered) where
  abbrev steps-before : List (Placed Step)
  steps-before = (g.stocked.sound i g.here).steps

  steps-here : body_at rows b i ≡ steps-before
  steps-here = steps_are b (start_at rows i) (length_at rows i) (g.stocked.sound i g.here)

  steps-set : last_sets steps-before ≡ layered
  steps-set = ap last_sets (sym steps-here) ∙ g.layer_last

  -- the body ends where the new words begin
  pub end_i : start_of rows i used + length_at rows i ≡ used
  end_i = none_or_some _ (length_at rows i) (λ z. let q = starts-empty rows i used z in omega arith) (λ y. let q = starts_some rows i used y in let e = g.last y in omega arith)

  old_words : words_at b (start_of rows i used) (length_at rows i) ≡ all_words steps-before
  old_words =
      none_or_some _ (length_at rows i) (λ z. same_words b b (length_at rows i) (start_of rows i used) (start_at rows i) (λ k l. absurd (omega arith)))
      (λ y. ap (λ (x : ℕ). words_at b x (length_at rows i)) (starts_some rows i used y))
      ∙ (g.stocked.sound i g.here).words

  -- every other body ends where it begins
  low_i : (k : ℕ) → k < live → (k ≡ i → ⊥) → 0 < length_at rows k → start_at rows k + length_at rows k ≤ start_of rows i used
  low_i k l h z =
      let w = g.laid.within k l z in
      none_or_some _ (length_at rows i) (λ x. let q = starts-empty rows i used x in omega arith)
      (λ y.
      let q = starts_some rows i used y in
      by_place _ (start_at rows i) (start_at rows k)
      (λ v. let a = g.laid.apart i k g.here l (λ x. h (sym x)) y z (omega arith) in absurd (omega (arith, a, g.last y, w)))
      (λ v. let a = g.laid.apart k i l g.here h z y v in omega arith))

  in_run : 5 * i + 4 < row_numbers
  in_run = omega (arith, g.here, g.laid.few)

  -- after the words used: not where an L command follows another
  module _ {s : Placed Step} {b' : List ℤ} (put : Put b used s b') (fair : Fair (layer_now [] (body_at rows b i)) s.what) (few : length (values_of s.what) ≤ most_values)
      (plain : (layered && is_layer s.what) ≡ false) where
    abbrev extended-rows : List ℕ
    extended-rows = extended rows i used (length (step_words s))

    abbrev with_start : List ℕ
    with_start = set rows (5 * i + 2) (start_of rows i used)

    abbrev with_length : List ℕ
    with_length = set with_start (5 * i + 3) (length_at rows i + length (step_words s))

    others : (k : ℕ) → (k ≡ 5 * i + 2 → ⊥) → (k ≡ 5 * i + 3 → ⊥) → (k ≡ 5 * i + 4 → ⊥) → get_or extended-rows k 0 ≡ get_or rows k 0
    others k x y z =
        get_or-set_other with_length (5 * i + 4) k (needed_at rows i + length (step_words s)) 0 z
        ∙ (get_or-set_other with_start (5 * i + 3) k (length_at rows i + length (step_words s)) 0 y ∙ get_or-set_other rows (5 * i + 2) k (start_of rows i used) 0 x)

    start_i : start_at extended-rows i ≡ start_of rows i used
    start_i =
        get_or-set_other with_length (5 * i + 4) (5 * i + 2) (needed_at rows i + length (step_words s)) 0 (λ e. omega arith)
        ∙ (get_or-set_other with_start (5 * i + 3) (5 * i + 2) (length_at rows i + length (step_words s)) 0 (λ e. omega arith)
        ∙ get_or-set_same rows (5 * i + 2) (start_of rows i used) 0 (omega (arith, in_run, g.laid.sized)))

    length_i : length_at extended-rows i ≡ length_at rows i + length (step_words s)
    length_i =
        get_or-set_other with_length (5 * i + 4) (5 * i + 3) (needed_at rows i + length (step_words s)) 0 (λ e. omega arith)
        ∙ get_or-set_same with_start (5 * i + 3) (length_at rows i + length (step_words s)) 0 (omega (arith, in_run, g.laid.sized, length-set rows (5 * i + 2) (start_of rows i used)))

    size_i : length with_length ≡ row_numbers
    size_i = length-set with_start (5 * i + 3) (length_at rows i + length (step_words s)) ∙ (length-set rows (5 * i + 2) (start_of rows i used) ∙ g.laid.sized)

    needed_i : needed_at extended-rows i ≡ needed_at rows i + length (step_words s)
    needed_i = get_or-set_same with_length (5 * i + 4) (needed_at rows i + length (step_words s)) 0 (omega (arith, in_run, size_i))

    extended_is : Renewed rows b live i (length_at rows i) used steps-before s extended-rows b'
    extended_is = record {
      sized = length-set with_length (5 * i + 4) (needed_at rows i + length (step_words s)) ∙ size_i;
      symbols = λ k. others (5 * k) (λ e. omega arith) (λ e. omega arith) (λ e. omega arith);
      places = λ k. others (5 * k + 1) (λ e. omega arith) (λ e. omega arith) (λ e. omega arith);
      starts = λ k h. others (5 * k + 2) (λ e. h (omega arith)) (λ e. omega arith) (λ e. omega arith);
      lengths = λ k h. others (5 * k + 3) (λ e. omega arith) (λ e. h (omega arith)) (λ e. omega arith);
      needed = λ k h. others (5 * k + 4) (λ e. omega arith) (λ e. omega arith) (λ e. h (omega arith));
      needs = needed_i;
      longer = length_i;
      ends = ap (λ (x : ℕ). x + length_at rows i) start_i ∙ end_i;
      old = ap (λ (x : ℕ). words_at b x (length_at rows i)) start_i ∙ old_words;
      low = λ k l h z. subst (λ (x : ℕ). start_at rows k + length_at rows k ≤ x) (sym start_i) (low_i k l h z);
      put = put;
    }

    plain_is : steps-before ++ (s ∷ []) ≡ add steps-before s
    plain_is = add-plain steps-before s (ap (λ (x : Bool). x && is_layer s.what) steps-set ∙ plain)

    pub grown-after : Grows rows b live i s extended-rows b' (used + length (step_words s))
    grown-after = renewed_grows g extended_is (g.stocked.sound i g.here).proper (subst (λ (x : List (Placed Step)). Fair (layer_now [] x) s.what) steps-here fair) few plain_is

  -- in the place of the L command that it follows
  module _ (on_layer : layered ≡ true) where
    abbrev front : Front steps-before
    front = front_of steps-before (steps-set ∙ on_layer)

    abbrev kept-steps : List (Placed Step)
    kept-steps = front.kept

    abbrev m : ℕ
    m = length (all_words kept-steps)

    parts : (m ≤ length_at rows i) × (words_at b (start_at rows i) m ≡ all_words kept-steps) × (length_at rows i ≡ m + layer_words)
    parts =
        let e : words_at b (start_at rows i) (length_at rows i) ≡ all_words kept-steps ++ step_words front.layer =
        (g.stocked.sound i g.here).words ∙ (ap all_words front.are ∙ words_then kept-steps front.layer) in
        let q = split_words b (all_words kept-steps) (step_words front.layer) (start_at rows i) (length_at rows i) e in
        let l : length_at rows i ≡ length (all_words kept-steps ++ step_words front.layer) = sym (words_length b (start_at rows i) (length_at rows i)) ∙ ap length e in
        (q.0, q.1, l ∙ (length-append (all_words kept-steps) (step_words front.layer) ∙ ap (λ (x : ℕ). m + x) (layer_words_lem front.layer front.sets)))

    -- its three words are the last
    pub three_before : layer_words ≤ used
    three_before = let e = g.last (omega (arith, parts.2)) in omega (arith, parts.2)

    kept_end : start_at rows i + m ≡ used - layer_words
    kept_end = let e = g.last (omega (arith, parts.2)) in omega (arith, parts.2)

    module _ {s : Placed Step} {b' : List ℤ} (put : Put b used s b') (fair : Fair (layer_now [] (body_at rows b i)) s.what) (few : length (values_of s.what) ≤ most_values)
        (layer : is_layer s.what ≡ true) {rows' : List ℕ} {b'' : List ℤ} (c : Relayered rows b' i used rows' b'') where
      same_number : (k : ℕ) → (k ≡ 5 * i + 4 → ⊥) → get_or rows' k 0 ≡ get_or rows k 0
      same_number k h = ap (λ (x : List ℕ). get_or x k 0) c.rows_are ∙ get_or-set_other rows (5 * i + 4) k (needed_at rows i + layer_words) 0 h

      needed-again : needed_at rows' i ≡ needed_at rows i + layer_words
      needed-again =
          ap (λ (x : List ℕ). get_or x (5 * i + 4) 0) c.rows_are ∙ get_or-set_same rows (5 * i + 4) (needed_at rows i + layer_words) 0 (omega (arith, in_run, g.laid.sized))

      put_again : Put b (used - layer_words) s b''
      put_again =
          let e = layer_words_lem s layer in
          let w = three_before in
          record {
            size = c.moved.size ∙ put.size;
            below = λ k l. c.moved.below k l ∙ put.below k (omega arith);
            words = ap (words_at b'' (used - layer_words)) e ∙ (same_words b' b'' layer_words (used - layer_words) used c.moved.here ∙ (ap (words_at b' used) (sym e) ∙ put.words));
            room = omega (arith, put.room);
          }

      relayered_is : Renewed rows b live i m (used - layer_words) kept-steps s rows' b''
      relayered_is = record {
        sized = ap length c.rows_are ∙ (length-set rows (5 * i + 4) (needed_at rows i + layer_words) ∙ g.laid.sized);
        symbols = λ k. same_number (5 * k) (λ e. omega arith);
        places = λ k. same_number (5 * k + 1) (λ e. omega arith);
        starts = λ k h. same_number (5 * k + 2) (λ e. omega arith);
        lengths = λ k h. same_number (5 * k + 3) (λ e. omega arith);
        needed = λ k h. same_number (5 * k + 4) (λ e. h (omega arith));
        needs = needed-again ∙ ap (λ (x : ℕ). needed_at rows i + x) (sym (layer_words_lem s layer));
        longer = same_number (5 * i + 3) (λ e. omega arith) ∙ (parts.2 ∙ ap (λ (x : ℕ). m + x) (sym (layer_words_lem s layer)));
        ends = ap (λ (x : ℕ). x + m) (same_number (5 * i + 2) (λ e. omega arith)) ∙ kept_end;
        old = ap (λ (x : ℕ). words_at b x m) (same_number (5 * i + 2) (λ e. omega arith)) ∙ parts.1;
        low = λ k l h z. subst (λ (x : ℕ). start_at rows k + length_at rows k ≤ x) (starts_some rows i used (omega (arith, parts.2)) ∙ sym (same_number (5 * i + 2) (λ e. omega arith))) (low_i k l h z);
        put = put_again;
      }

      again_is : kept-steps ++ (s ∷ []) ≡ add steps-before s
      again_is = add-again kept-steps front.layer s front.sets layer ∙ ap (λ (x : List (Placed Step)). add x s) (sym front.are)

      proper-kept : Proper [] kept-steps
      proper-kept = proper_front [] kept-steps front.layer (subst (Proper []) front.are (g.stocked.sound i g.here).proper)

      pub grown_in_place : Grows rows b live i s rows' b'' used
      grown_in_place =
          let w = three_before in
          let e : used - layer_words + length (step_words s) ≡ used = omega (arith, layer_words_lem s layer) in
          subst (λ (x : ℕ). Grows rows b live i s rows' b'' x) e
          (renewed_grows g relayered_is proper-kept (fair_anywhere (layer_now [] (body_at rows b i)) (layer_now [] kept-steps) s.what layer fair) few again_is)

both_true : (x y : Bool) → (x && y) ≡ true → (x ≡ true) × (y ≡ true)
both_true true y e = (refl, e)
both_true false y e = absurd (cc)

-- one law for both: what `store` leaves where the words of a step were laid
pub stored : {rows : List ℕ} {b : List ℤ} {live used i : ℕ} {layered : Bool} (g : Growing rows b live used i layered) {s : Placed Step} {b' : List ℤ} → Put b used s b'
    → Fair (layer_now [] (body_at rows b i)) s.what → length (values_of s.what) ≤ most_values → (again : Bool) → again ≡ (layered && is_layer s.what)
    → (rows' : List ℕ) (b'' : List ℤ) (used' : ℕ) → Stores again rows b' i used (length (step_words s)) rows' b'' used' → Grows rows b live i s rows' b'' used'
unfolding Stores
stored {rows} {b} {live} {used} {i} g {s} {b'} put fair few false e rows' b'' used' (p, q, r) =
    let h = grown-after g put fair few (sym e) in
    subst (λ (x : List ℕ). Grows rows b live i s x b'' used') (sym p)
    (subst (λ (x : List ℤ). Grows rows b live i s (extended rows i used (length (step_words s))) x used') (sym q)
    (subst (Grows rows b live i s (extended rows i used (length (step_words s))) b') (sym r) h))
stored {rows} {b} {live} {used} {i} {layered} g {s} {b'} put fair few true e rows' b'' used' (c, r) =
    let f = both_true layered (is_layer s.what) (sym e) in
    subst (Grows rows b live i s rows' b'') (sym r) (grown_in_place g f.0 put fair few f.1 c)

-- where the row may grow, the words that were laid can be kept
pub storable : {rows : List ℕ} {b : List ℤ} {live used i : ℕ} {layered : Bool} → Growing rows b live used i layered → {s : Placed Step} {b' : List ℤ} → Put b used s b'
    → (again : Bool) → again ≡ (layered && is_layer s.what) → length b < 2 ^ 64 → needed_at rows i + length (step_words s) < 2 ^ 64 → Storable rows b' i used (length (step_words s)) again
storable {rows} {b} {live} {used} {i} {layered} g {s} put again e short needed = record {
  here = omega (arith, g.here, g.laid.few);
  stored = let a = end_i g in omega (arith, put.room);
  needed = needed;
  within = omega (arith, put.room, put.size);
  layer = λ t. let f = both_true layered (is_layer s.what) (sym e ∙ t) in (layer_words_lem s f.1, three_before g f.0);
}

-- both ways the definitions need the words of the step more
pub needed-grown : {rows : List ℕ} {b : List ℤ} {live i : ℕ} {s : Placed Step} {rows' : List ℕ} {b' : List ℤ} {used' : ℕ} → Grows rows b live i s rows' b' used'
    → needed_in rows' live ≡ needed_in rows live + length (step_words s)
needed-grown {rows} {b} {live} {i} {s} {rows'} h =
    let a = sum_one (needed_at rows) (needed_at rows') i live h.growing.here (λ k l d. (h.others k l d).needed) in
    omega (arith, a, h.needs)
