-- A row entered between the others or in the place of one: the table is what crates/definition's `enter` makes of it, and all other bodies stay.
-- Assumes nothing.
use mathlib.Core.Path.{◌≡◌, refl, sym, ap, ap₂, ◌∙◌, subst}
use mathlib.Core.Bool.{false}
use mathlib.Core.List.{List, [], ◌∷◌}
use mathlib.Core.Option.{none}
use Prim.Native.Nat.{ℕ, zero, suc, ◌+◌, ◌-◌, ◌*◌, ◌≤◌, ◌<◌}
use native.Mathlib.Nat.{not-suc-le-zero}
use native.Mathlib.Omega.{arith}
use borrow.Author.Tests.{eq-eqb, ne_eqb, lt-ltb, le-ltb}
use lib.IntN.{ℤ}
use lib.ListN.{length, get_or, set, length-set}
use lib.Seq.{get_or-set_same, get_or-set_other}
use Rattle.definition.specs.Table.{Definition, Table, find, enter}
use Rattle.library.specs.Memory.{words_at, steps_in, steps_of, body_at, definition_at, table_from, table_of, symbol_at, place_at, start_at, length_at, needed_at, needed_in, most, row_numbers}
use Rattle.library.specs.Sound.{Sound, Stocked, Proper, all_words}
use Rattle.library.specs.Moving.{Laid}
use Rattle.library.specs.Rows.{bare, Sorted, Parted, SameAt, before, Shifted, with_row, Entry, Begins}
use Rattle.library.specs.Storing.{last_sets, Growing}
use Rattle.std.specs.Prelude.{Some, None}
use Rattle.library.specs.declared.Begun.TheVariants.{Replaced, Added}
use Rattle.library.proofs.Runs.{same-table}
use Rattle.library.proofs.Looking.{none_from, some_from}
use Rattle.library.proofs.Seeking.{above_strict}
use Rattle.library.proofs.Sums.{sum_one, sum_in}
use Rattle.library.proofs.Cases.{equal_or, side}

-- ---- the loop of `shift`

pub record Shifting (rows : List ℕ) (live k : ℕ) (rows' : List ℕ) : Type 0 where
  pub size : length rows' ≡ length rows
  pub below : (j : ℕ) → j < k + 5 → get_or rows' j 0 ≡ get_or rows j 0
  pub above : (j : ℕ) → k ≤ j → j < 5 * live → get_or rows' (j + 5) 0 ≡ get_or rows j 0
  pub beyond : (j : ℕ) → 5 * live + 5 ≤ j → get_or rows' j 0 ≡ get_or rows j 0

-- ---- a row put

module _ (rows : List ℕ) (i n p : ℕ) where
  abbrev new : List ℕ
  new = with_row rows i n p

  abbrev r₁ : List ℕ
  r₁ = set rows (5 * i) n

  abbrev r₂ : List ℕ
  r₂ = set r₁ (5 * i + 1) p

  abbrev r₃ : List ℕ
  r₃ = set r₂ (5 * i + 2) 0

  abbrev r₄ : List ℕ
  r₄ = set r₃ (5 * i + 3) 0

  put_size : length new ≡ length rows
  put_size = length-set r₄ (5 * i + 4) 0 ∙ (length-set r₃ (5 * i + 3) 0 ∙ (length-set r₂ (5 * i + 2) 0 ∙ (length-set r₁ (5 * i + 1) p ∙ length-set rows (5 * i) n)))

  -- the first of the five, and those after it
  put_other : (k : ℕ) → (k ≡ 5 * i → ⊥) → (k ≡ 5 * i + 1 → ⊥) → (k ≡ 5 * i + 2 → ⊥) → (k ≡ 5 * i + 3 → ⊥) → (k ≡ 5 * i + 4 → ⊥) → get_or new k 0 ≡ get_or rows k 0
  put_other k a b c d e =
      get_or-set_other r₄ (5 * i + 4) k 0 0 e
      ∙ (get_or-set_other r₃ (5 * i + 3) k 0 0 d ∙ (get_or-set_other r₂ (5 * i + 2) k 0 0 c ∙ (get_or-set_other r₁ (5 * i + 1) k p 0 b ∙ get_or-set_other rows (5 * i) k n 0 a)))

  put_row : (k j : ℕ) → (k ≡ i → ⊥) → j < 5 → get_or new (5 * k + j) 0 ≡ get_or rows (5 * k + j) 0
  put_row k j h l = let f : ¬ (k ≡ i) = h in put_other (5 * k + j) (λ e. omega arith) (λ e. omega arith) (λ e. omega arith) (λ e. omega arith) (λ e. omega arith)

  module _ (fits : 5 * i + 4 < length rows) where
    put_symbol : symbol_at new i ≡ n
    put_symbol =
        get_or-set_other r₄ (5 * i + 4) (5 * i) 0 0 (λ e. omega arith)
        ∙ (get_or-set_other r₃ (5 * i + 3) (5 * i) 0 0 (λ e. omega arith)
        ∙ (get_or-set_other r₂ (5 * i + 2) (5 * i) 0 0 (λ e. omega arith) ∙ (get_or-set_other r₁ (5 * i + 1) (5 * i) p 0 (λ e. omega arith) ∙ get_or-set_same rows (5 * i) n 0 (omega arith))))

    put_place : place_at new i ≡ p
    put_place =
        get_or-set_other r₄ (5 * i + 4) (5 * i + 1) 0 0 (λ e. omega arith)
        ∙ (get_or-set_other r₃ (5 * i + 3) (5 * i + 1) 0 0 (λ e. omega arith)
        ∙ (get_or-set_other r₂ (5 * i + 2) (5 * i + 1) 0 0 (λ e. omega arith) ∙ get_or-set_same r₁ (5 * i + 1) p 0 (omega (arith, length-set rows (5 * i) n))))

    put_start : start_at new i ≡ 0
    put_start =
        get_or-set_other r₄ (5 * i + 4) (5 * i + 2) 0 0 (λ e. omega arith)
        ∙ (get_or-set_other r₃ (5 * i + 3) (5 * i + 2) 0 0 (λ e. omega arith)
        ∙ get_or-set_same r₂ (5 * i + 2) 0 0 (omega (arith, length-set rows (5 * i) n, length-set r₁ (5 * i + 1) p)))

    put_length : length_at new i ≡ 0
    put_length =
        get_or-set_other r₄ (5 * i + 4) (5 * i + 3) 0 0 (λ e. omega arith)
        ∙ get_or-set_same r₃ (5 * i + 3) 0 0 (omega (arith, length-set rows (5 * i) n, length-set r₁ (5 * i + 1) p, length-set r₂ (5 * i + 2) 0))

    put_needed : needed_at new i ≡ 0
    put_needed =
        get_or-set_same r₄ (5 * i + 4) 0 0
        (omega (arith, length-set rows (5 * i) n, length-set r₁ (5 * i + 1) p, length-set r₂ (5 * i + 2) 0, length-set r₃ (5 * i + 3) 0))

same_at : (rows rows' : List ℕ) (k j : ℕ) → ((d : ℕ) → d < 5 → get_or rows' (5 * j + d) 0 ≡ get_or rows (5 * k + d) 0) → SameAt rows k rows' j
same_at rows rows' k j h =
    let a : 5 * j + 0 ≡ 5 * j = omega arith in
    let c : 5 * k + 0 ≡ 5 * k = omega arith in
    record {
      symbol = sym (ap (λ (x : ℕ). get_or rows' x 0) a) ∙ (h 0 (omega arith) ∙ ap (λ (x : ℕ). get_or rows x 0) c);
      place = h 1 (omega arith);
      start = h 2 (omega arith);
      words = h 3 (omega arith);
      needed = h 4 (omega arith);
    }

pub same_definition : (rows rows' : List ℕ) (b : List ℤ) (k j : ℕ) → SameAt rows k rows' j → definition_at rows' b j ≡ definition_at rows b k
same_definition rows rows' b k j s = λ i. record { symbol = s.symbol i; place = s.place i; body = steps_in b (s.start i) (s.words i) }

pub bare_definition : (rows : List ℕ) (b : List ℤ) (i n p : ℕ) → symbol_at rows i ≡ n → place_at rows i ≡ p → length_at rows i ≡ 0 → definition_at rows b i ≡ bare n p
bare_definition rows b i n p e f z =
    let none_there : steps_in b (start_at rows i) (length_at rows i) ≡ [] = ap (λ (x : ℕ). steps_in b (start_at rows i) x) z ∙ nothing (start_at rows i) in
    λ j. record { symbol = e j; place = f j; body = none_there j }
  where
    nothing : (s : ℕ) → steps_in b s 0 ≡ []
    nothing s = unfold steps_of in refl

-- ---- the table, by index

module _ (old new : List ℕ) (b : List ℤ) (n p : ℕ) where
  passed : (d e : Definition) (t : Table) → e.symbol < d.symbol → enter d (e ∷ t) ≡ e ∷ enter d t
  unfolding enter
  passed d e t h = rw (le-ltb d.symbol e.symbol (omega arith), ne_eqb d.symbol e.symbol (λ z. omega arith))

  table-over : (m c j i : ℕ) → i ≡ j + m → m < c → ((k : ℕ) → j ≤ k → k < i → symbol_at old k < n) → symbol_at old i ≡ n → definition_at new b i ≡ bare n p
      → ((k : ℕ) → (k ≡ i → ⊥) → definition_at new b k ≡ definition_at old b k) → table_from new b j c ≡ enter (bare n p) (table_from old b j c)
  unfolding table_from
  table-over m zero j i e l h q a s = absurd (not-suc-le-zero l)
  table-over zero (suc c) j i e l h q a s =
      let f : i ≡ j = omega arith in
      ap₂ {C = Table} (λ (x : Definition) (y : Table). x ∷ y) (subst (λ (x : ℕ). definition_at new b x ≡ bare n p) f a) (same-table old new b b c (j + 1) (λ k x y. s k (λ z. omega arith)))
      ∙ sym (over (subst (λ (x : ℕ). symbol_at old x ≡ n) f q))
    where
      over : symbol_at old j ≡ n → enter (bare n p) (definition_at old b j ∷ table_from old b (j + 1) c) ≡ bare n p ∷ table_from old b (j + 1) c
      over q = unfold enter in rw (le-ltb n (symbol_at old j) (omega arith), eq-eqb n (symbol_at old j) (sym q))
  table-over (suc m) (suc c) j i e l h q a s =
      ap₂ {C = Table} (λ (x : Definition) (y : Table). x ∷ y) (s j (λ z. omega arith)) (table-over m c (j + 1) i (omega arith) (omega arith) (λ k x y. h k (omega arith) y) q a s)
      ∙ sym (passed (bare n p) (definition_at old b j) (table_from old b (j + 1) c) (h j (omega arith) (omega arith)))

  moved-table : (c j : ℕ) → ((k : ℕ) → j ≤ k → k < j + c → definition_at new b (k + 1) ≡ definition_at old b k) → table_from new b (j + 1) c ≡ table_from old b j c
  unfolding table_from
  moved-table zero j h = refl
  moved-table (suc c) j h = ap₂ {C = Table} (λ (x : Definition) (y : Table). x ∷ y) (h j (omega arith) (omega arith)) (moved-table c (j + 1) (λ k x y. h k (omega arith) (omega arith)))

  table_in : (m c j i : ℕ) → i ≡ j + m → m ≤ c → ((k : ℕ) → j ≤ k → k < i → symbol_at old k < n) → ((k : ℕ) → i ≤ k → k < j + c → n < symbol_at old k) → definition_at new b i ≡ bare n p
      → ((k : ℕ) → k < i → definition_at new b k ≡ definition_at old b k) → ((k : ℕ) → i ≤ k → k < j + c → definition_at new b (k + 1) ≡ definition_at old b k)
      → table_from new b j (suc c) ≡ enter (bare n p) (table_from old b j c)
  unfolding table_from
  table_in zero c j i e l h g a s t =
      let f : i ≡ j = omega arith in
      ap₂ {C = Table} (λ (x : Definition) (y : Table). x ∷ y) (subst (λ (x : ℕ). definition_at new b x ≡ bare n p) f a) (moved-table c j (λ k x y. t k (omega arith) y))
      ∙ sym (first c (λ z. g j (omega arith) (omega arith)))
    where
      first : (c : ℕ) → (0 < c → n < symbol_at old j) → enter (bare n p) (table_from old b j c) ≡ bare n p ∷ table_from old b j c
      first zero z = unfold enter table_from in refl
      first (suc c) z = unfold enter table_from in rw (lt-ltb n (symbol_at old j) (z (omega arith)))
  table_in (suc m) zero j i e l h g a s t = absurd (not-suc-le-zero l)
  table_in (suc m) (suc c) j i e l h g a s t =
      ap₂ {C = Table} (λ (x : Definition) (y : Table). x ∷ y) (s j (omega arith))
      (table_in m c (j + 1) i (omega arith) (omega arith) (λ k x y. h k (omega arith) y) (λ k x y. g k x (omega arith)) a s (λ k x y. t k x (omega arith)))
      ∙ sym (passed (bare n p) (definition_at old b j) (table_from old b (j + 1) c) (h j (omega arith) (omega arith)))

-- ---- the entry

module _ (rows : List ℕ) (live n p i : ℕ) (sorted : Sorted rows live) (sized : length rows ≡ row_numbers) (parted : Parted rows live n i) where
  -- in the place of one of its number
  module _ (lt : i < live) (is : symbol_at rows i ≡ n) where
    abbrev over : List ℕ
    over = with_row rows i n p

    fits-over : 5 * i + 4 < length rows
    fits-over = omega (arith, sorted.few)

    over_other : (k : ℕ) → (k ≡ i → ⊥) → SameAt rows k over k
    over_other k h = same_at rows over k k (λ d l. put_row rows i n p k d h l)

    over-symbol : (k : ℕ) → symbol_at over k ≡ symbol_at rows k
    over-symbol k = side _ k i (λ h. (over_other k (λ e. omega arith)).symbol) (λ e. subst (λ (x : ℕ). symbol_at over x ≡ symbol_at rows x) (sym e) (put_symbol rows i n p fits-over ∙ sym is)) (λ h. (over_other k (λ e. omega arith)).symbol)

    pub entry_over : Entry rows live n p over live i (λ j. j)
    entry_over = record {
      sorted = record { few = sorted.few; rising = λ j m a c. let r = sorted.rising j m a c in omega (arith, over-symbol j, over-symbol m) };
      sized = put_size rows i n p ∙ sized;
      here = lt;
      symbol_is = put_symbol rows i n p fits-over;
      place_is = put_place rows i n p fits-over;
      start_is = put_start rows i n p fits-over;
      empty = put_length rows i n p fits-over;
      free = put_needed rows i n p fits-over;
      beyond = λ k l. put_other rows i n p k (λ e. omega arith) (λ e. omega arith) (λ e. omega arith) (λ e. omega arith) (λ e. omega arith);
      keeps = record { within = λ j l h. l; same = λ j l h. over_other j h; one = λ j m a c e. e };
      table =
          λ b. table-over rows over b n p i live 0 i (omega arith) lt (λ k a c. parted.below k c) is
          (bare_definition over b i n p (put_symbol rows i n p fits-over) (put_place rows i n p fits-over) (put_length rows i n p fits-over))
          (λ k h. same_definition rows over b k k (over_other k h));
    }

    pub was_there : (b : List ℤ) → find n (table_of rows b live) ≡ none → ⊥
    was_there b e =
        let f = some_from rows b n i live 0 i (omega arith) lt (λ k a c q. let z = parted.below k c in omega arith) is in
        cc

  -- between the others
  module _ (not_there : i < live → symbol_at rows i ≡ n → ⊥) where
    strict : (k : ℕ) → i ≤ k → k < live → n < symbol_at rows k
    strict = above_strict rows live n i sorted parted not_there

    pub was_not_there : (b : List ℤ) → find n (table_of rows b live) ≡ none
    was_not_there b = none_from rows b n live 0 (λ k a c q. side ⊥ k i (λ h. let z = parted.below k h in omega arith) (λ e. let z = strict k (omega arith) (omega arith) in omega arith) (λ h. let z = strict k (omega arith) (omega arith) in omega arith))

    module _ (room : live < most) (rows' : List ℕ) (s : Shifted rows live i rows') where
      abbrev new-rows : List ℕ
      new-rows = with_row rows' i n p

      fits_in : 5 * i + 4 < length rows'
      fits_in = omega (arith, s.size, parted.within)

      in_below : (k : ℕ) → k < i → SameAt rows k new-rows k
      in_below k h =
          same_at rows new-rows k k
          (λ d l. put_row rows' i n p k d (λ e. omega arith) l ∙ s.below (5 * k + d) (omega arith))

      in_above : (k : ℕ) → i ≤ k → k < live → SameAt rows k new-rows (k + 1)
      in_above k a c =
          same_at rows new-rows k (k + 1)
          (λ d l.
          let q : 5 * (k + 1) + d ≡ 5 * k + d + 5 = omega arith in
          put_row rows' i n p (k + 1) d (λ e. omega arith) l
          ∙ (ap (λ (x : ℕ). get_or rows' x 0) q ∙ s.above (5 * k + d) (omega arith) (omega arith)))

      -- the same, seen from the new row
      in_after : (j : ℕ) → i < j → j < live + 1 → SameAt rows (j - 1) new-rows j
      in_after j a c = let q : j - 1 + 1 ≡ j = omega arith in subst (λ (x : ℕ). SameAt rows (j - 1) new-rows x) q (in_above (j - 1) (omega arith) (omega arith))

      source_low : (j : ℕ) → j < i → before i j ≡ j
      source_low j h = rw (lt-ltb j i h)

      source_high : (j : ℕ) → i < j → before i j ≡ j - 1
      source_high j h = rw (le-ltb j i (omega arith))

      symbol_in : symbol_at new-rows i ≡ n
      symbol_in = put_symbol rows' i n p fits_in

      rises : (j m : ℕ) → j < m → m < live + 1 → symbol_at new-rows j < symbol_at new-rows m
      rises j m a c =
          side _ m i
          (λ h. let r = sorted.rising j m a (omega (arith, parted.within)) in omega (arith, (in_below j (omega arith)).symbol, (in_below m h).symbol))
          (λ e. let q : symbol_at new-rows m ≡ n = subst (λ (x : ℕ). symbol_at new-rows x ≡ n) (sym e) symbol_in in let z = parted.below j (omega arith) in omega (arith, (in_below j (omega arith)).symbol, q))
          (λ h.
          let u = (in_after m h c).symbol in
          let v = strict (m - 1) (omega arith) (omega arith) in
          side _ j i
          (λ g. let z = parted.below j g in omega (arith, (in_below j g).symbol, u, v))
          (λ e. let q : symbol_at new-rows j ≡ n = subst (λ (x : ℕ). symbol_at new-rows x ≡ n) (sym e) symbol_in in omega (arith, q, u, v))
          (λ g. let r = sorted.rising (j - 1) (m - 1) (omega arith) (omega arith) in omega (arith, (in_after j g (omega arith)).symbol, u, r)))

      pub entry_in : Entry rows live n p new-rows (live + 1) i (before i)
      entry_in = record {
        sorted = record { few = omega arith; rising = rises };
        sized = put_size rows' i n p ∙ (s.size ∙ sized);
        here = omega (arith, parted.within);
        symbol_is = symbol_in;
        place_is = put_place rows' i n p fits_in;
        start_is = put_start rows' i n p fits_in;
        empty = put_length rows' i n p fits_in;
        free = put_needed rows' i n p fits_in;
        beyond = λ k l.
            put_other rows' i n p k (λ e. omega (arith, parted.within)) (λ e. omega (arith, parted.within)) (λ e. omega (arith, parted.within)) (λ e. omega (arith, parted.within)) (λ e. omega (arith, parted.within))
            ∙ s.beyond k (omega arith);
        keeps = record {
          within = λ j l h. let f : ¬ (j ≡ i) = h in side _ j i (λ a. omega (arith, source_low j a, parted.within)) (λ e. absurd (h e)) (λ a. omega (arith, source_high j a));
          same = λ j l h. side _ j i (λ a. subst (λ (x : ℕ). SameAt rows x new-rows j) (sym (source_low j a)) (in_below j a)) (λ e. absurd (h e))
              (λ a. subst (λ (x : ℕ). SameAt rows x new-rows j) (sym (source_high j a)) (in_after j a l));
          one = λ j m a c e.
              side _ j i
              (λ x. side _ m i (λ y. omega (arith, e, source_low j x, source_low m y)) (λ y. absurd (c y)) (λ y. absurd (omega (arith, e, source_low j x, source_high m y))))
              (λ x. absurd (a x))
              (λ x. side _ m i (λ y. absurd (omega (arith, e, source_high j x, source_low m y))) (λ y. absurd (c y)) (λ y. omega (arith, e, source_high j x, source_high m y)));
        };
        table =
            λ b.
            let q : live + 1 ≡ suc live = omega arith in
            ap (λ (x : ℕ). table_from new-rows b 0 x) q
            ∙ table_in rows new-rows b n p i live 0 i (omega arith) parted.within (λ k a c. parted.below k c) (λ k a c. strict k a (omega arith))
            (bare_definition new-rows b i n p symbol_in (put_place rows' i n p fits_in) (put_length rows' i n p fits_in))
            (λ k h. same_definition rows new-rows b k k (in_below k h)) (λ k a c. same_definition rows new-rows b k (k + 1) (in_above k a (omega arith)));
      }

-- ---- what the bodies need, kept

module _ {rows : List ℕ} {live n p : ℕ} {rows' : List ℕ} {live' i : ℕ} {source : ℕ → ℕ} (e : Entry rows live n p rows' live' i source) where
  no_words : (j : ℕ) → 0 < length_at rows' j → j ≡ i → ⊥
  no_words j z q = let w : length_at rows' j ≡ 0 = subst (λ (x : ℕ). length_at rows' x ≡ 0) (sym q) e.empty in omega arith

  pub laid_kept : (used : ℕ) → Laid rows live used → Laid rows' live' used
  laid_kept used h = record {
    few = e.sorted.few;
    sized = e.sized;
    within = λ j l z. let s = e.keeps.same j l (no_words j z) in let w = h.within (source j) (e.keeps.within j l (no_words j z)) (omega (arith, s.words)) in omega (arith, s.words, s.start);
    apart = λ j m k l d x y z.
        let s = e.keeps.same j k (no_words j x) in
        let t = e.keeps.same m l (no_words m y) in
        let w = h.apart (source j) (source m) (e.keeps.within j k (no_words j x)) (e.keeps.within m l (no_words m y))
        (λ q. d (e.keeps.one j m (no_words j x) (no_words m y) q)) (omega (arith, s.words)) (omega (arith, t.words)) (omega (arith, s.start, t.start)) in
        omega (arith, s.words, s.start, t.start);
  }

  pub stocked-kept : (b : List ℤ) → Stocked rows b live → Stocked rows' b live'
  stocked-kept b h = record {
    few = e.sorted.few;
    within = λ j l. equal_or (start_at rows' j + length_at rows' j ≤ length b) j i (λ q. let w = at_i j q in omega (arith, w.0, w.1))
        (λ q. let s = e.keeps.same j l q in let w = h.within (source j) (e.keeps.within j l q) in omega (arith, s.start, s.words));
    sound = λ j l. equal_or (Sound b (start_at rows' j) (length_at rows' j)) j i
        (λ q. subst (Sound b (start_at rows' j)) (sym (at_i j q).1) (empty-sound b (start_at rows' j)))
        (λ q. let s = e.keeps.same j l q in let o = h.sound (source j) (e.keeps.within j l q) in
        subst (λ (x : ℕ). Sound b x (length_at rows' j)) (sym s.start) (subst (Sound b (start_at rows (source j))) (sym s.words) o));
  }
    where
      at_i : (j : ℕ) → j ≡ i → (start_at rows' j ≡ 0) × (length_at rows' j ≡ 0)
      at_i j q = (subst (λ (x : ℕ). start_at rows' x ≡ 0) (sym q) e.start_is, subst (λ (x : ℕ). length_at rows' x ≡ 0) (sym q) e.empty)

      empty-sound : (b : List ℤ) (s : ℕ) → Sound b s 0
      empty-sound b s = record { steps = []; proper = unfold Proper in tt; words = unfold words_at all_words in refl }

-- the definition begun has no body, and may grow after the words used
pub begun-empty : {rows : List ℕ} {live n p : ℕ} {rows' : List ℕ} {live' i : ℕ} {source : ℕ → ℕ} → Entry rows live n p rows' live' i source → (b : List ℤ) → body_at rows' b i ≡ []
begun-empty {rows' = rows'} {i = i} e b = ap (λ (x : ℕ). steps_in b (start_at rows' i) x) e.empty ∙ nothing (start_at rows' i)
  where
    nothing : (s : ℕ) → steps_in b s 0 ≡ []
    nothing s = unfold steps_of in refl

pub begun : {rows : List ℕ} {live n p : ℕ} {rows' : List ℕ} {live' i : ℕ} {source : ℕ → ℕ} → Entry rows live n p rows' live' i source
    → (b : List ℤ) (used : ℕ) → Stocked rows b live → Laid rows live used → used ≤ length b → Growing rows' b live' used i false
begun e b used s l f = record {
  stocked = stocked-kept e b s;
  laid = laid_kept e used l;
  sorted = e.sorted;
  here = e.here;
  last = λ z. absurd (omega (arith, e.empty));
  fits = f;
  layer_last = ap last_sets (begun-empty e b) ∙ none_last;
}
  where
    none_last : last_sets [] ≡ false
    none_last = unfold last_sets in refl

-- ---- the words needed

-- instead of one of its number: the words of that are free
pub needed-over : (rows : List ℕ) (live n p : ℕ) (rows' : List ℕ) (i : ℕ) → Entry rows live n p rows' live i (λ j. j) → needed_in rows' live + needed_at rows i ≡ needed_in rows live
needed-over rows live n p rows' i e =
    let a = sum_one (needed_at rows) (needed_at rows') i live e.here (λ k l h. (e.keeps.same k l h).needed) in
    omega (arith, a, e.free)

-- beside the others: none
pub needed_in_lem : (rows : List ℕ) (live n p : ℕ) (rows' : List ℕ) (i : ℕ) → Entry rows live n p rows' (live + 1) i (before i) → needed_in rows' (live + 1) ≡ needed_in rows live
needed_in_lem rows live n p rows' i e =
    let a = sum_in (needed_at rows) (needed_at rows') i live (omega (arith, e.here))
    (λ k l. subst (λ (x : ℕ). needed_at rows' k ≡ needed_at rows x) (low k l) (e.keeps.same k (omega (arith, e.here)) (λ z. omega arith)).needed)
    (λ k l m. subst (λ (x : ℕ). needed_at rows' (k + 1) ≡ needed_at rows x) (high k l) (e.keeps.same (k + 1) (omega arith) (λ z. omega arith)).needed) in
    omega (arith, a, e.free)
  where
    low : (k : ℕ) → k < i → before i k ≡ k
    low k l = rw (lt-ltb k i l)

    high : (k : ℕ) → i ≤ k → before i (k + 1) ≡ k
    high k l = rw (le-ltb (k + 1) i (omega arith)) (omega arith)

-- ---- what `begin` answers

module _ (rows : List ℕ) (live n p i : ℕ) (sorted : Sorted rows live) (sized : length rows ≡ row_numbers) (parted : Parted rows live n i) where
  pub begins_over : i < live → symbol_at rows i ≡ n → (freed : ℕ) → freed ≡ needed_at rows i → {rows' : List ℕ} → rows' ≡ with_row rows i n p → Begins rows live n p (Some (Replaced i freed)) rows'
  begins_over l e freed f q =
      subst (Begins rows live n p (Some (Replaced i freed))) (sym q)
      (unfold Begins in (entry_over rows live n p i sorted sized parted l e, f, e, was_there rows live n p i sorted sized parted l e))

  pub begins_not : (i < live → symbol_at rows i ≡ n → ⊥) → live ≡ most → Begins rows live n p None rows
  unfolding Begins
  begins_not h q = (refl, q, was_not_there rows live n p i sorted sized parted h)

  pub begins_in : (i < live → symbol_at rows i ≡ n → ⊥) → live < most → (between : List ℕ) → Shifted rows live i between → {rows' : List ℕ} → rows' ≡ with_row between i n p
      → Begins rows live n p (Some (Added i)) rows'
  begins_in h f between s q =
      subst (Begins rows live n p (Some (Added i))) (sym q)
      (unfold Begins in (entry_in rows live n p i sorted sized parted h f between s, was_not_there rows live n p i sorted sized parted h))
