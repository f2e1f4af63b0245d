-- What each operation makes of the table that is held: a definition begun is entered, a step more is a step more of its body, whichever way it is
-- stored, DD forgets, and moving together changes nothing. The words counted are those that the definitions need.
-- Assumes nothing.
use Rattle.std.specs.Prelude.{if◌then◌else◌}
use mathlib.Core.Path.{◌≡◌, refl, sym, ap, ap₂, ◌∙◌, subst}
use mathlib.Core.Bool.{Bool, true, false}
use mathlib.Core.List.{List, [], ◌∷◌, ◌++◌}
use Prim.Native.Nat.{ℕ, zero, suc, ◌+◌, ◌≤◌, ◌<◌}
use native.Mathlib.Nat.{not-suc-le-zero}
use native.Mathlib.Omega.{arith}
use borrow.Author.Tests.{eqb-false, eq-eqb, ne_eqb, ltb-true, ltb-false, lt-ltb, le-ltb}
use lib.Dec.{eqb, ltb}
use lib.IntN.{ℤ}
use lib.ListN.{length}
use Rattle.definition.specs.Words.{Placed, those}
use Rattle.definition.specs.Table.{Step, Definition, Table, enter, forget}
use Rattle.definition.specs.Held.{words_of_body, words_in}
use Rattle.definition.specs.Lean.{add, lean, lean_table}
use Rattle.laws.proofs.Story.Lean.{lean_none, lean-last}
use Rattle.laws.proofs.Story.WordSums.{body_words_last, lean_words_in}
use Rattle.library.specs.Memory.{body_at, table_from, table_of, symbol_at, place_at, length_at, needed_at, sum_of, words_held, needed_in}
use Rattle.library.specs.Sound.{Stocked}
use Rattle.library.specs.Moving.{SameRow, Compacted}
use Rattle.library.specs.Rows.{Parted, bare, SameAt, before, Entry}
use Rattle.library.specs.Storing.{Grows}
use Rattle.library.specs.Holds.{Means, HoldsFrom, Holds}
use Rattle.library.proofs.Sums.{sum_next}
use Rattle.library.proofs.Entering.{same_definition, bare_definition}
use Rattle.library.proofs.Packing.{row_same}
use Rattle.library.proofs.Counted.{step_count, held_are}
use Rattle.library.proofs.Cases.{side}

hold_row : (rows : List ℕ) (b : List ℤ) (j : ℕ) (d : Definition) (t : Table) → Means rows b j d → HoldsFrom rows b (j + 1) t → HoldsFrom rows b j (d ∷ t)
unfolding HoldsFrom
hold_row rows b j d t h g = (h, g)

held-row : (rows : List ℕ) (b : List ℤ) (j : ℕ) (d : Definition) (t : Table) → HoldsFrom rows b j (d ∷ t) → Means rows b j d × HoldsFrom rows b (j + 1) t
unfolding HoldsFrom
held-row rows b j d t h = h

-- ---- what the memory means

table_from_lem : (rows : List ℕ) (b : List ℤ) (t : Table) (i : ℕ) → HoldsFrom rows b i t → table_from rows b i (length t) ≡ lean_table t
unfolding HoldsFrom table_from
table_from_lem rows b [] i h = refl
table_from_lem rows b (d ∷ t) i h = ap₂ {C = Table} (λ (x : Definition) (y : Table). x ∷ y) h.0.kept_lean (table_from_lem rows b t (i + 1) h.1)

pub held-table : {rows : List ℕ} {b : List ℤ} {live : ℕ} {t : Table} → Holds rows b live t → table_of rows b live ≡ lean_table t
held-table {rows} {b} {live} {t} h = ap (table_of rows b) (sym h.many) ∙ table_from_lem rows b t 0 h.each

needed_from : (rows : List ℕ) (b : List ℤ) (t : Table) (i : ℕ) → HoldsFrom rows b i t → needed_in rows (i + length t) ≡ needed_in rows i + words_in t
unfolding HoldsFrom words_in
needed_from rows b [] i h = let e : i + 0 ≡ i = omega arith in let q = ap (needed_in rows) e in omega (arith, q)
needed_from rows b (d ∷ t) i h =
    let e : i + 1 + length t ≡ i + length (d ∷ t) = omega arith in
    let q = ap (needed_in rows) e in
    let a = needed_from rows b t (i + 1) h.1 in
    let c = sum_next (needed_at rows) i in
    omega (arith, q, a, c, h.0.needs)

-- the words counted
pub held-needed : {rows : List ℕ} {b : List ℤ} {live : ℕ} {t : Table} → Holds rows b live t → needed_in rows live ≡ words_in t
held-needed {rows} {b} {live} {t} h =
    let a = needed_from rows b t 0 h.each in
    let e : 0 + length t ≡ live = omega (arith, h.many) in
    let q = ap (needed_in rows) e in
    let z : needed_in rows 0 ≡ 0 = nothing (needed_at rows) in
    omega (arith, a, q, z)
  where
    nothing : (f : ℕ → ℕ) → sum_of f 0 ≡ 0
    nothing f = unfold sum_of in refl

-- no more are stored
pub stored-within : {rows : List ℕ} {b : List ℤ} {live : ℕ} {t : Table} → Holds rows b live t → Stocked rows b live → words_held rows live ≤ words_in t
stored-within {rows} {b} {live} {t} h s = let a = held_are rows b live s ∙ ap words_in (held-table h) in let c = lean_words_in t in omega (arith, a, c)

pub holds_none : (rows : List ℕ) (b : List ℤ) → Holds rows b 0 []
holds_none rows b = record { many = refl; each = unfold HoldsFrom in tt }

-- ---- rows that mean what rows meant

means_at : {rows rows' : List ℕ} {k j : ℕ} (b : List ℤ) → SameAt rows k rows' j → (d : Definition) → Means rows b k d → Means rows' b j d
means_at {rows} {rows'} {k} {j} b s d h = record { kept_lean = same_definition rows rows' b k j s ∙ h.kept_lean; needs = s.needed ∙ h.needs }

means-row : {rows : List ℕ} {b : List ℤ} {rows' : List ℕ} {b' : List ℤ} {k : ℕ} → SameRow rows b rows' b' k → (d : Definition) → Means rows b k d → Means rows' b' k d
means-row {rows} {b} {rows'} {b'} {k} s d h = record { kept_lean = row_same rows b rows' b' k s ∙ h.kept_lean; needs = s.needed ∙ h.needs }

means-symbol : {rows : List ℕ} {b : List ℤ} {k : ℕ} {d : Definition} → Means rows b k d → symbol_at rows k ≡ d.symbol
means-symbol h = ap (λ (x : Definition). x.symbol) h.kept_lean

means-bare : (rows : List ℕ) (b : List ℤ) (i n p : ℕ) → symbol_at rows i ≡ n → place_at rows i ≡ p → length_at rows i ≡ 0 → needed_at rows i ≡ 0 → Means rows b i (bare n p)
means-bare rows b i n p e f z q = record {
  kept_lean = bare_definition rows b i n p e f z ∙ ap (λ (x : List (Placed Step)). record { symbol = n; place = p; body = x }) (sym lean_none);
  needs = unfold words_of_body in q;
}

module _ {rows : List ℕ} {b : List ℤ} {rows' : List ℕ} {b' : List ℤ} where
  as_they_were : (t : Table) (j : ℕ) → ((k : ℕ) → j ≤ k → k < j + length t → (d : Definition) → Means rows b k d → Means rows' b' k d) → HoldsFrom rows b j t → HoldsFrom rows' b' j t
  unfolding HoldsFrom
  as_they_were [] j f h = tt
  as_they_were (d ∷ t) j f h = (f j (omega arith) (omega arith) d h.0, as_they_were t (j + 1) (λ k l m. f k (omega arith) (omega arith)) h.1)

  one_up : (t : Table) (j : ℕ) → ((k : ℕ) → j ≤ k → k < j + length t → (d : Definition) → Means rows b k d → Means rows' b' (k + 1) d) → HoldsFrom rows b j t → HoldsFrom rows' b' (j + 1) t
  unfolding HoldsFrom
  one_up [] j f h = tt
  one_up (d ∷ t) j f h = (f j (omega arith) (omega arith) d h.0, one_up t (j + 1) (λ k l m. f k (omega arith) (omega arith)) h.1)

-- ---- moving together

pub holds_together : {rows : List ℕ} {b : List ℤ} {live used : ℕ} {rows' : List ℕ} {b' : List ℤ} {t : Table} → Compacted rows b live used rows' b' → Holds rows b live t → Holds rows' b' live t
holds_together {t = t} c h = record { many = h.many; each = as_they_were t 0 (λ k l m. means-row (c.same k (omega (arith, h.many)))) h.each }

-- ---- a definition begun

passed : (d e : Definition) (t : Table) → e.symbol < d.symbol → enter d (e ∷ t) ≡ e ∷ enter d t
unfolding enter
passed d e t h = rw (le-ltb d.symbol e.symbol (omega arith), ne_eqb d.symbol e.symbol (λ z. omega arith))

replaced : (d e : Definition) (t : Table) → e.symbol ≡ d.symbol → enter d (e ∷ t) ≡ d ∷ t
unfolding enter
replaced d e t h = rw (le-ltb d.symbol e.symbol (omega arith), eq-eqb d.symbol e.symbol (sym h))

entered-first : (d e : Definition) (t : Table) → d.symbol < e.symbol → enter d (e ∷ t) ≡ d ∷ e ∷ t
unfolding enter
entered-first d e t h = rw (lt-ltb d.symbol e.symbol h)

-- so many definitions are held from row j on
abbrev Counted : List ℕ → List ℤ → ℕ → Table → ℕ → Type 0
Counted rows b j t c = (length t ≡ c) × HoldsFrom rows b j t

module _ {rows : List ℕ} {live n p : ℕ} {rows' : List ℕ} {i : ℕ} (b : List ℤ) where
  begun-row : (j : ℕ) → i ≡ j → {live' : ℕ} {source : ℕ → ℕ} → Entry rows live n p rows' live' i source → Means rows' b j (bare n p)
  begun-row j f e = subst (λ (x : ℕ). Means rows' b x (bare n p)) f (means-bare rows' b i n p e.symbol_is e.place_is e.empty e.free)

  -- instead of one of its number
  module _ (e : Entry rows live n p rows' live i (λ j. j)) (is : symbol_at rows i ≡ n) where
    over_from : (t : Table) (m j : ℕ) → i ≡ j + m → m < length t → j + length t ≡ live → HoldsFrom rows b j t → Counted rows' b j (enter (bare n p) t) (length t)
    unfolding HoldsFrom
    over_from [] m j q l w h = absurd (not-suc-le-zero l)
    over_from (d ∷ t) zero j q l w h =
        let f : i ≡ j = omega arith in
        let o : d.symbol ≡ n = sym (means-symbol h.0) ∙ (ap (symbol_at rows) (sym f) ∙ is) in
        subst (λ (x : Table). Counted rows' b j x (suc (length t))) (sym (replaced (bare n p) d t o))
        (refl, hold_row rows' b j (bare n p) t (begun-row j f e) (as_they_were t (j + 1) (λ k x y. means_at b (e.keeps.same k (omega arith) (λ z. omega arith))) h.1))
    over_from (d ∷ t) (suc m) j q l w h =
        let o = e.sorted.rising j i (omega arith) e.here in
        let a = e.keeps.same j (omega arith) (λ z. omega arith) in
        let r = over_from t m (j + 1) (omega arith) (omega arith) (omega arith) h.1 in
        subst (λ (x : Table). Counted rows' b j x (suc (length t))) (sym (passed (bare n p) d t (omega (arith, means-symbol h.0, o, a.symbol, e.symbol_is))))
        (ap suc r.0, hold_row rows' b j d (enter (bare n p) t) (means_at b a d h.0) r.1)

    pub holds-over : {t : Table} → Holds rows b live t → Holds rows' b live (enter (bare n p) t)
    holds-over {t} h =
        let r = over_from t i 0 (omega arith) (omega (arith, h.many, e.here)) (omega (arith, h.many)) h.each in
        record { many = r.0 ∙ h.many; each = r.1 }

  -- beside the others
  module _ (e : Entry rows live n p rows' (live + 1) i (before i)) where
    low : (k : ℕ) → k < i → SameAt rows k rows' k
    low k l =
        let q : before i k ≡ k = rw (lt-ltb k i l) in
        subst (λ (x : ℕ). SameAt rows x rows' k) q (e.keeps.same k (omega (arith, e.here)) (λ z. omega arith))

    high : (k : ℕ) → i ≤ k → k < live → SameAt rows k rows' (k + 1)
    high k l m =
        let q : before i (k + 1) ≡ k = rw (le-ltb (k + 1) i (omega arith)) (omega arith) in
        subst (λ (x : ℕ). SameAt rows x rows' (k + 1)) q (e.keeps.same (k + 1) (omega arith) (λ z. omega arith))

    in_from : (t : Table) (m j : ℕ) → i ≡ j + m → m ≤ length t → j + length t ≡ live → HoldsFrom rows b j t → Counted rows' b j (enter (bare n p) t) (suc (length t))
    unfolding HoldsFrom
    in_from [] m j q l w h = subst (λ (x : Table). Counted rows' b j x 1) (sym (alone (bare n p))) (refl, hold_row rows' b j (bare n p) [] (begun-row j (omega arith) e) tt)
      where
        alone : (d : Definition) → enter d [] ≡ d ∷ []
        alone d = unfold enter in refl
    in_from (d ∷ t) zero j q l w h =
        let f : i ≡ j = omega arith in
        let a = high j (omega arith) (omega arith) in
        let o = e.sorted.rising i (j + 1) (omega arith) (omega arith) in
        subst (λ (x : Table). Counted rows' b j x (suc (suc (length t)))) (sym (entered-first (bare n p) d t (omega (arith, means-symbol h.0, o, a.symbol, e.symbol_is))))
        (refl, hold_row rows' b j (bare n p) (d ∷ t) (begun-row j f e) (one_up (d ∷ t) j (λ k x y. means_at b (high k (omega arith) (omega arith))) h))
    in_from (d ∷ t) (suc m) j q l w h =
        let a = low j (omega arith) in
        let o = e.sorted.rising j i (omega arith) e.here in
        let r = in_from t m (j + 1) (omega arith) (omega arith) (omega arith) h.1 in
        subst (λ (x : Table). Counted rows' b j x (suc (suc (length t)))) (sym (passed (bare n p) d t (omega (arith, means-symbol h.0, o, a.symbol, e.symbol_is))))
        (ap suc r.0, hold_row rows' b j d (enter (bare n p) t) (means_at b a d h.0) r.1)

    pub holds_in : {t : Table} → Holds rows b live t → Holds rows' b (live + 1) (enter (bare n p) t)
    holds_in {t} h =
        let r = in_from t i 0 (omega arith) (omega (arith, h.many, e.here)) (omega (arith, h.many)) h.each in
        record { many = omega (arith, r.0, h.many); each = r.1 }

-- ---- DD

module _ {rows : List ℕ} {live n left : ℕ} (parted : Parted rows live n left) (b : List ℤ) where
  kept_one : (d : Definition) (t : Table) → d.symbol < n → forget n (d ∷ t) ≡ d ∷ forget n t
  unfolding forget those
  kept_one d t h = rw (lt-ltb d.symbol n h)

  dropped_one : (d : Definition) (t : Table) → n ≤ d.symbol → forget n (d ∷ t) ≡ forget n t
  unfolding forget those
  dropped_one d t h = rw (le-ltb d.symbol n h)

  none_left : forget n [] ≡ []
  unfolding forget those
  none_left = refl

  all_gone : (t : Table) (j : ℕ) → left ≤ j → j + length t ≡ live → HoldsFrom rows b j t → forget n t ≡ []
  unfolding HoldsFrom
  all_gone [] j l w h = none_left
  all_gone (d ∷ t) j l w h = dropped_one d t (omega (arith, means-symbol h.0, parted.above j l (omega arith))) ∙ all_gone t (j + 1) (omega arith) (omega arith) h.1

  left_from : (t : Table) (j : ℕ) → j ≤ left → j + length t ≡ live → HoldsFrom rows b j t → (j + length (forget n t) ≡ left) × HoldsFrom rows b j (forget n t)
  unfolding HoldsFrom
  left_from [] j l w h = subst (λ (x : Table). (j + length x ≡ left) × HoldsFrom rows b j x) (sym none_left) (omega (arith, parted.within), tt)
  left_from (d ∷ t) j l w h = go (ltb j left) refl (λ m. left_from t (j + 1) m (omega arith) h.1)
    where
      go : (x : Bool) → ltb j left ≡ x → (j + 1 ≤ left → (j + 1 + length (forget n t) ≡ left) × HoldsFrom rows b (j + 1) (forget n t))
          → (j + length (forget n (d ∷ t)) ≡ left) × HoldsFrom rows b j (forget n (d ∷ t))
      go true e r =
          let m = ltb-true j left e in
          let q = r (omega arith) in
          subst (λ (x : Table). (j + length x ≡ left) × HoldsFrom rows b j x) (sym (kept_one d t (omega (arith, means-symbol h.0, parted.below j m))))
          (omega (arith, q.0), hold_row rows b j d (forget n t) h.0 q.1)
      go false e r =
          let m = ltb-false j left e in
          subst (λ (x : Table). (j + length x ≡ left) × HoldsFrom rows b j x) (sym (all_gone (d ∷ t) j m w h)) (omega (arith, l, m), unfold HoldsFrom in tt)

  pub holds_fewer : {t : Table} → Holds rows b live t → Holds rows b left (forget n t)
  holds_fewer {t} h = let r = left_from t 0 (omega arith) (omega (arith, h.many)) h.each in record { many = omega (arith, r.0); each = r.1 }

-- ---- a step more

module _ {rows : List ℕ} {b : List ℤ} {live i : ℕ} {s : Placed Step} {rows' : List ℕ} {b' : List ℤ} {used' : ℕ} (g : Grows rows b live i s rows' b' used') (n p : ℕ) (ss : List (Placed Step))
    (is : symbol_at rows i ≡ n) where
  abbrev old : Definition
  old = record { symbol = n; place = p; body = ss }

  abbrev new : Definition
  new = record { symbol = n; place = p; body = ss ++ (s ∷ []) }

  means-new : Means rows b i old → Means rows' b' i new
  means-new h =
      let a : symbol_at rows' i ≡ n = g.symbol ∙ ap (λ (x : Definition). x.symbol) h.kept_lean in
      let c : place_at rows' i ≡ p = g.place ∙ ap (λ (x : Definition). x.place) h.kept_lean in
      let d : body_at rows' b' i ≡ lean (ss ++ (s ∷ [])) = g.body ∙ (ap (λ (x : Definition). add x.body s) h.kept_lean ∙ sym (lean-last ss s)) in
      record {
        kept_lean = λ j. record { symbol = a j; place = c j; body = d j };
        needs = omega (arith, g.needs, h.needs, step_count s, body_words_last ss s);
      }

  row_is : (j : ℕ) → j < live → symbol_at rows j ≡ n → j ≡ i
  row_is j l e =
      side (j ≡ i) j i
      (λ r. let o = g.growing.sorted.rising j i r g.growing.here in absurd (omega (arith, o, (g.others j l (λ z. omega arith)).symbol, g.symbol))) (λ q. q)
      (λ r. let o = g.growing.sorted.rising i j r l in absurd (omega (arith, o, (g.others j l (λ z. omega arith)).symbol, g.symbol)))

  others_from : (t : Table) (j : ℕ) → i < j → j + length t ≤ live → HoldsFrom rows b j t → HoldsFrom rows' b' j t
  others_from t j l m h = as_they_were t j (λ k x y. means-row (g.others k (omega arith) (λ z. omega arith))) h

  -- the row of the definition, and those after it
  grown-here : (t : Table) (j : ℕ) → j + suc (length t) ≤ live → HoldsFrom rows b j (old ∷ t) → HoldsFrom rows' b' j (new ∷ t)
  unfolding HoldsFrom
  grown-here t j l h =
      let q = row_is j (omega arith) (means-symbol h.0) in
      (subst (λ (x : ℕ). Means rows' b' x new) (sym q) (means-new (subst (λ (x : ℕ). Means rows b x old) q h.0)), others_from t (j + 1) (omega arith) (omega arith) h.1)

  same_length : (t : Table) → length (enter new t) ≡ length (enter old t)
  unfolding enter
  same_length [] = refl
  same_length (e ∷ t) = go (ltb n e.symbol) (eqb n e.symbol) (same_length t)
    where
      go : (x y : Bool) → length (enter new t) ≡ length (enter old t)
          → length (if x then new ∷ e ∷ t else if y then new ∷ t else e ∷ enter new t) ≡ length (if x then old ∷ e ∷ t else if y then old ∷ t else e ∷ enter old t)
      go true y r = refl
      go false true r = refl
      go false false r = ap suc r

  grown_from : (t : Table) (j : ℕ) → j + length (enter old t) ≤ live → HoldsFrom rows b j (enter old t) → HoldsFrom rows' b' j (enter new t)
  unfolding enter
  grown_from [] j l h = grown-here [] j l h
  grown_from (e ∷ t) j l h = go (ltb n e.symbol) (eqb n e.symbol) refl l h (grown_from t (j + 1))
    where
      later : eqb n e.symbol ≡ false → j + suc (length (enter old t)) ≤ live → HoldsFrom rows b j (e ∷ enter old t)
          → (j + 1 + length (enter old t) ≤ live → HoldsFrom rows b (j + 1) (enter old t) → HoldsFrom rows' b' (j + 1) (enter new t))
          → HoldsFrom rows' b' j (e ∷ enter new t)
      later q l h r =
          let v = held-row rows b j e (enter old t) h in
          let z : j ≡ i → ⊥ = λ w. eqb-false n e.symbol q (sym is ∙ (ap (symbol_at rows) (sym w) ∙ means-symbol v.0)) in
          hold_row rows' b' j e (enter new t) (means-row (g.others j (omega arith) z) e v.0) (r (omega arith) v.1)

      go : (x y : Bool) → eqb n e.symbol ≡ y → j + length (if x then old ∷ e ∷ t else if y then old ∷ t else e ∷ enter old t) ≤ live
          → HoldsFrom rows b j (if x then old ∷ e ∷ t else if y then old ∷ t else e ∷ enter old t)
          → (j + 1 + length (enter old t) ≤ live → HoldsFrom rows b (j + 1) (enter old t) → HoldsFrom rows' b' (j + 1) (enter new t))
          → HoldsFrom rows' b' j (if x then new ∷ e ∷ t else if y then new ∷ t else e ∷ enter new t)
      go true y q l h r = grown-here (e ∷ t) j l h
      go false true q l h r = grown-here t j l h
      go false false q l h r = later q l h r

  pub holds-grown : (t : Table) → Holds rows b live (enter old t) → Holds rows' b' live (enter new t)
  holds-grown t h = record { many = same_length t ∙ h.many; each = grown_from t 0 (omega (arith, h.many)) h.each }
