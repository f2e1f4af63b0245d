-- What the two loops of the search keep: the dangling calls of the whole table are those that are left from here on, since none was passed.
-- Assumes nothing.
use mathlib.Core.Path.{◌≡◌, refl, sym, ap, ap₂, ◌∙◌, subst}
use mathlib.Core.Bool.{Bool, true, false}
use mathlib.Core.List.{List, [], ◌∷◌, ◌++◌, flat_map}
use mathlib.Core.Option.{none}
use Prim.Native.Nat.{ℕ, suc, ◌+◌, ◌-◌, ◌≤◌, ◌<◌}
use native.Mathlib.Omega.{arith}
use lib.IntN.{ℤ, pos, nat_abs}
use lib.ListN.{length, get_or}
use Rattle.std.specs.Prelude.{not, Option, Some, None, is_some}
use Rattle.definition.specs.Words.{Placed, those, first, none?}
use Rattle.definition.specs.Table.{Step, shape, instance, setting, Definition, Table, find}
use Rattle.definition.specs.Warnings.{dangles, dangling_calls, dangling_at}
use Rattle.library.specs.Memory.{call_letter, words_at, start_at, length_at, definition_at, table_from, table_of}
use Rattle.library.specs.Sound.{letter_of_step, values_of, all_words, Proper, Stocked}
use Rattle.library.specs.Rows.{Finds}
use Rattle.library.proofs.Decoded.{steps_are}
use Rattle.library.proofs.Looking.{found, not_found}
use Rattle.engine.specs.declared.Head.{Head}
use Rattle.engine.specs.Heads.{head_in}
use Rattle.engine.proofs.Taking.{Met, meets, two_words, values-call, call_is}
use Rattle.engine.proofs.Underway.{none_left}
use Rattle.dangling.specs.Searched.{Misses, Searched}

-- ---- whether a number is live

pub misses_by : (rows : List ℕ) (live n : ℕ) (r : Option ℕ) → Finds rows live n r → (x : Bool) → is_some r ≡ not x → Misses rows live n x
misses_by rows live n (Some i) h false e b = sym (ap none? (found rows b n live (Some i) i h refl).1)
misses_by rows live n (Some i) h true e b = cc
misses_by rows live n None h false e b = cc
misses_by rows live n None h true e b = sym (ap none? (not_found rows b n live None h refl))

-- ---- the dangling calls of a body, and of definitions

abbrev dangling_in : Table → List (Placed Step) → List (Placed Step)
dangling_in t ss = those (λ s. dangles t s.what) ss

abbrev dangling_of : Table → List Definition → List (Placed Step)
dangling_of t ds = flat_map (λ d. dangling_in t d.body) ds

module _ (t : Table) (s : Placed Step) (ss : List (Placed Step)) where
  goes_by : dangles t s.what ≡ false → dangling_in t (s ∷ ss) ≡ dangling_in t ss
  unfolding those
  goes_by e = rw e

  stays : dangles t s.what ≡ true → dangling_in t (s ∷ ss) ≡ s ∷ dangling_in t ss
  unfolding those
  stays e = rw e

none_in : (t : Table) → dangling_in t [] ≡ []
unfolding those
none_in t = refl

none_of : (t : Table) → dangling_of t [] ≡ []
unfolding flat_map
none_of t = refl

one_of : (t : Table) (d : Definition) (ds : List Definition) → dangling_of t (d ∷ ds) ≡ dangling_in t d.body ++ dangling_of t ds
unfolding flat_map
one_of t d ds = refl

no_call : (t : Table) (s : Step) → (letter_of_step s ≡ call_letter → ⊥) → dangles t s ≡ false
unfolding dangles letter_of_step
no_call t (shape l k) h = refl
no_call t (instance n ts) h = absurd (h refl)
no_call t (setting l) h = refl

a_call : (t : Table) {s : Step} {n : ℕ} {ts : List _} → s ≡ instance n ts → dangles t s ≡ none? (find n t)
unfolding dangles
a_call t e = ap (dangles t) e

module _ (rows : List ℕ) (b : List ℤ) (live : ℕ) where
  abbrev table : Table
  table = table_of rows b live

  abbrev from : ℕ → List (Placed Step)
  from i = dangling_of table (table_from rows b i (live - i))

-- ---- between two definitions

pub record Between (rows : List ℕ) (b : List ℤ) (live i : ℕ) : Type 0 where
  pub left : dangling_calls (table rows b live) ≡ from rows b live i

-- ---- between two commands of row i, whose words end here

pub record Within (rows : List ℕ) (b : List ℤ) (live i end at : ℕ) : Type 0 where
  pub low : at ≤ end
  pub layer : List ℕ
  pub steps : List (Placed Step)
  pub proper : Proper layer steps
  pub words : words_at b at (end - at) ≡ all_words steps
  pub left : dangling_calls (table rows b live) ≡ dangling_in (table rows b live) steps ++ from rows b live (i + 1)

pub begin : (rows : List ℕ) (b : List ℤ) (live : ℕ) → Between rows b live 0
unfolding dangling_calls
begin rows b live = let e : live ≡ live - 0 = omega arith in record { left = ap (λ (n : ℕ). dangling_of (table rows b live) (table_from rows b 0 n)) e }

first_none : dangling_at (first []) ≡ []
unfolding dangling_at first
first_none = refl

module _ {rows : List ℕ} {b : List ℤ} {live i : ℕ} (g : Between rows b live i) where
  next_row : i < live → table_from rows b i (live - i) ≡ definition_at rows b i ∷ table_from rows b (i + 1) (live - (i + 1))
  unfolding table_from
  next_row h = let e : live - i ≡ suc (live - (i + 1)) = omega arith in ap (table_from rows b i) e

  module _ (k : Stocked rows b live) (h : i < live) {s n : ℕ} (p : s ≡ start_at rows i) (q : n ≡ length_at rows i) where
    pub row_fits : s + n ≤ length b
    row_fits = omega (arith, p, q, k.within i h)

    pub enters : Within rows b live i (s + n) s
    enters =
        let row = k.sound i h in
        let e : s + n - s ≡ n = omega arith in
        let t = table rows b live in
        record {
          low = omega arith;
          layer = [];
          steps = row.steps;
          proper = row.proper;
          words = ap (words_at b s) e ∙ (ap₂ {C = List ℤ} (words_at b) p q ∙ row.words);
          left =
              g.left
              ∙ (ap (dangling_of t) (next_row h) ∙ (one_of t _ _
              ∙ ap (λ (ss : List (Placed Step)). dangling_in t ss ++ from rows b live (i + 1)) (steps_are b (start_at rows i) (length_at rows i) row)));
        }

  -- no definition is left
  pub searched_all : live ≤ i → Searched rows b live None
  unfolding table_from
  searched_all h =
      let e : live - i ≡ 0 = omega arith in
      let t = table rows b live in
      let q : dangling_calls t ≡ [] = g.left ∙ (ap (λ (n : ℕ). dangling_of t (table_from rows b i n)) e ∙ none_of t) in
      sym first_none ∙ ap (λ (x : List (Placed Step)). dangling_at (first x)) (sym q)

first_word : (b : List ℤ) (i n : ℕ) (x : ℤ) (xs : List ℤ) → words_at b i (suc n) ≡ x ∷ xs → get_or b i (pos 0) ≡ x
unfolding words_at
first_word b i n x xs e = cc

module _ {rows : List ℕ} {b : List ℤ} {live i end at : ℕ} (g : Within rows b live i end at) where
  abbrev t : Table
  t = table rows b live

  pub two_more : at < end → at + 2 ≤ end
  two_more h = two_words b at end g.steps h g.words

  pub met : {h : Head} → at < end → h ≡ head_in b at → Met b end g.steps g.layer at h
  met {h} l e = meets b at end g.layer g.steps h l g.proper g.words e

  -- no command is left
  pub leaves : end ≤ at → Between rows b live (i + 1)
  leaves h =
      let n : end - at ≡ 0 = omega arith in
      let e : g.steps ≡ [] = none_left g.steps (sym g.words ∙ (ap (words_at b at) n ∙ no_words b at)) in
      record {
        left = g.left ∙ (ap (λ (ss : List (Placed Step)). dangling_in t ss ++ from rows b live (i + 1)) e ∙ ap (λ (ss : List (Placed Step)). ss ++ from rows b live (i + 1)) (none_in t));
      }
    where
      no_words : (b : List ℤ) (i : ℕ) → words_at b i 0 ≡ []
      no_words b i = unfold words_at in refl

  module _ {h : Head} (m : Met b end g.steps g.layer at h) where
    -- a command that does not dangle is passed
    passes : dangles t m.step.what ≡ false → Within rows b live i end h.next
    passes e = record {
      low = m.within;
      layer = _;
      steps = m.rest;
      proper = m.proper;
      words = m.words;
      left =
          g.left ∙ ap (λ (ss : List (Placed Step)). ss ++ from rows b live (i + 1)) (ap (dangling_in t) m.are ∙ goes_by t m.step m.rest e);
    }

    pub passes_other : (h.kind ≡ call_letter → ⊥) → Within rows b live i end h.next
    passes_other e = passes (no_call t m.step.what (λ z. e (m.kind ∙ z)))

    module _ (e : h.kind ≡ call_letter) (fits : end ≤ length b) where
      -- the word after its place is its symbol
      values_are : (vs : List ℤ) × (values_of m.step.what ≡ pos (call_is m fits e).0 ∷ vs)
      values_are = let s = call_is m fits e in (_, ap values_of s.2 ∙ values-call s.0 s.1)

      symbol_is : get_or b (at + 2) (pos 0) ≡ pos (call_is m fits e).0
      symbol_is =
          first_word b (at + 2) _ _ _ (subst (λ (x : List ℤ). words_at b (at + 2) (length x) ≡ x) values_are.1 m.values)

      pub symbol_there : at + 2 < length b
      symbol_there = let q = ap length values_are.1 in omega (arith, q, m.next, m.within, fits)

      dangles_by : {n : ℕ} {x : Bool} → n ≡ nat_abs (get_or b (at + 2) (pos 0)) → Misses rows live n x → dangles t m.step.what ≡ x
      dangles_by {n} {x} q f =
          a_call t (call_is m fits e).2 ∙ (ap (λ (k : ℕ). none? (find k t)) (sym (q ∙ ap nat_abs symbol_is)) ∙ sym (f b))

      pub passes-call : {n : ℕ} {x : Bool} → n ≡ nat_abs (get_or b (at + 2) (pos 0)) → Misses rows live n x → x ≡ false → Within rows b live i end h.next
      passes-call q f z = passes (dangles_by q f ∙ z)

      pub found_call : {n : ℕ} {x : Bool} → n ≡ nat_abs (get_or b (at + 2) (pos 0)) → Misses rows live n x → x ≡ true → Searched rows b live (Some h.place)
      unfolding dangling_at first
      found_call q f z =
          let s : dangling_calls t ≡ m.step ∷ dangling_in t m.rest ++ from rows b live (i + 1) =
          g.left ∙ ap (λ (ss : List (Placed Step)). ss ++ from rows b live (i + 1)) (ap (dangling_in t) m.are ∙ stays t m.step m.rest (dangles_by q f ∙ z)) in
          ap (λ (p : ℕ). Rattle.definition.specs.Warnings.dangling p ∷ []) m.place ∙ ap (λ (x : List (Placed Step)). dangling_at (first x)) (sym s)
