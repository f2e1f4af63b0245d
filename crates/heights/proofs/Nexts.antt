-- The next call in a body's words: commands that are none are passed, and what is left of the body has the same calls.
-- Assumes nothing.
use mathlib.Core.Path.{◌≡◌, refl, sym, ap, ◌∙◌, subst}
use mathlib.Core.List.{List, [], ◌∷◌}
use Prim.Native.Nat.{ℕ, suc, ◌+◌, ◌-◌, ◌≤◌, ◌<◌}
use native.Mathlib.Omega.{arith}
use lib.IntN.{ℤ, pos, nat_abs}
use lib.ListN.{length, get_or}
use Rattle.std.specs.Prelude.{Some, None}
use Rattle.definition.specs.Table.{Step, shape, instance, setting}
use Rattle.library.specs.Memory.{call_letter, most_words, words_at, start_at, length_at, body_at}
use Rattle.library.specs.Sound.{letter_of_step, values_of, Stocked}
use Rattle.library.proofs.Decoded.{steps_are}
use Rattle.engine.specs.declared.Head.{Head}
use Rattle.engine.specs.Heads.{head_in}
use Rattle.engine.proofs.Taking.{Met, meets, two_words, values-call, call_is}
use Rattle.engine.proofs.Underway.{none_left}
use Rattle.heights.specs.Calls.{call_in, calls_of, Remains, CallNext}

no_call : (s : Step) (cs : List ℕ) → (letter_of_step s ≡ call_letter → ⊥) → call_in s cs ≡ cs
unfolding call_in letter_of_step
no_call (shape l k) cs h = refl
no_call (instance n ts) cs h = absurd (h refl)
no_call (setting l) cs h = refl

a_call : {s : Step} {n : ℕ} {ts : List _} (cs : List ℕ) → s ≡ instance n ts → call_in s cs ≡ n ∷ cs
unfolding call_in
a_call cs e = ap (λ (x : Step). call_in x cs) e

first_word : (b : List ℤ) (i n : ℕ) (x : ℤ) (xs : List ℤ) → words_at b i (suc n) ≡ x ∷ xs → get_or b i (pos 0) ≡ x
unfolding words_at
first_word b i n x xs e = cc

no_words : (b : List ℤ) (i : ℕ) → words_at b i 0 ≡ []
unfolding words_at
no_words b i = refl

-- from the start of a row's body its calls are left
pub all_left : (rows : List ℕ) (b : List ℤ) (live i : ℕ) → Stocked rows b live → length b ≤ most_words → i < live → {s n : ℕ} → s ≡ start_at rows i → n ≡ length_at rows i
    → Remains b s (s + n) (calls_of (body_at rows b i))
all_left rows b live i k short h {s} {n} p q =
    let row = k.sound i h in
    let w = k.within i h in
    let e : s + n - s ≡ length_at rows i = omega arith in
    record {
      low = omega arith;
      inside = omega arith;
      short = short;
      layer = [];
      steps = row.steps;
      proper = row.proper;
      words = ap (words_at b s) e ∙ (ap (λ (x : ℕ). words_at b x (length_at rows i)) p ∙ row.words);
      calls = sym (ap calls_of (steps_are b (start_at rows i) (length_at rows i) row));
    }

module _ {b : List ℤ} {from end : ℕ} {cs : List ℕ} (g : Remains b from end cs) where
  pub two_more : from < end → from + 2 ≤ end
  two_more h = two_words b from end g.steps h g.words

  pub met : {h : Head} → from < end → h ≡ head_in b from → Met b end g.steps g.layer from h
  met {h} l e = meets b from end g.layer g.steps h l g.proper g.words e

  pub none_more : end ≤ from → CallNext b from end cs None
  unfolding CallNext calls_of
  none_more h =
      let n : end - from ≡ 0 = omega arith in
      sym g.calls ∙ ap calls_of (none_left g.steps (sym g.words ∙ (ap (words_at b from) n ∙ no_words b from)))

  module _ {h : Head} (m : Met b end g.steps g.layer from h) where
    onward : {rest : List ℕ} → calls_of m.rest ≡ rest → Remains b h.next end rest
    onward e = record {
      low = m.within;
      inside = g.inside;
      short = g.short;
      layer = _;
      steps = m.rest;
      proper = m.proper;
      words = m.words;
      calls = e;
    }

    calls_are : cs ≡ call_in m.step.what (calls_of m.rest)
    unfolding calls_of
    calls_are = sym g.calls ∙ ap calls_of m.are

    pub passed : (h.kind ≡ call_letter → ⊥) → Remains b h.next end cs
    passed e = onward (sym (no_call m.step.what (calls_of m.rest) (λ z. e (m.kind ∙ z))) ∙ sym calls_are)

    module _ (e : h.kind ≡ call_letter) where
      -- the word after its place is its symbol
      values_are : (vs : List ℤ) × (values_of m.step.what ≡ pos (call_is m g.inside e).0 ∷ vs)
      values_are = let s = call_is m g.inside e in (_, ap values_of s.2 ∙ values-call s.0 s.1)

      symbol_is : get_or b (from + 2) (pos 0) ≡ pos (call_is m g.inside e).0
      symbol_is =
          first_word b (from + 2) _ _ _ (subst (λ (x : List ℤ). words_at b (from + 2) (length x) ≡ x) values_are.1 m.values)

      pub symbol_there : from + 2 < length b
      symbol_there = let q = ap length values_are.1 in omega (arith, q, m.next, m.within, g.inside)

      pub called : {n : ℕ} → n ≡ nat_abs (get_or b (from + 2) (pos 0)) → CallNext b from end cs (Some (record { symbol = n; at = h.next }))
      unfolding CallNext
      called {n} q =
          let s = call_is m g.inside e in
          (calls_of m.rest, calls_are ∙ (a_call (calls_of m.rest) s.2 ∙ ap (λ (k : ℕ). k ∷ calls_of m.rest) (sym (q ∙ ap nat_abs symbol_is))), onward refl, omega (arith, m.next))

-- ---- the loop: what was left at the start is left here

pub record Ahead (b : List ℤ) (from end here : ℕ) : Type 0 where
  pub on : from ≤ here
  pub left : (cs : List ℕ) → Remains b from end cs → Remains b here end cs

pub at_start : {b : List ℤ} {from end : ℕ} → Ahead b from end from
at_start = record { on = omega arith; left = λ cs g. g }

module _ {b : List ℤ} {from end here : ℕ} (a : Ahead b from end here) where
  pub passes : {h : Head} → here < end → h ≡ head_in b here → (h.kind ≡ call_letter → ⊥) → ((cs : List ℕ) × Remains b from end cs) → Ahead b from end h.next
  passes l e k some = record {
    on = let m = met (a.left some.0 some.1) l e in omega (arith, m.next, a.on);
    left = λ cs g. passed (a.left cs g) (met (a.left cs g) l e) k;
  }

  from_start : (n next : ℕ) (cs : List ℕ) → CallNext b here end cs (Some (record { symbol = n; at = next })) → CallNext b from end cs (Some (record { symbol = n; at = next }))
  unfolding CallNext
  from_start n next cs (rest, p, q, l) = (rest, p, q, omega (arith, a.on))

  pub found_call : {h : Head} {n : ℕ} → here < end → h ≡ head_in b here → h.kind ≡ call_letter → n ≡ nat_abs (get_or b (here + 2) (pos 0))
      → (cs : List ℕ) → Remains b from end cs → CallNext b from end cs (Some (record { symbol = n; at = h.next }))
  found_call {h} {n} l e k q cs g = from_start n h.next cs (called (a.left cs g) (met (a.left cs g) l e) k q)

  pub no_more : end ≤ here → (cs : List ℕ) → Remains b from end cs → CallNext b from end cs None
  unfolding CallNext
  no_more l cs g = none_more (a.left cs g) l
