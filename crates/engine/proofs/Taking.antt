-- The next command of a body, from its words: its kind, its place, where the next begins, and what its values say.
-- Assumes nothing.
use mathlib.Core.Path.{◌≡◌, refl, sym, ap, ◌∙◌, subst}
use mathlib.Core.List.{List, [], ◌∷◌, ◌++◌, append-nil}
use Prim.Native.Nat.{ℕ, suc, ◌+◌, ◌-◌, ◌*◌, ◌/◌, ◌%◌, ◌≤◌, ◌<◌}
use native.Mathlib.Omega.{arith}
use lib.IntN.{ℤ, pos, nat_abs}
use lib.ListN.{length, take, drop, get_or}
use Rattle.definition.specs.Words.{Placed}
use Rattle.definition.specs.Commands.{Kind, box, flash, wire, polygon, Shape, Turn}
use Rattle.definition.specs.Table.{Step, shape, instance, setting}
use Rattle.definition.specs.Flat.{letter_of, numbers_of_shape}
use Rattle.turns.specs.Words.{turns_words}
use Rattle.names.specs.Names.{name_of, packed}
use Rattle.moves.specs.Moves.{size_count, direction_count, most_values, ShapedAt}
use Rattle.library.specs.Memory.{call_letter, layer_letter, words_at, layer_after}
use Rattle.library.specs.Sound.{letter_of_step, values_of, all_words, Fair, Proper}
use Rattle.library.proofs.Runs.{split_words, part_words}
use Rattle.library.proofs.Decoded.{letter-small, letter_of_head, count_of_head, words_length}
use Rattle.engine.specs.declared.Head.{Head}
use Rattle.engine.specs.Heads.{head_in}
use Rattle.opening.specs.Calls.{CalledAt}

pub record Met (b : List ℤ) (end : ℕ) (steps : List (Placed Step)) (l : List ℕ) (from : ℕ) (h : Head) : Type 0 where
  pub step : Placed Step
  pub rest : List (Placed Step)
  pub are : steps ≡ step ∷ rest
  pub kind : h.kind ≡ letter_of_step step.what
  pub place : h.place ≡ step.place
  pub next : h.next ≡ from + 2 + length (values_of step.what)
  pub within : h.next ≤ end
  pub fair : Fair l step.what
  pub few : length (values_of step.what) ≤ most_values
  pub proper : Proper (layer_after step.what l) rest
  pub values : words_at b (from + 2) (length (values_of step.what)) ≡ values_of step.what
  pub words : words_at b h.next (end - h.next) ≡ all_words rest

-- a body's words that are some are at least two
pub two_words : (b : List ℤ) (from end : ℕ) (steps : List (Placed Step)) → from < end → words_at b from (end - from) ≡ all_words steps → from + 2 ≤ end
unfolding all_words
two_words b from end [] h e = absurd (omega (arith, ap length e, words_length b from (end - from)))
two_words b from end (s ∷ ss) h e = omega (arith, ap length e, words_length b from (end - from))

pub meets : (b : List ℤ) (from end : ℕ) (l : List ℕ) (steps : List (Placed Step)) (h : Head) → from < end → Proper l steps → words_at b from (end - from) ≡ all_words steps → h ≡ head_in b from
    → Met b end steps l from h
unfolding all_words Proper
meets b from end l [] h lt p e q = absurd (omega (arith, ap length e, words_length b from (end - from)))
meets b from end l (s ∷ ss) h lt p e q =
    let vs = values_of s.what in
    let n = length vs in
    let a = letter_of_step s.what in
    let small = letter-small s.what in
    let two = split_words b (pos (a + 256 * n) ∷ pos s.place ∷ []) (vs ++ all_words ss) from (end - from) e in
    let r = split_words b vs (all_words ss) (from + 2) (end - from - 2) two.2 in
    let head : get_or b from (pos 0) ≡ pos (a + 256 * n) = first_word b from _ _ two.1 in
    let place : get_or b (from + 1) (pos 0) ≡ pos s.place = second_word b from _ _ two.1 in
    let nx : h.next ≡ from + 2 + n = ap (λ (x : Head). x.next) q ∙ (ap (λ (z : ℤ). from + 2 + nat_abs z / 256) head ∙ ap (λ (k : ℕ). from + 2 + k) (count_of_head a n small)) in
    let i : h.next ≤ end = omega (arith, two.0, r.0) in
    let left : end - from - 2 - n ≡ end - h.next = omega arith in
    record {
      step = s;
      rest = ss;
      are = refl;
      kind = ap (λ (x : Head). x.kind) q ∙ (ap (λ (z : ℤ). nat_abs z % 256) head ∙ letter_of_head a n small);
      place = ap (λ (x : Head). x.place) q ∙ ap nat_abs place;
      next = nx;
      within = i;
      fair = p.0;
      few = p.1;
      proper = p.2;
      values = r.1;
      words = ap (λ (x : ℕ). words_at b x (end - h.next)) nx ∙ (ap (λ (x : ℕ). words_at b (from + 2 + n) x) (sym left) ∙ r.2);
    }
  where
    first_word : (b : List ℤ) (i : ℕ) (x y : ℤ) → words_at b i 2 ≡ x ∷ y ∷ [] → get_or b i (pos 0) ≡ x
    first_word b i x y e = let f : get_or b i (pos 0) ∷ get_or b (i + 1) (pos 0) ∷ [] ≡ x ∷ y ∷ [] = unfold words_at in e in cc

    second_word : (b : List ℤ) (i : ℕ) (x y : ℤ) → words_at b i 2 ≡ x ∷ y ∷ [] → get_or b (i + 1) (pos 0) ≡ y
    second_word b i x y e = let f : get_or b i (pos 0) ∷ get_or b (i + 1) (pos 0) ∷ [] ≡ x ∷ y ∷ [] = unfold words_at in e in cc

-- ---- what stands under the names

after_head : (b : List ℤ) (i n : ℕ) → drop 2 (words_at b i (suc (suc n))) ≡ words_at b (i + 2) n
unfolding words_at
after_head b i n = let e : i + 1 + 1 ≡ i + 2 = omega arith in ap (λ (x : ℕ). words_at b x n) e

one_word : (b : List ℤ) (i : ℕ) (x : ℤ) → words_at b i 1 ≡ x ∷ [] → get_or b i (pos 0) ≡ x
unfolding words_at
one_word b i x e = cc

values-setting : (n : List ℕ) → values_of (setting n) ≡ pos (packed n) ∷ []
unfolding values_of
values-setting n = refl

pub values-call : (n : ℕ) (ts : List (Turn ℤ)) → values_of (instance n ts) ≡ pos n ∷ turns_words ts
unfolding values_of
values-call n ts = refl

pub values-shape : (l : List ℕ) (k : Shape ℤ) → values_of (shape l k) ≡ numbers_of_shape k
unfolding values_of
values-shape l k = refl

pub letter-shape : (l : List ℕ) (k : Shape ℤ) → letter_of_step (shape l k) ≡ letter_of k.kind
unfolding letter_of_step
letter-shape l k = refl

fair_setting : (l n : List ℕ) → Fair l (setting n) → name_of (packed n) ≡ n
unfolding Fair
fair_setting l n h = h

pub fair_call : (l : List ℕ) (n : ℕ) (ts : List (Turn ℤ)) → Fair l (instance n ts) → length ts ≤ 32
unfolding Fair
fair_call l n ts h = h

fair_shape : (l m : List ℕ) (k : Shape ℤ) → Fair l (shape m k) → (m ≡ l) × (length k.sizes ≡ size_count k.kind) × (length k.directions ≡ direction_count k.kind)
unfolding Fair
fair_shape l m k h = h

-- ---- by its kind

-- a shape's letter is no other's
pub no_kind : (k : Kind) → (letter_of k ≡ layer_letter → ⊥) × (letter_of k ≡ call_letter → ⊥)
unfolding letter_of
no_kind box = (λ e. omega (arith, e), λ e. omega (arith, e))
no_kind flash = (λ e. omega (arith, e), λ e. omega (arith, e))
no_kind wire = (λ e. omega (arith, e), λ e. omega (arith, e))
no_kind polygon = (λ e. omega (arith, e), λ e. omega (arith, e))

pub step_L : (s : Step) → letter_of_step s ≡ layer_letter → (l : List ℕ) × (s ≡ setting l)
unfolding letter_of_step
step_L (shape l k) e = absurd ((no_kind k.kind).0 e)
step_L (instance n ts) e = absurd (omega (arith, e))
step_L (setting l) e = (l, refl)

pub step_C : (s : Step) → letter_of_step s ≡ call_letter → (n : ℕ) × (ts : List (Turn ℤ)) × (s ≡ instance n ts)
unfolding letter_of_step
step_C (shape l k) e = absurd ((no_kind k.kind).1 e)
step_C (instance n ts) e = (n, ts, refl)
step_C (setting l) e = absurd (omega (arith, e))

pub step-shape : (s : Step) → (letter_of_step s ≡ layer_letter → ⊥) → (letter_of_step s ≡ call_letter → ⊥) → (l : List ℕ) × (k : Shape ℤ) × (s ≡ shape l k)
unfolding letter_of_step
step-shape (shape l k) e f = (l, k, refl)
step-shape (instance n ts) e f = absurd (f refl)
step-shape (setting l) e f = absurd (e refl)

module _ {b : List ℤ} {end : ℕ} {steps : List (Placed Step)} {l : List ℕ} {from : ℕ} {h : Head} (m : Met b end steps l from h) (fits : end ≤ length b) where
  -- the part that holds the command
  abbrev pub words_of : List ℤ
  words_of = take (h.next - from) (drop from b)

  pub whole : drop 2 words_of ≡ values_of m.step.what
  whole =
      let n = length (values_of m.step.what) in
      let e : h.next - from ≡ suc (suc n) = omega (arith, m.next) in
      let le : from + suc (suc n) ≤ length b = omega (arith, m.next, m.within) in
      ap (λ (x : ℕ). drop 2 (take x (drop from b))) e
      ∙ (ap (drop 2) (part_words b (suc (suc n)) from le) ∙ (after_head b from n ∙ m.values))

  pub size : length words_of ≡ h.next - from
  size = ap length (part_words b (h.next - from) from (omega (arith, m.next, m.within))) ∙ words_length b from (h.next - from)

  pub ends : h.next - from ≡ 2 + length (values_of m.step.what)
  ends = omega (arith, m.next)

  -- a layer
  pub layer_is : h.kind ≡ layer_letter → (n : List ℕ) × (m.step.what ≡ setting n) × (name_of (packed n) ≡ n) × (get_or b (from + 2) (pos 0) ≡ pos (packed n)) × (from + 2 < length b)
  layer_is e =
      let s = step_L m.step.what (sym m.kind ∙ e) in
      let v : values_of m.step.what ≡ pos (packed s.0) ∷ [] = ap values_of s.1 ∙ values-setting s.0 in
      let f : name_of (packed s.0) ≡ s.0 = fair_setting l s.0 (subst (Fair l) s.1 m.fair) in
      let w : words_at b (from + 2) 1 ≡ pos (packed s.0) ∷ [] = subst (λ (x : List ℤ). words_at b (from + 2) (length x) ≡ x) v m.values in
      let q : length (values_of m.step.what) ≡ 1 = ap length v in
      (s.0, s.1, f, one_word b (from + 2) _ w, omega (arith, m.next, m.within))

  -- a call
  pub call_is : h.kind ≡ call_letter → (n : ℕ) × (ts : List (Turn ℤ)) × (m.step.what ≡ instance n ts)
  call_is e = step_C m.step.what (sym m.kind ∙ e)

  abbrev pub call_words : (e : h.kind ≡ call_letter) → CalledAt words_of (h.next - from)
  call_words e =
      let s = call_is e in
      let v : values_of m.step.what ≡ pos s.0 ∷ turns_words s.1 = ap values_of s.2 ∙ values-call s.0 s.1 in
      record {
        symbol = pos s.0;
        turns = s.1;
        rest = [];
        are = whole ∙ (v ∙ ap (λ (x : List ℤ). pos s.0 ∷ x) (sym (append-nil (turns_words s.1))));
        ends = let q : length (values_of m.step.what) ≡ suc (length (turns_words s.1)) = ap length v in omega (arith, ends, q);
        few = fair_call l s.0 s.1 (subst (Fair l) s.2 m.fair);
      }

  -- a shape, on the layer that stands
  pub shape_is : (h.kind ≡ layer_letter → ⊥) → (h.kind ≡ call_letter → ⊥) → (k : Shape ℤ) × (m.step.what ≡ shape l k) × (length k.sizes ≡ size_count k.kind) × (length k.directions ≡ direction_count k.kind)
  shape_is e f =
      let s = step-shape m.step.what (λ z. e (m.kind ∙ z)) (λ z. f (m.kind ∙ z)) in
      let g : (s.0 ≡ l) × (length s.1.sizes ≡ size_count s.1.kind) × (length s.1.directions ≡ direction_count s.1.kind) = fair_shape l s.0 s.1 (subst (Fair l) s.2 m.fair) in
      (s.1, s.2 ∙ ap (λ (x : List ℕ). shape x s.1) g.0, g.1, g.2)

  abbrev pub shape_words : (e : h.kind ≡ layer_letter → ⊥) (f : h.kind ≡ call_letter → ⊥) → ShapedAt words_of h.kind (h.next - from)
  shape_words e f =
      let s = shape_is e f in
      let v : values_of m.step.what ≡ numbers_of_shape s.0 = ap values_of s.1 ∙ values-shape l s.0 in
      record {
        shape = s.0;
        values = values_of m.step.what;
        rest = [];
        are = whole ∙ sym (append-nil (values_of m.step.what));
        ends = ends;
        few = m.few;
        shaped = record { letter_is = m.kind ∙ (ap letter_of_step s.1 ∙ letter-shape l s.0); values_are = v; sizes = s.2; directions = s.3 };
        within = omega (arith, size);
      }
