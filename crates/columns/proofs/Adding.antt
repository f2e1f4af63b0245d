-- What the loop over a body's words keeps: its own numbers are those so far and those of the commands left, and the bit is that of the layer that stands.
-- Assumes nothing.
use Rattle.std.specs.Prelude.{if◌then◌else◌}
use mathlib.Core.Path.{◌≡◌, refl, sym, ap, ap₂, ◌∙◌}
use mathlib.Core.Bool.{Bool, true, false}
use mathlib.Core.List.{List, [], ◌∷◌, ◌++◌, flat_map, append-nil, append_assoc}
use Prim.Native.Nat.{ℕ, ◌+◌, ◌-◌, ◌≤◌, ◌<◌}
use native.Mathlib.Omega.{arith}
use lib.Bits.{bit_or}
use lib.IntN.{ℤ, pos, nat_abs}
use lib.ListN.{length, get_or}
use Rattle.definition.specs.Words.{Placed, those}
use Rattle.definition.specs.Table.{Step, shape, instance, setting}
use Rattle.definition.specs.Summary.{Names, shape?, call?, layers_of, own_shapes, own_calls, own_layers}
use Rattle.definition.specs.Marks.{set_of_layers}
use Rattle.laws.proofs.Story.Marks.{set_none, set-joined}
use Rattle.library.specs.Memory.{call_letter, layer_letter, words_at, steps_in, layer_after}
use Rattle.library.specs.Sound.{all_words, Proper, Sound}
use Rattle.library.proofs.Decoded.{steps_are}
use Rattle.engine.specs.declared.Head.{Head}
use Rattle.engine.specs.Heads.{head_in}
use Rattle.engine.proofs.Taking.{Met, meets, two_words, layer_is, call_is, shape_is}
use Rattle.engine.proofs.Underway.{none_left}
use Rattle.marks.specs.Noted.{Noted, BitOf}
use Rattle.marks.proofs.Marking.{bit_is, no_layer_bit}
use Rattle.columns.specs.Columns.{OwnOf}
use Rattle.columns.specs.declared.Own.{Own}

-- ---- one step more

module _ (s : Placed Step) (ss : List (Placed Step)) where
  shapes-next : {b : Bool} → shape? s.what ≡ b → own_shapes (s ∷ ss) ≡ (if b then 1 else 0) + own_shapes ss
  unfolding own_shapes those
  shapes-next {b} e = go (shape? s.what) ∙ ap (λ (c : Bool). (if c then 1 else 0) + own_shapes ss) e
    where
      go : (c : Bool) → length (if c then s ∷ those (λ x. shape? x.what) ss else those (λ x. shape? x.what) ss) ≡ (if c then 1 else 0) + length (those (λ x. shape? x.what) ss)
      go true = omega arith
      go false = omega arith

  calls-next : {b : Bool} → call? s.what ≡ b → own_calls (s ∷ ss) ≡ (if b then 1 else 0) + own_calls ss
  unfolding own_calls those
  calls-next {b} e = go (call? s.what) ∙ ap (λ (c : Bool). (if c then 1 else 0) + own_calls ss) e
    where
      go : (c : Bool) → length (if c then s ∷ those (λ x. call? x.what) ss else those (λ x. call? x.what) ss) ≡ (if c then 1 else 0) + length (those (λ x. call? x.what) ss)
      go true = omega arith
      go false = omega arith

  layers-next : {ls : Names} → layers_of s.what ≡ ls → own_layers (s ∷ ss) ≡ ls ++ own_layers ss
  unfolding own_layers flat_map
  layers-next e = ap (λ (x : Names). x ++ own_layers ss) e

no_steps : (own_shapes [] ≡ 0) × (own_calls [] ≡ 0) × (own_layers [] ≡ [])
unfolding own_shapes own_calls own_layers those flat_map
no_steps = (refl, refl, refl)

-- what a step is
pub record Kind (x : Step) (shapes calls : Bool) (layers : Names) : Type 0 where
  pub is_shape : shape? x ≡ shapes
  pub is_call : call? x ≡ calls
  pub on_layers : layers_of x ≡ layers

a_setting : {x : Step} {l : List ℕ} → x ≡ setting l → Kind x false false []
unfolding shape? call? layers_of
a_setting e = record { is_shape = ap shape? e; is_call = ap call? e; on_layers = ap layers_of e }

a_call : {x : Step} {n : ℕ} {ts : _} → x ≡ instance n ts → Kind x false true []
unfolding shape? call? layers_of
a_call e = record { is_shape = ap shape? e; is_call = ap call? e; on_layers = ap layers_of e }

a_shape : {x : Step} {l : List ℕ} {k : _} → x ≡ shape l k → Kind x true false (l ∷ [])
unfolding shape? call? layers_of
a_shape e = record { is_shape = ap shape? e; is_call = ap call? e; on_layers = ap layers_of e }

-- ---- between two commands

pub record Adding (b : List ℤ) (from many : ℕ) (names : List ℕ) (count : ℕ) (at shapes calls layers layer : ℕ) : Type 0 where
  pub low : at ≤ from + many
  pub few : (shapes ≤ at) × (calls ≤ at)
  pub stands : List ℕ
  pub steps : List (Placed Step)
  pub proper : Proper stands steps
  pub words : words_at b at (from + many - at) ≡ all_words steps
  pub shapes-left : shapes + own_shapes steps ≡ own_shapes (steps_in b from many)
  pub calls-left : calls + own_calls steps ≡ own_calls (steps_in b from many)
  pub done : Names
  pub layers-left : done ++ own_layers steps ≡ own_layers (steps_in b from many)
  pub marked : (ns : Names) → Noted names count ns → (layers ≡ set_of_layers ns done) × (layer ≡ set_of_layers ns (stands ∷ []))

pub add_begin : (b : List ℤ) (from many : ℕ) (names : List ℕ) (count : ℕ) → Sound b from many → Adding b from many names count from 0 0 0 0
add_begin b from many names count s =
    let e : from + many - from ≡ many = omega arith in
    let same : steps_in b from many ≡ s.steps = steps_are b from many s in
    record {
      low = omega arith;
      few = (omega arith, omega arith);
      stands = [];
      steps = s.steps;
      proper = s.proper;
      words = ap (words_at b from) e ∙ s.words;
      shapes-left = let z = ap own_shapes same in omega (arith, z);
      calls-left = let z = ap own_calls same in omega (arith, z);
      done = [];
      layers-left = sym (ap own_layers same);
      marked = λ ns n. (sym (set_none ns), sym (no_layer_bit n));
    }

module _ {b : List ℤ} {from many : ℕ} {names : List ℕ} {count at shapes calls layers layer : ℕ} (g : Adding b from many names count at shapes calls layers layer) where
  pub two_more : at < from + many → at + 2 ≤ from + many
  two_more h = two_words b at (from + many) g.steps h g.words

  pub met : {h : Head} → at < from + many → h ≡ head_in b at → Met b (from + many) g.steps g.stands at h
  met {h} l e = meets b at (from + many) g.stands g.steps h l g.proper g.words e

  -- no command is left
  pub added : from + many ≤ at → {own : Own} → own ≡ record { shapes = shapes; calls = calls; layers = layers } → OwnOf b from many names count own
  added h {own} e =
      let n : from + many - at ≡ 0 = omega arith in
      let none : g.steps ≡ [] = none_left g.steps (sym g.words ∙ (ap (words_at b at) n ∙ no_words b at)) in
      let s = ap own_shapes none ∙ no_steps.0 in
      let c = ap own_calls none ∙ no_steps.1 in
      record {
        shapes = ap (λ (x : Own). x.shapes) e ∙ (let z = g.shapes-left in omega (arith, z, s));
        calls = ap (λ (x : Own). x.calls) e ∙ (let z = g.calls-left in omega (arith, z, c));
        layers = λ ns k.
            ap (λ (x : Own). x.layers) e
            ∙ ((g.marked ns k).0
            ∙ ap (set_of_layers ns) (sym (append-nil g.done) ∙ (ap (λ (x : Names). g.done ++ x) (sym (ap own_layers none ∙ no_steps.2)) ∙ g.layers-left)));
      }
    where
      no_words : (b : List ℤ) (i : ℕ) → words_at b i 0 ≡ []
      no_words b i = unfold words_at in refl

  module _ {h : Head} (m : Met b (from + many) g.steps g.stands at h) where
    -- one command goes by
    goes_by : {i j : Bool} {ls : Names} {shapes' calls' layers' layer' : ℕ} → Kind m.step.what i j ls → shapes' ≡ shapes + (if i then 1 else 0) → calls' ≡ calls + (if j then 1 else 0)
        → (shapes' ≤ h.next) × (calls' ≤ h.next)
        → ((ns : Names) → Noted names count ns → (layers' ≡ set_of_layers ns (g.done ++ ls)) × (layer' ≡ set_of_layers ns (layer_after m.step.what g.stands ∷ [])))
        → Adding b from many names count h.next shapes' calls' layers' layer'
    goes_by {i} {j} {ls} k es ec small f =
        let x : own_shapes g.steps ≡ (if i then 1 else 0) + own_shapes m.rest = ap own_shapes m.are ∙ shapes-next m.step m.rest k.is_shape in
        let y : own_calls g.steps ≡ (if j then 1 else 0) + own_calls m.rest = ap own_calls m.are ∙ calls-next m.step m.rest k.is_call in
        let z : own_layers g.steps ≡ ls ++ own_layers m.rest = ap own_layers m.are ∙ layers-next m.step m.rest k.on_layers in
        let p = g.shapes-left in
        let q = g.calls-left in
        record {
          low = m.within;
          few = small;
          stands = layer_after m.step.what g.stands;
          steps = m.rest;
          proper = m.proper;
          words = m.words;
          shapes-left = omega (arith, x, p, es);
          calls-left = omega (arith, y, q, ec);
          done = g.done ++ ls;
          layers-left = append_assoc g.done ls (own_layers m.rest) ∙ (ap (λ (x : Names). g.done ++ x) (sym z) ∙ g.layers-left);
          marked = f;
        }

    module _ (fits : from + many ≤ length b) where
      -- an L command sets the layer
      pub name_there : h.kind ≡ layer_letter → at + 2 < length b
      name_there e = (layer_is m fits e).4

      pub add-layer : h.kind ≡ layer_letter → {v bit : ℕ} → v ≡ nat_abs (get_or b (at + 2) (pos 0)) → BitOf names count v bit → Adding b from many names count h.next shapes calls layers bit
      add-layer e q x =
          let l = layer_is m fits e in
          goes_by (a_setting l.1) (omega arith) (omega arith) (omega (arith, g.few.0, m.next), omega (arith, g.few.1, m.next))
          (λ ns n. ((g.marked ns n).0 ∙ ap (set_of_layers ns) (sym (append-nil g.done)), bit_is n l.2 (q ∙ ap nat_abs l.3) x ∙ ap (λ (y : Step). set_of_layers ns (layer_after y g.stands ∷ [])) (sym l.1)))

      pub add-call : h.kind ≡ call_letter → Adding b from many names count h.next shapes (calls + 1) layers layer
      add-call e =
          let c = call_is m fits e in
          goes_by (a_call c.2) (omega arith) refl (omega (arith, g.few.0, m.next), omega (arith, g.few.1, m.next))
          (λ ns n. ((g.marked ns n).0 ∙ ap (set_of_layers ns) (sym (append-nil g.done)), (g.marked ns n).1 ∙ ap (λ (y : Step). set_of_layers ns (layer_after y g.stands ∷ [])) (sym c.2)))

      -- a shape is on the layer that stands
      pub add-shape : (h.kind ≡ layer_letter → ⊥) → (h.kind ≡ call_letter → ⊥) → Adding b from many names count h.next (shapes + 1) calls (bit_or layers layer) layer
      add-shape no_l no_c =
          let s = shape_is m fits no_l no_c in
          goes_by (a_shape s.1) refl (omega arith) (omega (arith, g.few.0, m.next), omega (arith, g.few.1, m.next))
          (λ ns n. (
            ap₂ {C = ℕ} bit_or (g.marked ns n).0 (g.marked ns n).1 ∙ sym (set-joined ns g.done (g.stands ∷ [])),
            (g.marked ns n).1 ∙ ap (λ (y : Step). set_of_layers ns (layer_after y g.stands ∷ [])) (sym s.1),
          ))
