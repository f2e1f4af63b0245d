-- What the loop of `draw_body` keeps: for every list that fits, what is left from here is what was to be drawn from where the stretch began. The steps that are left
-- are those whose words stand from here to the end.
-- Assumes nothing.
use mathlib.Core.Path.{◌≡◌, refl, sym, ap, ap₂, ◌∙◌, subst}
use mathlib.Core.List.{List, [], ◌∷◌, ◌++◌, map-append}
use Prim.Native.Nat.{ℕ, ◌+◌, ◌-◌, ◌*◌, ◌^◌, ◌≤◌, ◌<◌}
use native.Mathlib.Omega.{arith}
use lib.IntN.{ℤ, pos, nat_abs}
use lib.ListN.{length, take, drop, get_or}
use Rattle.definition.specs.Words.{Placed, at}
use Rattle.definition.specs.Commands.{Shape, Turn}
use Rattle.definition.specs.Table.{Step, shape, instance, setting, Table}
use Rattle.definition.specs.Drawing.{Chain, Event, drawn_shape, drawn_step, drawn_body, drawn_call}
use Rattle.definition.specs.Records.{stacked_to}
use Rattle.definition.specs.declared.Refusal.{Refusal}
use Rattle.laws.proofs.Story.Axes.{by_axes}
use Rattle.turns.specs.declared.Net.{Net}
use Rattle.turns.specs.Nets.{Carries, Near}
use Rattle.turns.proofs.Nets.{near-more}
use Rattle.names.specs.Names.{name_of, packed}
use Rattle.moves.specs.Moves.{ShapedAt}
use Rattle.shapes.specs.declared.Ink.{Ink}
use Rattle.shapes.specs.Painting.{inked, Reached, Painted, ShapeDraws}
use Rattle.shapes.proofs.Painting.{PaintedSoFar, begun, goes_on, skips, stops, over, so_far, room-kept}
use Rattle.library.specs.Memory.{call_letter, layer_letter, words_at, layer_after, steps_of, table_of}
use Rattle.library.specs.Sound.{all_words, Proper}
use Rattle.library.proofs.Decoded.{decoded, words_length}
use Rattle.engine.specs.declared.Head.{Head}
use Rattle.engine.specs.Heads.{head_in}
use Rattle.engine.specs.Draws.{open_at}
use Rattle.engine.proofs.Taking.{Met, meets, two_words, layer_is, call_is, call_words, shape_is, shape_words}
use Rattle.engine.proofs.Underway.{none_left}
use Rattle.opening.specs.declared.Call.{Call}
use Rattle.opening.specs.Calls.{CalledAt, ReadsCall}
use Rattle.opening.proofs.Witnesses.{some_list}
use Rattle.stretch.specs.declared.Here.{Here}
use Rattle.stretch.specs.Opening.{OpensWith}
use Rattle.stretch.specs.Bodies.{rest_of, Rests, body_story, call_story, BodyComes, Grows}
use Rattle.stretch.proofs.Calls.{call-stopped, call-led, call-counts, call-going}
use Rattle.stretch.proofs.Counting.{going-grows}
use Rattle.std.specs.Prelude.{Err, Ok, Result}
use Rattle.opening.specs.declared.Entered.{Entered}
use Rattle.stretch.specs.declared.Body.{Body}
use Rattle.stretch.specs.declared.Body.TheVariants.{Ends, Calls}

abbrev pub here_at : (at end layer : ℕ) → Net → Here
here_at from end layer net = record { at = from; end = end; layer = layer; net = net }

-- what the memory holds is what it means
pub rest_is : {b : List ℤ} {here : Here} (r : Rests b here) → rest_of b here ≡ r.steps
rest_is {b} {here} r =
    let n = here.end - here.at in
    ap (steps_of n (name_of here.layer)) r.words ∙ decoded n (name_of here.layer) r.steps r.proper (omega (arith, ap length r.words, words_length b here.at n))

-- ---- what steps draw, one after another

module _ (records : ℕ) (t : Table) (left : ℕ) (chain : Chain) (outer : List (Turn ℤ)) where
  abbrev story : List (Placed Step) → List Event
  story ss = body_story records t left chain outer ss

  nothing_left : story [] ≡ []
  unfolding drawn_body
  nothing_left = refl

  layer-left : (p : ℕ) (l : List ℕ) (ss : List (Placed Step)) → story (at p (setting l) ∷ ss) ≡ story ss
  unfolding drawn_body drawn_step
  layer-left p l ss = refl

  shape-held : (p : ℕ) (l : List ℕ) (k : Shape ℤ) → stacked_to records (drawn_shape chain outer p l k) ≡ drawn_shape chain outer p l k
  unfolding stacked_to
  shape-held p l k = by_axes chain outer p l k (λ (e : Event). stacked_to records e ≡ e) refl refl (λ e. refl)

  pub shape-left : (p : ℕ) (l : List ℕ) (k : Shape ℤ) (ss : List (Placed Step)) → story (at p (shape l k) ∷ ss) ≡ (drawn_shape chain outer p l k ∷ []) ++ story ss
  unfolding drawn_body drawn_step
  shape-left p l k ss = ap (λ (e : Event). e ∷ story ss) (shape-held p l k)

  pub call-left : (p n : ℕ) (ts : List (Turn ℤ)) (ss : List (Placed Step)) → story (at p (instance n ts) ∷ ss) ≡ call_story records t left chain outer p n ts ++ story ss
  unfolding drawn_body drawn_step
  call-left p n ts ss = map-append (stacked_to records) (drawn_call left t chain outer p n ts) (drawn_body (drawn_call left t chain outer) chain outer ss)

-- a refusal counts nothing
stop-grows : (ink : Ink) (why : Refusal) → Grows ink (Err why)
unfolding Grows
stop-grows ink why = tt

pub stopped-grows : (ink : Ink) {r : Result Body Refusal} {why : Refusal} → r ≡ Err why → Grows ink r
stopped-grows ink {why = why} e = subst (Grows ink) (sym e) (stop-grows ink why)

-- ---- the loop

pub record Running (records : ℕ) (rows : List ℕ) (b : List ℤ) (live : ℕ) (drawing : List ℕ) (left : ℕ) (net : Net) (end from layer₀ : ℕ) (ink₀ : Ink) (room₀ room : List ℕ)
    (here layer : ℕ) (ink : Ink) : Type 0 where
  pub steps : List (Placed Step)
  pub proper : Proper (name_of layer) steps
  pub words : words_at b here (end - here) ≡ all_words steps
  pub along : (outer : List (Turn ℤ)) → Carries outer net
      → PaintedSoFar (body_story records (table_of rows b live) left (open_at drawing left) outer (rest_of b (here_at from end layer₀ net))) ink₀ room₀
      (body_story records (table_of rows b live) left (open_at drawing left) outer steps) ink room
  pub low : here ≤ end

pub started : {records : ℕ} {rows : List ℕ} {b : List ℤ} {live : ℕ} {drawing : List ℕ} {left : ℕ} {net : Net} {end from layer₀ : ℕ} (ink : Ink) (room : List ℕ)
    → Rests b (here_at from end layer₀ net) → Reached ink → Running records rows b live drawing left net end from layer₀ ink room room from layer₀ ink
started {records} {rows} {b} {live} {drawing} {left} {net} {end} {from} {layer₀} ink room r k = record {
  steps = r.steps;
  proper = r.proper;
  words = r.words;
  along = λ outer h. skips (begun _ ink room k) _ (ap (body_story records (table_of rows b live) left (open_at drawing left) outer) (rest_is r));
  low = r.low;
}

module _ {records : ℕ} {rows : List ℕ} {b : List ℤ} {live : ℕ} {drawing : List ℕ} {left : ℕ} {net : Net} {end from layer₀ : ℕ} {ink₀ : Ink} {room₀ room : List ℕ} {here l : ℕ} {ink : Ink}
    (w : Running records rows b live drawing left net end from layer₀ ink₀ room₀ room here l ink) where
  abbrev chain : Chain
  chain = open_at drawing left

  abbrev table : Table
  table = table_of rows b live

  abbrev held : List (Turn ℤ) → List (Placed Step) → List Event
  held outer ss = body_story records table left chain outer ss

  abbrev all : List (Turn ℤ) → List Event
  all outer = held outer (rest_of b (here_at from end layer₀ net))

  pub reached-here : Reached ink
  reached-here = so_far (w.along (some_list net).0 (some_list net).1)

  pub room-here : length room ≡ length room₀
  room-here = room-kept (w.along (some_list net).0 (some_list net).1)

  grown : ink₀.counts.calls ≤ ink.counts.calls
  grown = going-grows (w.along (some_list net).0 (some_list net).1)

  pub all_grows : Grows ink₀ (Ok (Ends ink))
  unfolding Grows
  all_grows = grown

  -- nothing is left
  pub was_all : end ≤ here → BodyComes records rows b live chain left (here_at from end layer₀ net) ink₀ room₀ (Ok (Ends ink)) room
  unfolding BodyComes
  was_all z = λ outer h.
      let n : end - here ≡ 0 = omega arith in
      let e : w.steps ≡ [] = none_left w.steps (sym w.words ∙ (ap (words_at b here) n ∙ no_words b here)) in
      over (w.along outer h) (ap (held outer) e ∙ nothing_left records table left chain outer)
    where
      no_words : (b : List ℤ) (i : ℕ) → words_at b i 0 ≡ []
      no_words b i = unfold words_at in refl

  pub two_more : here < end → here + 2 ≤ end
  two_more z = two_words b here end w.steps z w.words

  pub met : {h : Head} → here < end → h ≡ head_in b here → Met b end w.steps (name_of l) here h
  met {h} z e = meets b here end (name_of l) w.steps h z w.proper w.words e

  module _ {h : Head} (m : Met b end w.steps (name_of l) here h) (fits : end ≤ length b) where
    abbrev Next : List ℕ → ℕ → Ink → Type 0
    Next room' l' ink' = Running records rows b live drawing left net end from layer₀ ink₀ room₀ room' h.next l' ink'

    left_is : (outer : List (Turn ℤ)) {s : Step} → m.step.what ≡ s → held outer w.steps ≡ held outer (at h.place s ∷ m.rest)
    left_is outer {s} e =
        ap (held outer) m.are
        ∙ (ap (λ (x : Step). held outer (at m.step.place x ∷ m.rest)) e ∙ ap (λ (p : ℕ). held outer (at p s ∷ m.rest)) (sym m.place))

    onward : {room' : List ℕ} {l' : ℕ} {ink' : Ink} → name_of l' ≡ layer_after m.step.what (name_of l)
        → ((outer : List (Turn ℤ)) → Carries outer net → PaintedSoFar (all outer) ink₀ room₀ (held outer m.rest) ink' room') → Next room' l' ink'
    onward q g = record {
      steps = m.rest;
      proper = subst (λ (x : List ℕ). Proper x m.rest) (sym q) m.proper;
      words = m.words;
      along = g;
      low = m.within;
    }

    -- a layer
    pub layer_asked : h.kind ≡ layer_letter → (here + 2 < length b) × ((v : ℕ) × (get_or b (here + 2) (pos 0) ≡ pos v))
    layer_asked e = let s = layer_is m fits e in (s.4, (packed s.0, s.3))

    pub was_layer : h.kind ≡ layer_letter → (v : ℕ) → v ≡ nat_abs (get_or b (here + 2) (pos 0)) → Next room v ink
    was_layer e v q =
        let s = layer_is m fits e in
        onward (ap name_of (q ∙ ap nat_abs s.3) ∙ (s.2 ∙ sym (ap (λ (x : Step). layer_after x (name_of l)) s.1)))
        (λ outer k. skips (w.along outer k) _ (left_is outer s.1 ∙ layer-left records table left chain outer h.place s.0 m.rest))

    -- a shape
    module _ (e : h.kind ≡ layer_letter → ⊥) (f : h.kind ≡ call_letter → ⊥) where
      pub shape_asked : ShapedAt (take (h.next - here) (drop here b)) h.kind (h.next - here)
      shape_asked = shape_words m fits e f

      module _ {room' : List ℕ} {d : Result Ink Refusal}
          (drawn : ShapeDraws (take (h.next - here) (drop here b)) h.kind (h.next - here) net l h.place ink room d room') where
        abbrev figure : Shape ℤ
        figure = (shape_is m fits e f).0

        painted : (outer : List (Turn ℤ)) → Carries outer net → {y : Result Ink Refusal} → d ≡ y → Painted ink (drawn_shape chain outer h.place (name_of l) figure ∷ []) room chain y room'
        painted outer k q = subst (λ (y : Result Ink Refusal). Painted ink (drawn_shape chain outer h.place (name_of l) figure ∷ []) room chain y room') q (drawn (shape_words m fits e f) chain outer k)

        shape-next : (outer : List (Turn ℤ)) → held outer w.steps ≡ (drawn_shape chain outer h.place (name_of l) figure ∷ []) ++ held outer m.rest
        shape-next outer = left_is outer (shape_is m fits e f).1 ∙ shape-left records table left chain outer h.place (name_of l) figure m.rest

        pub was_shape : {ink' : Ink} → d ≡ Ok ink' → Next room' l ink'
        was_shape q =
            onward (sym (ap (λ (x : Step). layer_after x (name_of l)) (shape_is m fits e f).1))
            (λ outer k. goes_on (w.along outer k) (drawn_shape chain outer h.place (name_of l) figure ∷ []) _ (shape-next outer) (painted outer k q))

        shape_stops : {why : Refusal} → d ≡ Err why → BodyComes records rows b live chain left (here_at from end layer₀ net) ink₀ room₀ (Err why) room'
        unfolding BodyComes
        shape_stops {why} q = λ outer k. stops (w.along outer k) (drawn_shape chain outer h.place (name_of l) figure ∷ []) _ (shape-next outer) (painted outer k q)

        pub shape-refused : {r : Result Body Refusal} {why : Refusal} → d ≡ Err why → r ≡ Err why → BodyComes records rows b live chain left (here_at from end layer₀ net) ink₀ room₀ r room'
        shape-refused q is = subst (λ (y : Result Body Refusal). BodyComes records rows b live chain left (here_at from end layer₀ net) ink₀ room₀ y room') (sym is) (shape_stops q)

    -- a call
    module _ (e : h.kind ≡ call_letter) where
      pub call_asked : CalledAt (take (h.next - here) (drop here b)) (h.next - here)
      call_asked = call_words m fits e

      module _ {read : Call} (reads : (k : CalledAt (take (h.next - here) (drop here b)) (h.next - here)) → ReadsCall k.symbol k.turns net h.place read) where
        abbrev own : List (Turn ℤ)
        own = (call_is m fits e).1

        abbrev number : ℕ
        number = (call_is m fits e).0

        it_reads : ReadsCall (pos number) own net h.place read
        it_reads = reads (call_words m fits e)

        call-near : left ≤ 32 → Near ((32 - left) * 2 ^ 36) net → Near ((33 - left) * 2 ^ 36) read.net
        call-near le k = near-more (omega arith) (it_reads.near ((32 - left) * 2 ^ 36) k)

        call_next : (outer : List (Turn ℤ)) → held outer w.steps ≡ call_story records table left chain outer read.place read.symbol own ++ held outer m.rest
        call_next outer =
            left_is outer (call_is m fits e).2
            ∙ (call-left records table left chain outer h.place number own m.rest
            ∙ ap₂ {C = List Event} (λ (p n : ℕ). call_story records table left chain outer p n own ++ held outer m.rest) (sym it_reads.at_place) (sym it_reads.symbol))

        module _ {o : Result Entered Refusal} (x : OpensWith records rows live chain left read ink.counts o) where
          call_stops : {why : Refusal} → o ≡ Err why → BodyComes records rows b live chain left (here_at from end layer₀ net) ink₀ room₀ (Err why) room
          unfolding BodyComes
          call_stops {why} q = λ outer k.
              stops (w.along outer k) (call_story records table left chain outer read.place read.symbol own) _ (call_next outer)
              (call-stopped records rows live drawing left read ink x q b outer own it_reads.askew room)

          pub call-refused : {r : Result Body Refusal} {why : Refusal} → o ≡ Err why → r ≡ Err why → BodyComes records rows b live chain left (here_at from end layer₀ net) ink₀ room₀ r room
          call-refused q is = subst (λ (y : Result Body Refusal). BodyComes records rows b live chain left (here_at from end layer₀ net) ink₀ room₀ y room) (sym is) (call_stops q)

          pub call_opens : left ≤ 32 → Near ((32 - left) * 2 ^ 36) net → {entered : Entered} → o ≡ Ok entered
              → BodyComes records rows b live chain left (here_at from end layer₀ net) ink₀ room₀ (Ok (Calls (here_at h.next end l net) read entered.row (inked entered.counts ink.pen))) room
          unfolding BodyComes
          call_opens le near q =
              let rests : Rests b (here_at h.next end l net) =
              record {
                steps = m.rest;
                proper = subst (λ (x : List ℕ). Proper x m.rest) (ap (λ (x : Step). layer_after x (name_of l)) (call_is m fits e).2) m.proper;
                words = m.words;
                low = m.within;
                within = fits;
              } in
              record {
                rests = rests;
                same_net = refl;
                led = call-led records rows live drawing left read ink x q (call-near le near);
                opens = λ outer k. record {
                  own = own;
                  carries = it_reads.carries outer k;
                  going =
                      call-going records rows live drawing left read ink x q reached-here b outer own it_reads.askew (held outer (rest_of b (here_at h.next end l net)))
                      (skips (w.along outer k) _
                      (call_next outer ∙ ap (λ (ss : List (Placed Step)). call_story records table left chain outer read.place read.symbol own ++ held outer ss) (sym (rest_is rests))));
                };
              }

          pub call-grows : (on : Here) {entered : Entered} → o ≡ Ok entered → Grows ink₀ (Ok (Calls on read entered.row (inked entered.counts ink.pen)))
          unfolding Grows
          call-grows on q = let n = call-counts records rows live drawing left read ink x q in let k = grown in omega (arith, n, k)
