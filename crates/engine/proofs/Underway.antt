-- What the loop of `draw_body` keeps: for every list that fits, what is left from here is what was to be drawn where these calls are open. The steps that
-- are left are those whose words stand from here to the end.
-- Assumes nothing.
use Rattle.std.specs.Prelude.{Result, Ok, Err}
use mathlib.Core.Path.{◌≡◌, refl, sym, ap, ◌∙◌, subst}
use mathlib.Core.List.{List, [], ◌∷◌, ◌++◌}
use Prim.Native.Nat.{ℕ, ◌+◌, ◌-◌, ◌*◌, ◌^◌, ◌≤◌, ◌<◌}
use native.Mathlib.Omega.{arith}
use lib.IntN.{ℤ, pos, nat_abs}
use lib.ListN.{length, take, drop, get_or}
use Rattle.definition.specs.Words.{Placed, at}
use Rattle.definition.specs.Commands.{Shape, Turn}
use Rattle.definition.specs.Table.{Step, shape, instance, setting, Table}
use Rattle.definition.specs.Drawing.{Chain, Event, drawn_shape, drawn_step, drawn_body, drawn_call}
use Rattle.definition.specs.declared.Refusal.{Refusal}
use Rattle.turns.specs.declared.Net.{Net}
use Rattle.turns.specs.Nets.{Carries, Near}
use Rattle.turns.proofs.Nets.{near-more}
use Rattle.names.specs.Names.{name_of, packed}
use Rattle.pen.proofs.Names.{no_name}
use Rattle.moves.specs.Moves.{ShapedAt}
use Rattle.shapes.specs.declared.Ink.{Ink}
use Rattle.shapes.specs.Painting.{Reached, Painted, ShapeDraws}
use Rattle.shapes.proofs.Painting.{PaintedSoFar, begun, goes_on, skips, stops, over, so_far, room-kept}
use Rattle.library.specs.Memory.{call_letter, layer_letter, words_at, layer_after, steps_in, table_of}
use Rattle.library.specs.Sound.{all_words, Proper}
use Rattle.library.proofs.Decoded.{steps_are}
use Rattle.engine.specs.declared.Head.{Head}
use Rattle.engine.specs.Heads.{head_in}
use Rattle.engine.specs.Draws.{open_at, Ready, BodyAt, Draws, CallDraws}
use Rattle.engine.proofs.Taking.{Met, meets, two_words, layer_is, call_is, call_words, shape_is, shape_words}
use Rattle.chain.specs.Chain.{Kept}
use Rattle.chain.proofs.Runs.{kept_open, kept-both, untouched}
use Rattle.opening.specs.declared.Call.{Call}
use Rattle.opening.specs.Calls.{CalledAt, ReadsCall}
use Rattle.opening.proofs.Witnesses.{some_list}

pub record Underway (rows : List ℕ) (b : List ℤ) (live : ℕ) (net : Net) (left from end : ℕ) (ink₀ : Ink) (numbers₀ : List ℤ) (drawing₀ room₀ : List ℕ)
    (numbers : List ℤ) (drawing room : List ℕ) (here layer : ℕ) (ink : Ink) : Type 0 where
  pub steps : List (Placed Step)
  pub proper : Proper (name_of layer) steps
  pub words : words_at b here (end - here) ≡ all_words steps
  pub along : (outer : List (Turn ℤ)) → Carries outer net
      → PaintedSoFar (drawn_body (drawn_call left (table_of rows b live) (open_at drawing₀ left) outer) (open_at drawing₀ left) outer (steps_in b from (end - from))) ink₀ room₀
      (drawn_body (drawn_call left (table_of rows b live) (open_at drawing₀ left) outer) (open_at drawing₀ left) outer steps) ink room
  pub low : here ≤ end
  pub numbers-kept : length numbers ≡ length numbers₀
  pub drawing_kept : length drawing ≡ length drawing₀
  pub open_kept : Kept (32 - left) drawing₀ drawing

pub started : {rows : List ℕ} {b : List ℤ} {live : ℕ} {net : Net} {left from end : ℕ} (ink : Ink) (numbers : List ℤ) (drawing room : List ℕ) → BodyAt b from end → Reached ink
    → Underway rows b live net left from end ink numbers drawing room numbers drawing room from 0 ink
started {rows} {b} {live} {net} {left} {from} {end} ink numbers drawing room k r = record {
  steps = k.sound.steps;
  proper = subst (λ (l : List ℕ). Proper l k.sound.steps) (sym (no_name 0 refl)) k.sound.proper;
  words = k.sound.words;
  along =
      λ outer h.
      skips (begun _ ink room r) _
      (ap (drawn_body (drawn_call left (table_of rows b live) (open_at drawing left) outer) (open_at drawing left) outer) (steps_are b from (end - from) k.sound));
  low = k.forward;
  numbers-kept = refl;
  drawing_kept = refl;
  open_kept = untouched;
}

nothing_left : (f : ℕ → ℕ → List (Turn ℤ) → List Event) (chain : Chain) (net : List (Turn ℤ)) → drawn_body f chain net [] ≡ []
unfolding drawn_body
nothing_left f chain net = refl

layer-left : (f : ℕ → ℕ → List (Turn ℤ) → List Event) (chain : Chain) (net : List (Turn ℤ)) (p : ℕ) (l : List ℕ) (ss : List (Placed Step))
    → drawn_body f chain net (at p (setting l) ∷ ss) ≡ drawn_body f chain net ss
unfolding drawn_body drawn_step
layer-left f chain net p l ss = refl

shape-left : (f : ℕ → ℕ → List (Turn ℤ) → List Event) (chain : Chain) (net : List (Turn ℤ)) (p : ℕ) (l : List ℕ) (k : Shape ℤ) (ss : List (Placed Step))
    → drawn_body f chain net (at p (shape l k) ∷ ss) ≡ (drawn_shape chain net p l k ∷ []) ++ drawn_body f chain net ss
unfolding drawn_body drawn_step
shape-left f chain net p l k ss = refl

call-left : (f : ℕ → ℕ → List (Turn ℤ) → List Event) (chain : Chain) (net : List (Turn ℤ)) (p n : ℕ) (ts : List (Turn ℤ)) (ss : List (Placed Step))
    → drawn_body f chain net (at p (instance n ts) ∷ ss) ≡ f p n ts ++ drawn_body f chain net ss
unfolding drawn_body drawn_step
call-left f chain net p n ts ss = refl

pub none_left : (ss : List (Placed Step)) → all_words ss ≡ [] → ss ≡ []
unfolding all_words
none_left [] e = refl
none_left (s ∷ ss) e = absurd (let z = ap length e in omega (arith, z))

module _ {rows : List ℕ} {b : List ℤ} {live : ℕ} {net : Net} {left from end : ℕ} {ink₀ : Ink} {numbers₀ : List ℤ} {drawing₀ room₀ : List ℕ}
    {numbers : List ℤ} {drawing room : List ℕ} {here l : ℕ} {ink : Ink}
    (w : Underway rows b live net left from end ink₀ numbers₀ drawing₀ room₀ numbers drawing room here l ink) where
  abbrev Answers : Chain → Result Ink Refusal → List ℕ → Type 0
  Answers told r room' = Draws rows b live drawing₀ net left from end ink₀ room₀ told r room'

  abbrev chain : Chain
  chain = open_at drawing₀ left

  abbrev table : Table
  table = table_of rows b live

  -- the same calls are open as at the start
  same_open : open_at drawing left ≡ chain
  same_open = kept_open drawing₀ drawing (32 - left) w.open_kept

  pub reached-here : Reached ink
  reached-here = so_far (w.along (some_list net).0 (some_list net).1)

  pub room-here : length room ≡ length room₀
  room-here = room-kept (w.along (some_list net).0 (some_list net).1)

  -- and for a call the drawing is ready
  pub ready-here : Ready rows b live numbers₀ drawing₀ left ink₀ → Ready rows b live numbers drawing left ink
  ready-here r = record {
    sorted = r.sorted;
    stocked = r.stocked;
    short = r.short;
    roomy = omega (arith, r.roomy, w.numbers-kept);
    levels = w.drawing_kept ∙ r.levels;
    some_left = r.some_left;
    reached = reached-here;
  }

  -- nothing is left
  pub was_all : end ≤ here → {told : Chain} → Answers told (Ok ink) room
  was_all z outer h =
      let f = drawn_call left table chain outer in
      let n : end - here ≡ 0 = omega arith in
      let e : w.steps ≡ [] = none_left w.steps (sym w.words ∙ (ap (words_at b here) n ∙ no_words b here)) in
      over (w.along outer h) (ap (drawn_body f chain outer) e ∙ nothing_left f chain outer)
    where
      no_words : (b : List ℤ) (i : ℕ) → words_at b i 0 ≡ []
      no_words b i = unfold words_at in refl

  pub two_more : here < end → here + 2 ≤ end
  two_more z = two_words b here end w.steps z w.words

  pub met : {h : Head} → here < end → h ≡ head_in b here → Met b end w.steps (name_of l) here h
  met {h} z e = meets b here end (name_of l) w.steps h z w.proper w.words e

  module _ {h : Head} (m : Met b end w.steps (name_of l) here h) (fits : end ≤ length b) where
    abbrev Next : List ℤ → List ℕ → List ℕ → ℕ → Ink → Type 0
    Next ns drawing' room' l' ink' = Underway rows b live net left from end ink₀ numbers₀ drawing₀ room₀ ns drawing' room' h.next l' ink'

    left_is : (f : ℕ → ℕ → List (Turn ℤ) → List Event) (outer : List (Turn ℤ)) {s : Step} → m.step.what ≡ s
        → drawn_body f chain outer w.steps ≡ drawn_body f chain outer (at h.place s ∷ m.rest)
    left_is f outer {s} e =
        ap (drawn_body f chain outer) m.are
        ∙ (ap (λ (x : Step). drawn_body f chain outer (at m.step.place x ∷ m.rest)) e ∙ ap (λ (p : ℕ). drawn_body f chain outer (at p s ∷ m.rest)) (sym m.place))

    onward : {ns : List ℤ} {drawing' room' : List ℕ} {l' : ℕ} {ink' : Ink} → name_of l' ≡ layer_after m.step.what (name_of l)
        → ((outer : List (Turn ℤ)) → Carries outer net
        → PaintedSoFar (drawn_body (drawn_call left table chain outer) chain outer (steps_in b from (end - from))) ink₀ room₀ (drawn_body (drawn_call left table chain outer) chain outer m.rest) ink' room')
        → length ns ≡ length numbers → length drawing' ≡ length drawing → Kept (32 - left) drawing drawing' → Next ns drawing' room' l' ink'
    onward q g q₁ q₂ q₃ = record {
      steps = m.rest;
      proper = subst (λ (x : List ℕ). Proper x m.rest) (sym q) m.proper;
      words = m.words;
      along = g;
      low = m.within;
      numbers-kept = q₁ ∙ w.numbers-kept;
      drawing_kept = q₂ ∙ w.drawing_kept;
      open_kept = kept-both w.open_kept q₃;
    }

    -- a layer
    pub layer_asked : h.kind ≡ layer_letter → (here + 2 < length b) × ((v : ℕ) × (get_or b (here + 2) (pos 0) ≡ pos v))
    layer_asked e = let s = layer_is m fits e in (s.4, (packed s.0, s.3))

    pub was_layer : h.kind ≡ layer_letter → (v : ℕ) → v ≡ nat_abs (get_or b (here + 2) (pos 0)) → Next numbers drawing room v ink
    was_layer e v q =
        let s = layer_is m fits e in
        onward (ap name_of (q ∙ ap nat_abs s.3) ∙ (s.2 ∙ sym (ap (λ (x : Step). layer_after x (name_of l)) s.1)))
        (λ outer k.
        let f = drawn_call left table chain outer in
        skips (w.along outer k) _ (left_is f outer s.1 ∙ layer-left f chain outer h.place s.0 m.rest))
        refl refl untouched

    -- a shape
    module _ (e : h.kind ≡ layer_letter → ⊥) (f : h.kind ≡ call_letter → ⊥) where
      pub shape_asked : ShapedAt (take (h.next - here) (drop here b)) h.kind (h.next - here)
      shape_asked = shape_words m fits e f

      module _ {room' : List ℕ} {d : Result Ink Refusal}
          (drawn : ShapeDraws (take (h.next - here) (drop here b)) h.kind (h.next - here) net l h.place ink room d room') where
        abbrev figure : Shape ℤ
        figure = (shape_is m fits e f).0

        painted : (outer : List (Turn ℤ)) → Carries outer net → {y : Result Ink Refusal} → d ≡ y → Painted ink (drawn_shape chain outer h.place (name_of l) figure ∷ []) room chain y room'
        painted outer k q = subst (λ (y : Result Ink Refusal). Painted ink (drawn_shape chain outer h.place (name_of l) figure ∷ []) room chain y room') q (drawn (shape_words m fits e f) chain outer k)

        shape-next : (outer : List (Turn ℤ)) → drawn_body (drawn_call left table chain outer) chain outer w.steps
            ≡ (drawn_shape chain outer h.place (name_of l) figure ∷ []) ++ drawn_body (drawn_call left table chain outer) chain outer m.rest
        shape-next outer =
            let g = drawn_call left table chain outer in
            left_is g outer (shape_is m fits e f).1 ∙ shape-left g chain outer h.place (name_of l) figure m.rest

        pub was_shape : {numbers' : List ℤ} {ink' : Ink} → d ≡ Ok ink' → length numbers' ≡ length numbers → Next numbers' drawing room' l ink'
        was_shape q n =
            onward (sym (ap (λ (x : Step). layer_after x (name_of l)) (shape_is m fits e f).1))
            (λ outer k. goes_on (w.along outer k) (drawn_shape chain outer h.place (name_of l) figure ∷ []) _ (shape-next outer) (painted outer k q))
            n refl untouched

        pub shape-refused : {told : Chain} → told ≡ open_at drawing left → {why : Refusal} → d ≡ Err why → Answers told (Err why) room'
        shape-refused stop {why} q outer k =
            subst (λ (o : Chain). Painted ink₀ (drawn_body (drawn_call left table chain outer) chain outer (steps_in b from (end - from))) room₀ o (Err why) room') (sym (stop ∙ same_open))
            (stops (w.along outer k) (drawn_shape chain outer h.place (name_of l) figure ∷ []) _ (shape-next outer) (painted outer k q))

    -- a call
    module _ (e : h.kind ≡ call_letter) where
      pub call_asked : CalledAt (take (h.next - here) (drop here b)) (h.next - here)
      call_asked = call_words m fits e

      module _ {read : Call} (reads : (k : CalledAt (take (h.next - here) (drop here b)) (h.next - here)) → ReadsCall k.symbol k.turns net h.place read) where
        abbrev own : List (Turn ℤ)
        own = (call_is m fits e).1

        abbrev number : ℕ
        number = (call_is m fits e).0

        it_reads : ReadsCall (pos number) own net h.place read
        it_reads = reads (call_words m fits e)

        pub call-near : left ≤ 32 → Near ((32 - left) * 2 ^ 36) net → Near ((33 - left) * 2 ^ 36) read.net
        call-near le k = near-more (omega arith) (it_reads.near ((32 - left) * 2 ^ 36) k)

        module _ {room' : List ℕ} {told : Chain} {d : Result Ink Refusal} (drawn : CallDraws rows b live drawing read left ink room told d room') where
          abbrev Called : Chain → (place symbol : ℕ) → List (Turn ℤ) → Result Ink Refusal → Type 0
          Called o place symbol outer y = Painted ink (drawn_call left table o outer place symbol own) room told y room'

          called : (outer : List (Turn ℤ)) → Carries outer net → {y : Result Ink Refusal} → d ≡ y → Called chain h.place number outer y
          called outer k {y} q =
              subst (λ (p : ℕ). Called chain p number outer y) it_reads.at_place
              (subst (λ (i : ℕ). Called chain read.place i outer y) it_reads.symbol
              (subst (λ (o : Chain). Called o read.place read.symbol outer y) same_open
              (subst (λ (y : Result Ink Refusal). Called (open_at drawing left) read.place read.symbol outer y) q (drawn outer own it_reads.askew (it_reads.carries outer k)))))

          call_next : (outer : List (Turn ℤ)) → drawn_body (drawn_call left table chain outer) chain outer w.steps
              ≡ drawn_call left table chain outer h.place number own ++ drawn_body (drawn_call left table chain outer) chain outer m.rest
          call_next outer =
              let g = drawn_call left table chain outer in
              left_is g outer (call_is m fits e).2 ∙ call-left g chain outer h.place number own m.rest

          pub was_call : {numbers' : List ℤ} {drawing' : List ℕ} {ink' : Ink} → d ≡ Ok ink' → length numbers' ≡ length numbers → length drawing' ≡ length drawing
              → Kept (32 - left) drawing drawing' → Next numbers' drawing' room' l ink'
          was_call q n₁ n₂ n₃ =
              onward (sym (ap (λ (x : Step). layer_after x (name_of l)) (call_is m fits e).2))
              (λ outer k. goes_on (w.along outer k) (drawn_call left table chain outer h.place number own) _ (call_next outer) (called outer k q))
              n₁ n₂ n₃

          pub call-refused : {why : Refusal} → d ≡ Err why → Answers told (Err why) room'
          call-refused q outer k = stops (w.along outer k) (drawn_call left table chain outer h.place number own) _ (call_next outer) (called outer k q)
