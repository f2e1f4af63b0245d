-- The shape with a count is found by counting alone: of events that all pass when they are counted, the counting that begins with n shapes fewer to go than there may be is stopped
-- by 17 exactly at the shape that has n before it, and where there is none it finishes as before.
-- Assumes nothing.
use Rattle.std.specs.Prelude.{if◌then◌else◌}
use mathlib.Core.Path.{◌≡◌, refl, sym, ap, ◌∙◌, subst}
use mathlib.Core.Bool.{Bool, true, false}
use mathlib.Core.List.{List, [], ◌∷◌, ◌++◌}
use mathlib.Core.Option.{Option, none, some}
use Prim.Native.Nat.{ℕ, zero, suc, ◌+◌, ◌-◌, ◌≤◌, ◌<◌}
use native.Mathlib.Omega.{arith}
use borrow.Author.Tests.{ltb-true, ltb-false, lt-ltb, le-ltb}
use lib.Dec.{ltb}
use lib.ListN.{length, drop}
use Rattle.definition.specs.declared.Refusal.{Refusal}
use Rattle.definition.specs.Limits.{most_calls, most_shapes}
use Rattle.definition.specs.Words.{none?, first}
use Rattle.definition.specs.declared.Rule.TheVariants.{TooManyCalls, TooManyShapes}
use Rattle.definition.specs.Rules.{refuse}
use Rattle.definition.specs.Table.{Table, Definition, find}
use Rattle.definition.specs.Drawing.{Chain, Drawn, Event, called, drew, entered, removed, refused}
use Rattle.definition.specs.Counts.{Counts, counts, End, finished, stopped, counted, go_on, ending, shapes_of}
use Rattle.definition.specs.Why.{numbered}
use Rattle.laws.proofs.Story.Counting.{not_finished}
use Rattle.reasons.specs.Stops.{stop_of}
use Rattle.reasons.proofs.Stopping.{stop-here, stop-after}

-- d is drawn there, with n shapes before it: the counting from b on comes to it, and nothing stops it before
pub record DrawnThere (n : ℕ) (b : Counts) (es : List Event) (d : Drawn) : Type 0 where
  pub before : List Event
  pub after : List Event
  pub reached : Counts
  pub parted : es ≡ before ++ drew d ∷ after
  pub earlier : length (shapes_of before) ≡ n
  pub so_far : ending b before ≡ finished reached
  pub stops-here : counted reached (drew d) ≡ stopped (refuse TooManyShapes d.place) d.chain

-- the counting from b on: it is stopped at the shape that has n before it; or there is none, and it finishes with calls and redefinitions as they were
pub data Reaches (n : ℕ) (b : Counts) (es : List Event) (last : Counts) : Type 0 where
  at_shape : (d : Drawn) → numbered (suc n) (shapes_of es) ≡ some d → DrawnThere n b es d → ending b es ≡ stopped (refuse TooManyShapes d.place) d.chain → Reaches n b es last
  past_all : numbered (suc n) (shapes_of es) ≡ none → length (shapes_of es) ≤ n
      → ending b es ≡ finished (counts last.calls (b.shapes + length (shapes_of es)) last.redefinitions) → Reaches n b es last

-- ---- one event

ending-more : (c : Counts) (e : Event) (next : Counts) (es : List Event) → counted c e ≡ finished next → ending c (e ∷ es) ≡ ending next es
unfolding ending go_on
ending-more c e next es h = rw h

ending-stops : (c : Counts) (e : Event) (es : List Event) {r : Refusal} {chain : Chain} → counted c e ≡ stopped r chain → ending c (e ∷ es) ≡ stopped r chain
unfolding ending go_on
ending-stops c e es h = rw h

module _ (c s r : ℕ) (es : List Event) (last : Counts) where
  call_passes : (p : ℕ) (chain : Chain) (d : Definition) → ending (counts c s r) (called p chain d ∷ es) ≡ finished last → (c < most_calls) × (ending (counts (c + 1) s r) es ≡ finished last)
  unfolding ending go_on counted
  call_passes p chain d h = go (ltb c most_calls) refl h
    where
      go : (b : Bool) → ltb c most_calls ≡ b → go_on (if b then finished (counts (c + 1) s r) else stopped (refuse TooManyCalls p) chain) (λ c'. ending c' es) ≡ finished last
          → (c < most_calls) × (ending (counts (c + 1) s r) es ≡ finished last)
      go true e q = (ltb-true c most_calls e, q)
      go false e q = absurd (not_finished q)

  shape-passes : (d : Drawn) → ending (counts c s r) (drew d ∷ es) ≡ finished last → ending (counts c (s + 1) r) es ≡ finished last
  unfolding ending go_on counted
  shape-passes d h = go (ltb s most_shapes) h
    where
      go : (b : Bool) → go_on (if b then finished (counts c (s + 1) r) else stopped (refuse TooManyShapes d.place) d.chain) (λ c'. ending c' es) ≡ finished last
          → ending (counts c (s + 1) r) es ≡ finished last
      go true q = q
      go false q = absurd (not_finished q)

called-counted : (c s r : ℕ) (p : ℕ) (chain : Chain) (d : Definition) → c < most_calls → counted (counts c s r) (called p chain d) ≡ finished (counts (c + 1) s r)
unfolding counted
called-counted c s r p chain d h = rw (lt-ltb c most_calls h)

shape-counted : (c s r : ℕ) (d : Drawn) → s < most_shapes → counted (counts c s r) (drew d) ≡ finished (counts c (s + 1) r)
unfolding counted
shape-counted c s r d h = rw (lt-ltb s most_shapes h)

shape-stops : (c s r : ℕ) (d : Drawn) → most_shapes ≤ s → counted (counts c s r) (drew d) ≡ stopped (refuse TooManyShapes d.place) d.chain
unfolding counted
shape-stops c s r d h = rw (le-ltb s most_shapes h)

-- ---- an event more, which is no shape; and a shape more

module _ (n : ℕ) (b next : Counts) (e : Event) (es : List Event) (last : Counts) (one : counted b e ≡ finished next) where
  there_more : (m : ℕ) {d : Drawn} → ((a : List Event) → length (shapes_of a) ≡ m → length (shapes_of (e ∷ a)) ≡ n) → DrawnThere m next es d → DrawnThere n b (e ∷ es) d
  there_more m adds t = record {
    before = e ∷ t.before;
    after = t.after;
    reached = t.reached;
    parted = ap (λ (x : List Event). e ∷ x) t.parted;
    earlier = adds t.before t.earlier;
    so_far = ending-more b e next t.before one ∙ t.so_far;
    stops-here = t.stops-here;
  }

  more : ((a : List Event) → shapes_of (e ∷ a) ≡ shapes_of a) → next.shapes ≡ b.shapes → Reaches n next es last → Reaches n b (e ∷ es) last
  more passes same (at_shape d f t q) =
      at_shape d (ap (numbered (suc n)) (passes es) ∙ f) (there_more n (λ a h. ap length (passes a) ∙ h) t) (ending-more b e next es one ∙ q)
  more passes same (past_all f few q) =
      past_all (ap (numbered (suc n)) (passes es) ∙ f) (subst (λ (l : List Drawn). length l ≤ n) (sym (passes es)) few)
      (ending-more b e next es one ∙ q
      ∙ ap (λ (k : ℕ). finished (counts last.calls (k + length (shapes_of es)) last.redefinitions)) same
      ∙ ap (λ (l : List Drawn). finished (counts last.calls (b.shapes + length l) last.redefinitions)) (sym (passes es)))

module _ (n c s r : ℕ) (d : Drawn) (es : List Event) (last : Counts) where
  shape-here : most_shapes ≤ s → Reaches 0 (counts c s r) (drew d ∷ es) last
  unfolding shapes_of numbered first ending
  shape-here h =
      at_shape d refl
      (record { before = []; after = es; reached = counts c s r; parted = refl; earlier = refl; so_far = refl; stops-here = shape-stops c s r d h })
      (ending-stops (counts c s r) (drew d) es (shape-stops c s r d h))

  shape-more : s < most_shapes → Reaches n (counts c (s + 1) r) es last → Reaches (suc n) (counts c s r) (drew d ∷ es) last
  unfolding shapes_of numbered
  shape-more h (at_shape x f t q) =
      at_shape x f (there_more (suc n) (counts c s r) (counts c (s + 1) r) (drew d) es last (shape-counted c s r d h) n (λ a e. ap suc e) t)
      (ending-more (counts c s r) (drew d) (counts c (s + 1) r) es (shape-counted c s r d h) ∙ q)
  shape-more h (past_all f few q) =
      past_all f (omega (arith, few))
      (ending-more (counts c s r) (drew d) (counts c (s + 1) r) es (shape-counted c s r d h) ∙ q
      ∙ ap (λ (k : ℕ). finished (counts last.calls k last.redefinitions)) (omega arith))

none_left : (n : ℕ) → numbered (suc n) [] ≡ none
unfolding numbered first
none_left zero = refl
none_left (suc n) = refl

-- ---- the law

-- events that are counted from any shapes on, and all pass; and counted again, from as many shapes on as leave n to go
pub offset : (es : List Event) (n c s r k : ℕ) (last : Counts) → k + n ≡ most_shapes → ending (counts c s r) es ≡ finished last → Reaches n (counts c k r) es last
unfolding ending go_on counted shapes_of
offset [] n c s r k last room h =
    past_all (none_left n) (omega arith) (finish h)
  where
    finish : finished (counts c s r) ≡ finished last → finished (counts c k r) ≡ finished (counts last.calls (k + 0) last.redefinitions)
    finish q =
        let same : counts c s r ≡ last = cc in
        let calls : c ≡ last.calls = ap (λ (x : Counts). x.calls) same in
        let again : r ≡ last.redefinitions = ap (λ (x : Counts). x.redefinitions) same in
        let shapes : k ≡ k + 0 = omega arith in
        λ i. finished (counts (calls i) (shapes i) (again i))
offset (called p chain d ∷ es) n c s r k last room h =
    let (few, rest) = call_passes c s r es last p chain d h in
    more n (counts c k r) (counts (c + 1) k r) (called p chain d) es last (called-counted c k r p chain d few) (λ a. refl) refl (offset es n (c + 1) s r k last room rest)
offset (drew d ∷ es) zero c s r k last room h = shape-here 0 c k r d es last (omega (arith, room))
offset (drew d ∷ es) (suc n) c s r k last room h =
    shape-more n c k r d es last (omega (arith, room)) (offset es n c (s + 1) r (k + 1) last (omega (arith, room)) (shape-passes c s r es last d h))
offset (entered d before ∷ es) n c s r k last room h =
    more n (counts c k r) (counts c k (if none? (find d.symbol before) then r else r + 1)) (entered d before) es last refl (λ a. refl) refl
    (offset es n c s (if none? (find d.symbol before) then r else r + 1) k last room h)
offset (removed m before ∷ es) n c s r k last room h =
    more n (counts c k r) (counts c k r) (removed m before) es last refl (λ a. refl) refl (offset es n c s r k last room h)
offset (refused x chain ∷ es) n c s r k last room h = absurd (not_finished h)

-- and d is the event at which it is stopped
pub stopped_at : {n : ℕ} {b : Counts} {es : List Event} {d : Drawn} → DrawnThere n b es d → stop_of b es ≡ some (drew d)
stopped_at {n} {b} {es} {d} t =
    ap (stop_of b) t.parted ∙ stop-after b t.reached t.before (drew d ∷ t.after) t.so_far ∙ stop-here t.reached (drew d) t.after t.stops-here
