-- Events that are alike but for the definitions that calls name are painted alike: what is drawn over the lean table that memory holds is drawn over the
-- text's own table.
-- Assumes nothing.
use Rattle.std.specs.Prelude.{Result, Ok, Err}
use mathlib.Core.Path.{◌≡◌, sym, ap, ◌∙◌, subst}
use mathlib.Core.List.{List, ◌++◌}
use Prim.Native.Nat.{ℕ, ◌+◌}
use lib.ListN.{length}
use lib.Seq.{sets}
use Rattle.definition.specs.Drawing.{Chain, Event, called, Drawn as Shown}
use Rattle.definition.specs.Counts.{End, finished, stopped, counted}
use Rattle.definition.specs.Counts.{Counts as Tally}
use Rattle.definition.specs.Flat.{lines}
use Rattle.definition.specs.declared.Refusal.{Refusal}
use Rattle.laws.proofs.Story.Lean.{Alike, no_more, same, same-call, alike_ending, alike_shapes}
use Rattle.pen.specs.Names.{name_of}
use Rattle.counts.specs.Counting.{tally}
use Rattle.shapes.specs.declared.Ink.{Ink}
use Rattle.shapes.specs.Painting.{going_by, until, Goes, Answered, Painted}

-- the events before the first refusal are alike
alike_until : {a b : List Event} → Alike a b → (c : Tally) → Alike (until c a) (until c b)
unfolding until counted
alike_until no_more c = no_more
alike_until (same {a} {b} e h) c = go (counted c e) (alike_until h)
  where
    go : (x : End) → ((c' : Tally) → Alike (until c' a) (until c' b)) → Alike (going_by x e (λ c'. until c' a)) (going_by x e (λ c'. until c' b))
    go (finished c') f = unfold going_by in same e (f c')
    go (stopped why chain) f = unfold going_by in no_more
alike_until (same-call {a} {b} p chain d f h) c = go (counted c (called p chain d)) (alike_until h)
  where
    go : (x : End) → ((c' : Tally) → Alike (until c' a) (until c' b))
        → Alike (going_by x (called p chain d) (λ c'. until c' a)) (going_by x (called p chain f) (λ c'. until c' b))
    go (finished c') g = unfold going_by in same-call p chain d f (g c')
    go (stopped why chain) g = unfold going_by in no_more

module _ {a b : List Event} (h : Alike a b) (ink : Ink) where
  alike_goes : {ink' : Ink} → Goes ink a ink' → Goes ink b ink'
  alike_goes {ink'} g =
      let l = name_of ink.pen.layer in
      record {
        ends = sym (alike_ending h (tally ink.counts)) ∙ g.ends;
        next = g.next ∙ ap (λ (s : List Shown). ink.pen.at + length (lines l s)) (alike_shapes h);
        on = subst (λ (s : List Shown). (ds : List Shown) → lines l (s ++ ds) ≡ lines l s ++ lines (name_of ink'.pen.layer) ds) (alike_shapes h) g.on;
        reached = g.reached;
      }

  alike_answer : (chain : Chain) (r : Result Ink Refusal) → Answered ink a chain r → Answered ink b chain r
  unfolding Answered
  alike_answer chain (Ok ink') g = alike_goes g
  alike_answer chain (Err why) g = sym (alike_ending h (tally ink.counts)) ∙ g

  pub alike_painted : {room : List ℕ} {chain : Chain} {r : Result Ink Refusal} {room' : List ℕ} → Painted ink a room chain r room' → Painted ink b room chain r room'
  alike_painted {room} {chain} {r} x = record {
    answer = alike_answer chain r x.answer;
    laid = x.laid ∙ ap (λ (s : List Shown). sets room ink.pen.at (lines (name_of ink.pen.layer) s)) (alike_shapes (alike_until h (tally ink.counts)));
  }
