-- Two drawings one after the other: if each finishes, both together finish exactly when their calls and their shapes together stay within the limits, and then the
-- counts are the sums. So are the rounded distances of two lists of commands.
-- Assumes nothing.
use Rattle.std.specs.Prelude.{if◌then◌else◌}
use mathlib.Core.Path.{◌≡◌, refl, sym, ap, ap₂, ◌∙◌, subst}
use mathlib.Core.Bool.{Bool, true, false}
use mathlib.Core.List.{List, [], ◌∷◌, ◌++◌}
use Prim.Native.Nat.{◌+◌, ◌≤◌}
use native.Mathlib.Omega.{arith}
use lib.ListN.{length, length-append}
use Rattle.definition.specs.Limits.{most_calls, most_shapes}
use Rattle.definition.specs.Words.{Placed, none?}
use Rattle.definition.specs.Commands.{Command}
use Rattle.definition.specs.Standing.{Standing, after}
use Rattle.definition.specs.Rounded.{rounded_from}
use Rattle.definition.specs.Table.{find}
use Rattle.definition.specs.Drawing.{Event, called, drew, entered, removed, refused}
use Rattle.definition.specs.Counts.{Counts, counts, End, finished, stopped, counted, go_on, ending, shapes_of}
use Rattle.laws.proofs.Lists.Range.{All, all-++}
use Rattle.laws.proofs.Lists.Joined.{standing, shapes_of-++}
use Rattle.laws.proofs.Story.Counting.{calls_of, redefinitions_of, not_finished, drawing_counts, drawing_few}
use Rattle.laws.proofs.Story.CountLimits.{Allowed, finishes}
use Rattle.joining.specs.Joined.{added}

-- a drawing that finishes has no refusal in it
allowed : (c : Counts) (e : Event) (next : Counts) → counted c e ≡ finished next → Allowed e
unfolding Allowed counted
allowed c (called p chain d) next g = tt
allowed c (drew d) next g = tt
allowed c (entered d before) next g = tt
allowed c (removed n before) next g = tt
allowed c (refused r chain) next g = absurd (not_finished g)

allowed_of : (c : Counts) (es : List Event) (last : Counts) → ending c es ≡ finished last → All Allowed es
unfolding ending go_on All
allowed_of c [] last h = tt
allowed_of c (e ∷ es) last h = go (counted c e) refl h (λ next. allowed_of next es last)
  where
    go : (x : End) → counted c e ≡ x → go_on x (λ c'. ending c' es) ≡ finished last → ((next : Counts) → ending next es ≡ finished last → All Allowed es)
        → Allowed e × All Allowed es
    go (finished next) g k rest = (allowed c e next g, rest next k)
    go (stopped r chain) g k rest = absurd (not_finished k)

calls-++ : (a b : List Event) → length (calls_of (a ++ b)) ≡ length (calls_of a) + length (calls_of b)
unfolding calls_of
calls-++ [] b = omega arith
calls-++ (called p chain d ∷ a) b = omega (arith, calls-++ a b)
calls-++ (drew d ∷ a) b = calls-++ a b
calls-++ (entered d before ∷ a) b = calls-++ a b
calls-++ (removed n before ∷ a) b = calls-++ a b
calls-++ (refused r chain ∷ a) b = calls-++ a b

redefinitions-++ : (a b : List Event) → length (redefinitions_of (a ++ b)) ≡ length (redefinitions_of a) + length (redefinitions_of b)
unfolding redefinitions_of
redefinitions-++ [] b = omega arith
redefinitions-++ (entered d before ∷ a) b = go (none? (find d.symbol before)) (redefinitions-++ a b)
  where
    go : (none : Bool) → length (redefinitions_of (a ++ b)) ≡ length (redefinitions_of a) + length (redefinitions_of b)
        → length (if none then redefinitions_of (a ++ b) else d ∷ redefinitions_of (a ++ b)) ≡ length (if none then redefinitions_of a else d ∷ redefinitions_of a) + length (redefinitions_of b)
    go true h = h
    go false h = omega arith
redefinitions-++ (called p chain d ∷ a) b = redefinitions-++ a b
redefinitions-++ (drew d ∷ a) b = redefinitions-++ a b
redefinitions-++ (removed n before ∷ a) b = redefinitions-++ a b
redefinitions-++ (refused r chain ∷ a) b = redefinitions-++ a b

shapes-++ : (a b : List Event) → length (shapes_of (a ++ b)) ≡ length (shapes_of a) + length (shapes_of b)
shapes-++ a b = omega (arith, ap length (shapes_of-++ a b), length-append (shapes_of a) (shapes_of b))

tallied : List Event → Counts
tallied es = counts (length (calls_of es)) (length (shapes_of es)) (length (redefinitions_of es))

module _ (a b : List Event) (c d : Counts) (first : ending (counts 0 0 0) a ≡ finished c) (second : ending (counts 0 0 0) b ≡ finished d) where
  sums : tallied (a ++ b) ≡ added c d
  unfolding tallied
  sums =
      (λ i. counts (calls-++ a b i) (shapes-++ a b i) (redefinitions-++ a b i))
      ∙ sym (ap₂ {C = Counts} added (drawing_counts a c first) (drawing_counts b d second))

  pub finishes_both : c.calls + d.calls ≤ most_calls → c.shapes + d.shapes ≤ most_shapes → ending (counts 0 0 0) (a ++ b) ≡ finished (added c d)
  unfolding tallied
  finishes_both h g =
      let few : tallied (a ++ b) ≡ added c d = sums in
      finishes (a ++ b) (all-++ Allowed a b (allowed_of (counts 0 0 0) a c first) (allowed_of (counts 0 0 0) b d second))
      (subst (λ (x : Counts). x.calls ≤ most_calls) (sym few) h) (subst (λ (x : Counts). x.shapes ≤ most_shapes) (sym few) g)
      ∙ ap finished few

  -- and no other way
  pub limits_of_both : {last : Counts} → ending (counts 0 0 0) (a ++ b) ≡ finished last → (last ≡ added c d) × (c.calls + d.calls ≤ most_calls) × (c.shapes + d.shapes ≤ most_shapes)
  unfolding tallied
  limits_of_both {last} h =
      let is : last ≡ added c d = drawing_counts (a ++ b) last h ∙ sums in
      let few = drawing_few (a ++ b) last h in
      (is, subst (λ (x : Counts). x.calls ≤ most_calls) is few.0, subst (λ (x : Counts). x.shapes ≤ most_shapes) is few.1)

pub rounded-++ : (s : Standing) (a b : List (Placed Command)) → rounded_from s (a ++ b) ≡ rounded_from s a + rounded_from (standing s a) b
unfolding rounded_from standing
rounded-++ s [] b = omega arith
rounded-++ s (c ∷ a) b = omega (arith, rounded-++ (after c.what s) a b)
