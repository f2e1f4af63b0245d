-- The laws of a counting that is stopped within a part of its events: a part between others, a part that is alike, a part of a part.
-- Assumes nothing.
use mathlib.Core.Path.{◌≡◌, refl, sym, ap, ◌∙◌, subst}
use mathlib.Core.List.{List, [], ◌∷◌, ◌++◌}
use mathlib.Core.Option.{Option, none, some}
use Prim.Native.Nat.{ℕ}
use native.Mathlib.Omega.{arith}
use Rattle.definition.specs.declared.Refusal.{Refusal}
use Rattle.definition.specs.Table.{Definition}
use Rattle.definition.specs.Drawing.{Chain, Drawn, Event, called, drew}
use Rattle.definition.specs.Counts.{Counts, End, finished, stopped, counted, go_on, ending}
use Rattle.laws.proofs.Lists.Joined.{ending-++}
use Rattle.laws.proofs.Story.Counting.{not_finished}
use Rattle.laws.proofs.Story.Lean.{Alike, no_more, same, same-call, alike_ending}
use Rattle.reasons.specs.Stops.{stop_by, stop_of}
use Rattle.reasons.specs.Parts.{StopsIn}
use Rattle.reasons.proofs.Stopping.{stop-later, stop-here, stop-after}

-- what stops a counting of some events stops it whatever comes after them
stop-within : (c : Counts) (a b : List Event) {r : Refusal} {chain : Chain} → ending c a ≡ stopped r chain → stop_of c (a ++ b) ≡ stop_of c a
unfolding ending go_on
stop-within c [] b h = absurd (not_finished (sym h))
stop-within c (e ∷ a) b {r} {chain} h = go (counted c e) refl h (λ k. stop-within k a b)
  where
    go : (x : End) → counted c e ≡ x → go_on x (λ c'. ending c' a) ≡ stopped r chain → ((k : Counts) → ending k a ≡ stopped r chain → stop_of k (a ++ b) ≡ stop_of k a)
        → stop_of c (e ∷ (a ++ b)) ≡ stop_of c (e ∷ a)
    go (finished k) q g on = stop-later c k e (a ++ b) q ∙ on k g ∙ sym (stop-later c k e a q)
    go (stopped s o) q g on = stop-here c e (a ++ b) q ∙ sym (stop-here c e a q)

ends-after : (c₀ c : Counts) (a b : List Event) → ending c₀ a ≡ finished c → ending c₀ (a ++ b) ≡ ending c b
unfolding go_on
ends-after c₀ c a b h = ending-++ c₀ a b ∙ ap (λ (y : End). go_on y (λ d. ending d b)) h

ends-within : (c : Counts) (a b : List Event) {r : Refusal} {chain : Chain} → ending c a ≡ stopped r chain → ending c (a ++ b) ≡ stopped r chain
unfolding go_on
ends-within c a b h = ending-++ c a b ∙ ap (λ (y : End). go_on y (λ d. ending d b)) h

-- a part between others
pub stops-part : (c₀ c : Counts) {all : List Event} (done now rest : List Event) → done ++ (now ++ rest) ≡ all → ending c₀ done ≡ finished c → StopsIn c₀ all c now
stops-part c₀ c done now rest e f = record {
  as_whole = λ h. ap (ending c₀) (sym e) ∙ ends-after c₀ c done (now ++ rest) f ∙ ends-within c now rest h;
  same_shape = λ h d s. sym (stop-within c now rest h) ∙ sym (stop-after c₀ c done (now ++ rest) f) ∙ ap (stop_of c₀) e ∙ s;
}

-- events that are alike but for the definitions that calls name
no_shape : {p : ℕ} {chain : Chain} {f : Definition} {x : Drawn} → some (called p chain f) ≡ some (drew x) → ⊥
no_shape e = let z : ◌≡◌ {A = ℕ} 0 1 = cc in omega (arith, z)

alike_stop : {a b : List Event} → Alike a b → (c : Counts) (x : Drawn) → stop_of c b ≡ some (drew x) → stop_of c a ≡ some (drew x)
unfolding stop_of stop_by counted
alike_stop no_more c x h = h
alike_stop (same {a} {b} e k) c x h = go (counted c e) (alike_stop k) h
  where
    go : (y : End) → ((n : Counts) (x : Drawn) → stop_of n b ≡ some (drew x) → stop_of n a ≡ some (drew x)) → stop_by y e (λ n. stop_of n b) ≡ some (drew x) → stop_by y e (λ n. stop_of n a) ≡ some (drew x)
    go (finished n) on g = on n x g
    go (stopped r chain) on g = g
alike_stop (same-call {a} {b} p chain d f k) c x h = go (counted c (called p chain f)) (alike_stop k) h
  where
    go : (y : End) → ((n : Counts) (x : Drawn) → stop_of n b ≡ some (drew x) → stop_of n a ≡ some (drew x)) → stop_by y (called p chain f) (λ n. stop_of n b) ≡ some (drew x)
        → stop_by y (called p chain d) (λ n. stop_of n a) ≡ some (drew x)
    go (finished n) on g = on n x g
    go (stopped r o) on g = absurd (no_shape g)

pub stops_alike : {a b : List Event} → Alike a b → (c : Counts) → StopsIn c b c a
stops_alike k c = record { as_whole = λ h. sym (alike_ending k c) ∙ h; same_shape = λ h d s. alike_stop k c d s }

-- a part of a part
pub stops-both : {c₀ c₁ c : Counts} {all middle part : List Event} → StopsIn c₀ all c₁ middle → StopsIn c₁ middle c part → StopsIn c₀ all c part
stops-both f g = record { as_whole = λ h. f.as_whole (g.as_whole h); same_shape = λ h d s. g.same_shape h d (f.same_shape (g.as_whole h) d s) }
