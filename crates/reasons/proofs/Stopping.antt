-- The laws of the event at which a counting is stopped: it goes along joined lists as `ending` does, and it is there exactly where the counting is stopped, by what that event gives.
-- Assumes nothing.
use mathlib.Core.Path.{◌≡◌, refl, sym, ap, ◌∙◌}
use mathlib.Core.List.{List, [], ◌∷◌, ◌++◌}
use mathlib.Core.Option.{Option, none, some}
use Prim.Native.Nat.{ℕ}
use native.Mathlib.Omega.{arith}
use Rattle.definition.specs.declared.Refusal.{Refusal}
use Rattle.definition.specs.Drawing.{Chain, Event}
use Rattle.definition.specs.Counts.{Counts, End, finished, stopped, counted, go_on, ending}
use Rattle.laws.proofs.Story.Counting.{not_finished}
use Rattle.reasons.specs.Stops.{stop_by, stop_of}

-- an event that is counted, and one that stops
pub stop-later : (c next : Counts) (e : Event) (es : List Event) → counted c e ≡ finished next → stop_of c (e ∷ es) ≡ stop_of next es
unfolding stop_of stop_by
stop-later c next e es h = rw h

pub stop-here : (c : Counts) (e : Event) (es : List Event) {r : Refusal} {chain : Chain} → counted c e ≡ stopped r chain → stop_of c (e ∷ es) ≡ some e
unfolding stop_of stop_by
stop-here c e es h = rw h

-- events that are all counted, and others after them
pub stop-after : (c next : Counts) (a b : List Event) → ending c a ≡ finished next → stop_of c (a ++ b) ≡ stop_of next b
unfolding ending go_on
stop-after c next [] b h = ap (λ (x : Counts). stop_of x b) (same h)
  where
    same : finished c ≡ finished next → c ≡ next
    same q = cc
stop-after c next (e ∷ a) b h = go (counted c e) refl h (λ k. stop-after k next a b)
  where
    go : (x : End) → counted c e ≡ x → go_on x (λ c'. ending c' a) ≡ finished next → ((k : Counts) → ending k a ≡ finished next → stop_of k (a ++ b) ≡ stop_of next b)
        → stop_of c (e ∷ (a ++ b)) ≡ stop_of next b
    go (finished k) q g on = stop-later c k e (a ++ b) q ∙ on k g
    go (stopped r chain) q g on = absurd (not_finished g)

-- it is the same event that stops a counting whatever comes after it
pub stop-first : (c : Counts) (a b : List Event) (e : Event) → stop_of c a ≡ some e → stop_of c (a ++ b) ≡ some e
unfolding stop_of stop_by
stop-first c [] b e h = absurd (never h)
  where
    never : none ≡ some e → ⊥
    never q = let z : ◌≡◌ {A = ℕ} 0 1 = cc in omega (arith, z)
stop-first c (x ∷ a) b e h = go (counted c x) refl (λ k. stop-first k a b e) h
  where
    go : (y : End) → counted c x ≡ y → ((k : Counts) → stop_of k a ≡ some e → stop_of k (a ++ b) ≡ some e) → stop_by y x (λ c'. stop_of c' a) ≡ some e → stop_of c (x ∷ (a ++ b)) ≡ some e
    go (finished k) q on g = stop-later c k x (a ++ b) q ∙ on k g
    go (stopped r chain) q on g = stop-here c x (a ++ b) q ∙ g
