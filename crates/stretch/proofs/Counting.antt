-- What is painted counts calls up, and a call that is counted is one more.
-- Assumes nothing.
use Rattle.std.specs.Prelude.{if◌then◌else◌, Ok}
use mathlib.Core.Path.{◌≡◌, sym, ap}
use mathlib.Core.Bool.{Bool, true, false}
use mathlib.Core.List.{List, []}
use Prim.Native.Nat.{ℕ, ◌+◌, ◌≤◌}
use native.Mathlib.Omega.{arith}
use lib.Dec.{ltb}
use Rattle.definition.specs.Limits.{most_calls}
use Rattle.definition.specs.declared.Rule.TheVariants.{TooManyCalls}
use Rattle.definition.specs.Rules.{refuse}
use Rattle.definition.specs.Table.{Definition}
use Rattle.definition.specs.Drawing.{Chain, Event, called}
use Rattle.definition.specs.Counts.{finished, stopped, counted}
use Rattle.definition.specs.Counts.{counts as tallied, Counts as Tally}
use Rattle.laws.proofs.Story.Counting.{counted_all}
use Rattle.counts.specs.declared.Counts.{Counts}
use Rattle.counts.specs.Counting.{tally}
use Rattle.shapes.specs.declared.Ink.{Ink}
use Rattle.shapes.specs.Painting.{Goes, Answered, Painted}
use Rattle.shapes.proofs.Painting.{PaintedSoFar}

pub painted-grows : {ink ink' : Ink} {es : List Event} {room room' : List ℕ} {chain : Chain} → Painted ink es room chain (Ok ink') room' → ink.counts.calls ≤ ink'.counts.calls
unfolding Answered
painted-grows {ink} {ink'} {es} x =
    let g : Goes ink es ink' = x.answer in
    let k = counted_all (tally ink.counts) es (tally ink'.counts) g.ends in
    omega (arith, k.calls_are)

pub going-grows : {all left : List Event} {ink₀ ink : Ink} {room₀ room : List ℕ} → PaintedSoFar all ink₀ room₀ left ink room → ink₀.counts.calls ≤ ink.counts.calls
going-grows g = painted-grows g.drawn

pub called_one : (c more : Counts) (p : ℕ) (chain : Chain) → ((d : Definition) → counted (tally c) (called p chain d) ≡ finished (tally more)) → more.calls ≡ c.calls + 1
unfolding counted
called_one c more p chain e = go (ltb c.calls most_calls) (e (record { symbol = 0; place = 0; body = [] }))
  where
    go : (b : Bool) → (if b then finished (tallied (c.calls + 1) c.shapes c.redefinitions) else stopped (refuse TooManyCalls p) chain) ≡ finished (tally more) → more.calls ≡ c.calls + 1
    go true q = let same : tallied (c.calls + 1) c.shapes c.redefinitions ≡ tally more = cc in sym (ap (λ (x : Tally). x.calls) same)
    go false q = absurd (let z : ◌≡◌ {A = ℕ} 0 1 = cc in omega arith)
