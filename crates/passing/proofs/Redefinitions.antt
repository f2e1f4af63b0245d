-- To draw a call or a shape redefines nothing: only definitions count as redefinitions, so their count goes by the text's DS commands alone.
-- Assumes nothing.
use Rattle.std.specs.Prelude.{Result, Ok}
use mathlib.Core.Path.{◌≡◌, refl, ap, subst}
use mathlib.Core.List.{List, [], ◌∷◌}
use Prim.Native.Nat.{ℕ}
use native.Mathlib.Omega.{arith}
use lib.ListN.{length}
use Rattle.definition.specs.declared.Refusal.{Refusal}
use Rattle.definition.specs.Words.{Placed}
use Rattle.definition.specs.Table.{Step, Table}
use Rattle.definition.specs.Drawing.{Chain, Event, called, drew, entered, removed, refused, output, happens}
use Rattle.laws.proofs.Lists.Range.{All}
use Rattle.laws.proofs.Story.Counting.{redefinitions_of, counted_all}
use Rattle.laws.proofs.Story.Outputs.{Outputs, output-events}
use Rattle.counts.specs.Counting.{tally}
use Rattle.shapes.specs.declared.Ink.{Ink}
use Rattle.shapes.specs.Painting.{Goes, Answered, Painted}

abbrev NoEntry : Event → Type 0
NoEntry (entered d before) = ⊥
NoEntry (called p chain d) = Unit {0}
NoEntry (drew d) = Unit {0}
NoEntry (removed n before) = Unit {0}
NoEntry (refused r chain) = Unit {0}

none_redefined : (es : List Event) → All NoEntry es → redefinitions_of es ≡ []
unfolding redefinitions_of All
none_redefined [] h = refl
none_redefined (entered d before ∷ es) h = absurd h.0
none_redefined (called p chain d ∷ es) h = none_redefined es h.1
none_redefined (drew d ∷ es) h = none_redefined es h.1
none_redefined (removed n before ∷ es) h = none_redefined es h.1
none_redefined (refused r chain ∷ es) h = none_redefined es h.1

outputs : Outputs NoEntry
outputs = record { of_call = λ p chain d. tt; of_shape = λ d. tt; of_refusal = λ r p chain h. tt }

output-same : (t : Table) (s : Placed Step) {ink ink' : Ink} → Goes ink (happens t (output s)) ink' → ink'.counts.redefinitions ≡ ink.counts.redefinitions
output-same t s {ink} {ink'} g =
    let k = counted_all (tally ink.counts) (happens t (output s)) (tally ink'.counts) g.ends in
    let n : length (redefinitions_of (happens t (output s))) ≡ 0 = ap length (none_redefined (happens t (output s)) (output-events NoEntry outputs t s)) in
    omega (arith, k.redefinitions_are, n)

-- so a command that is output leaves the count as it is
pub painted_same : (t : Table) (s : Placed Step) {ink ink' : Ink} {room room' : List ℕ} {chain : Chain} {d : Result Ink Refusal} → Painted ink (happens t (output s)) room chain d room' → d ≡ Ok ink'
    → ink'.counts.redefinitions ≡ ink.counts.redefinitions
unfolding Answered
painted_same t s {ink} {chain = chain} x e = output-same t s (subst (λ (y : Result Ink Refusal). Answered ink (happens t (output s)) chain y) e x.answer)
