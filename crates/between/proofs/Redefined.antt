-- To draw a call or a shape redefines nothing, held to records or not; and what is alike stays so when it is held to them.
-- Assumes nothing.
use Rattle.std.specs.Prelude.{if◌then◌else◌, Ok}
use mathlib.Core.Path.{◌≡◌, refl, ap}
use mathlib.Core.Bool.{Bool, true, false}
use mathlib.Core.List.{List, [], ◌∷◌, map}
use Prim.Native.Nat.{ℕ}
use native.Mathlib.Omega.{arith}
use lib.Dec.{leb}
use lib.ListN.{length}
use Rattle.definition.specs.Words.{Placed}
use Rattle.definition.specs.declared.Rule.TheVariants.{TooFewRecords}
use Rattle.definition.specs.Rules.{refuse}
use Rattle.definition.specs.Table.{Step, Table}
use Rattle.definition.specs.Drawing.{Chain, Event, called, drew, entered, removed, refused, output, happens}
use Rattle.definition.specs.Records.{stacked_to}
use Rattle.laws.proofs.Lists.Range.{All}
use Rattle.laws.proofs.Story.Counting.{redefinitions_of, counted_all}
use Rattle.laws.proofs.Story.Outputs.{Outputs, output-events}
use Rattle.laws.proofs.Story.Lean.{Alike, no_more, same, same-call}
use Rattle.counts.specs.Counting.{tally}
use Rattle.shapes.specs.declared.Ink.{Ink}
use Rattle.shapes.specs.Painting.{Goes, Answered, Painted}

module _ (n : ℕ) where
  -- what is alike but for the definitions that calls name is refused alike
  pub alike_stacked : {a b : List Event} → Alike a b → Alike (map (stacked_to n) a) (map (stacked_to n) b)
  unfolding stacked_to
  alike_stacked no_more = no_more
  alike_stacked (same e h) = same (stacked_to n e) (alike_stacked h)
  alike_stacked (same-call {a} {b} p chain d f h) = go (leb n (length chain)) (alike_stacked h)
    where
      go : (t : Bool) → Alike (map (stacked_to n) a) (map (stacked_to n) b)
          → Alike ((if t then refused (refuse TooFewRecords p) chain else called p chain d) ∷ map (stacked_to n) a) ((if t then refused (refuse TooFewRecords p) chain else called p chain f) ∷ map (stacked_to n) b)
      go true k = same (refused (refuse TooFewRecords p) chain) k
      go false k = same-call p chain d f k

  abbrev Enters : Event → Type 0
  Enters (entered d before) = ⊥
  Enters (called p chain d) = Unit {0}
  Enters (drew d) = Unit {0}
  Enters (removed m before) = Unit {0}
  Enters (refused r chain) = Unit {0}

  none_redefined : (es : List Event) → All Enters es → redefinitions_of (map (stacked_to n) es) ≡ []
  unfolding redefinitions_of All stacked_to
  none_redefined [] h = refl
  none_redefined (entered d before ∷ es) h = absurd h.0
  none_redefined (called p chain d ∷ es) h = go (leb n (length chain)) (none_redefined es h.1)
    where
      go : (t : Bool) → redefinitions_of (map (stacked_to n) es) ≡ [] → redefinitions_of ((if t then refused (refuse TooFewRecords p) chain else called p chain d) ∷ map (stacked_to n) es) ≡ []
      go true k = k
      go false k = k
  none_redefined (drew d ∷ es) h = none_redefined es h.1
  none_redefined (removed m before ∷ es) h = none_redefined es h.1
  none_redefined (refused r chain ∷ es) h = none_redefined es h.1

  enters_none : Outputs Enters
  enters_none = record { of_call = λ p chain d. tt; of_shape = λ d. tt; of_refusal = λ r p chain h. tt }

  -- so a command that is output leaves the count as it is
  pub shown_same : (t : Table) (s : Placed Step) {ink ink' : Ink} {room room' : List ℕ} {chain : Chain} → Painted ink (map (stacked_to n) (happens t (output s))) room chain (Ok ink') room'
      → ink'.counts.redefinitions ≡ ink.counts.redefinitions
  unfolding Answered
  shown_same t s {ink} {ink'} x =
      let g : Goes ink (map (stacked_to n) (happens t (output s))) ink' = x.answer in
      let k = counted_all (tally ink.counts) (map (stacked_to n) (happens t (output s))) (tally ink'.counts) g.ends in
      let z : length (redefinitions_of (map (stacked_to n) (happens t (output s)))) ≡ 0 = ap length (none_redefined (happens t (output s)) (output-events Enters enters_none t s)) in
      omega (arith, k.redefinitions_are, z)
