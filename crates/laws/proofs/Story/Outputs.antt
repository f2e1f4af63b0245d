-- What happens where a command is output: calls and shapes, and refusals by the rules 11 to 16 and 20, and nothing else. So what holds of these, whatever their places and their
-- open calls, holds of all that a call draws.
-- Assumes nothing.
use Rattle.std.specs.Prelude.{if◌then◌else◌}
use mathlib.Core.Bool.{Bool, true, false}
use mathlib.Core.List.{List, [], ◌∷◌, ◌++◌}
use mathlib.Core.Option.{Option, none, some}
use Prim.Native.Nat.{ℕ, zero, suc}
use native.Mathlib.Omega.{arith}
use lib.Dec.{eqb}
use lib.IntN.{ℤ}
use Rattle.definition.specs.Limits.{deepest}
use Rattle.definition.specs.Words.{Placed, at, any}
use Rattle.definition.specs.declared.Rule.{Rule}
use Rattle.definition.specs.declared.Rule.TheVariants.{OffTheAxes, BeingDrawn, TooDeep, XOutOfRange, YOutOfRange}
use Rattle.definition.specs.Rules.{refuse}
use Rattle.definition.specs.Commands.{Shape, Turn}
use Rattle.definition.specs.Turns.{off_axes}
use Rattle.definition.specs.Table.{Step, shape, instance, setting, Definition, Table, find}
use Rattle.definition.specs.Drawing.{output, Chain, Drawn, Event, called, drew, refused}
use Rattle.definition.specs.Drawing.{drawn_shape, drawn_step, drawn_body, Passage, barred, leads, passage_to, passage_of, through, drawn_call, happens}
use Rattle.laws.proofs.Lists.Range.{All, all-++}
use Rattle.laws.proofs.Rules.Order.{Between}
use Rattle.laws.proofs.Story.Axes.{by_axes}

abbrev pub ByOutput : Rule → Type 0  -- RULES 12, refusals 11 to 16 and 20
ByOutput r = Between OffTheAxes YOutOfRange r

pub record Outputs (P : Event → Type 0) : Type 0 where  -- what holds of a call, a shape and a refusal
  pub of_call : (p : ℕ) (chain : Chain) (d : Definition) → P (called p chain d)
  pub of_shape : (d : Drawn) → P (drew d)
  pub of_refusal : (r : Rule) (p : ℕ) (chain : Chain) → ByOutput r → P (refused (refuse r p) chain)

module _ (P : Event → Type 0) (o : Outputs P) where
  shape-event : (chain : Chain) (net : List (Turn ℤ)) (p : ℕ) (l : List ℕ) (k : Shape ℤ) → P (drawn_shape chain net p l k)
  shape-event chain net p l k =
      by_axes chain net p l k P
      (o.of_refusal XOutOfRange p chain (record { least = omega arith; most = omega arith }))
      (o.of_refusal YOutOfRange p chain (record { least = omega arith; most = omega arith }))
      (λ e. o.of_shape _)

  module _ (f : ℕ → ℕ → List (Turn ℤ) → List Event) (call-events : (p n : ℕ) (ts : List (Turn ℤ)) → All P (f p n ts)) (chain : Chain) (net : List (Turn ℤ)) where
    pub step-events : (p : ℕ) (s : Step) → All P (drawn_step f chain net p s)
    unfolding drawn_step All
    step-events p (shape l k) = (shape-event chain net p l k, tt)
    step-events p (instance n ts) = call-events p n ts
    step-events p (setting l) = tt

    pub body-events : (b : List (Placed Step)) → All P (drawn_body f chain net b)
    unfolding drawn_body All
    body-events [] = tt
    body-events (s ∷ b) = all-++ P (drawn_step f chain net s.place s.what) (drawn_body f chain net b) (step-events s.place s.what) (body-events b)

  abbrev ByPassage : Passage → Type 0  -- a call is barred by one of these rules, or else leads to a definition
  ByPassage (barred r) = ByOutput r
  ByPassage (leads d) = Unit {0}

  passage_rule : (left : ℕ) (t : Table) (chain : Chain) (n : ℕ) (ts : List (Turn ℤ)) → ByPassage (passage_of left t chain n ts)
  unfolding passage_of passage_to
  passage_rule left t chain n ts = go (off_axes ts) (find n t)
    where
      further : (a b : Bool) (d : Definition) → ByPassage (if a then barred BeingDrawn else if b then barred TooDeep else leads d)
      further true b d = record { least = omega arith; most = omega arith }
      further false true d = record { least = omega arith; most = omega arith }
      further false false d = tt

      go : (a : Bool) (found : Option Definition) → ByPassage (if a then barred OffTheAxes else passage_to found left chain n)
      go true found = record { least = omega arith; most = omega arith }
      go false none = record { least = omega arith; most = omega arith }
      go false (some d) = further (any (λ c. eqb c.what n) chain) (eqb left 0) d

  through-events : (w : Passage) (p : ℕ) (chain : Chain) (go : Definition → List Event) → ByPassage w → ((d : Definition) → All P (go d)) → All P (through w p chain go)
  unfolding through All
  through-events (barred r) p chain go h f = (o.of_refusal r p chain h, tt)
  through-events (leads d) p chain go h f = (o.of_call p chain d, f d)

  pub call-events : (left : ℕ) (t : Table) (chain : Chain) (net : List (Turn ℤ)) (p n : ℕ) (ts : List (Turn ℤ)) → All P (drawn_call left t chain net p n ts)
  unfolding drawn_call All
  call-events zero t chain net p n ts = through-events (passage_of 0 t chain n ts) p chain (λ d. []) (passage_rule 0 t chain n ts) (λ d. tt)
  call-events (suc left) t chain net p n ts =
      let deeper : Chain = chain ++ (at p n ∷ []) in
      through-events (passage_of (suc left) t chain n ts) p chain (λ d. drawn_body (drawn_call left t deeper (ts ++ net)) deeper (ts ++ net) d.body)
      (passage_rule (suc left) t chain n ts)
      (λ d. body-events (drawn_call left t deeper (ts ++ net)) (λ q m us. call-events left t deeper (ts ++ net) q m us) deeper (ts ++ net) d.body)

  pub output-events : (t : Table) (s : Placed Step) → All P (happens t (output s))
  unfolding happens
  output-events t s = step-events (drawn_call deepest t [] []) (λ q m us. call-events deepest t [] [] q m us) [] [] s.place s.what
