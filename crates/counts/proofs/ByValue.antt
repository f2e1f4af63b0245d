-- What the contracts say, shown from what `one_more` answers, and read by callers.
--     call-counted, shape-counted, redefinition-counted    from the record that the code writes, or the rule that it hands up
--     call-goes, call-stops, shape-goes, shape-stops       for callers: what the definition's `counted` says, where the answer is Ok and where it is Err
--     call-more, shape-more                                and the counts of the answer Ok
-- Assumes nothing.
use Rattle.std.specs.Prelude.{Result, Ok, Err, if◌then◌else◌}
use mathlib.Core.Path.{◌≡◌, refl, sym, ap, ◌∙◌}
use mathlib.Core.Bool.{Bool, true, false}
use Prim.Native.Nat.{ℕ, ◌+◌, ◌<◌}
use borrow.Author.Tests.{ltb-true}
use lib.Dec.{ltb}
use Rattle.definition.specs.Table.{Definition}
use Rattle.definition.specs.Drawing.{Chain, Drawn, called, drew}
use Rattle.definition.specs.Counts.{End, finished, stopped, counted}
use Rattle.definition.specs.Limits.{most_calls, most_shapes}
use Rattle.definition.specs.Rules.{refuse}
use Rattle.definition.specs.declared.Rule.{Rule}
use Rattle.definition.specs.declared.Rule.TheVariants.{TooManyCalls, TooManyShapes}
use Rattle.counts.specs.declared.Counts.{Counts}
use Rattle.counts.specs.Counting.{tally, with_calls, with_shapes, with_redefinitions, one_more, end_of, CountsCall, CountsShape, CountsRedefinition}

-- ---- the two answers
module _ {r : Result Counts Rule} {x : End} (p : ℕ) (chain : Chain) (ends : x ≡ end_of r p chain) where
  goes_so : (c' : Counts) → r ≡ Ok c' → x ≡ finished (tally c')
  unfolding end_of
  goes_so c' q = ends ∙ ap (λ (a : Result Counts Rule). end_of a p chain) q

  stops_so : (rule : Rule) → r ≡ Err rule → x ≡ stopped (refuse rule p) chain
  unfolding end_of
  stops_so rule q = ends ∙ ap (λ (a : Result Counts Rule). end_of a p chain) q

-- ---- a count that has a limit, over any record that a number goes into
module _ (had most : ℕ) (rule : Rule) (into : ℕ → Counts) where
  abbrev written_out : Result Counts Rule
  written_out = if ltb had most then Ok (into (had + 1)) else Err rule

  -- the answer
  went : (n : ℕ) → one_more had most rule ≡ Ok n → Ok (into n) ≡ written_out
  went n q = go (ltb had most) q
    where
      go : (b : Bool) → (if b then Ok (had + 1) else Err rule) ≡ Ok n → Ok (into n) ≡ (if b then Ok (into (had + 1)) else Err rule)
      go true q = cc
      go false q = cc

  stopped_at : (r : Rule) → one_more had most rule ≡ Err r → Err r ≡ written_out
  stopped_at r q = go (ltb had most) q
    where
      go : (b : Bool) → (if b then Ok (had + 1) else Err rule) ≡ Err r → Err r ≡ (if b then Ok (into (had + 1)) else Err rule)
      go true q = cc
      go false q = cc

  -- as the definition says it
  ends_so : (p : ℕ) (chain : Chain) → (if ltb had most then finished (tally (into (had + 1))) else stopped (refuse rule p) chain) ≡ end_of written_out p chain
  unfolding end_of
  ends_so p chain = go (ltb had most)
    where
      go : (b : Bool) → (if b then finished (tally (into (had + 1))) else stopped (refuse rule p) chain) ≡ end_of (if b then Ok (into (had + 1)) else Err rule) p chain
      go true = refl
      go false = refl

  -- what it tells
  more_so : (c' : Counts) → written_out ≡ Ok c' → (had < most) × (c' ≡ into (had + 1))
  more_so c' q = go (ltb had most) refl q
    where
      go : (b : Bool) → ltb had most ≡ b → (if b then Ok (into (had + 1)) else Err rule) ≡ Ok c' → (had < most) × (c' ≡ into (had + 1))
      go true e q = (ltb-true had most e, cc)
      go false e q = cc

-- ---- a call
module _ (c : Counts) where
  call-counted : {r : Result Counts Rule} → r ≡ written_out c.calls most_calls TooManyCalls (with_calls c) → CountsCall c r
  unfolding counted
  call-counted q =
      record { is = q; ends = λ p chain d. ends_so c.calls most_calls TooManyCalls (with_calls c) p chain ∙ ap (λ (x : Result Counts Rule). end_of x p chain) (sym q) }

  pub call-counted-more : (n : ℕ) → one_more c.calls most_calls TooManyCalls ≡ Ok n → CountsCall c (Ok (with_calls c n))
  call-counted-more n q = call-counted (went c.calls most_calls TooManyCalls (with_calls c) n q)

  pub call-counted-full : (rule : Rule) → one_more c.calls most_calls TooManyCalls ≡ Err rule → CountsCall c (Err rule)
  call-counted-full rule q = call-counted (stopped_at c.calls most_calls TooManyCalls (with_calls c) rule q)

module _ (c : Counts) {r : Result Counts Rule} (k : CountsCall c r) where
  pub call-goes : (c' : Counts) → r ≡ Ok c' → (p : ℕ) (chain : Chain) (d : Definition) → counted (tally c) (called p chain d) ≡ finished (tally c')
  call-goes c' q p chain d = goes_so p chain (k.ends p chain d) c' q

  pub call-stops : (rule : Rule) → r ≡ Err rule → (p : ℕ) (chain : Chain) (d : Definition) → counted (tally c) (called p chain d) ≡ stopped (refuse rule p) chain
  call-stops rule q p chain d = stops_so p chain (k.ends p chain d) rule q

  pub call-more : (c' : Counts) → r ≡ Ok c' → (c.calls < most_calls) × (c' ≡ with_calls c (c.calls + 1))
  call-more c' q = more_so c.calls most_calls TooManyCalls (with_calls c) c' (sym k.is ∙ q)

-- ---- a shape
module _ (c : Counts) where
  shape-counted : {r : Result Counts Rule} → r ≡ written_out c.shapes most_shapes TooManyShapes (with_shapes c) → CountsShape c r
  unfolding counted
  shape-counted q =
      record { is = q; ends = λ d. ends_so c.shapes most_shapes TooManyShapes (with_shapes c) d.place d.chain ∙ ap (λ (x : Result Counts Rule). end_of x d.place d.chain) (sym q) }

  pub shape-counted-more : (n : ℕ) → one_more c.shapes most_shapes TooManyShapes ≡ Ok n → CountsShape c (Ok (with_shapes c n))
  shape-counted-more n q = shape-counted (went c.shapes most_shapes TooManyShapes (with_shapes c) n q)

  pub shape-counted-full : (rule : Rule) → one_more c.shapes most_shapes TooManyShapes ≡ Err rule → CountsShape c (Err rule)
  shape-counted-full rule q = shape-counted (stopped_at c.shapes most_shapes TooManyShapes (with_shapes c) rule q)

module _ (c : Counts) {r : Result Counts Rule} (k : CountsShape c r) where
  pub shape-goes : (c' : Counts) → r ≡ Ok c' → (d : Drawn) → counted (tally c) (drew d) ≡ finished (tally c')
  shape-goes c' q d = goes_so d.place d.chain (k.ends d) c' q

  pub shape-stops : (rule : Rule) → r ≡ Err rule → (d : Drawn) → counted (tally c) (drew d) ≡ stopped (refuse rule d.place) d.chain
  shape-stops rule q d = stops_so d.place d.chain (k.ends d) rule q

  pub shape-more : (c' : Counts) → r ≡ Ok c' → (c.shapes < most_shapes) × (c' ≡ with_shapes c (c.shapes + 1))
  shape-more c' q = more_so c.shapes most_shapes TooManyShapes (with_shapes c) c' (sym k.is ∙ q)

-- ---- a redefinition
pub redefinition-counted : (c : Counts) → CountsRedefinition c (with_redefinitions c (c.redefinitions + 1))
unfolding counted
redefinition-counted c = record { is = refl; ends = λ d before e. rw e refl }
