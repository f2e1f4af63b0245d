-- The rules of the table of RULES 12 by their order and by their numbers: when a rule is earlier than another, that no two have the same rank or the same
-- number, and that no number is 0, which says success. And the two stretches of the order: the rules that a command breaks, and those that stop a drawing.
-- Assumes nothing.
use Rattle.std.specs.Prelude.{if◌then◌else◌}
use mathlib.Core.Path.{◌≡◌, refl, sym, ap, ◌∙◌}
use mathlib.Core.List.{List, [], ◌∷◌}
use Prim.Native.Nat.{ℕ, suc, ◌≤◌, ◌<◌}
use native.Mathlib.Omega.{arith}
use lib.Dec.{eqb}
use lib.ListN.{get_or}
use Rattle.definition.specs.declared.Refusal.{Refusal}
use Rattle.definition.specs.declared.Rule.{Rule}
use Rattle.definition.specs.declared.Rule.TheVariants.{TextTooLong, NotInGrammar, NumberTooLarge, ZeroFactor, ScaledTooLarge, DegenerateCommand, NoLayer}
use Rattle.definition.specs.declared.Rule.TheVariants.{TooManyParts, TooManyLayers, TooManyDefinitions, TooFewWords, OffTheAxes, UndefinedSymbol, BeingDrawn, TooDeep, TooFewRecords, TooManyCalls, XOutOfRange, YOutOfRange}
use Rattle.definition.specs.declared.Rule.TheVariants.{TooManyShapes, FlatFileTooLong, NoSuchShape}
use Rattle.definition.specs.Rules.{number_of, refuse, order}

abbrev pub rank_in : List Rule → (number : ℕ) → ℕ  -- how many rules stand before the one of this number
rank_in [] n = 0
rank_in (r ∷ rs) n = if eqb (number_of r) n then 0 else suc (rank_in rs n)

abbrev pub rank : Rule → ℕ
rank r = rank_in order (number_of r)

abbrev pub Earlier : Rule → Rule → Type 0
Earlier r q = rank r < rank q

-- the rules a to b of the order
pub record Between (a b r : Rule) : Type 0 where
  pub least : rank a ≤ rank r
  pub most : rank r ≤ rank b

abbrev pub ByCommand : Rule → Type 0  -- RULES 12, refusals 3 to 9
ByCommand r = Between NumberTooLarge TooManyParts r

abbrev pub ByDrawing : Rule → Type 0  -- RULES 12, refusals 10 to 17, 20 and 25
ByDrawing r = Between TooManyDefinitions TooManyShapes r

abbrev pub UnderCalls : Rule → Type 0  -- those of them that can be broken where calls are open: 11 to 17, and 20
UnderCalls r = Between OffTheAxes TooManyShapes r

-- every rule stands in the order
standing_there : (r : Rule) → get_or order (rank r) TextTooLong ≡ r
standing_there TextTooLong = refl
standing_there NotInGrammar = refl
standing_there NumberTooLarge = refl
standing_there ZeroFactor = refl
standing_there ScaledTooLarge = refl
standing_there DegenerateCommand = refl
standing_there NoLayer = refl
standing_there TooManyParts = refl
standing_there TooManyLayers = refl
standing_there TooManyDefinitions = refl
standing_there TooFewWords = refl
standing_there OffTheAxes = refl
standing_there UndefinedSymbol = refl
standing_there BeingDrawn = refl
standing_there TooDeep = refl
standing_there TooFewRecords = refl
standing_there TooManyCalls = refl
standing_there XOutOfRange = refl
standing_there YOutOfRange = refl
standing_there TooManyShapes = refl
standing_there FlatFileTooLong = refl
standing_there NoSuchShape = refl

pub one_rank : (r q : Rule) → rank r ≡ rank q → r ≡ q
one_rank r q e = sym (standing_there r) ∙ ap (λ (n : ℕ). get_or order n TextTooLong) e ∙ standing_there q

pub one_number : (r q : Rule) → number_of r ≡ number_of q → r ≡ q
one_number r q e = one_rank r q (ap (rank_in order) e)

-- so a refusal is by one rule
pub one_rule : (r q : Rule) {p o : ℕ} → refuse r p ≡ refuse q o → r ≡ q
one_rule r q e = ap (λ (x : Refusal). x.rule) e

pub number_from-1 : (r : Rule) → 1 ≤ number_of r
number_from-1 TextTooLong = omega arith
number_from-1 NotInGrammar = omega arith
number_from-1 NumberTooLarge = omega arith
number_from-1 ZeroFactor = omega arith
number_from-1 ScaledTooLarge = omega arith
number_from-1 DegenerateCommand = omega arith
number_from-1 NoLayer = omega arith
number_from-1 TooManyParts = omega arith
number_from-1 TooManyLayers = omega arith
number_from-1 TooManyDefinitions = omega arith
number_from-1 TooFewWords = omega arith
number_from-1 OffTheAxes = omega arith
number_from-1 UndefinedSymbol = omega arith
number_from-1 BeingDrawn = omega arith
number_from-1 TooDeep = omega arith
number_from-1 TooFewRecords = omega arith
number_from-1 TooManyCalls = omega arith
number_from-1 XOutOfRange = omega arith
number_from-1 YOutOfRange = omega arith
number_from-1 TooManyShapes = omega arith
number_from-1 FlatFileTooLong = omega arith
number_from-1 NoSuchShape = omega arith

-- RULES 12, request 2: 5 is no rule's number any more
pub number_not-5 : (r : Rule) → number_of r ≡ 5 → ⊥
number_not-5 TextTooLong e = omega arith
number_not-5 NotInGrammar e = omega arith
number_not-5 NumberTooLarge e = omega arith
number_not-5 ZeroFactor e = omega arith
number_not-5 ScaledTooLarge e = omega arith
number_not-5 DegenerateCommand e = omega arith
number_not-5 NoLayer e = omega arith
number_not-5 TooManyParts e = omega arith
number_not-5 TooManyLayers e = omega arith
number_not-5 TooManyDefinitions e = omega arith
number_not-5 TooFewWords e = omega arith
number_not-5 OffTheAxes e = omega arith
number_not-5 UndefinedSymbol e = omega arith
number_not-5 BeingDrawn e = omega arith
number_not-5 TooDeep e = omega arith
number_not-5 TooFewRecords e = omega arith
number_not-5 TooManyCalls e = omega arith
number_not-5 XOutOfRange e = omega arith
number_not-5 YOutOfRange e = omega arith
number_not-5 TooManyShapes e = omega arith
number_not-5 FlatFileTooLong e = omega arith
number_not-5 NoSuchShape e = omega arith
