-- RULES 12: a name for each row of the table, its number there, and the order in which the rules are looked at. A rule that
-- is added gets a name, its number, and its place in the order, which need not be by number. 5 is no rule's number since request 2.
use Rattle.std.specs.Prelude.{List, [], ◌∷◌, ℕ}
use Rattle.definition.specs.declared.Rule.{Rule}
use Rattle.definition.specs.declared.Rule.TheVariants.{TextTooLong, NotInGrammar, NumberTooLarge, ZeroFactor, ScaledTooLarge, DegenerateCommand, NoLayer, TooManyParts, TooManyLayers, TooManyDefinitions, TooFewWords, OffTheAxes, UndefinedSymbol, BeingDrawn, TooDeep, TooFewRecords, TooManyCalls, XOutOfRange, YOutOfRange, TooManyShapes, FlatFileTooLong, NoSuchShape}
use Rattle.definition.specs.declared.Refusal.{Refusal}

abbrev pub number_of : Rule → ℕ
number_of TextTooLong = 1
number_of NotInGrammar = 2
number_of NumberTooLarge = 3
number_of ZeroFactor = 4
number_of ScaledTooLarge = 6
number_of DegenerateCommand = 7
number_of NoLayer = 8
number_of TooManyParts = 9
number_of TooManyDefinitions = 10
number_of OffTheAxes = 11
number_of UndefinedSymbol = 12
number_of BeingDrawn = 13
number_of TooDeep = 14
number_of TooManyCalls = 15
number_of XOutOfRange = 16
number_of YOutOfRange = 20
number_of TooManyShapes = 17
number_of FlatFileTooLong = 18
number_of TooManyLayers = 19
number_of TooFewRecords = 21
number_of TooFewWords = 25
number_of NoSuchShape = 26

abbrev pub refuse : Rule → (place : ℕ) → Refusal
refuse r p = record { rule = r; place = p }

abbrev pub order : List Rule  -- RULES 12: 1; then 2; then 3 to 9, within a command by number; then 10 to 17, at one command by number; then 18. 19 among 3 to 9, 25 directly after 10, 21 after 14, 20 after 16, and 26 last
order =
    TextTooLong ∷ NotInGrammar ∷ NumberTooLarge ∷ ZeroFactor ∷ ScaledTooLarge ∷ DegenerateCommand ∷ NoLayer ∷ TooManyParts ∷ TooManyLayers
    ∷ TooManyDefinitions ∷ TooFewWords ∷ OffTheAxes ∷ UndefinedSymbol ∷ BeingDrawn ∷ TooDeep ∷ TooFewRecords ∷ TooManyCalls ∷ XOutOfRange ∷ YOutOfRange ∷ TooManyShapes ∷ FlatFileTooLong ∷ NoSuchShape ∷ []
