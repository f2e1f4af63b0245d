-- What a call of a symbol gives, by the calls of each symbol's body and the set of its own layers: recursion over callees with an allowance. `walk` has the
-- symbols that are open, as crates/definition has (`reply_to`), and `free` does without: a symbol that stands has no cycle below it, so the two agree on
-- it, and its height answers for any allowance (proofs/Walking.antt). A running account, not to be believed: proofs/Replied.antt says that it is `reply_to`.
-- Assumes nothing.
use Rattle.std.specs.Prelude.{Bool, true, false, List, [], ◌∷◌, ℕ, zero, suc, ◌+◌, Result, Ok, Err, max, eqb, ltb, ℤ, if◌then◌else◌}
use Rattle.std.proofs.Math.Option.{Option, none, some}
use Rattle.std.specs.Int.Bits.{bit_or}
use Rattle.definition.specs.Words.{any}
use Rattle.definition.specs.declared.Rule.{Rule}
use Rattle.definition.specs.declared.Rule.TheVariants.{UndefinedSymbol, BeingDrawn, TooDeep}
use Rattle.definition.specs.Table.{Definition, find}
use Rattle.library.specs.Memory.{symbol_at, table_of}
use Rattle.columns.specs.declared.Own.{Own}
use Rattle.columns.specs.Columns.{own_at}
use Rattle.heights.specs.Calls.{calls_of}
use Rattle.heights.specs.declared.Standing.{Standing}

-- a live symbol: the symbols that its body calls, in written order, and the set of its own layers
pub record Node : Type 0 where
  pub calls : List ℕ
  pub own : ℕ

abbrev pub Graph : Type 0
Graph = ℕ → Option Node

-- the reply of a symbol of this height and with this set
abbrev pub standing : (height layers : ℕ) → Result Standing Rule
standing h s = Ok (record { height = h; layers = s })

-- a callee's reply, and what follows where it stands
unfoldable pub thence : Result Standing Rule → (ℕ → ℕ → Result Standing Rule) → Result Standing Rule
thence (Err r) go = Err r
thence (Ok x) go = go x.height x.layers

-- calls one after another: the tallest so far, and the layers so far
unfoldable pub through : (ℕ → Result Standing Rule) → (tallest set : ℕ) → List ℕ → Result Standing Rule
through f h s [] = standing h s
through f h s (c ∷ cs) = thence (f c) (λ k u. through f (max h k) (bit_or s u) cs)

-- one more than the tallest callee
unfoldable pub raised : Result Standing Rule → Result Standing Rule
raised (Err r) = Err r
raised (Ok x) = standing (x.height + 1) x.layers

-- undefined, being drawn, or what its node leads to
unfoldable pub enters : Option Node → (busy : Bool) → (Node → Result Standing Rule) → Result Standing Rule
enters none busy go = Err UndefinedSymbol
enters (some d) true go = Err BeingDrawn
enters (some d) false go = go d

-- a symbol is one of those that are open
abbrev pub among : ℕ → List ℕ → Bool
among n o = any (λ m. eqb m n) o

-- too deep where no level is left, and else its body is gone through one level down, with the symbol open
unfoldable pub walk : Graph → (left : ℕ) → List ℕ → ℕ → Result Standing Rule
walk g zero o n = enters (g n) (among n o) (λ d. Err TooDeep)
walk g (suc left) o n = enters (g n) (among n o) (λ d. raised (through (walk g left (n ∷ o)) 0 d.own d.calls))

-- the same, whatever is open: a symbol that calls itself comes to be too deep
unfoldable pub free : Graph → (left : ℕ) → ℕ → Result Standing Rule
free g zero n = enters (g n) false (λ d. Err TooDeep)
free g (suc left) n = enters (g n) false (λ d. raised (through (free g left) 0 d.own d.calls))

-- a known height and set, where so many levels are left: too deep where the height is larger
abbrev pub within : (left : ℕ) → ℕ → ℕ → Result Standing Rule
within left h s = if ltb left h then Err TooDeep else standing h s

-- ---- the table that memory holds, with a set beside each row

-- the set beside the first row of this symbol, from row i on
unfoldable pub set_from : List ℕ → List Own → ℕ → ℕ → ℕ → ℕ
set_from rows own n i zero = 0
set_from rows own n i (suc k) =
    let later = set_from rows own n (i + 1) k in
    if eqb (symbol_at rows i) n then (own_at own i).layers else later

abbrev pub node_of : Option Definition → ℕ → Option Node
node_of none s = none
node_of (some d) s = some (record { calls = calls_of d.body; own = s })

abbrev pub graph_in : List ℕ → List ℤ → ℕ → List Own → Graph
graph_in rows b live own n = node_of (find n (table_of rows b live)) (set_from rows own n 0 live)
