-- Refusals 3 to 9 of whole commands as they are written, in text order. A running account, not to be believed: the refusals stand in crates/definition,
-- and crates/reading shows that on a text of the grammar the two come to the same. All is over ℕ: a number is its distance from zero.
-- Assumes nothing.
use Rattle.std.specs.Prelude.{Bool, true, false, ◌&&◌, List, [], ◌∷◌, ℕ, ◌+◌, ltb, eqb, length, if◌then◌else◌, Err, Ok, Result}
use Rattle.grammar.specs.Notation.{Letter}
use Rattle.definition.specs.declared.Refusal.{Refusal}
use Rattle.definition.specs.Limits.{largest}
use Rattle.pieces.specs.Pieces.{letter_s, letter_f, pieces}
use Rattle.rules.specs.Letters.{letter_d, letter_l, no_refusal, first_unit}
use Rattle.rules.specs.Written.{Written, Figure, written, numbers, letters, last_letter, size_at, packed_by, turns_of}
use Rattle.rules.specs.Rules.{rule_of, scaled_by, rounded_by, vital, scaleless, few, bare, many}
use Rattle.checking.specs.declared.Scope.{Scope}

-- the layer that is set, packed; 0 for none
abbrev pub layer_of : Scope → ℕ
layer_of s = if s.inside then s.inner else s.outer

-- the number and the place of what is said against a command
pub record Blame : Type 0 where
  pub no : ℕ
  pub place : ℕ

abbrev pub blame : ℕ → ℕ → Blame
blame n p = record { no = n; place = p }

abbrev pub refusal : (number place : ℕ) → Refusal
refusal n p = record { rule = rule_of n; place = p }

abbrev pub when : Bool → ℕ → ℕ → List Blame → List Blame
when b n p r = if b then blame n p ∷ r else r

-- against a number of the command at place p with the first letter l
abbrev pub of_number : Scope → ℕ → ℕ → Figure → List Blame → List Blame
of_number s p l f r =
    let v = scaled_by s.a s.b l f.word f.index f.size in
    when (ltb largest f.size) 3 f.place
    (when (ltb largest v) 6 f.place
    (when (eqb v 0 && vital l f.word f.index f.zero) 7 p r))

unfoldable pub of_numbers : Scope → ℕ → ℕ → List Figure → List Blame → List Blame
of_numbers s p l [] r = r
of_numbers s p l (f ∷ fs) r = of_number s p l f (of_numbers s p l fs r)

-- against the command as a whole
abbrev pub of_whole : ℕ → ℕ → ℕ → ℕ → ℕ → ℕ → ℕ → ℕ → List Blame
of_whole p l w n t a b y =
    when (scaleless l w a b) 4 p
    (when (few l n) 7 p
    (when (bare l y) 8 p
    (when (many l n t) 9 p [])))

-- all that is said against a command, in text order
unfoldable pub blames : Scope → Written → List Blame
blames s c =
    let ns = numbers c in
    of_numbers s c.place c.letter ns
    (of_whole c.place c.letter (last_letter c) (length ns) (turns_of (letters c.items)) (size_at 1 ns 1) (size_at 1 ns 2) (layer_of s))

-- RULES 12: within a command by number, within a number by place
abbrev pub sooner : Blame → Blame → Blame
sooner x y = if ltb y.no x.no then y else x

unfoldable pub foremost : List Blame → Blame
foremost [] = blame no_refusal 0
foremost (x ∷ xs) = sooner x (foremost xs)

abbrev pub fault_by : Blame → Result ℕ Refusal → Result ℕ Refusal
fault_by x f = if ltb x.no no_refusal then Err (refusal x.no x.place) else f

-- what stands behind a command with the first letter l, the last letter w, the scale a, b and the name: DS opens a definition with no layer set, DF
-- closes it, and L sets the layer where it stands
abbrev pub scope : Bool → ℕ → ℕ → ℕ → ℕ → Scope
scope i a b outer inner = record { inside = i; a = a; b = b; outer = outer; inner = inner }

abbrev pub scope_by : Scope → ℕ → ℕ → ℕ → ℕ → ℕ → Scope
scope_by s l w a b name =
    if eqb l letter_d then (if eqb w letter_s then scope true a b s.outer 0 else if eqb w letter_f then scope false 1 1 s.outer 0 else s)
    else if eqb l letter_l then (if s.inside then scope true s.a s.b s.outer name else scope false s.a s.b name s.inner)
    else s

unfoldable pub scope_after : Scope → Written → Scope
scope_after s c =
    let ns = numbers c in
    scope_by s c.letter (last_letter c) (size_at 1 ns 1) (size_at 1 ns 2) (packed_by first_unit (letters c.items))

-- RULES 6, request 2: how many numbers of a command with the first letter l are rounded
unfoldable pub rounded_of : Scope → ℕ → List Figure → ℕ
rounded_of s l [] = 0
rounded_of s l (f ∷ fs) = rounded_by s.a s.b l f.word f.index f.size + rounded_of s l fs

-- RULES 12: for all commands in text order; where there is no fault, how many numbers are rounded, after k of them
unfoldable pub fault_from : Scope → ℕ → List Written → Result ℕ Refusal
fault_from s k [] = Ok k
fault_from s k (c ∷ cs) = fault_by (foremost (blames s c)) (fault_from (scope_after s c) (k + rounded_of s c.letter (numbers c)) cs)

abbrev pub at_start : Scope
at_start = scope false 1 1 0 0

-- the account's first fault of a marked text
abbrev pub fault_of : List Letter → Result ℕ Refusal
fault_of m = fault_from at_start 0 (written (pieces 0 0 m))
