-- What each state of the recogniser stands for, and the tests of the tables against the grammar: antt computes each over every entry, so that the
-- tables need not be believed.
-- Assumes nothing.
use mathlib.Core.Path.{◌≡◌, refl}
use mathlib.Core.Bool.{Bool, true, false, not, ◌&&◌, ◌||◌}
use mathlib.Core.List.{List, [], ◌∷◌, ◌++◌}
use Prim.Native.Nat.{ℕ, zero, suc, ◌+◌, ◌-◌, ◌/◌, ◌%◌}
use lib.Dec.{T, ltb, leb, eqb}
use lib.ListN.{get_or}
use Rattle.grammar.specs.Steps.{choose, number, inside}
use Rattle.grammar.specs.Notation.{Class, Letter, has, is, one, skip, comment_text, Digit, Upper, Blank, User, Comment, lpar, rpar, semicolon, stop, second}
use Rattle.grammar.specs.Notation.{'-', 'B', 'C', 'D', 'E', 'F', 'L', 'M', 'P', 'R', 'S', 'T', 'W', 'X', 'Y'}
use Rattle.grammar.specs.Productions.{cif_file}
use Rattle.grammar.specs.Tables.{kinds, samples, tree, table, roles, ends, letter, state_count, role_unit, lpar_kind, accepting, kind_count, deep, rpar_kind, stuck, foreign_kind, role_count, inside_state, insides, start_kind, outside_state, finish_kind}
use Rattle.grammar.proofs.Derivatives.{Sequence, Choice, push, derive}
use Rattle.grammar.proofs.Items.{derive_items, final, part}
use Rattle.grammar.proofs.Roles.{sole_items}
use Rattle.grammar.proofs.Tests.{same_bit, every, upto}

-- a sequence within comments of depth d
abbrev pub under : ℕ → Sequence → Sequence
under zero i = i
under (suc d) i = comment_text ∷ one skip rpar ∷ under d i

abbrev pub deepen : ℕ → Choice → Choice
deepen d [] = []
deepen d (i ∷ is) = under d i ∷ deepen d is

unfoldable pub build : List (ℕ × Letter) → List Choice → List Choice
unfolding derive_items derive
build [] ls = ls
build (p ∷ t) ls = build t (ls ++ (derive_items p.1 (get_or ls p.0 []) ∷ []))

unfoldable pub labels : List Choice
unfolding build tree
labels = build tree ((push cif_file [] ∷ []) ∷ [])

pub labels_first : get_or labels 0 [] ≡ push cif_file [] ∷ []
unfolding labels is
labels_first = refl

-- what an entry of the table stands for
abbrev pub entry : List Choice → ℕ → Choice
entry ls x = choose (ltb x deep) (get_or ls x []) (choose (eqb x stuck) [] (deepen 1 (get_or ls (x - deep) [])))

abbrev pub ranged : ℕ → Bool
ranged x = ltb x state_count || (eqb x stuck || (leb deep x && ltb x (deep + state_count)))

-- a test of the entry x at a state and a kind passes at every entry of the table
abbrev pub every_entry : (ℕ → ℕ → ℕ → Bool) → List ℕ → Bool
every_entry f xs = every (λ i x. f (i / kind_count) (i % kind_count) x) 0 xs

-- entry x at state q and kind k is what the grammar has there, and so is the role
unfoldable pub fits : List Choice → ℕ → ℕ → ℕ → Bool
unfolding part derive_items sole_items
fits ls q k x =
    let ρ = get_or roles (x / role_unit) skip in
    let y = x % role_unit in
    let b = get_or samples k 0 in
    let l = get_or ls q [] in
    let is = derive_items (letter b ρ) l in
    (ranged y && ltb (x / role_unit) role_count) && (sole_items b ρ l && (part is (entry ls y) && part (entry ls y) is))

pub table_fits : T (every_entry (fits labels) table)
unfolding fits labels table samples is
table_fits = tt

-- the other tests: a byte and its kind's byte are of the same classes; the kinds that a comment tells apart; the accepting state; a completion of each state
abbrev pub classes : List Class
classes =
    Digit ∷ Upper ∷ Blank ∷ User ∷ Comment ∷ '-' ∷ lpar ∷ rpar ∷ semicolon
    ∷ 'B' ∷ 'C' ∷ 'D' ∷ 'E' ∷ 'F' ∷ 'L' ∷ 'M' ∷ 'P' ∷ 'R' ∷ 'S' ∷ 'T' ∷ 'W' ∷ 'X' ∷ 'Y' ∷ []

abbrev pub alike : List Class → ℕ → ℕ → Bool
alike [] a b = true
alike (c ∷ cs) a b = same_bit (has c a) (has c b) && alike cs a b

unfoldable pub kind_fits : ℕ → ℕ → Bool
kind_fits a k = ltb k kind_count && alike classes a (get_or samples k 0)

pub kinds-fit : T (every kind_fits 0 kinds)
unfolding kind_fits kinds samples has
kinds-fit = tt

unfoldable pub sample_fits : ℕ → ℕ → Bool
sample_fits k b =
    same_bit (has lpar b) (eqb k lpar_kind)
    && (same_bit (has rpar b) (eqb k rpar_kind) && same_bit (has Comment b) (not (eqb k lpar_kind) && (not (eqb k rpar_kind) && not (eqb k foreign_kind))))

pub samples-fit : T (every sample_fits 0 samples)
unfolding sample_fits samples has
samples-fit = tt

unfoldable pub reach : Choice → List Letter → Choice
unfolding derive_items
reach is [] = is
reach is (a ∷ w) = reach (derive_items a is) w

unfoldable pub last_one_fits : ℕ → Bool
unfolding labels reach ends
last_one_fits q = same_bit (final (get_or labels q [])) (eqb q accepting) && final (reach (get_or labels q []) (get_or ends q []))

pub last_fits : T (upto last_one_fits state_count)
unfolding upto last_one_fits is
last_fits = tt

-- the numbers of the roles
unfoldable pub role_fits : ℕ → Bool
unfolding number
role_fits m = eqb (number (get_or roles m skip)) m

pub roles-fit : T (upto role_fits role_count)
unfolding upto role_fits
roles-fit = tt

-- only the S of a DS leads into definitions and only the F of a DF leads out of them; and a command's semicolon leads to one state within them and to
-- one outside
abbrev pub inside_next : ℕ → ℕ → Bool → Bool
inside_next m k i = choose (eqb m (number second)) (choose (eqb k start_kind) true (choose (eqb k finish_kind) false i)) i

abbrev pub state_behind : Bool → ℕ
state_behind i = choose i inside_state outside_state

unfoldable pub inside_fits : ℕ → ℕ → ℕ → Bool
inside_fits q k x =
    let m = x / role_unit in
    let to = x % role_unit in
    let now = inside q in
    eqb to stuck
    || (same_bit (inside (choose (ltb to deep) to (to - deep))) (inside_next m k now)
    && (not (eqb m (number stop)) || eqb to (state_behind now)))

pub insides-fit : T (every_entry inside_fits table)
unfolding inside_fits inside insides table number
insides-fit = tt
