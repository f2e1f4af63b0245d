-- How the recogniser goes over a text: a state, and how many comments are open. A running account, not to be believed: proofs/Automaton.antt and
-- proofs/Verdicts.antt prove it equal to the grammar. It stands in specs/ because contracts of the step and of crates above name it.
-- Assumes nothing.
use Rattle.std.specs.Prelude.{◌≡◌, Bool, true, false, ◌&&◌, List, [], ◌∷◌, ℕ, ◌+◌, ◌-◌, ◌*◌, ◌/◌, ◌%◌, ltb, eqb, get_or, Err, Ok, Result}
use Rattle.grammar.specs.Notation.{Role, Letter, skip, head, second, turn, axis, sign, lead, later, name, stop}
use Rattle.grammar.specs.Tables.{kind_count, role_unit, stuck, deep, accepting, lpar_kind, rpar_kind, foreign_kind, kinds, table, roles, insides, letter}
use Rattle.grammar.specs.declared.Mode.{Mode}
use Rattle.grammar.specs.declared.Move.{Move}

-- the kind of a byte, the table's entry at a state and a kind, and where it leads
unfoldable pub kind_of : ℕ → ℕ
kind_of a = get_or kinds a 0

unfoldable pub entry_of : ℕ → ℕ → ℕ
entry_of q k = get_or table (q * kind_count + k) 0

unfoldable pub next_of : ℕ → ℕ → ℕ
unfolding entry_of
next_of q k = entry_of q k % role_unit

-- more comments than this cannot be open, since each takes a byte of the text
abbrev pub depth_limit : ℕ
depth_limit = 9223372036854775808

abbrev pub mode : ℕ → ℕ → Mode
mode q d = record { state = q; depth = d }

abbrev pub choose : {A : Type 0} → Bool → A → A → A
choose true p r = p
choose false p r = r

-- where an entry leads to: a state, nowhere, or into a comment
abbrev pub entered : ℕ → Mode
entered x = choose (ltb x deep) (mode x 0) (choose (eqb x stuck) (mode stuck 0) (mode (x - deep) 1))

-- within comments of depth d, at a byte of kind k
abbrev pub within : ℕ → ℕ → ℕ → Mode
within q d k =
    choose (eqb k lpar_kind) (mode q (d + 1)) (choose (eqb k rpar_kind) (mode q (d - 1)) (choose (eqb k foreign_kind) (mode stuck 0) (mode q d)))

-- where the byte a leads from state q and depth d
unfoldable pub mode_after : ℕ → ℕ → ℕ → Mode
mode_after q d a = choose (eqb d 0) (entered (next_of q (kind_of a))) (within q d (kind_of a))

-- the number of the role of the byte a there, which within comments is that of skip; and the role
unfoldable pub mark_of : ℕ → ℕ → ℕ → ℕ
unfolding entry_of
mark_of q d a = choose (eqb d 0) (entry_of q (kind_of a) / role_unit) 0

unfoldable pub role_of : ℕ → ℕ → ℕ → Role
role_of q d a = get_or roles (mark_of q d a) skip

-- the number of a role
unfoldable pub number : Role → ℕ
number skip = 0
number sign = 1
number later = 2
number lead = 3
number stop = 4
number head = 5
number second = 6
number turn = 7
number axis = 8
number name = 9

-- the state lies within a definition
unfoldable pub inside : ℕ → Bool
inside q = get_or insides q false

-- the roles of a text's bytes from state q and depth d on, as far as the recogniser goes
unfoldable pub marked : ℕ → ℕ → List ℕ → List Letter
marked q d [] = []
marked q d (a ∷ w) =
    let p = mode_after q d a in
    choose (eqb p.state stuck) [] (letter a (role_of q d a) ∷ marked p.state p.depth w)

-- the verdict on what is left of a text at place n
unfoldable pub verdict_of : ℕ → ℕ → ℕ → List ℕ → Result Unit ℕ
verdict_of q d n [] = choose (eqb q accepting && eqb d 0) (Ok tt) (Err n)
verdict_of q d n (a ∷ w) =
    let p = mode_after q d a in
    choose (eqb p.state stuck) (Err n) (verdict_of p.state p.depth (n + 1) w)

-- the lent tables are those that are tested
pub record KindsLent (lent : List ℕ) : Type 0 where
  pub is : lent ≡ kinds

pub record NextLent (lent : List ℕ) : Type 0 where
  pub is : lent ≡ table

-- what a step gives: where it leads, and the number of the byte's role
pub record Moved (q d b : ℕ) (r : Move) : Type 0 where
  pub goes : mode r.state r.depth ≡ mode_after q d b
  pub mark : r.mark ≡ mark_of q d b
