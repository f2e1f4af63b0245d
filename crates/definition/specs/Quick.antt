-- The recogniser's account of a text, over a table whose rows are packed into one number each: to find an entry in a list of 2,332 was most of the time that a computed
-- row took. Not to be believed: proofs/Quick.antt proves it equal to the account that contracts name.
-- Assumes nothing.
use Rattle.std.specs.Prelude.{List, [], ◌∷◌, ◌&&◌, ℕ, zero, suc, ◌+◌, ◌*◌, ◌/◌, ◌%◌, ◌^◌, eqb, get_or, drop, Err, Ok, Result}
use Rattle.grammar.specs.Notation.{Letter, skip}
use Rattle.grammar.specs.Tables.{state_count, kind_count, role_unit, stuck, accepting, table, roles, letter}
use Rattle.grammar.specs.Steps.{kind_of, choose, entered, within}
use Rattle.grammar.specs.declared.Mode.{Mode}

-- more than any entry of the table
abbrev pub entry_unit : ℕ
entry_unit = 4096

-- the first entries of a list, so many, in one number; and the rows of so many states
unfoldable pub packed : ℕ → List ℕ → ℕ
packed zero entries = 0
packed (suc n) [] = 0
packed (suc n) (e ∷ entries) = e + entry_unit * packed n entries

unfoldable pub packed_rows : ℕ → List ℕ → List ℕ
packed_rows zero entries = []
packed_rows (suc states) entries = packed kind_count entries ∷ packed_rows states (drop kind_count entries)

abbrev pub entry_in : List ℕ → ℕ → ℕ → ℕ
entry_in rows q k = get_or rows q 0 / entry_unit ^ k % entry_unit

-- where a byte of kind k leads from state q and depth d, whose entry is e
abbrev pub mode_by : ℕ → ℕ → ℕ → ℕ → Mode
mode_by q d k e = choose (eqb d 0) (entered (e % role_unit)) (within q d k)

unfoldable pub marking_by : List ℕ → ℕ → ℕ → List ℕ → List Letter
marking_by rows q d [] = []
marking_by rows q d (a ∷ w) =
    let k = kind_of a in
    let e = entry_in rows q k in
    let p = mode_by q d k e in
    choose (eqb p.state stuck) [] (letter a (get_or roles (choose (eqb d 0) (e / role_unit) 0) skip) ∷ marking_by rows p.state p.depth w)

unfoldable pub verdict_by : List ℕ → ℕ → ℕ → ℕ → List ℕ → Result Unit ℕ
verdict_by rows q d n [] = choose (eqb q accepting && eqb d 0) (Ok tt) (Err n)
verdict_by rows q d n (a ∷ w) =
    let k = kind_of a in
    let p = mode_by q d k (entry_in rows q k) in
    choose (eqb p.state stuck) (Err n) (verdict_by rows p.state p.depth (n + 1) w)

-- the letters of a text, and the verdict on it
unfoldable pub quick_letters : List ℕ → List Letter
quick_letters t = marking_by (packed_rows state_count table) 0 0 t

unfoldable pub quick_verdict : List ℕ → Result Unit ℕ
quick_verdict t = verdict_by (packed_rows state_count table) 0 0 0 t
