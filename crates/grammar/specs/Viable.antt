-- Which texts are CIF and which can still become CIF: what refusal 2 goes by, and all that the recogniser's contract cites.
use Rattle.std.specs.Prelude.{◌≡◌, List, [], ◌∷◌, ◌++◌, ℕ, ◌≤◌, length, take, Err, Ok, Result}
use Rattle.grammar.specs.Notation.{Letter, Match}
use Rattle.grammar.specs.Productions.{cif_file}

abbrev pub bytes : List Letter → List ℕ
bytes [] = []
bytes (l ∷ m) = l.byte ∷ bytes m

pub record Marked (t : List ℕ) (m : List Letter) : Type 0 where  -- m is the text t with roles that the grammar gives its characters
  pub reads : bytes m ≡ t
  pub rule : Match cif_file m

abbrev pub Grammatical : List ℕ → Type 0  -- RULES 12, refusal 2: "in the grammar"
Grammatical t = (m : List Letter) × Marked t m

abbrev pub Viable : List ℕ → Type 0  -- "a prefix that some continuation completes to a grammatical text"
Viable p = (q : List ℕ) × Grammatical (p ++ q)

pub record LongestViable (t : List ℕ) (n : ℕ) : Type 0 where  -- "length of the longest" such prefix
  pub within : n ≤ length t
  pub viable : Viable (take n t)
  pub longest : (k : ℕ) → k ≤ length t → Viable (take k t) → k ≤ n

abbrev pub Judged : List ℕ → Result Unit ℕ → Type 0  -- what each verdict says of a text
Judged t (Ok _) = Grammatical t
Judged t (Err n) = (Grammatical t → ⊥) × LongestViable t n
