-- RULES 20, request 11: why is this shape here? Of a text that is drawn, the shape with a count, from 1, in the list of all that are drawn: the place of its command, the
-- calls that drew it and the net transformation. The exported contract is `PromisedWhy`, at the end.
use Rattle.std.specs.Prelude.{◌≡◌, List, [], ℕ, zero, suc, ◌≤◌, ◌<◌, ℤ, pos, length, drop}
use Rattle.std.proofs.Math.Option.{Option, none, some}
use Rattle.grammar.specs.Notation.{Letter}
use Rattle.grammar.specs.Viable.{Marked, Grammatical, LongestViable}
use Rattle.definition.specs.declared.Refusal.{Refusal}
use Rattle.definition.specs.declared.Why.{Why}
use Rattle.definition.specs.Limits.{most_bytes}
use Rattle.definition.specs.Words.{Placed, Point, point, first}
use Rattle.definition.specs.declared.Rule.TheVariants.{TextTooLong, NotInGrammar, NoSuchShape}
use Rattle.definition.specs.Rules.{number_of, refuse}
use Rattle.definition.specs.Commands.{Turn, Command, commands}
use Rattle.definition.specs.Faults.{first_fault}
use Rattle.definition.specs.Turns.{act, aim, in_order}
use Rattle.definition.specs.Drawing.{Chain, Drawn, Event}
use Rattle.definition.specs.Counts.{End, finished, stopped, counts, ending, shapes_of}
use Rattle.definition.specs.Position.{line_of, column_of, chain_told}
use Rattle.definition.specs.Answer.{drawing_of, held_drawing, zeros}

unfoldable pub numbered : (count : ℕ) → List Drawn → Option Drawn  -- the shape with this count, from 1
numbered zero ds = none
numbered (suc before) ds = first (drop before ds)

pub data Reason : Type 0 where  -- why a shape is here is told of it as it is drawn; or there is a refusal, with the calls open there
  because : Drawn → Reason
  refuses : Refusal → Chain → Reason

unfoldable pub reason_found : Option Drawn → Reason  -- RULES 12, refusal 26, at place 0: count 0, or a count above the shapes
reason_found none = refuses (refuse NoSuchShape 0) []
reason_found (some d) = because d

unfoldable pub reason_at : End → List Event → (count : ℕ) → Reason
reason_at (stopped r chain) es n = refuses r chain
reason_at (finished c) es n = reason_found (numbered n (shapes_of es))

-- the reader's refusals come first, those of the whole text; 18 plays no part, since nothing is written
unfoldable pub reason_from : Option Refusal → List (Placed Command) → (words count : ℕ) → Reason
reason_from (some r) cs words n = refuses r []
reason_from none cs words n = reason_at (ending (counts 0 0 0) (held_drawing words cs)) (drawing_of cs) n

unfoldable pub reason_of : List Letter → (words count : ℕ) → Reason
reason_of m words n = reason_from (first_fault (commands 0 m)) (commands 0 m) words n

-- what may come of a text t, so many words and a count, as `Answers` has it of a text, words and a room
pub data WhyAnswers (t : List ℕ) (words count : ℕ) : Reason → Type 0 where
  too_long : most_bytes < length t → WhyAnswers t words count (refuses (refuse TextTooLong 0) [])
  not_cif : {n : ℕ} → length t ≤ most_bytes → (Grammatical t → ⊥) → LongestViable t n → WhyAnswers t words count (refuses (refuse NotInGrammar n) [])
  read : {m : List Letter} → length t ≤ most_bytes → Marked t m → WhyAnswers t words count (reason_of m words count)

-- a list of transformations sends (x, y) to (a x + b y + tx, c x + d y + ty): where the directions along x and along y go, and where the origin goes
abbrev pub along_x : List (Turn ℤ) → Point ℤ  -- a and c
along_x net = in_order aim net (point (pos 1) (pos 0))

abbrev pub along_y : List (Turn ℤ) → Point ℤ  -- b and d
along_y net = in_order aim net (point (pos 0) (pos 1))

abbrev pub origin_to : List (Turn ℤ) → Point ℤ  -- tx and ty
origin_to net = in_order act net (point (pos 0) (pos 0))

unfoldable pub why_told : List ℕ → Reason → Why  -- of a text: line and column are those of a refusal, the chain that of the shape or of the refusal
why_told t (because s) = record {
  number = 0;
  place = 0;
  line = 0;
  column = 0;
  opened = length s.chain;
  chain = chain_told s.chain;
  shape = s.place;
  a = (along_x s.net).x;
  b = (along_y s.net).x;
  c = (along_x s.net).y;
  d = (along_y s.net).y;
  tx = (origin_to s.net).x;
  ty = (origin_to s.net).y;
}
why_told t (refuses r chain) = record {
  number = number_of r.rule;
  place = r.place;
  line = line_of t r.place;
  column = column_of t r.place;
  opened = length chain;
  chain = chain_told chain;
  shape = 0;
  a = pos 0;
  b = pos 0;
  c = pos 0;
  d = pos 0;
  tx = pos 0;
  ty = pos 0;
}

-- the contract of a function that tells r of the text t and a count, and leaves the words so
pub record PromisedWhy (t : List ℕ) (words : List ℤ) (count : ℕ) (r : Why) (words' : List ℤ) : Type 0 where
  pub reason : Reason
  pub answers : WhyAnswers t (length words) count reason
  pub given : r ≡ why_told t reason
  pub cleared : words' ≡ zeros words
