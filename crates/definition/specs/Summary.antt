-- RULES 19, request 3: what is in a symbol. The text is read and its table kept, and nothing is drawn: what a call of the symbol would meet, how high it stands and
-- which layers it would draw is told of the table left at the end of the text. The exported contract is `Summarised`, at the end.
use Rattle.std.specs.Prelude.{◌≡◌, Bool, true, false, ℕ, zero, suc, ◌+◌, ◌*◌, ◌≤◌, ◌<◌, max, ltb, ℤ, length, get_or, if◌then◌else◌}
use mathlib.Core.List.{List, [], ◌∷◌, ◌++◌, map, flat_map}
use Rattle.std.proofs.Math.Option.{Option, none, some}
use Rattle.grammar.specs.Notation.{Letter}
use Rattle.grammar.specs.Viable.{Marked, Grammatical, LongestViable}
use Rattle.definition.specs.declared.Refusal.{Refusal}
use Rattle.definition.specs.declared.Summary.{Summary}
use Rattle.definition.specs.Limits.{most_bytes, most_layers, deepest}
use Rattle.definition.specs.Words.{Placed, at, any, those, first, same}
use Rattle.definition.specs.declared.Rule.{Rule}
use Rattle.definition.specs.declared.Rule.TheVariants.{TextTooLong, NotInGrammar, TooManyLayers}
use Rattle.definition.specs.Rules.{number_of, refuse}
use Rattle.definition.specs.Commands.{Command, draw, layer, call, start, finish, delete, nothing, commands}
use Rattle.definition.specs.Standing.{outside}
use Rattle.definition.specs.Faults.{first_fault}
use Rattle.definition.specs.Table.{Step, shape, instance, setting, Definition, Table, find}
use Rattle.definition.specs.Drawing.{Deed, output, define, remove, deeds, table_after, story, Chain, Passage, barred, leads, passage_to}
use Rattle.definition.specs.Counts.{End, finished, stopped, counts, ending}
use Rattle.definition.specs.Held.{held_to}
use Rattle.definition.specs.Position.{line_of, column_of}
use Rattle.definition.specs.Answer.{zeros}

abbrev pub Names : Type 0  -- layer names, each a list of bytes
Names = List (List ℕ)

unfoldable pub among : List ℕ → Names → Bool
among l ns = any (same l) ns

unfoldable pub names_after : Names → Command → Names  -- an L command brings its name, if it is a new one
names_after ns (layer l) = if among l ns then ns else ns ++ (l ∷ [])
names_after ns (draw k) = ns
names_after ns (call n ts) = ns
names_after ns (start n a b) = ns
names_after ns finish = ns
names_after ns (delete n) = ns
names_after ns nothing = ns

unfoldable pub names_from : Names → List (Placed Command) → Names
names_from ns [] = ns
names_from ns (c ∷ cs) = names_from (names_after ns c.what) cs

abbrev pub layer_names : List (Placed Command) → Names  -- each distinct layer name in the text's L commands, by first appearance
layer_names cs = names_from [] cs

-- refusal 19, for a 65th layer name, at its L command
unfoldable pub too_many_from : Names → List (Placed Command) → Option Refusal
too_many_from ns [] = none
too_many_from ns (c ∷ cs) =
    let more = names_after ns c.what in
    let later = too_many_from more cs in
    if ltb most_layers (length more) then some (refuse TooManyLayers c.place) else later

-- among 3 to 9 in text order: an L command has none of these, so of two refusals the one with the lower place comes first
unfoldable pub sooner : Option Refusal → Option Refusal → Option Refusal
sooner none r = r
sooner (some q) none = some q
sooner (some q) (some r) = if ltb r.place q.place then some r else some q

unfoldable pub first_fault_or_name : List (Placed Command) → Option Refusal
first_fault_or_name cs = sooner (first_fault cs) (too_many_from [] cs)

unfoldable pub shape? : Step → Bool
shape? (shape l k) = true
shape? (instance n ts) = false
shape? (setting l) = false

unfoldable pub call? : Step → Bool
call? (shape l k) = false
call? (instance n ts) = true
call? (setting l) = false

unfoldable pub layers_of : Step → Names
layers_of (shape l k) = l ∷ []
layers_of (instance n ts) = []
layers_of (setting l) = []

-- a definition's own shapes, own calls and the layers of its own shapes
unfoldable pub own_shapes : List (Placed Step) → ℕ
own_shapes ss = length (those (λ s. shape? s.what) ss)

unfoldable pub own_calls : List (Placed Step) → ℕ
own_calls ss = length (those (λ s. call? s.what) ss)

unfoldable pub own_layers : List (Placed Step) → Names
own_layers ss = flat_map (λ s. layers_of s.what) ss

pub data Reply : Type 0 where  -- drawing a symbol would give 12, 13 or 14; or the symbol has this height, and would draw shapes on these layers
  bars : Rule → Reply
  stands : (height : ℕ) → (layers : Names) → Reply

unfoldable pub both_reply : Reply → Reply → Reply  -- of a step and those after it: the first bar in drawing order, or else the taller, and the layers of both
both_reply (bars r) later = bars r
both_reply (stands h ls) (bars r) = bars r
both_reply (stands h ls) (stands k ms) = stands (max h k) (ls ++ ms)

unfoldable pub step_reply : (ℕ → ℕ → Reply) → ℕ → Step → Reply  -- a call replies by the function given
step_reply ask p (shape l k) = stands 0 (l ∷ [])
step_reply ask p (instance n ts) = ask p n
step_reply ask p (setting l) = stands 0 []

unfoldable pub body_reply : (ℕ → ℕ → Reply) → List (Placed Step) → Reply
body_reply ask [] = stands 0 []
body_reply ask (s ∷ ss) = both_reply (step_reply ask s.place s.what) (body_reply ask ss)

unfoldable pub higher : Reply → Reply  -- the height of a symbol is one more than its tallest callee, and 1 if it calls nothing
higher (bars r) = bars r
higher (stands h ls) = stands (h + 1) ls

unfoldable pub reply_by : Passage → (Definition → Reply) → Reply
reply_by (barred r) ask = bars r
reply_by (leads d) ask = higher (ask d)

-- a call of a symbol where so many levels are left and these calls are open. What bars it is what bars a call that is drawn, but for its angles
unfoldable pub reply_to : (left : ℕ) → Table → Chain → ℕ → (symbol : ℕ) → Reply
reply_to zero t chain p n = reply_by (passage_to (find n t) 0 chain n) (λ d. stands 0 [])
reply_to (suc left) t chain p n =
    reply_by (passage_to (find n t) (suc left) chain n) (λ d. body_reply (reply_to left t (chain ++ (at p n ∷ []))) d.body)

unfoldable pub kept? : Deed → Bool
kept? (output s) = false
kept? (define d) = true
kept? (remove n) = true

unfoldable pub table_then : Table → List Deed → Table  -- the table after deeds
table_then t [] = t
table_then t (d ∷ ds) = table_then (table_after t d) ds

unfoldable pub table_deeds : List (Placed Command) → List Deed  -- what keeps the table, without what is drawn
table_deeds cs = those kept? (deeds (outside []) cs)

unfoldable pub appearing : Names → Names → Names  -- the distinct ones among some layers, by first appearance in the text
appearing names ls = those (λ l. among l ls) names

unfoldable pub packed_name : Option (List ℕ) → ℕ  -- a name of up to four letters as one number, the first letter highest; none is 0
packed_name none = 0
packed_name (some l) = get_or l 0 0 * 16777216 + get_or l 1 0 * 65536 + get_or l 2 0 * 256 + get_or l 3 0

unfoldable pub body_found : Option Definition → List (Placed Step)
body_found none = []
body_found (some d) = d.body

-- where drawing the symbol would give 12, 13 or 14, that number, with layers and height 0
unfoldable pub in_symbol : Names → Reply → List (Placed Step) → Summary
in_symbol names (bars r) ss = record {
  number = 0;
  place = 0;
  line = 0;
  column = 0;
  gives = number_of r;
  drawn = 0;
  first = 0;
  height = 0;
  shapes = own_shapes ss;
  calls = own_calls ss;
  layers = length (appearing names (own_layers ss));
}
in_symbol names (stands h ls) ss = record {
  number = 0;
  place = 0;
  line = 0;
  column = 0;
  gives = 0;
  drawn = length (appearing names ls);
  first = packed_name (first (appearing names ls));
  height = h;
  shapes = own_shapes ss;
  calls = own_calls ss;
  layers = length (appearing names (own_layers ss));
}

unfoldable pub empty_summary : List ℕ → Refusal → Summary  -- of a text that is refused
empty_summary t r = record {
  number = number_of r.rule;
  place = r.place;
  line = line_of t r.place;
  column = column_of t r.place;
  gives = 0;
  drawn = 0;
  first = 0;
  height = 0;
  shapes = 0;
  calls = 0;
  layers = 0;
}

unfoldable pub summary_in : List ℕ → End → Names → Table → (symbol : ℕ) → Summary
summary_in t (stopped r chain) names tb n = empty_summary t r
summary_in t (finished c) names tb n = in_symbol names (reply_to deepest tb [] 0 n) (body_found (find n tb))

unfoldable pub summary_from : List ℕ → Option Refusal → List (Placed Command) → (words symbol : ℕ) → Summary  -- 10 and 25 come after 3 to 9 and 19
summary_from t (some r) cs words n = empty_summary t r
summary_from t none cs words n = summary_in t (ending (counts 0 0 0) (map (held_to words) (story [] (table_deeds cs)))) (layer_names cs) (table_then [] (table_deeds cs)) n

unfoldable pub summary_of : List ℕ → List Letter → (words symbol : ℕ) → Summary
summary_of t m words n = summary_from t (first_fault_or_name (commands 0 m)) (commands 0 m) words n

-- what may be told of a text t, so many words and a symbol number: 1; then 2; then what the text's commands say
pub data Summarises (t : List ℕ) (words symbol : ℕ) : Summary → Type 0 where
  too_long : most_bytes < length t → Summarises t words symbol (empty_summary t (refuse TextTooLong 0))
  not_cif : {n : ℕ} → length t ≤ most_bytes → (Grammatical t → ⊥) → LongestViable t n → Summarises t words symbol (empty_summary t (refuse NotInGrammar n))
  read : {m : List Letter} → length t ≤ most_bytes → Marked t m → Summarises t words symbol (summary_of t m words symbol)

-- the contract of a function that tells the summary r, and leaves the words so
pub record Summarised (t : List ℕ) (words : List ℤ) (symbol : ℕ) (r : Summary) (words' : List ℤ) : Type 0 where
  pub summarises : Summarises t (length words) symbol r
  pub cleared : words' ≡ zeros words
