-- The drawing of 7.1.2.4 as a story: the list of all that happens, in order, refusals among it. It runs nowhere, so it may be as long as it likes;
-- Counts reads it up to the first refusal, and everything that is given back is read off it.
use Rattle.std.specs.Prelude.{List, [], ◌∷◌, ◌++◌, map, ℕ, zero, suc, ltb, eqb, ℤ, nat_abs, length, if◌then◌else◌}
use Rattle.std.proofs.Math.Option.{Option, none, some}
use Rattle.definition.specs.declared.Refusal.{Refusal}
use Rattle.definition.specs.Limits.{most_definitions, deepest}
use Rattle.definition.specs.Words.{Placed, at, any}
use Rattle.definition.specs.declared.Rule.{Rule}
use Rattle.definition.specs.declared.Rule.TheVariants.{TooManyDefinitions, OffTheAxes, UndefinedSymbol, BeingDrawn, TooDeep, XOutOfRange, YOutOfRange}
use Rattle.definition.specs.Rules.{refuse}
use Rattle.definition.specs.Commands.{Shape, Turn, Command, draw, layer, call, start, finish, delete, nothing}
use Rattle.definition.specs.Standing.{Standing, after, scaled_shape, scaled_turn}
use Rattle.definition.specs.Faults.{beyond}
use Rattle.definition.specs.Turns.{moved, off_axes}
use Rattle.definition.specs.Table.{Step, shape, instance, setting, Definition, Table, find, enter, forget}

-- what a command does when it is drawn: its distances are scaled as the text is read, and its layer is the one that stands
unfoldable pub step_of : Standing → Command → List Step
step_of s (draw k) = shape s.layer_set (scaled_shape s k) ∷ []
step_of s (call n ts) = instance (nat_abs n.what) (map (scaled_turn s) ts) ∷ []
step_of s (layer l) = setting l ∷ []
step_of s (start n a b) = []
step_of s finish = []
step_of s (delete n) = []
step_of s nothing = []

unfoldable pub retained : Standing → List (Placed Command) → List (Placed Step)  -- 7.1.2.4: within a definition, in the same order, up to its DF
retained s [] = []
retained s (c ∷ cs) =
    let rest = retained (after c.what s) cs in
    if s.inside then map (at c.place) (step_of s c.what) ++ rest else []

pub data Deed : Type 0 where  -- 7.1.2.4: an executable command, in no definition, is output directly; a definition is entered in the table; DD removes
  output : Placed Step → Deed
  define : Definition → Deed
  remove : (symbol : Placed ℕ) → Deed

unfoldable pub deed_of : Standing → ℕ → Command → List (Placed Command) → List Deed  -- a command and those after it
deed_of s p (draw k) cs = if s.inside then [] else map (λ x. output (at p x)) (step_of s (draw k))
deed_of s p (call n ts) cs = if s.inside then [] else map (λ x. output (at p x)) (step_of s (call n ts))
deed_of s p (start n a b) cs = define (record { symbol = nat_abs n.what; place = p; body = retained (after (start n a b) s) cs }) ∷ []
deed_of s p (delete n) cs = remove (at p (nat_abs n.what)) ∷ []
deed_of s p (layer l) cs = []
deed_of s p finish cs = []
deed_of s p nothing cs = []

unfoldable pub deeds : Standing → List (Placed Command) → List Deed
deeds s [] = []
deeds s (c ∷ cs) = deed_of s c.place c.what cs ++ deeds (after c.what s) cs

abbrev pub Chain : Type 0  -- the calls that are open, the outermost first: the place of each, and its symbol
Chain = List (Placed ℕ)

-- a shape as it is drawn: its command's place, the open calls, their transformations in one list, its layer, and itself in its final place
pub record Drawn : Type 0 where
  pub place : ℕ
  pub chain : Chain
  pub net : List (Turn ℤ)
  pub layer_of : List ℕ
  pub itself : Shape ℤ

-- what can happen: a call finds a definition; a shape is drawn; a definition is entered in the table, and entries are removed from it; a refusal
pub data Event : Type 0 where
  called : (place : ℕ) → Chain → (found : Definition) → Event
  drew : Drawn → Event
  entered : Definition → (before : Table) → Event
  removed : (symbol : Placed ℕ) → (before : Table) → Event
  refused : Refusal → Chain → Event

-- RULES 12, refusal 16: a final point beyond 16,777,215. Request 4: 16 for a shape with some x beyond the range, 20 for one whose x are all good and some y is not
unfoldable pub drawn_shape : Chain → List (Turn ℤ) → ℕ → List ℕ → Shape ℤ → Event
drawn_shape chain net p l k =
    let m = moved net k in
    if any (λ q. beyond q.x) m.points then refused (refuse XOutOfRange p) chain
    else if any (λ q. beyond q.y) m.points then refused (refuse YOutOfRange p) chain
    else drew (record { place = p; chain = chain; net = net; layer_of = l; itself = m })

-- RULES 8: a body draws its calls, by the function given, and its shapes, in written order
unfoldable pub drawn_step : (ℕ → ℕ → List (Turn ℤ) → List Event) → Chain → List (Turn ℤ) → ℕ → Step → List Event
drawn_step drawn_call chain net p (shape l k) = drawn_shape chain net p l k ∷ []
drawn_step drawn_call chain net p (instance n ts) = drawn_call p n ts
drawn_step drawn_call chain net p (setting l) = []

unfoldable pub drawn_body : (ℕ → ℕ → List (Turn ℤ) → List Event) → Chain → List (Turn ℤ) → List (Placed Step) → List Event
drawn_body drawn_call chain net [] = []
drawn_body drawn_call chain net (s ∷ ss) = drawn_step drawn_call chain net s.place s.what ++ drawn_body drawn_call chain net ss

pub data Passage : Type 0 where  -- a call is barred by a rule, or it leads to a definition
  barred : Rule → Passage
  leads : Definition → Passage

-- RULES 12, refusals 11 to 14: an R off the axes; an undefined symbol; a symbol already being drawn; depth 33, where no level is left
unfoldable pub passage_to : Option Definition → (left : ℕ) → Chain → (symbol : ℕ) → Passage
passage_to none left chain n = barred UndefinedSymbol
passage_to (some d) left chain n = if any (λ c. eqb c.what n) chain then barred BeingDrawn else if eqb left 0 then barred TooDeep else leads d

unfoldable pub passage_of : (left : ℕ) → Table → Chain → (symbol : ℕ) → List (Turn ℤ) → Passage
passage_of left t chain n ts = if off_axes ts then barred OffTheAxes else passage_to (find n t) left chain n

unfoldable pub through : Passage → ℕ → Chain → (Definition → List Event) → List Event  -- the refusal, or else what the definition leads to
through (barred r) p chain go = refused (refuse r p) chain ∷ []
through (leads d) p chain go = called p chain d ∷ go d

-- RULES 8: and a call draws its body. An executable call has depth 1 and 32 levels left; the inner call's list acts before the outer's
unfoldable pub drawn_call : (left : ℕ) → Table → Chain → List (Turn ℤ) → ℕ → ℕ → List (Turn ℤ) → List Event
drawn_call zero t chain net p n ts = through (passage_of 0 t chain n ts) p chain (λ d. [])
drawn_call (suc left) t chain net p n ts =
    let deeper : Chain = chain ++ (at p n ∷ []) in
    through (passage_of (suc left) t chain n ts) p chain
    (λ d. drawn_body (drawn_call left t deeper (ts ++ net)) deeper (ts ++ net) d.body)

unfoldable pub happens : Table → Deed → List Event  -- 7.1.2.4: what happens at a deed. RULES 12, refusal 10: 513 live definitions
happens t (output s) = drawn_step (drawn_call deepest t [] []) [] [] s.place s.what
happens t (define d) = (if ltb most_definitions (length (enter d t)) then refused (refuse TooManyDefinitions d.place) [] else entered d t) ∷ []
happens t (remove n) = removed n t ∷ []

unfoldable pub table_after : Table → Deed → Table
table_after t (output s) = t
table_after t (define d) = enter d t
table_after t (remove n) = forget n.what t

unfoldable pub story : Table → List Deed → List Event  -- all that happens, in order
story t [] = []
story t (d ∷ ds) = happens t d ++ story (table_after t d) ds
