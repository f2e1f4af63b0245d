-- A row is a text, the words lent, a room and what is answered; a row that computes is a row that is promised. So a text's answer is proved by computing it,
-- over definitions that were not written to be computed. Its `use` lines and one `unfolding` line are written by tools/rows.py.
-- Assumes nothing.
use Rattle.std.specs.Prelude.{if◌then◌else◌}
use mathlib.Core.Path.{◌≡◌, refl, sym, subst}
use mathlib.Core.Bool.{Bool, true, false, ◌&&◌}
use mathlib.Core.List.{List, [], ◌∷◌, ◌++◌, flat_map}
use Prim.Native.Nat.{ℕ, zero, suc, ◌+◌, ◌-◌, ◌<◌}
use Prim.Native.String.{String}
use native.Mathlib.Nat.{not-suc-le-zero, le_of_suc-le-suc}
use native.Mathlib.Omega.{arith}
use lib.Dec.{T, ltb, leb, eqb, ltb→lt, leb→le, eqb→eq}
use lib.ListN.{length, get_or, replicate}
use Rattle.grammar.proofs.Tests.{and_left, and_right}
use Rattle.grammar.proofs.Verdicts.{Bytes}
use Rattle.definition.specs.declared.Answer.{Answer}
use Rattle.definition.specs.Answer.{Outcome, Answers}
use Rattle.definition.specs.Listing.{Lists, within}
use Rattle.definition.proofs.Quick.{quick_right}
-- the names that rows compute through, written by tools/rows.py
use Rattle.grammar.specs.Notation.{has, dec}
use Rattle.grammar.specs.Tables.{kinds, table}
use Rattle.grammar.specs.Steps.{kind_of}
use Rattle.definition.specs.Words.{any, those, first, same, bytes_of}
use Rattle.definition.specs.Commands.{worth, numbers, paired, next, named, turn_at, turns, command_at, commands}
use Rattle.definition.specs.Standing.{after, nearest, scaled, whole, scaled_shape, scaled_turn}
use Rattle.definition.specs.Faults.{beyond, parts_of, shifts, bearings, distances, numbers_of, zero_scale, least, empty_shape, degenerate, layerless, has_too_many, at_numbers, faults, all_faults, first_fault}
use Rattle.definition.specs.Rounded.{ragged, rounded_from, rounded}
use Rattle.definition.specs.Turns.{negative, heading, rotated, act, aim, in_order, moved, off_axes}
use Rattle.definition.specs.Table.{find, enter, forget}
use Rattle.definition.specs.Drawing.{step_of, retained, deed_of, deeds, drawn_shape, drawn_step, drawn_body, passage_to, passage_of, through, drawn_call, happens, table_after, story}
use Rattle.definition.specs.Counts.{counted, go_on, ending, shapes_of}
use Rattle.definition.specs.Flat.{digits, decimal, spaced, letter_of, said, lines, flat}
use Rattle.definition.specs.Held.{words_of_turn, words_of_step, words_of_body, words_in, held_to, words_after, words_needed}
use Rattle.definition.specs.Lean.{last_then, add, add_all, lean}
use Rattle.definition.specs.Warnings.{dangles, dangling_calls, dangling_at, warnings_at, warning_line, warning_lines}
use Rattle.definition.specs.Position.{line_of, since_line_end, column_of}
use Rattle.definition.specs.Answer.{flat_file, success, failure, given_back, fitted, drawn, outcome_of}
use Rattle.definition.specs.Records.{stacked_to, drawn_with, outcome_with}
use Rattle.definition.specs.Window.{extreme, box_reach, slants, reach_of, reach, around, windows, hull, joined}
use Rattle.definition.specs.Listing.{fields, shape_lines, window_line, listing}
use Rattle.definition.specs.Summary.{among, names_after, names_from, too_many_from, sooner, first_fault_or_name, shape?, call?, layers_of, own_shapes, own_calls, own_layers, both_reply, step_reply, body_reply, higher, reply_by, reply_to, kept?, table_then, table_deeds, appearing, packed_name, body_found, in_symbol, empty_summary, summary_in, summary_from, summary_of}
use Rattle.definition.specs.Why.{numbered, reason_found, reason_at, reason_from, reason_of, why_told}
use Rattle.definition.specs.Marks.{set_of_layers}
use Rattle.definition.specs.Quick.{packed, packed_rows, marking_by, verdict_by, quick_letters, quick_verdict}
use Rattle.definition.specs.Computed.{quick_outcome, quick_answer, verdict_with, answer_with, quick_summed, quick_summary, reason_verdict, reason_for}

-- the end of what tools/rows.py writes here

pub record Row : Type 0 where
  pub text : List ℕ
  pub words : ℕ
  pub room : ℕ
  pub number : ℕ
  pub place : ℕ
  pub shapes : ℕ
  pub calls : ℕ
  pub redefinitions : ℕ
  pub rounded-count : ℕ
  pub line : ℕ
  pub column : ℕ
  pub chain : List ℕ
  pub flat_file_lem : List ℕ

-- a text that is accepted with as many words as it has bytes, which is always enough (RULES 8, request 10), in a room of this size, with its shapes, calls, redefinitions, rounded distances and flat file; one in which nothing is rounded;
-- and one that is refused, with number and place: on line 1, so that the column is one more than the place, and in no call
abbrev pub rounding : ℕ → List ℕ → ℕ → ℕ → ℕ → ℕ → List ℕ → Row
rounding n t s c r k f = record { text = t; words = length t; room = n; number = 0; place = 0; shapes = s; calls = c; redefinitions = r; rounded-count = k; line = 0; column = 0; chain = []; flat_file_lem = f }

abbrev pub accepting : ℕ → List ℕ → ℕ → ℕ → ℕ → List ℕ → Row
accepting n t s c r f = rounding n t s c r 0 f

abbrev pub refusing : ℕ → List ℕ → ℕ → ℕ → Row
refusing n t k p = record { text = t; words = length t; room = n; number = k; place = p; shapes = 0; calls = 0; redefinitions = 0; rounded-count = 0; line = 1; column = p + 1; chain = []; flat_file_lem = [] }

-- the same where so many words are lent
abbrev pub lent : ℕ → Row → Row
lent w r = record {
  text = r.text;
  words = w;
  room = r.room;
  number = r.number;
  place = r.place;
  shapes = r.shapes;
  calls = r.calls;
  redefinitions = r.redefinitions;
  rounded-count = r.rounded-count;
  line = r.line;
  column = r.column;
  chain = r.chain;
  flat_file_lem = r.flat_file_lem;
}

-- RULES 12, request 4: the same where the refusal is on this line and in this column; and where it is in calls, of which these are the places, outermost first
abbrev pub on_line : ℕ → ℕ → Row → Row
on_line l c r = record {
  text = r.text;
  words = r.words;
  room = r.room;
  number = r.number;
  place = r.place;
  shapes = r.shapes;
  calls = r.calls;
  redefinitions = r.redefinitions;
  rounded-count = r.rounded-count;
  line = l;
  column = c;
  chain = r.chain;
  flat_file_lem = r.flat_file_lem;
}

abbrev pub in_calls : List ℕ → Row → Row
in_calls ps r = record {
  text = r.text;
  words = r.words;
  room = r.room;
  number = r.number;
  place = r.place;
  shapes = r.shapes;
  calls = r.calls;
  redefinitions = r.redefinitions;
  rounded-count = r.rounded-count;
  line = r.line;
  column = r.column;
  chain = ps;
  flat_file_lem = r.flat_file_lem;
}

-- the same of texts that are written out, and in the list program's room
abbrev pub accepted_in : ℕ → String → ℕ → ℕ → ℕ → String → Row
accepted_in n t s c r f = accepting n (bytes_of t) s c r (bytes_of f)

abbrev pub rounded_in : ℕ → String → ℕ → ℕ → ℕ → ℕ → String → Row
rounded_in n t s c r k f = rounding n (bytes_of t) s c r k (bytes_of f)

abbrev pub refused_in : ℕ → String → ℕ → ℕ → Row
refused_in n t k p = refusing n (bytes_of t) k p

abbrev pub accepted : String → ℕ → ℕ → ℕ → String → Row
accepted t s c r f = accepted_in 32768 t s c r f

abbrev pub rounding_to : String → ℕ → ℕ → ℕ → ℕ → String → Row
rounding_to t s c r k f = rounded_in 32768 t s c r k f

abbrev pub refused_at : String → ℕ → ℕ → Row
refused_at t k p = refused_in 32768 t k p

-- what a row says of the answer and the flat file, and what an outcome of its text does; the length is the flat file's, and zeros fill the chain up to 32
abbrev pub said_of : Row → List ℕ
said_of r =
    r.number ∷ r.place ∷ length r.flat_file_lem ∷ r.shapes ∷ r.calls ∷ r.redefinitions ∷ r.rounded-count ∷ r.line ∷ r.column ∷ length r.chain
    ∷ (r.chain ++ (replicate (32 - length r.chain) 0 ++ r.flat_file_lem))

abbrev pub said_by : List ℕ → Outcome → List ℕ
said_by t o =
    let a : Answer = given_back t o in
    a.number ∷ a.place ∷ a.length ∷ a.shapes ∷ a.calls ∷ a.redefinitions ∷ a.rounded ∷ a.line ∷ a.column ∷ a.opened ∷ (a.chain ++ flat_file o)

-- an outcome that is promised says it
pub record Holds (r : Row) : Type 0 where
  pub outcome : Outcome
  pub answers : Answers r.text r.words r.room outcome
  pub says : said_by r.text outcome ≡ said_of r

-- a text, and the lines that the list program prints of it
pub record Printout : Type 0 where
  pub text : String
  pub printed : String

abbrev pub prints : String → String → Printout
prints t p = record { text = t; printed = p }

abbrev pub Printed : Printout → Type 0
Printed r = Lists (bytes_of r.text) (bytes_of r.printed)

-- each of a list
abbrev pub Each : {A : Type 0} → (A → Type 0) → List A → Type 0
Each {A} P rs = (i : ℕ) → i < length rs → (d : A) → P (get_or rs i d)

pub small : List ℕ → Bool
small [] = true
small (a ∷ w) = ltb a 256 && small w

pub small_bytes : (w : List ℕ) → T (small w) → Bytes w
unfolding small
small_bytes [] t i = omega arith
small_bytes (a ∷ w) t zero = ltb→lt a 256 (and_left (ltb a 256) _ t)
small_bytes (a ∷ w) t (suc i) = small_bytes w (and_right (ltb a 256) _ t) i

pub same-eq : (a b : List ℕ) → T (same a b) → a ≡ b
unfolding same
same-eq [] [] t = refl
same-eq [] (y ∷ b) t = absurd t
same-eq (x ∷ a) [] t = absurd t
same-eq (x ∷ a) (y ∷ b) t = go (eqb x y) refl (same-eq a b) t
  where
    go : (c : Bool) → eqb x y ≡ c → (T (same a b) → a ≡ b) → T (if c then same a b else false) → ◌≡◌ {A = List ℕ} (x ∷ a) (y ∷ b)
    go true e f h = let p : x ≡ y = eqb→eq x y (subst T (sym e) tt) in let q : a ≡ b = f h in cc
    go false e f h = absurd h

row-holds : Row → Bool
row-holds r = small r.text && same (said_by r.text (quick_answer r.text r.words r.room)) (said_of r)

print_holds : Printout → Bool
print_holds r =
    small (bytes_of r.text) && (leb (length (bytes_of r.text)) 32768 && same (listing (bytes_of r.text) (quick_answer (bytes_of r.text) 32768 32768)) (bytes_of r.printed))

pub every : {A : Type 0} → (A → Bool) → List A → Bool
every test [] = true
every test (r ∷ rs) = test r && every test rs

-- the test of rows, and that of printouts; what both compute through is named here once
unfoldable pub all_hold : List Row → Bool
unfolding row-holds print_holds every small flat_map has dec kinds table kind_of any those first same bytes_of worth numbers paired next named turn_at turns command_at commands after nearest scaled whole scaled_shape scaled_turn beyond parts_of shifts bearings distances numbers_of zero_scale least empty_shape degenerate layerless has_too_many at_numbers faults all_faults first_fault ragged rounded_from rounded negative heading rotated act aim in_order moved off_axes find enter forget step_of retained deed_of deeds drawn_shape drawn_step drawn_body passage_to passage_of through drawn_call happens table_after story counted go_on ending shapes_of digits decimal spaced letter_of said lines flat words_of_turn words_of_step words_of_body words_in held_to words_after words_needed last_then add add_all lean dangles dangling_calls dangling_at warnings_at warning_line warning_lines line_of since_line_end column_of flat_file success failure given_back fitted drawn outcome_of stacked_to drawn_with outcome_with extreme box_reach slants reach_of reach around windows hull joined fields shape_lines window_line listing among names_after names_from too_many_from sooner first_fault_or_name shape? call? layers_of own_shapes own_calls own_layers both_reply step_reply body_reply higher reply_by reply_to kept? table_then table_deeds appearing packed_name body_found in_symbol empty_summary summary_in summary_from summary_of numbered reason_found reason_at reason_from reason_of why_told set_of_layers packed packed_rows marking_by verdict_by quick_letters quick_verdict quick_outcome quick_answer verdict_with answer_with quick_summed quick_summary reason_verdict reason_for
all_hold rs = every row-holds rs

unfoldable pub all_print : List Printout → Bool
unfolding all_hold
all_print rs = every print_holds rs

row-right : (r : Row) → T (row-holds r) → Holds r
unfolding row-holds
row-right r t = record {
  outcome = quick_answer r.text r.words r.room;
  answers = quick_right r.text r.words r.room (small_bytes _ (and_left (small r.text) _ t));
  says = same-eq _ _ (and_right (small r.text) _ t);
}

print_right : (r : Printout) → T (print_holds r) → Printed r
unfolding print_holds
print_right r h =
    let t : List ℕ = bytes_of r.text in
    let rest : T (leb (length t) 32768 && same (listing t (quick_answer t 32768 32768)) (bytes_of r.printed)) = and_right (small t) _ h in
    subst
    (Lists t)
    (same-eq _ _ (and_right (leb (length t) 32768) _ rest))
    (within (leb→le (length t) 32768 (and_left (leb (length t) 32768) _ rest)) (quick_right t 32768 32768 (small_bytes t (and_left (small t) _ h))))

pub by_test : {A : Type 0} (test : A → Bool) (P : A → Type 0) → ((r : A) → T (test r) → P r) → (rs : List A) → T (every test rs) → Each P rs
unfolding every
by_test test P right [] t i h d = absurd (not-suc-le-zero h)
by_test test P right (r ∷ rs) t zero h d = right r (and_left (test r) _ t)
by_test test P right (r ∷ rs) t (suc i) h d = by_test test P right rs (and_right (test r) _ t) i (le_of_suc-le-suc h) d

-- each row of a list that passes the test is as promised; and so is each printout
pub each : (rs : List Row) → T (all_hold rs) → Each Holds rs
unfolding all_hold
each rs t = by_test row-holds Holds row-right rs t

pub each_print : (rs : List Printout) → T (all_print rs) → Each Printed rs
unfolding all_print
each_print rs t = by_test print_holds Printed print_right rs t
