-- Demand 1: every text has an outcome, with any words and any room; a refusal holds its number and place, line and column of the place, the calls open
-- there, and nothing else, and leaves the room unchanged; the place lies within the text, and so do at most 32 calls, which only the refusals 11 to 17
-- and 20 tell; and the words are all zero afterwards.
-- Assumes nothing.
use mathlib.Core.Path.{◌≡◌, refl, sym, ap, ◌∙◌, subst}
use mathlib.Core.List.{List, [], ◌++◌}
use Prim.Native.Nat.{ℕ, ◌≤◌, ◌<◌}
use native.Mathlib.Omega.{arith}
use lib.IntN.{ℤ}
use lib.ListN.{length, drop, replicate}
use Rattle.grammar.specs.Notation.{Letter}
use Rattle.grammar.specs.Viable.{Marked}
use Rattle.grammar.proofs.Verdicts.{Bytes}
use Rattle.definition.specs.Limits.{deepest}
use Rattle.definition.specs.Words.{Placed}
use Rattle.definition.specs.declared.Refusal.{Refusal}
use Rattle.definition.specs.declared.Rule.{Rule}
use Rattle.definition.specs.declared.Rule.TheVariants.{TextTooLong, NotInGrammar, FlatFileTooLong}
use Rattle.definition.specs.Rules.{number_of, refuse}
use Rattle.definition.specs.Commands.{Command, commands}
use Rattle.definition.specs.Standing.{outside}
use Rattle.definition.specs.Drawing.{Chain, Event, deeds}
use Rattle.definition.specs.Counts.{Counts, shapes_of, stopped}
use Rattle.definition.specs.Flat.{flat}
use Rattle.definition.specs.Rounded.{rounded}
use Rattle.definition.specs.Position.{line_of, column_of, chain_told}
use Rattle.definition.specs.declared.Answer.{Answer}
use Rattle.definition.specs.Answer.{Outcome, accepted, rejected, flat_file, success, failure, given_back, room_after, Answers, zeros, Promised}
use Rattle.definition.specs.Computed.{answer_of}
use Rattle.laws.proofs.Lists.Range.{All}
use Rattle.definition.proofs.Right.{right}
use Rattle.laws.proofs.Story.EventPlaces.{Refuses, stopped_at}
use Rattle.laws.proofs.Rules.FaultRules.{InText, all_so, commands-written, break_place}
use Rattle.laws.proofs.Rules.Outcomes.{Way, by_length, by_grammar, by_command, by_drawing, by_flat_file, end_of, refusal-rule, acceptance}
use Rattle.laws.proofs.Rules.Order.{UnderCalls, number_from-1, one_rule}
use Rattle.laws.proofs.Rules.DrawingRules.{drawing_stops}
use Rattle.laws.proofs.Story.Depth.{stop_shallow}

-- every text of bytes comes out in some way, whatever the words and the room; so a promise can be kept for it
pub some_outcome : (t : List ℕ) (words room : ℕ) → Bytes t → (outcome : Outcome) × Answers t words room outcome
some_outcome t words room b = (answer_of t words room, right t words room b)

pub some_answer : (t : List ℕ) (words : List ℤ) (room : List ℕ) → Bytes t → (r : Answer) × (words' : List ℤ) × (left : List ℕ) × Promised t words room r words' left
some_answer t words room b =
    let o = some_outcome t (length words) (length room) b in
    (given_back t o.0, zeros words, room_after o.0 room, record { outcome = o.0; answers = o.1; given = refl; kept = refl; cleared = refl })

-- ---- where a refusal stands

-- RULES 12: every refusal is by a rule; places count bytes of the text from 0, and only one by the grammar may stand at its end
pub record Located (t : List ℕ) (r : Refusal) (chain : Chain) : Type 0 where
  pub rule : Rule
  pub is : r ≡ refuse rule r.place
  pub first-number : 1 ≤ number_of r.rule
  pub reached : r.place ≤ length t
  pub inside : (rule ≡ TextTooLong → ⊥) → (rule ≡ NotInGrammar → ⊥) → (rule ≡ FlatFileTooLong → ⊥) → r.place < length t
  pub calls-inside : All (λ (c : Placed ℕ). c.place < length t) chain
  pub few-calls : length chain ≤ deepest
  pub calls_only : (UnderCalls rule → ⊥) → chain ≡ []

-- a drawing is stopped by a rule of 10 to 17, by 20 or by 25, at a place in the text, under calls in the text
pub stopped-within : {t : List ℕ} {m : List Letter} → Marked t m → (words : ℕ) {r : Refusal} {chain : Chain} → end_of words m ≡ stopped r chain
    → Refuses (λ (q : ℕ). q < length t) r chain
stopped-within {t} {m} k words e =
    stopped_at (λ (q : ℕ). q < length t) words (commands 0 m)
    (all_so (InText (length t)) (λ (c : Placed Command). c.place < length t) (λ c w. w.stand.within) (commands 0 m) (commands-written k)) e

record Reaches (t : List ℕ) (rule : Rule) (p : ℕ) (chain : Chain) : Type 0 where
  reached : p ≤ length t
  inside : (rule ≡ TextTooLong → ⊥) → (rule ≡ NotInGrammar → ⊥) → (rule ≡ FlatFileTooLong → ⊥) → p < length t
  calls-inside : All (λ (c : Placed ℕ). c.place < length t) chain
  few-calls : length chain ≤ deepest
  calls_only : (UnderCalls rule → ⊥) → chain ≡ []

outside-calls : {t : List ℕ} {rule : Rule} {p : ℕ} → p ≤ length t
    → ((rule ≡ TextTooLong → ⊥) → (rule ≡ NotInGrammar → ⊥) → (rule ≡ FlatFileTooLong → ⊥) → p < length t) → Reaches t rule p []
unfolding All
outside-calls h i = record { reached = h; inside = i; calls-inside = tt; few-calls = omega arith; calls_only = λ n. refl }

way_reaches : {t : List ℕ} {words room : ℕ} {r : Rule} {p : ℕ} {chain : Chain} → Way t words room r p chain → Reaches t r p chain
way_reaches (by_length h) = outside-calls (omega arith) (λ a b c. absurd (a refl))
way_reaches (by_grammar h g l) = outside-calls l.within (λ a b c. absurd (b refl))
way_reaches (by_command h k b) = let p = break_place k b in outside-calls (omega arith) (λ x y z. p)
way_reaches {words = words} (by_drawing {m} {r} {p} {chain} q e) =
    let s = stopped-within q.marked words e in
    let within = s.place in
    let ds = deeds (outside []) (commands 0 m) in
    record {
      reached = omega arith;
      inside = λ x y z. within;
      calls-inside = s.open_calls;
      few-calls = stop_shallow [] ds ((drawing_stops words [] ds r p chain).0 e);
      calls_only = λ n. s.calls_only (λ u. n (subst UnderCalls (one_rule s.rule r (sym s.is)) u));
    }
way_reaches (by_flat_file q e l) = outside-calls (omega arith) (λ a b c. absurd (c refl))

pub located : {t : List ℕ} {words room : ℕ} {r : Refusal} {chain : Chain} → Answers t words room (rejected r chain) → Located t r chain
located {r = r} a =
    let (q, e, w) = refusal-rule a in
    let there = way_reaches w in
    record {
      rule = q;
      is = e;
      first-number = subst (λ (n : ℕ). 1 ≤ n) (sym (ap (λ (x : Refusal). number_of x.rule) e)) (number_from-1 q);
      reached = there.reached;
      inside = there.inside;
      calls-inside = there.calls-inside;
      few-calls = there.few-calls;
      calls_only = there.calls_only;
    }

-- ---- what is given back

-- RULES 1: on refusal the length and all counts are 0 and the room is unchanged. Request 4: line and column are those of the place, and the chain tells the open calls
pub record RefusalHolds (t room : List ℕ) (r : Answer) (left : List ℕ) (by : Refusal) (chain : Chain) : Type 0 where
  pub number : r.number ≡ number_of by.rule
  pub place : r.place ≡ by.place
  pub no_length : r.length ≡ 0
  pub no_shapes : r.shapes ≡ 0
  pub no_calls : r.calls ≡ 0
  pub no_redefinitions : r.redefinitions ≡ 0
  pub none_rounded : r.rounded ≡ 0
  pub line_is : r.line ≡ line_of t by.place
  pub column_is : r.column ≡ column_of t by.place
  pub opened_are : r.opened ≡ length chain
  pub chain-told : r.chain ≡ chain_told chain
  pub room-kept : left ≡ room

pub refusal-holds : {t : List ℕ} {words : List ℤ} {room : List ℕ} {r : Answer} {words' : List ℤ} {left : List ℕ} (h : Promised t words room r words' left) {by : Refusal} {chain : Chain} → h.outcome ≡ rejected by chain
    → RefusalHolds t room r left by chain × Located t by chain
unfolding given_back failure flat_file
refusal-holds {t} {words} {room} {r} {words'} {left} h {by} {chain} e =
    let g : r ≡ given_back t (rejected by chain) = h.given ∙ ap (λ (o : Outcome). given_back t o) e in (
      record {
        number = ap (λ (a : Answer). a.number) g;
        place = ap (λ (a : Answer). a.place) g;
        no_length = ap (λ (a : Answer). a.length) g;
        no_shapes = ap (λ (a : Answer). a.shapes) g;
        no_calls = ap (λ (a : Answer). a.calls) g;
        no_redefinitions = ap (λ (a : Answer). a.redefinitions) g;
        none_rounded = ap (λ (a : Answer). a.rounded) g;
        line_is = ap (λ (a : Answer). a.line) g;
        column_is = ap (λ (a : Answer). a.column) g;
        opened_are = ap (λ (a : Answer). a.opened) g;
        chain-told = ap (λ (a : Answer). a.chain) g;
        room-kept = h.kept ∙ ap (λ (o : Outcome). room_after o room) e;
      },
      located (subst (Answers t (length words) (length room)) e h.answers),
    )

-- RULES 1: on success the number and place are 0, the first bytes of the room hold the flat file and the rest of the room is unchanged. Request 4: line and column
-- are 0, too, and the chain is empty
pub record SuccessHolds (room : List ℕ) (r : Answer) (left : List ℕ) (cs : List (Placed Command)) (c : Counts) (flat_file_lem : List ℕ) : Type 0 where
  pub no_number : r.number ≡ 0
  pub no_place : r.place ≡ 0
  pub length_is : r.length ≡ length flat_file_lem
  pub shapes_are : r.shapes ≡ c.shapes
  pub calls_are : r.calls ≡ c.calls
  pub redefinitions_are : r.redefinitions ≡ c.redefinitions
  pub rounded_are : r.rounded ≡ rounded cs
  pub no_line : r.line ≡ 0
  pub no_column : r.column ≡ 0
  pub none_open : r.opened ≡ 0
  pub no_chain : r.chain ≡ replicate deepest 0
  pub room-holds : left ≡ flat_file_lem ++ drop (length flat_file_lem) room
  pub fits : length flat_file_lem ≤ length room

pub success-holds : {t : List ℕ} {words : List ℤ} {room : List ℕ} {r : Answer} {words' : List ℤ} {left : List ℕ} (h : Promised t words room r words' left) {cs : List (Placed Command)} {c : Counts} {es : List Event} → h.outcome ≡ accepted cs c es
    → SuccessHolds room r left cs c (flat (shapes_of es))
unfolding given_back success flat_file
success-holds {t} {words} {room} {r} {words'} {left} h {cs} {c} {es} e =
    let g : r ≡ given_back t (accepted cs c es) = h.given ∙ ap (λ (o : Outcome). given_back t o) e in
    let a = acceptance.0 (subst (Answers t (length words) (length room)) e h.answers) in
    record {
      no_number = ap (λ (x : Answer). x.number) g;
      no_place = ap (λ (x : Answer). x.place) g;
      length_is = ap (λ (x : Answer). x.length) g;
      shapes_are = ap (λ (x : Answer). x.shapes) g;
      calls_are = ap (λ (x : Answer). x.calls) g;
      redefinitions_are = ap (λ (x : Answer). x.redefinitions) g;
      rounded_are = ap (λ (x : Answer). x.rounded) g;
      no_line = ap (λ (x : Answer). x.line) g;
      no_column = ap (λ (x : Answer). x.column) g;
      none_open = ap (λ (x : Answer). x.opened) g;
      no_chain = ap (λ (x : Answer). x.chain) g;
      room-holds = h.kept ∙ ap (λ (o : Outcome). room_after o room) e;
      fits = subst (λ (x : List Event). length (flat (shapes_of x)) ≤ length room) (sym a.is_drawing) a.room_fits;
    }
