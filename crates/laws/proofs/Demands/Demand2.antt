-- Demand 2: a text is accepted, and refused by each rule at each place, exactly when the table of RULES 12 and its order of refusals say so.
-- The rules stand in FaultRules (3 to 9) and DrawingRules (10 to 17, 20 and 25), each as its row states it; the calls that are open at a refusal are told,
-- and there are none but at 11 to 17 and 20 (`located` of Demand1).
-- Assumes nothing.
use mathlib.Core.Path.{◌≡◌, refl, ap, ◌∙◌, subst, sym}
use mathlib.Core.List.{List, [], ◌∷◌, ◌++◌}
use mathlib.Core.Logic.{◌↔◌}
use Prim.Native.Nat.{ℕ, ◌≤◌, ◌<◌}
use native.Mathlib.Omega.{arith}
use lib.ListN.{length}
use Rattle.grammar.specs.Notation.{Letter}
use Rattle.grammar.specs.Viable.{Marked, Grammatical, LongestViable}
use Rattle.definition.specs.Limits.{most_bytes}
use Rattle.definition.specs.Words.{Placed}
use Rattle.definition.specs.declared.Rule.{Rule}
use Rattle.definition.specs.declared.Rule.TheVariants.{TextTooLong, NotInGrammar, XOutOfRange, YOutOfRange, FlatFileTooLong}
use Rattle.definition.specs.Rules.{refuse}
use lib.IntN.{ℤ}
use Rattle.definition.specs.Commands.{Shape, Turn, Command, commands}
use Rattle.definition.specs.Table.{Table}
use Rattle.definition.specs.Drawing.{Chain, Event}
use Rattle.definition.specs.Counts.{Counts, finished, stopped}
use Rattle.definition.specs.Answer.{accepted, rejected, Answers}
use Rattle.laws.proofs.Rules.FaultRules.{FirstBreak, rule_ranked}
use Rattle.laws.proofs.Rules.Outcomes.{Passed, end_of, flat_length, TooLong, Way, by_length, by_grammar, by_command, by_drawing, by_flat_file, Accepting, refusal, acceptance}
use Rattle.laws.proofs.Rules.Order.{rank, Between, ByCommand, ByDrawing, one_rule}
use Rattle.laws.proofs.Demands.Demand1.{stopped-within}
use Rattle.definition.specs.Drawing.{deeds}
use Rattle.definition.specs.Counts.{counts}
use Rattle.definition.specs.Standing.{outside}
use Rattle.laws.proofs.Story.Moments.{drawing, Moment, moment, moments}
use Rattle.laws.proofs.Rules.DrawingRules.{Unbroken, Foremost, FirstStop, tally, ShapeFar, FarInX, FarInY, x-foremost, y-foremost, x_only, y_only, drawing_stops}

-- the text is refused by this rule at this place, whatever calls are open there
abbrev pub Refused : List ℕ → (words room : ℕ) → Rule → (place : ℕ) → Type 0
Refused t words room r p = (chain : Chain) × Answers t words room (rejected (refuse r p) chain)

-- In the records below the roles are the text's own: it has only one marking (`one_marking` of the grammar's proofs).
-- 3 to 9: the text is in the grammar, and this is the first rule that its commands break
pub record CommandsBreak (t : List ℕ) (r : Rule) (p : ℕ) : Type 0 where
  pub roles : List Letter
  pub within : length t ≤ most_bytes
  pub marked : Marked t roles
  pub broken : FirstBreak (commands 0 roles) r p

-- 10 to 17, 20 and 25: nothing broken, and this is the first rule that a moment of the drawing breaks
pub record DrawingStopped (t : List ℕ) (words : ℕ) (r : Rule) (p : ℕ) (chain : Chain) : Type 0 where
  pub roles : List Letter
  pub passed : Passed t roles
  pub stops : FirstStop words (counts 0 0 0) (moments [] (deeds (outside []) (commands 0 roles))) r p chain

-- 18: nothing broken, the drawing finishes, and its flat file is too long
pub record FileTooLong (t : List ℕ) (words room : ℕ) : Type 0 where
  pub roles : List Letter
  pub passed : Passed t roles
  pub finished_with : Counts
  pub finishes : end_of words roles ≡ finished finished_with
  pub too_long : TooLong (flat_length roles) room

-- ---- each way, by its rule

-- the rules that stop a drawing
drawing_ranked : (words : ℕ) {t : List ℕ} {m : List Letter} → Passed t m → {r : Rule} {p : ℕ} {chain : Chain} → end_of words m ≡ stopped (refuse r p) chain → ByDrawing r
drawing_ranked words q {r} e = let s = stopped-within q.marked words e in subst ByDrawing (one_rule s.rule r (sym s.is)) s.by_drawing

-- how a drawing stops is the first rule broken
stopping : (words : ℕ) (m : List Letter) {r : Rule} {p : ℕ} {chain : Chain} → (end_of words m ≡ stopped (refuse r p) chain) ↔ FirstStop words (counts 0 0 0) (moments [] (deeds (outside []) (commands 0 m))) r p chain
stopping words m {r} {p} {chain} = drawing_stops words [] (deeds (outside []) (commands 0 m)) r p chain

-- a rule of one stretch of the order is not of another
apart : {a b x y r : Rule} {A : Type 0} → Between a b r → Between x y r → rank b < rank x → A
apart i j h = absurd (let l = i.most in let m = j.least in omega arith)

at_itself : (r : Rule) → Between r r r
at_itself r = record { least = omega arith; most = omega arith }

module _ {t : List ℕ} {words room : ℕ} where
  way_long : {p : ℕ} {chain : Chain} → Way t words room TextTooLong p chain → (p ≡ 0) × (most_bytes < length t)
  way_long w = go w refl
    where
      go : {r : Rule} {p : ℕ} {chain : Chain} → Way t words room r p chain → TextTooLong ≡ r → (p ≡ 0) × (most_bytes < length t)
      go (by_length h) e = (refl, h)
      go (by_grammar h g l) e = absurd (omega (arith, ap rank e))
      go (by_command h k b) e = apart (at_itself TextTooLong) (subst ByCommand (sym e) (rule_ranked b.breaks)) (omega arith)
      go (by_drawing q s) e = apart (at_itself TextTooLong) (subst ByDrawing (sym e) (drawing_ranked words q s)) (omega arith)
      go (by_flat_file q f l) e = absurd (omega (arith, ap rank e))

  way_strange : {p : ℕ} {chain : Chain} → Way t words room NotInGrammar p chain → (length t ≤ most_bytes) × (Grammatical t → ⊥) × LongestViable t p
  way_strange w = go w refl
    where
      go : {r : Rule} {p : ℕ} {chain : Chain} → Way t words room r p chain → NotInGrammar ≡ r → (length t ≤ most_bytes) × (Grammatical t → ⊥) × LongestViable t p
      go (by_length h) e = absurd (omega (arith, ap rank e))
      go (by_grammar h g l) e = (h, g, l)
      go (by_command h k b) e = apart (at_itself NotInGrammar) (subst ByCommand (sym e) (rule_ranked b.breaks)) (omega arith)
      go (by_drawing q s) e = apart (at_itself NotInGrammar) (subst ByDrawing (sym e) (drawing_ranked words q s)) (omega arith)
      go (by_flat_file q f l) e = absurd (omega (arith, ap rank e))

  way_command : {r : Rule} {p : ℕ} {chain : Chain} → ByCommand r → Way t words room r p chain → CommandsBreak t r p
  way_command i (by_length h) = apart (at_itself TextTooLong) i (omega arith)
  way_command i (by_grammar h g l) = apart (at_itself NotInGrammar) i (omega arith)
  way_command i (by_command {m} h k f) = record { roles = m; within = h; marked = k; broken = f }
  way_command i (by_drawing q s) = apart i (drawing_ranked words q s) (omega arith)
  way_command i (by_flat_file q f l) = apart i (at_itself FlatFileTooLong) (omega arith)

  way_drawing : {r : Rule} {p : ℕ} {chain : Chain} → ByDrawing r → Way t words room r p chain → DrawingStopped t words r p chain
  way_drawing i (by_length h) = apart (at_itself TextTooLong) i (omega arith)
  way_drawing i (by_grammar h g l) = apart (at_itself NotInGrammar) i (omega arith)
  way_drawing i (by_command h k f) = apart (rule_ranked f.breaks) i (omega arith)
  way_drawing i (by_drawing {m} q s) = record { roles = m; passed = q; stops = (stopping words m).0 s }
  way_drawing i (by_flat_file q f l) = apart i (at_itself FlatFileTooLong) (omega arith)

  way_file : {p : ℕ} {chain : Chain} → Way t words room FlatFileTooLong p chain → (p ≡ 0) × FileTooLong t words room
  way_file w = go w refl
    where
      go : {r : Rule} {p : ℕ} {chain : Chain} → Way t words room r p chain → FlatFileTooLong ≡ r → (p ≡ 0) × FileTooLong t words room
      go (by_length h) e = absurd (omega (arith, ap rank e))
      go (by_grammar h g l) e = absurd (omega (arith, ap rank e))
      go (by_command h k b) e = apart (subst ByCommand (sym e) (rule_ranked b.breaks)) (at_itself FlatFileTooLong) (omega arith)
      go (by_drawing q s) e = apart (subst ByDrawing (sym e) (drawing_ranked words q s)) (at_itself FlatFileTooLong) (omega arith)
      go (by_flat_file {m} {c} q f l) e = (refl, record { roles = m; passed = q; finished_with = c; finishes = f; too_long = l })

-- ---- the table

-- RULES 12: 1, text over 16,777,216 bytes; at 0
pub refused_by_length : {t : List ℕ} {words room p : ℕ} → Refused t words room TextTooLong p ↔ ((p ≡ 0) × (most_bytes < length t))
refused_by_length {t} {words} {room} {p} = (
  λ r. way_long ((refusal TextTooLong p r.0).0 r.1),
  λ h. ([], subst (λ (q : ℕ). Answers t words room (rejected (refuse TextTooLong q) [])) (sym h.0) ((refusal TextTooLong 0 []).1 (by_length h.1))),
)

-- RULES 12: 2, not in the grammar; at the length of the longest prefix that some continuation completes to a grammatical text
pub refused_by_grammar : {t : List ℕ} {words room p : ℕ} → Refused t words room NotInGrammar p ↔ ((length t ≤ most_bytes) × (Grammatical t → ⊥) × LongestViable t p)
refused_by_grammar {t} {words} {room} {p} = (λ r. way_strange ((refusal NotInGrammar p r.0).0 r.1), λ h. ([], (refusal NotInGrammar p []).1 (by_grammar h.0 h.1 h.2)))

-- RULES 12: then 3 to 9 for all commands in text order, within a command by number, within a number by place
pub refused_by_command : {t : List ℕ} {words room : ℕ} {r : Rule} {p : ℕ} → ByCommand r → Refused t words room r p ↔ CommandsBreak t r p
refused_by_command {t} {words} {room} {r} {p} i = (λ a. way_command i ((refusal r p a.0).0 a.1), λ h. ([], (refusal r p []).1 (by_command h.within h.marked h.broken)))

-- RULES 12: then 10 to 17 in the order of drawing, at one command by number, 25 directly after 10, and 20 after 16. A drawing is stopped by these rules only
pub refused_by_drawing : {t : List ℕ} {words room : ℕ} {r : Rule} {p : ℕ} {chain : Chain} → ByDrawing r
    → Answers t words room (rejected (refuse r p) chain) ↔ DrawingStopped t words r p chain
refused_by_drawing {t} {words} {room} {r} {p} {chain} i = (λ a. way_drawing i ((refusal r p chain).0 a), λ h. (refusal r p chain).1 (by_drawing h.passed ((stopping words h.roles).1 h.stops)))

pub stopped-rule : {t : List ℕ} {words : ℕ} {r : Rule} {p : ℕ} {chain : Chain} → DrawingStopped t words r p chain → ByDrawing r
stopped-rule {words = words} h = drawing_ranked words h.passed ((stopping words h.roles).1 h.stops)

-- RULES 12, request 4: 16 exactly where the first moment that breaks a rule draws a shape here, under these calls, with some x beyond the range; and 20 exactly where it
-- draws one whose x are all good and some y is not
pub record OutOfRange (Far : List (Turn ℤ) → Shape ℤ → Type 0) (t : List ℕ) (words p : ℕ) (chain : Chain) : Type 0 where
  pub roles : List Letter
  pub passed : Passed t roles
  pub before : List Moment
  pub table : Table
  pub net : List (Turn ℤ)
  pub layer : List ℕ
  pub itself : Shape ℤ
  pub after : List Moment
  pub parts : moments [] (deeds (outside []) (commands 0 roles)) ≡ before ++ (moment table chain net p (drawing layer itself) ∷ after)
  pub unbroken : Unbroken words (counts 0 0 0) before
  pub far : Far net itself

module _ {t : List ℕ} {words p : ℕ} {chain : Chain} (Far : List (Turn ℤ) → Shape ℤ → Type 0) (r : Rule) where
  range_stop : ((c : Counts) (m : Moment) → Foremost words c m r → ShapeFar Far m) → DrawingStopped t words r p chain → OutOfRange Far t words p chain
  range_stop only d =
      let f = d.stops in
      let s = only (tally (counts 0 0 0) f.before) f.it f.foremost in
      let it-is : f.it ≡ moment f.it.table chain f.it.net p (drawing s.layer s.itself) =
      λ i. record { table = f.it.table; chain = sym f.chain_is i; net = f.it.net; place = sym f.place_is i; act = s.is i } in
      record {
        roles = d.roles;
        passed = d.passed;
        before = f.before;
        table = f.it.table;
        net = f.it.net;
        layer = s.layer;
        itself = s.itself;
        after = f.after;
        parts = f.parts ∙ ap (λ (m : Moment). f.before ++ (m ∷ f.after)) it-is;
        unbroken = f.unbroken;
        far = s.far;
      }

  stop_ranged : ((c : Counts) (u : Table) (net : List (Turn ℤ)) (l : List ℕ) (k : Shape ℤ) → Far net k → Foremost words c (moment u chain net p (drawing l k)) r)
      → OutOfRange Far t words p chain → DrawingStopped t words r p chain
  stop_ranged foremost o = record {
    roles = o.roles;
    passed = o.passed;
    stops = record {
      before = o.before;
      it = moment o.table chain o.net p (drawing o.layer o.itself);
      after = o.after;
      parts = o.parts;
      unbroken = o.unbroken;
      foremost = foremost (tally (counts 0 0 0) o.before) o.table o.net o.layer o.itself o.far;
      place_is = refl;
      chain_is = refl;
    };
  }

pub refused_by_x : {t : List ℕ} {words room p : ℕ} {chain : Chain} → Answers t words room (rejected (refuse XOutOfRange p) chain) ↔ OutOfRange FarInX t words p chain
refused_by_x = (
  λ a. range_stop FarInX XOutOfRange (λ c m f. x_only f) ((refused_by_drawing {r = XOutOfRange} (record { least = omega arith; most = omega arith })).0 a),
  λ o. (refused_by_drawing {r = XOutOfRange} (record { least = omega arith; most = omega arith })).1 (stop_ranged FarInX XOutOfRange (λ c u net l k x. x-foremost x) o),
)

pub refused_by_y : {t : List ℕ} {words room p : ℕ} {chain : Chain} → Answers t words room (rejected (refuse YOutOfRange p) chain) ↔ OutOfRange FarInY t words p chain
refused_by_y = (
  λ a. range_stop FarInY YOutOfRange (λ c m f. y_only f) ((refused_by_drawing {r = YOutOfRange} (record { least = omega arith; most = omega arith })).0 a),
  λ o. (refused_by_drawing {r = YOutOfRange} (record { least = omega arith; most = omega arith })).1 (stop_ranged FarInY YOutOfRange (λ c u net l k y. y-foremost y) o),
)

-- RULES 12: then 18, flat file longer than the room or than 16,777,216; at 0
pub refused_by_flat_file : {t : List ℕ} {words room p : ℕ} → Refused t words room FlatFileTooLong p ↔ ((p ≡ 0) × FileTooLong t words room)
refused_by_flat_file {t} {words} {room} {p} = (
  λ r. way_file ((refusal FlatFileTooLong p r.0).0 r.1),
  λ h. ([], subst (λ (q : ℕ). Answers t words room (rejected (refuse FlatFileTooLong q) [])) (sym h.0) ((refusal FlatFileTooLong 0 []).1 (by_flat_file h.1.passed h.1.finishes h.1.too_long))),
)

-- RULES 12: accepted otherwise: nothing broken, the drawing finishes with these counts, and the flat file fits
pub accepted_exactly : {t : List ℕ} {words room : ℕ} {cs : List (Placed Command)} {c : Counts} {es : List Event} → Answers t words room (accepted cs c es) ↔ Accepting t words room cs c es
accepted_exactly = acceptance
