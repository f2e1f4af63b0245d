-- What is told of a shape, and when (RULES 20 and 12, request 11): a text that the reader refuses for anything but 18 is refused so; all others are drawn through, and there the shape with the
-- count is told, or it is 26, exactly for count 0 and for a count above the shapes. And what two runs, one of them counted from n shapes before the limit, find out.
-- Assumes nothing.
use mathlib.Core.Path.{◌≡◌, refl, sym, ap, ◌∙◌, subst}
use mathlib.Core.List.{List, [], ◌∷◌, ◌++◌, map}
use mathlib.Core.Logic.{◌⊎◌, inl, inr, ◌↔◌}
use mathlib.Core.Option.{Option, none, some}
use Prim.Native.Nat.{ℕ, zero, suc, ◌+◌, ◌≤◌, ◌<◌}
use native.Mathlib.Omega.{arith}
use lib.ListN.{length}
use Rattle.grammar.specs.Notation.{Letter}
use Rattle.grammar.specs.Viable.{Marked}
use Rattle.grammar.proofs.Markings.{one_marking}
use Rattle.definition.specs.declared.Answer.{Answer}
use Rattle.definition.specs.declared.Refusal.{Refusal}
use Rattle.definition.specs.Limits.{most_bytes, most_shapes, deepest}
use Rattle.definition.specs.Words.{Placed}
use Rattle.definition.specs.declared.Rule.{Rule}
use Rattle.definition.specs.declared.Rule.TheVariants.{FlatFileTooLong, NoSuchShape, TooManyShapes}
use Rattle.definition.specs.Rules.{number_of, refuse}
use Rattle.definition.specs.Commands.{Command, commands}
use Rattle.definition.specs.Faults.{first_fault}
use Rattle.definition.specs.Drawing.{Chain, Drawn, Event, drew}
use Rattle.definition.specs.Counts.{Counts, counts, End, finished, stopped, ending, shapes_of}
use Rattle.definition.specs.Answer.{Outcome, accepted, rejected, given_back, success, failure, drawing_of, held_drawing, Answers}
use Rattle.definition.specs.Records.{stacked_drawing}
use Rattle.definition.specs.Why.{numbered, Reason, because, refuses, reason_found, reason_at, reason_from, reason_of, WhyAnswers, too_long, not_cif, read}
use Rattle.definition.proofs.Reasons.{reason_unique}
use Rattle.laws.proofs.Rules.FaultRules.{first-fault, no_first-fault}
use Rattle.laws.proofs.Rules.Order.{one_number, one_rule, number_from-1}
use Rattle.laws.proofs.Rules.Outcomes.{Passed, end_of, Way, by_length, by_grammar, by_command, by_drawing, by_flat_file, refusal, refusal-rule, acceptance}
use Rattle.laws.proofs.Demands.Demand2.{refused_by_flat_file}
use Rattle.laws.proofs.Story.Counting.{not_finished, drawing_few, drawing_counts}
use Rattle.laws.proofs.Story.Held.{held-shapes}
use Rattle.stacking.proofs.Stacked.{enough-records}
use Rattle.reasons.specs.Stops.{stop_of}
use Rattle.reasons.proofs.Numbered.{none_some, ListedAt, numbered-when, Missing, none_when}
use Rattle.reasons.proofs.Offset.{Reaches, at_shape, past_all, offset, stopped_at}

-- the text is drawn through with so many words lent: 1 to 17, 20 and 25 let it pass
pub record Through (t : List ℕ) (words : ℕ) : Type 0 where
  pub roles : List Letter
  pub last : Counts
  pub passed : Passed t roles
  pub finishes : end_of words roles ≡ finished last

abbrev pub shapes_through : {t : List ℕ} {words : ℕ} → Through t words → List Drawn  -- the shapes that it draws
shapes_through f = shapes_of (drawing_of (commands 0 f.roles))

module _ {t : List ℕ} {words : ℕ} (count : ℕ) where
  -- a text of which the drawing ends so
  read-ended : (m : List Letter) (e : End) → Passed t m → end_of words m ≡ e → WhyAnswers t words count (reason_at e (drawing_of (commands 0 m)) count)
  unfolding reason_of reason_from
  read-ended m e p h =
      subst (WhyAnswers t words count)
      (ap (λ (y : Option Refusal). reason_from y (commands 0 m) words count) ((no_first-fault p.marked).1 p.unbroken) ∙ ap (λ (x : End). reason_at x (drawing_of (commands 0 m)) count) h)
      (read p.within p.marked)

  -- drawn through, it is told by the list of its shapes
  pub through-told : (f : Through t words) → WhyAnswers t words count (reason_found (numbered count (shapes_through f)))
  unfolding reason_at
  through-told f = read-ended f.roles (finished f.last) f.passed f.finishes

  -- refused by the reader for anything but 18
  way_told : {room : ℕ} {r : Rule} {p : ℕ} {chain : Chain} → Way t words room r p chain → (r ≡ FlatFileTooLong → ⊥) → WhyAnswers t words count (refuses (refuse r p) chain)
  unfolding reason_of reason_from reason_at
  way_told (by_length h) not = too_long h
  way_told (by_grammar h g l) not = not_cif h g l
  way_told (by_command {m} h k b) not = subst (WhyAnswers t words count) (ap (λ (y : Option Refusal). reason_from y (commands 0 m) words count) ((first-fault k).1 b)) (read h k)
  way_told (by_drawing {m} {r} {p} {chain} q e) not = read-ended m (stopped (refuse r p) chain) q e
  way_told (by_flat_file q f l) not = absurd (not refl)

  pub refused_too : {room : ℕ} {r : Refusal} {chain : Chain} → Answers t words room (rejected r chain) → (number_of r.rule ≡ number_of FlatFileTooLong → ⊥) → WhyAnswers t words count (refuses r chain)
  refused_too {room} {r} {chain} a not =
      let (rule, e, w) = refusal-rule a in
      subst (λ (x : Refusal). WhyAnswers t words count (refuses x chain)) (sym e)
      (way_told w (λ h. not (ap (λ (x : Refusal). number_of x.rule) e ∙ ap number_of h)))

-- accepted, or refused by 18 alone, it is drawn through
pub through-accepted : {t : List ℕ} {words room : ℕ} {cs : List (Placed Command)} {c : Counts} {es : List Event} → Answers t words room (accepted cs c es) → Through t words
through-accepted {c = c} a = let w = acceptance.0 a in record { roles = w.roles; last = c; passed = w.passed; finishes = w.finishes }

way_through : {t : List ℕ} {words room : ℕ} {r : Rule} {p : ℕ} {chain : Chain} → Way t words room r p chain → number_of r ≡ number_of FlatFileTooLong → Through t words
way_through {t} {words} {room} {r} {p} {chain} w e = go (subst (λ (x : Rule). Way t words room x p chain) (one_number r FlatFileTooLong e) w)
  where
    go : Way t words room FlatFileTooLong p chain → Through t words
    go x = let f = (refused_by_flat_file.0 (chain, (refusal FlatFileTooLong p chain).1 x)).1 in record { roles = f.roles; last = f.finished_with; passed = f.passed; finishes = f.finishes }

-- the number that the reader gives back tells which: 0 and 18, or another
pub through-when : {t : List ℕ} {words room : ℕ} (o : Outcome) → Answers t words room o → ((given_back t o).number ≡ 0) ⊎ ((given_back t o).number ≡ number_of FlatFileTooLong) → Through t words
unfolding given_back success failure
through-when (accepted cs c es) a e = through-accepted a
through-when (rejected r chain) a (inl e) =
    let (rule, is, w) = refusal-rule a in
    let least = number_from-1 rule in
    let same : number_of r.rule ≡ number_of rule = ap (λ (x : Refusal). number_of x.rule) is in
    absurd (omega (arith, least, same, e))
through-when (rejected r chain) a (inr e) =
    let (rule, is, w) = refusal-rule a in
    way_through w (sym (ap (λ (x : Refusal). number_of x.rule) is) ∙ e)

pub record RefusedSo (t : List ℕ) (words count : ℕ) (o : Outcome) : Type 0 where  -- the outcome is a refusal, and so it is told
  pub why : Refusal
  pub chain : Chain
  pub is : o ≡ rejected why chain
  pub answers : WhyAnswers t words count (refuses why chain)

pub refused-when : {t : List ℕ} {words room : ℕ} (count : ℕ) (o : Outcome) → Answers t words room o → ((given_back t o).number ≡ 0 → ⊥) → ((given_back t o).number ≡ number_of FlatFileTooLong → ⊥)
    → RefusedSo t words count o
unfolding given_back success failure
refused-when count (accepted cs c es) a not-0 not-18 = absurd (not-0 refl)
refused-when count (rejected r chain) a not-0 not-18 = record { why = r; chain = chain; is = refl; answers = refused_too count a not-18 }

-- ---- of a text that is drawn through: what a run finds out that is counted from n shapes before the limit, with 32 records or more

pub record FoundThere (t : List ℕ) (words n : ℕ) (b : Counts) (es : List Event) (why : Refusal) (chain : Chain) : Type 0 where
  pub shape : Drawn
  pub stops_at : stop_of b es ≡ some (drew shape)
  pub refused_so : why ≡ refuse TooManyShapes shape.place
  pub chain_is : chain ≡ shape.chain
  pub answers : WhyAnswers t words (suc n) (because shape)

module _ {t : List ℕ} {words : ℕ} (f : Through t words) (n k records : ℕ) (to_go : k + n ≡ most_shapes) (many : deepest ≤ records) where
  abbrev cs : List (Placed Command)
  cs = commands 0 f.roles

  abbrev es : List Event
  es = stacked_drawing words records cs

  same_shapes : shapes_of es ≡ shapes_of (drawing_of cs)
  same_shapes = ap shapes_of (enough-records records many words cs) ∙ held-shapes words (drawing_of cs)

  reaches : Reaches n (counts 0 k 0) es f.last
  reaches = offset es n 0 0 0 k f.last to_go (ap (ending (counts 0 0 0)) (enough-records records many words cs) ∙ f.finishes)

  told_by : (x : Option Drawn) → numbered (suc n) (shapes_of es) ≡ x → WhyAnswers t words (suc n) (reason_found x)
  told_by x h = subst (λ (y : Option Drawn). WhyAnswers t words (suc n) (reason_found y)) (ap (numbered (suc n)) (sym same_shapes) ∙ h) (through-told (suc n) f)

  pub found_there : {r : Refusal} {chain : Chain} → ending (counts 0 k 0) es ≡ stopped r chain → FoundThere t words n (counts 0 k 0) es r chain
  unfolding reason_found
  found_there {r} {chain} h = go reaches
    where
      go : Reaches n (counts 0 k 0) es f.last → FoundThere t words n (counts 0 k 0) es r chain
      go (at_shape d e there q) =
          let same : stopped r chain ≡ stopped (refuse TooManyShapes d.place) d.chain = sym h ∙ q in
          record { shape = d; stops_at = stopped_at there; refused_so = cc; chain_is = cc; answers = told_by (some d) e }
      go (past_all e few q) = absurd (not_finished (sym h ∙ q))

  pub none_there : {c : Counts} → ending (counts 0 k 0) es ≡ finished c → WhyAnswers t words (suc n) (refuses (refuse NoSuchShape 0) [])
  unfolding reason_found
  none_there {c} h = go reaches
    where
      go : Reaches n (counts 0 k 0) es f.last → WhyAnswers t words (suc n) (refuses (refuse NoSuchShape 0) [])
      go (at_shape d e there q) = absurd (not_finished (sym q ∙ h))
      go (past_all e few q) = told_by none e

-- 26 for count 0, and for a count above the shapes; so for every count above 1,048,576
pub missing_told : {t : List ℕ} {words : ℕ} (count : ℕ) (f : Through t words) → Missing count (shapes_through f) → WhyAnswers t words count (refuses (refuse NoSuchShape 0) [])
unfolding reason_found
missing_told {t} {words} count f h = subst (λ (x : Option Drawn). WhyAnswers t words count (reason_found x)) ((none_when count (shapes_through f)).1 h) (through-told count f)

pub shapes-few : {t : List ℕ} {words : ℕ} (f : Through t words) → length (shapes_through f) ≤ most_shapes
shapes-few {words = words} f =
    let es = held_drawing words (commands 0 f.roles) in
    let few = (drawing_few es f.last f.finishes).1 in
    let are = ap (λ (c : Counts). c.shapes) (drawing_counts es f.last f.finishes) in
    let same = ap length (held-shapes words (drawing_of (commands 0 f.roles))) in
    omega (arith, few, are, same)

pub beyond-told : {t : List ℕ} {words : ℕ} (count : ℕ) → Through t words → most_shapes < count → WhyAnswers t words count (refuses (refuse NoSuchShape 0) [])
beyond-told count f h = missing_told count f (inr (let few = shapes-few f in omega (arith, few, h)))

pub zero-told : {t : List ℕ} {words : ℕ} → Through t words → WhyAnswers t words 0 (refuses (refuse NoSuchShape 0) [])
zero-told f = missing_told 0 f (inl refl)
