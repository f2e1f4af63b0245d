-- What may come of a text and a count, and nothing else (request 11): the reader's own refusal of the whole text, 18 left out; 26, exactly where the text is drawn through and the count is 0 or
-- above its shapes; or the shape with that count, which the flat file has there, and which is explained call by call.
-- Assumes nothing.
use mathlib.Core.Path.{◌≡◌, refl, sym, ap, ◌∙◌, subst}
use mathlib.Core.List.{List, [], ◌∷◌, ◌++◌, append_assoc}
use mathlib.Core.Logic.{◌⊎◌, inl, inr, ◌↔◌}
use mathlib.Core.Option.{Option, none, some}
use Prim.Native.Nat.{ℕ, ◌+◌, ◌≤◌, ◌<◌}
use native.Mathlib.Omega.{arith}
use lib.ListN.{length}
use Rattle.grammar.specs.Notation.{Letter}
use Rattle.grammar.specs.Viable.{Marked}
use Rattle.grammar.proofs.Markings.{one_marking}
use Rattle.definition.specs.declared.Refusal.{Refusal}
use Rattle.definition.specs.Limits.{most_bytes}
use Rattle.definition.specs.Words.{Placed}
use Rattle.definition.specs.declared.Rule.{Rule}
use Rattle.definition.specs.declared.Rule.TheVariants.{FlatFileTooLong, NoSuchShape}
use Rattle.definition.specs.Rules.{number_of, refuse}
use Rattle.definition.specs.Commands.{Command, commands}
use Rattle.definition.specs.Standing.{outside}
use Rattle.definition.specs.Faults.{first_fault}
use Rattle.definition.specs.Drawing.{Chain, Drawn, Event, deeds}
use Rattle.definition.specs.Counts.{Counts, counts, End, finished, stopped, ending, shapes_of}
use Rattle.definition.specs.Flat.{said, lines, flat}
use Rattle.definition.specs.Answer
use Rattle.definition.specs.Answer.{Outcome, accepted, rejected, given_back, failure, drawing_of, held_drawing, fitted, drawn, outcome_of, Answers}
use Rattle.definition.specs.Why.{numbered, Reason, because, refuses, reason_found, reason_at, reason_from, reason_of, WhyAnswers, too_long, not_cif, read}
use Rattle.definition.proofs.Reasons.{reason_unique}
use Rattle.laws.proofs.Lists.Joined.{last_layer, lines-++}
use Rattle.laws.proofs.Lists.Range.{All, all_at}
use Rattle.laws.proofs.Rules.FaultRules.{no_first-fault, rule_ranked}
use Rattle.laws.proofs.Rules.Order.{rank, ByCommand, ByDrawing, one_rule}
use Rattle.laws.proofs.Rules.Outcomes.{Passed, end_of, Way, by_length, by_grammar, by_command, by_drawing, by_flat_file, refusal, acceptance}
use Rattle.laws.proofs.Demands.Demand1.{stopped-within}
use Rattle.reasons.specs.Explains.{ExplainedBy}
use Rattle.reasons.proofs.Numbered.{ListedAt, numbered-when, Missing, none_when}
use Rattle.reasons.proofs.Explained.{shapes_explained}
use Rattle.reasons.proofs.Told.{Through, shapes_through, through-told, through-when, missing_told, zero-told}

pub data Answered (t : List ℕ) (words count : ℕ) : Reason → Type 0 where
  as_reader : {r : Refusal} {chain : Chain} → ((room : ℕ) → Answers t words room (rejected r chain)) → (number_of r.rule ≡ number_of FlatFileTooLong → ⊥) → Answered t words count (refuses r chain)
  no_shape : (f : Through t words) → Missing count (shapes_through f) → Answered t words count (refuses (refuse NoSuchShape 0) [])
  told : (f : Through t words) (d : Drawn) → ListedAt count (shapes_through f) d → Answered t words count (because d)

-- the parts of a refusal
outcome_in : Reason → Outcome
outcome_in (because d) = rejected (refuse NoSuchShape 0) []
outcome_in (refuses r chain) = rejected r chain

place_in : Reason → ℕ
place_in (because d) = 0
place_in (refuses r chain) = r.place

chain_in : Reason → Chain
chain_in (because d) = []
chain_in (refuses r chain) = chain

number_in : Reason → ℕ
number_in (because d) = 0
number_in (refuses r chain) = number_of r.rule

-- what is refused so for every count is not refused by 18 alone: count 0 would be 26
not-18 : {t : List ℕ} {words room : ℕ} (r : Refusal) (chain : Chain) → WhyAnswers t words 0 (refuses r chain) → Answers t words room (rejected r chain) → number_of r.rule ≡ number_of FlatFileTooLong → ⊥
unfolding given_back failure number_in
not-18 r chain w a e =
    let f = through-when (rejected r chain) a (inr e) in
    let same : number_of r.rule ≡ 26 = ap number_in (reason_unique w (zero-told f)) in
    omega (arith, e, same)

by_shape : {t : List ℕ} {words : ℕ} (count : ℕ) (f : Through t words) (x : Option Drawn) → numbered count (shapes_through f) ≡ x → Answered t words count (reason_found x)
unfolding reason_found
by_shape count f none e = no_shape f ((none_when count (shapes_through f)).0 e)
by_shape count f (some d) e = told f d ((numbered-when count (shapes_through f) d).0 e)

module _ {t : List ℕ} (words : ℕ) {m : List Letter} (h : length t ≤ most_bytes) (k : Marked t m) where
  abbrev cs : List (Placed Command)
  cs = commands 0 m

  read_as : (count : ℕ) (y : Option Refusal) → first_fault cs ≡ y → WhyAnswers t words count (reason_from y cs words count)
  unfolding reason_of
  read_as count y e = subst (WhyAnswers t words count) (ap (λ (x : Option Refusal). reason_from x cs words count) e) (read h k)

  drawn_as : (room : ℕ) (y : Option Refusal) → first_fault cs ≡ y → Answers t words room (drawn y cs words room)
  unfolding outcome_of
  drawn_as room y e = subst (Answers t words room) (ap (λ (x : Option Refusal). drawn x cs words room) e) (Answer.read h k)

  by_end : (count : ℕ) → first_fault cs ≡ none → (x : End) → end_of words m ≡ x → Answered t words count (reason_at x (drawing_of cs) count)
  unfolding reason_at reason_from drawn fitted
  by_end count q (stopped r chain) e =
      let all : (room : ℕ) → Answers t words room (rejected r chain) = λ room. subst (Answers t words room) (ap (λ (x : End). fitted x cs (drawing_of cs) room) e) (drawn_as room none q) in
      as_reader all (not-18 r chain (subst (WhyAnswers t words 0) (ap (λ (x : End). reason_at x (drawing_of cs) 0) e) (read_as 0 none q)) (all 0))
  by_end count q (finished c) e =
      let f : Through t words = record { roles = m; last = c; passed = record { within = h; marked = k; unbroken = (no_first-fault k).0 q }; finishes = e } in
      by_shape count f (numbered count (shapes_through f)) refl

  by_fault : (count : ℕ) (y : Option Refusal) → first_fault cs ≡ y → Answered t words count (reason_from y cs words count)
  unfolding reason_from drawn
  by_fault count (some r) q = as_reader (λ room. drawn_as room (some r) q) (not-18 r [] (read_as 0 (some r) q) (drawn_as 0 (some r) q))
  by_fault count none q = by_end count q (end_of words m) refl

-- every answer is one of these
pub answered : {t : List ℕ} {words count : ℕ} {o : Reason} → WhyAnswers t words count o → Answered t words count o
unfolding reason_of
answered (too_long h) = as_reader (λ room. Answer.too_long h) (λ e. omega (arith, e))
answered (not_cif h g l) = as_reader (λ room. Answer.not_cif h g l) (λ e. omega (arith, e))
answered {words = words} {count = count} (read {m} h k) = by_fault words h k count (first_fault (commands 0 m)) refl

-- ---- the shape that is told

pub record ToldOf (t : List ℕ) (words count : ℕ) (d : Drawn) : Type 0 where  -- the text is drawn through, and d stands at that count among its shapes
  pub through : Through t words
  pub listed : ListedAt count (shapes_through through) d

pub told-when : {t : List ℕ} {words count : ℕ} {d : Drawn} → WhyAnswers t words count (because d) ↔ ToldOf t words count d
unfolding reason_found
told-when {t} {words} {count} {d} = (λ a. there (answered a), back)
  where
    there : Answered t words count (because d) → ToldOf t words count d
    there (told f x l) = record { through = f; listed = l }

    back : ToldOf t words count d → WhyAnswers t words count (because d)
    back x =
        subst (λ (y : Option Drawn). WhyAnswers t words count (reason_found y)) ((numbered-when count (shapes_through x.through) d).1 x.listed) (through-told count x.through)

-- it is explained call by call, by the deeds of the text's commands
pub told_explained : {t : List ℕ} {words count : ℕ} {d : Drawn} (x : ToldOf t words count d) → ExplainedBy [] (deeds (outside []) (commands 0 x.through.roles)) d
told_explained {d = d} x =
    let ds = deeds (outside []) (commands 0 x.through.roles) in
    all_at (ExplainedBy [] ds) x.listed.before d x.listed.after (subst (All (ExplainedBy [] ds)) x.listed.parted (shapes_explained [] ds))

-- ---- 26

-- the reader never answers 26
pub never-26 : {t : List ℕ} {words room p : ℕ} {chain : Chain} → Answers t words room (rejected (refuse NoSuchShape p) chain) → ⊥
never-26 {t} {words} {room} {p} {chain} a = go ((refusal NoSuchShape p chain).0 a) refl
  where
    go : {r : Rule} {q : ℕ} {x : Chain} → Way t words room r q x → NoSuchShape ≡ r → ⊥
    go (by_length h) e = omega (arith, ap rank e)
    go (by_grammar h g l) e = omega (arith, ap rank e)
    go (by_command h k b) e = let m = (subst ByCommand (sym e) (rule_ranked b.breaks)).most in omega (arith, m)
    go (by_drawing {m} {r} k s) e =
        let y = stopped-within k.marked words s in
        let m = (subst ByDrawing (one_rule y.rule r (sym y.is) ∙ sym e) y.by_drawing).most in
        omega (arith, m)
    go (by_flat_file q f l) e = omega (arith, ap rank e)

pub record Lacking (t : List ℕ) (words count : ℕ) : Type 0 where  -- the text is drawn through, and the count is 0 or above its shapes
  pub through : Through t words
  pub missing : Missing count (shapes_through through)

pub refused_by_count : {t : List ℕ} {words count p : ℕ} {chain : Chain} → WhyAnswers t words count (refuses (refuse NoSuchShape p) chain) ↔ ((p ≡ 0) × (chain ≡ []) × Lacking t words count)
unfolding outcome_in place_in chain_in
refused_by_count {t} {words} {count} {p} {chain} = (λ a. there (answered a) refl, back)
  where
    there : {o : Reason} → Answered t words count o → refuses (refuse NoSuchShape p) chain ≡ o → (p ≡ 0) × (chain ≡ []) × Lacking t words count
    there (as_reader f n) e = absurd (never-26 (subst (Answers t words 0) (sym (ap outcome_in e)) (f 0)))
    there (no_shape f m) e = (ap place_in e, ap chain_in e, record { through = f; missing = m })
    there (told f d l) e = let z : ◌≡◌ {A = ℕ} 0 1 = cc in absurd (omega (arith, z))

    back : (p ≡ 0) × (chain ≡ []) × Lacking t words count → WhyAnswers t words count (refuses (refuse NoSuchShape p) chain)
    back (e, q, x) =
        subst (λ (y : ℕ). WhyAnswers t words count (refuses (refuse NoSuchShape y) chain)) (sym e)
        (subst (λ (y : Chain). WhyAnswers t words count (refuses (refuse NoSuchShape 0) y)) (sym q) (missing_told count x.through x.missing))

-- nothing but 26 is new: any other refusal is the reader's, whatever the room
pub refused_as_reader : {t : List ℕ} {words count : ℕ} {r : Refusal} {chain : Chain} → WhyAnswers t words count (refuses r chain) → (number_of r.rule ≡ number_of NoSuchShape → ⊥)
    → (room : ℕ) → Answers t words room (rejected r chain)
unfolding outcome_in number_in
refused_as_reader {t} {words} {count} {r} {chain} a not = go (answered a) refl
  where
    go : {o : Reason} → Answered t words count o → refuses r chain ≡ o → (room : ℕ) → Answers t words room (rejected r chain)
    go (as_reader f n) e room = subst (Answers t words room) (sym (ap outcome_in e)) (f room)
    go (no_shape f m) e room = absurd (not (ap number_in e))
    go (told f d l) e room = let z : ◌≡◌ {A = ℕ} 0 1 = cc in absurd (omega (arith, z))

-- ---- of a text that the reader accepts, the shape is told that its flat file has at that count

pub told-listed : {t : List ℕ} {words room count : ℕ} {cs : List (Placed Command)} {c : Counts} {es : List Event} {d : Drawn} → Answers t words room (accepted cs c es)
    → WhyAnswers t words count (because d) ↔ ListedAt count (shapes_of es) d
unfolding reason_found
told-listed {t} {words} {room} {count} {cs} {c} {es} {d} a = (there, back)
  where
    f : Through t words
    f = let w = acceptance.0 a in record { roles = w.roles; last = c; passed = w.passed; finishes = w.finishes }

    same : es ≡ drawing_of (commands 0 f.roles)
    same = (acceptance.0 a).is_drawing

    by_number : WhyAnswers t words count (because d) → numbered count (shapes_of es) ≡ some d
    by_number w = go (numbered count (shapes_of es)) (ap (λ (x : List Event). numbered count (shapes_of x)) (sym same))
      where
        go : (y : Option Drawn) → numbered count (shapes_through f) ≡ y → y ≡ some d
        go none e = let q = reason_unique w (subst (λ (y : Option Drawn). WhyAnswers t words count (reason_found y)) e (through-told count f)) in let z : ◌≡◌ {A = ℕ} 0 1 = cc in absurd (omega (arith, z))
        go (some x) e = let q : because d ≡ because x = reason_unique w (subst (λ (y : Option Drawn). WhyAnswers t words count (reason_found y)) e (through-told count f)) in cc

    there : WhyAnswers t words count (because d) → ListedAt count (shapes_of es) d
    there w = (numbered-when count (shapes_of es) d).0 (by_number w)

    back : ListedAt count (shapes_of es) d → WhyAnswers t words count (because d)
    back l = told-when.1 (record { through = f; listed = subst (λ (x : List Event). ListedAt count (shapes_of x) d) same l })

-- RULES 11: the shape's line stands in the flat file after those of the shapes before it
pub line_there : {count : ℕ} {ds : List Drawn} {d : Drawn} (l : ListedAt count ds d)
    → flat ds ≡ lines [] l.before ++ (said (last_layer [] l.before) d ++ (lines d.layer_of l.after ++ (69 ∷ 10 ∷ [])))
unfolding flat lines
line_there {ds = ds} {d = d} l =
    let ends : List ℕ = 69 ∷ 10 ∷ [] in
    ap (λ (x : List Drawn). lines [] x ++ ends) l.parted ∙ ap (λ (x : List ℕ). x ++ ends) (lines-++ [] l.before (d ∷ l.after))
    ∙ append_assoc (lines [] l.before) (said (last_layer [] l.before) d ++ lines d.layer_of l.after) ends
    ∙ ap (λ (x : List ℕ). lines [] l.before ++ x) (append_assoc (said (last_layer [] l.before) d) (lines d.layer_of l.after) ends)
