-- What an engine that is lent records promises (RULES 8, request 7): one outcome, the records included; with at least 32 records it is the reader's; with fewer it is the reader's
-- but for 21, which comes exactly when the reading comes to a call that needs one record more than were lent.
-- Assumes nothing.
use mathlib.Core.Path.{◌≡◌, refl, sym, ap, ◌∙◌, subst}
use mathlib.Core.List.{List, []}
use mathlib.Core.Logic.{◌↔◌}
use mathlib.Core.Option.{Option, none, some}
use Prim.Native.Nat.{ℕ, ◌≤◌}
use native.Mathlib.Omega.{arith}
use lib.IntN.{ℤ}
use lib.ListN.{length}
use Rattle.grammar.specs.Notation.{Letter}
use Rattle.grammar.specs.Viable.{Marked}
use Rattle.grammar.proofs.Markings.{one_marking}
use Rattle.grammar.proofs.Unique.{one_length}
use Rattle.definition.specs.declared.Answer.{Answer}
use Rattle.definition.specs.declared.Refusal.{Refusal}
use Rattle.definition.specs.Limits.{most_bytes, deepest}
use Rattle.definition.specs.Words.{Placed}
use Rattle.definition.specs.declared.Rule.{Rule}
use Rattle.definition.specs.declared.Rule.TheVariants.{NotInGrammar, TooFewRecords}
use Rattle.definition.specs.Rules.{number_of, refuse}
use Rattle.definition.specs.Commands.{Turn, Command, commands}
use Rattle.definition.specs.Faults.{first_fault}
use Rattle.definition.specs.Table.{Table}
use Rattle.definition.specs.Drawing.{Chain, Event}
use Rattle.definition.specs.Counts.{Counts, counts, End, stopped, ending}
use Rattle.definition.specs.Answer
use Rattle.definition.specs.Answer.{Outcome, accepted, rejected, given_back, room_after, drawing_of, held_drawing, fitted, drawn, outcome_of, Answers, Promised}
use Rattle.definition.specs.Records.{stacked_drawing, drawn_with, outcome_with, AnswersWith, too_long, not_cif, read, PromisedWith}
use Rattle.definition.proofs.Right.{one_answer}
use Rattle.laws.proofs.Rules.FaultRules.{no_first-fault}
use Rattle.laws.proofs.Rules.Outcomes.{Passed}
use Rattle.laws.proofs.Rules.DrawingRules.{Broken, live, few_words, off_axes_lem, undefined, being_drawn_lem, deep, many-calls, far_x, far_y, many-shapes}
use Rattle.laws.proofs.Story.Moments.{Act}
use Rattle.laws.proofs.Demands.Demand2.{refused_by_drawing}
use Rattle.stacking.proofs.Stacked.{enough-records}
use Rattle.stacking.proofs.Lacking.{Lacks, lacking_stops, EndsStacked, as_before, by_records, stacked_ends}

-- ---- two outcomes that are allowed are one, whatever the text is

pub unique_with : {t : List ℕ} {words records room : ℕ} {o p : Outcome} → AnswersWith t words records room o → AnswersWith t words records room p → o ≡ p
unique_with (too_long h) (too_long k) = refl
unique_with (too_long h) (not_cif k g l) = absurd (omega arith)
unique_with (too_long h) (read k m) = absurd (omega arith)
unique_with (not_cif h g l) (too_long k) = absurd (omega arith)
unique_with (not_cif h g l) (not_cif k e m) = ap (λ (n : ℕ). rejected (refuse NotInGrammar n) []) (one_length l m)
unique_with (not_cif h g l) (read {m} k e) = absurd (g (m, e))
unique_with (read h m) (too_long k) = absurd (omega arith)
unique_with (read {m} h e) (not_cif k g l) = absurd (g (m, e))
unique_with {words = words} {records = records} {room = room} (read h m) (read k n) = ap (λ (x : List Letter). outcome_with x words records room) (one_marking m n)

pub one_answer_with : {F : Type 0} {z : F} {t : List ℕ} {words : List ℤ} {room : List ℕ} {fs : List F} {r r' : Answer} {words' words'' : List ℤ} {left left' : List ℕ} {fs' fs'' : List F}
    → PromisedWith z t words room fs r words' left fs' → PromisedWith z t words room fs r' words'' left' fs'' → (r ≡ r') × (left ≡ left') × (words' ≡ words'') × (fs' ≡ fs'')
one_answer_with {t = t} {room = room} p q =
    let e : p.outcome ≡ q.outcome = unique_with p.answers q.answers in (
      p.given ∙ ap (λ (o : Outcome). given_back t o) e ∙ sym q.given,
      p.kept ∙ ap (λ (o : Outcome). room_after o room) e ∙ sym q.kept,
      p.cleared ∙ sym q.cleared,
      p.emptied ∙ sym q.emptied,
    )

-- ---- with at least 32 records

module _ (words records room : ℕ) (many : deepest ≤ records) where
  drawn-same : (f : Option Refusal) (cs : List (Placed Command)) → drawn_with f cs words records room ≡ drawn f cs words room
  unfolding drawn_with drawn
  drawn-same none cs = ap (λ (es : List Event). fitted (ending (counts 0 0 0) es) cs (drawing_of cs) room) (enough-records records many words cs)
  drawn-same (some r) cs = refl

  outcome-same : (m : List Letter) → outcome_with m words records room ≡ outcome_of m words room
  unfolding outcome_with outcome_of
  outcome-same m = drawn-same (first_fault (commands 0 m)) (commands 0 m)

  pub answers-same : {t : List ℕ} {o : Outcome} → AnswersWith t words records room o → Answers t words room o
  answers-same (too_long h) = Answer.too_long h
  answers-same (not_cif h g l) = Answer.not_cif h g l
  answers-same {t} (read {m} h k) = subst (Answers t words room) (sym (outcome-same m)) (Answer.read h k)

pub promised-same : {F : Type 0} {z : F} {t : List ℕ} {words : List ℤ} {room : List ℕ} {fs : List F} {r : Answer} {words' : List ℤ} {left : List ℕ} {fs' : List F}
    → deepest ≤ length fs → PromisedWith z t words room fs r words' left fs' → Promised t words room r words' left
promised-same {words = words} {room = room} {fs = fs} many p = record {
  outcome = p.outcome;
  answers = answers-same (length words) (length fs) (length room) many p.answers;
  given = p.given;
  kept = p.kept;
  cleared = p.cleared;
}

-- both engines give equal numbers, places, lines, columns, chains, counts and bytes
pub engines_agree : {F : Type 0} {z : F} {t : List ℕ} {words : List ℤ} {room : List ℕ} {fs : List F} {r r' : Answer} {words' words'' : List ℤ} {left left' : List ℕ} {fs' : List F}
    → deepest ≤ length fs → PromisedWith z t words room fs r words' left fs' → Promised t words room r' words'' left' → (r ≡ r') × (left ≡ left') × (words' ≡ words'')
engines_agree many p q = one_answer (promised-same many p) q

-- ---- with fewer

-- refusals 1 to 9 let the text pass; and of its drawing, held to the words lent, a call here is the first that needs a record more than were lent, and nothing stops it before
pub record TooFewLent (t : List ℕ) (words records p : ℕ) (chain : Chain) : Type 0 where
  pub roles : List Letter
  pub passed : Passed t roles
  pub lacking : Lacks records (counts 0 0 0) (held_drawing words (commands 0 roles))
  pub place_is : lacking.place ≡ p
  pub chain_is : lacking.chain ≡ chain

-- what comes of a text is what comes of it without records, or 21
pub data WithRecords (t : List ℕ) (words records room : ℕ) (o : Outcome) : Type 0 where
  the_same : Answers t words room o → WithRecords t words records room o
  refused-21 : (p : ℕ) (chain : Chain) → o ≡ rejected (refuse TooFewRecords p) chain → TooFewLent t words records p chain → WithRecords t words records room o

module _ {t : List ℕ} (words records room : ℕ) {m : List Letter} (h : length t ≤ most_bytes) (k : Marked t m) where
  abbrev cs : List (Placed Command)
  cs = commands 0 m

  by_end : first_fault cs ≡ none → {e : End} → EndsStacked records (counts 0 0 0) (held_drawing words cs) e → WithRecords t words records room (fitted e cs (drawing_of cs) room)
  unfolding outcome_of drawn fitted
  by_end q (as_before never) =
      the_same (subst (Answers t words room) (ap (λ (f : Option Refusal). drawn f cs words room) q) (Answer.read h k))
  by_end q (by_records f) =
      refused-21 f.place f.chain refl
      (record { roles = m; passed = record { within = h; marked = k; unbroken = (no_first-fault k).0 q }; lacking = f; place_is = refl; chain_is = refl })

  by_fault : (f : Option Refusal) → first_fault cs ≡ f → WithRecords t words records room (drawn_with f cs words records room)
  unfolding drawn_with outcome_of drawn
  by_fault (some r) q = the_same (subst (Answers t words room) (ap (λ (f : Option Refusal). drawn f cs words room) q) (Answer.read h k))
  by_fault none q = by_end q (stacked_ends records (counts 0 0 0) (held_drawing words cs))

  by_reading : WithRecords t words records room (outcome_with m words records room)
  unfolding outcome_with
  by_reading = by_fault (first_fault cs) refl

pub with_records : {t : List ℕ} {words records room : ℕ} {o : Outcome} → AnswersWith t words records room o → WithRecords t words records room o
with_records (too_long h) = the_same (Answer.too_long h)
with_records (not_cif h g l) = the_same (Answer.not_cif h g l)
with_records {t} {words} {records} {room} (read {m} h k) = by_reading words records room h k

-- no rule of the first engine (RULES 12) is 21
never_broken : {words : ℕ} {c : Counts} {t : Table} {chain : Chain} {net : List (Turn ℤ)} {a : Act} {r : Rule} → Broken words c t chain net a r → r ≡ TooFewRecords → ⊥
never_broken (live x) e = let n = ap number_of e in omega (arith, n)
never_broken (few_words x) e = let n = ap number_of e in omega (arith, n)
never_broken (off_axes_lem x) e = let n = ap number_of e in omega (arith, n)
never_broken (undefined x) e = let n = ap number_of e in omega (arith, n)
never_broken (being_drawn_lem x) e = let n = ap number_of e in omega (arith, n)
never_broken (deep x) e = let n = ap number_of e in omega (arith, n)
never_broken (many-calls x) e = let n = ap number_of e in omega (arith, n)
never_broken (far_x x) e = let n = ap number_of e in omega (arith, n)
never_broken (far_y x) e = let n = ap number_of e in omega (arith, n)
never_broken (many-shapes x) e = let n = ap number_of e in omega (arith, n)

-- the reader never answers 21
pub never-21 : {t : List ℕ} {words room p : ℕ} {chain : Chain} → Answers t words room (rejected (refuse TooFewRecords p) chain) → ⊥
never-21 {t} {words} {room} {p} {chain} a =
    let s = (refused_by_drawing {r = TooFewRecords} (record { least = omega arith; most = omega arith })).0 a in
    never_broken s.stops.foremost.breaks refl

-- RULES 12, request 7: 21, with its chain, at the first call that needs one record more than lent, and nowhere else
pub refused_by_records : {t : List ℕ} {words records room p : ℕ} {chain : Chain}
    → AnswersWith t words records room (rejected (refuse TooFewRecords p) chain) ↔ TooFewLent t words records p chain
unfolding outcome_with drawn_with fitted
refused_by_records {t} {words} {records} {room} {p} {chain} = (there, back)
  where
    place_of : Outcome → ℕ
    place_of (rejected r x) = r.place
    place_of (accepted _ _ _) = 0

    chain_of : Outcome → Chain
    chain_of (rejected r x) = x
    chain_of (accepted _ _ _) = []

    by_case : WithRecords t words records room (rejected (refuse TooFewRecords p) chain) → TooFewLent t words records p chain
    by_case (the_same a) = absurd (never-21 a)
    by_case (refused-21 q l e f) = record {
      roles = f.roles;
      passed = f.passed;
      lacking = f.lacking;
      place_is = f.place_is ∙ sym (ap place_of e);
      chain_is = f.chain_is ∙ sym (ap chain_of e);
    }

    there : AnswersWith t words records room (rejected (refuse TooFewRecords p) chain) → TooFewLent t words records p chain
    there a = by_case (with_records a)

    back : TooFewLent t words records p chain → AnswersWith t words records room (rejected (refuse TooFewRecords p) chain)
    back f =
        let cs = commands 0 f.roles in
        let stops : ending (counts 0 0 0) (stacked_drawing words records cs) ≡ stopped (refuse TooFewRecords p) chain =
        lacking_stops records (counts 0 0 0) (held_drawing words cs) f.lacking ∙ ap (λ (q : ℕ). stopped (refuse TooFewRecords q) f.lacking.chain) f.place_is
        ∙ ap (stopped (refuse TooFewRecords p)) f.chain_is in
        subst (AnswersWith t words records room)
        (ap (λ (y : Option Refusal). drawn_with y cs words records room) ((no_first-fault f.passed.marked).1 f.passed.unbroken)
        ∙ ap (λ (e : End). fitted e cs (drawing_of cs) room) stops)
        (read f.passed.within f.passed.marked)
