-- From what reading and drawing promise to what the reader promises: one law for each way through the code, in the order of refusals.
-- Assumes nothing.
use Rattle.std.specs.Prelude.{Result, Ok, Err}
use mathlib.Core.Path.{◌≡◌, refl, sym, ap, ap₂, ◌∙◌, subst}
use mathlib.Core.List.{List, [], ◌∷◌, map}
use mathlib.Core.Option.{Option, none, some}
use Prim.Native.Nat.{ℕ, ◌+◌, ◌≤◌, ◌^◌}
use native.Mathlib.Omega.{arith}
use lib.IntN.{ℤ, pos}
use lib.ListN.{length, replicate, length-append}
use lib.Seq.{sets}
use Rattle.grammar.specs.Viable.{Judged}
use Rattle.definition.specs.declared.Answer.{Answer}
use Rattle.definition.specs.declared.Refusal.{Refusal}
use Rattle.definition.specs.declared.Rule.TheVariants.{TextTooLong, FlatFileTooLong}
use Rattle.definition.specs.Rules.{refuse}
use Rattle.definition.specs.Commands.{commands}
use Rattle.definition.specs.Standing.{outside}
use Rattle.definition.specs.Faults.{first_fault}
use Rattle.definition.specs.Rounded.{rounded}
use Rattle.definition.specs.Drawing.{Chain, Event, deeds}
use Rattle.definition.specs.Counts.{counts, stopped, ending, shapes_of}
use Rattle.definition.specs.Flat.{lines, flat}
use Rattle.definition.specs.Answer.{Outcome, accepted, rejected, flat_file, success, failure, given_back, drawn, outcome_of, Answers, too_long, not_cif, read, Promised}
use Rattle.definition.specs.Held.{held_to}
use Rattle.laws.proofs.Story.Held.{held_all, held-finished}
use Rattle.laws.proofs.Rules.FaultRules.{no_first-fault}
use Rattle.laws.proofs.Rules.DrawingRules.{drawing_rule}
use Rattle.laws.proofs.Rules.Outcomes
use Rattle.laws.proofs.Rules.Outcomes.{flat_length, TooLong, by_drawing, by_flat_file, Accepting, refusal, acceptance}
use Rattle.reading.specs.Refusal.{fault_said, by_verdict}
use Rattle.pen.specs.Names.{name_of}
use Rattle.digits.specs.Writes.{Writes}
use Rattle.pen.proofs.Names.{no_name}
use Rattle.digits.proofs.Writing.{both, written, begins}
use Rattle.counts.specs.Counting.{tally}
use Rattle.shapes.specs.declared.Ink.{Ink}
use Rattle.shapes.specs.Painting.{bytes_of, Goes, Answered, Painted}
use Rattle.passing.specs.Passed.{Passed, to_draw, dry}
use Rattle.shapes.proofs.Painting.{until_all}
use Rattle.reader.specs.Screened.{Screened, over, within, Rounds, Comes, held_lines}

-- a refusal leaves the room as it was
refusing : {t : List ℕ} {words : ℕ} {room : List ℕ} {r : Answer} {why : Refusal} (chain : Chain) → Answers t words (length room) (rejected why chain)
    → r ≡ failure t why chain → Comes t words room r room
unfolding given_back flat_file
refusing {why = why} chain a e = record { outcome = rejected why chain; answers = a; given = e; kept = refl }

-- ---- 1 to 9

never_clear : {k : ℕ} {why : Refusal} → Ok k ≡ Err why → ⊥
never_clear e = let z : ◌≡◌ {A = ℕ} 0 1 = cc in omega arith

-- how a text with this fault comes out; one without is not asked
abbrev outcome_by : Result ℕ Refusal → Outcome
outcome_by (Ok k) = rejected (refuse TextTooLong 0) []
outcome_by (Err why) = rejected why []

judged-answers : {t : List ℕ} {words room : ℕ} {why : Refusal} → length t ≤ 16777216 → (v : Result Unit ℕ) → Judged t v → by_verdict t v (Err why) → Answers t words room (rejected why [])
judged-answers {t} {words} {room} {why} h (Ok _) g e = go (first_fault (commands 0 g.0)) refl (e g.0 g.1)
  where
    go : (f : Option Refusal) → first_fault (commands 0 g.0) ≡ f → Err why ≡ fault_said f (rounded (commands 0 g.0)) → Answers t words room (rejected why [])
    go none q x = absurd (never_clear (sym x))
    go (some r) q x = unfold outcome_of drawn in
        subst (Answers t words room) (ap (λ (f : Option Refusal). drawn f (commands 0 g.0) words room) q ∙ ap outcome_by (sym x)) (read {m = g.0} h g.1)
judged-answers {t} {words} {room} h (Err i) g e = subst (Answers t words room) (ap outcome_by (sym e)) (not_cif h g.0 g.1)

fault-answers : {t : List ℕ} {words room : ℕ} {d : Result ℕ Refusal} {why : Refusal} → Screened t d → d ≡ Err why → Answers t words room (rejected why [])
fault-answers {t} {words} {room} (over h) is = subst (Answers t words room) (ap outcome_by is) (too_long h)
fault-answers {t} (within h f) is = judged-answers h f.verdict f.judged (subst (by_verdict t f.verdict) is f.is)

pub fault-told : {t : List ℕ} {words : ℕ} {room : List ℕ} {r : Answer} {d : Result ℕ Refusal} {why : Refusal} → Screened t d → d ≡ Err why → r ≡ failure t why []
    → Comes t words room r room
fault-told s is e = refusing [] (fault-answers s is) e

-- how many distances a text without a fault has rounded
abbrev rounded_by : Result ℕ Refusal → ℕ
rounded_by (Ok k) = k
rounded_by (Err why) = 0

clear-passes : {t : List ℕ} {k : ℕ} → length t ≤ 16777216 → (v : Result Unit ℕ) → Judged t v → by_verdict t v (Ok k) → Rounds t k
clear-passes {t} {k} h (Ok _) g e = go (first_fault (commands 0 g.0)) refl (e g.0 g.1)
  where
    go : (f : Option Refusal) → first_fault (commands 0 g.0) ≡ f → Ok k ≡ fault_said f (rounded (commands 0 g.0)) → Rounds t k
    go none q x = record { passed = record { letters = g.0; marked = g.1; short = h; clear = q }; is = ap rounded_by x }
    go (some r) q x = absurd (never_clear x)
clear-passes h (Err i) g e = absurd (never_clear e)

pub passes : {t : List ℕ} {d : Result ℕ Refusal} {k : ℕ} → Screened t d → d ≡ Ok k → Rounds t k
passes (over h) is = absurd (never_clear (sym is))
passes {t} (within h f) is = clear-passes h f.verdict f.judged (subst (by_verdict t f.verdict) is f.is)

-- ---- 10 to 17, 20 and 25, 18, and the flat file

module _ {t : List ℕ} (words : ℕ) (p : Passed t) where
  -- what is drawn, held to the words lent
  abbrev held : List Event
  held = map (held_to words) (to_draw p)

  let_pass : Outcomes.Passed t p.letters
  let_pass = record { within = p.short; marked = p.marked; unbroken = (no_first-fault p.marked).0 p.clear }

  -- a drawing is stopped by a rule
  stopped-answers : {room : ℕ} {why : Refusal} {chain : Chain} → ending (counts 0 0 0) held ≡ stopped why chain → Answers t words room (rejected why chain)
  stopped-answers {room} {why} {chain} e =
      let (rule, by) = drawing_rule words [] (deeds (outside []) (commands 0 p.letters)) why chain e in
      subst (λ (x : Refusal). Answers t words room (rejected x chain)) (sym by)
      ((refusal rule why.place chain).1 (by_drawing let_pass (e ∙ ap (λ (x : Refusal). stopped x chain) by)))

  pub stopped-told : {scrap scrap' room : List ℕ} {chain : Chain} {r : Answer} {d : Result Ink Refusal} {why : Refusal} → Painted dry held scrap chain d scrap' → d ≡ Err why
      → r ≡ failure t why chain → Comes t words room r room
  unfolding Answered
  stopped-told {chain = chain} x is e = refusing chain (stopped-answers (subst (Answered dry held chain) is x.answer)) e

  -- the drawing finished on some room, with these counts and the pen there
  module _ {scrap scrap' : List ℕ} {chain : Chain} {d : Result Ink Refusal} (x : Painted dry held scrap chain d scrap') {ink : Ink} (is : d ≡ Ok ink) where
    goes-held : Goes dry held ink
    unfolding Answered
    goes-held = subst (Answered dry held chain) is x.answer

    -- so the words were enough
    as_drawn : held ≡ to_draw p
    as_drawn = held_all words (to_draw p) ((held-finished words (counts 0 0 0) (to_draw p) (tally ink.counts)).0 goes-held.ends).1

    goes : Goes dry (to_draw p) ink
    goes = subst (λ (es : List Event). Goes dry es ink) as_drawn goes-held

    pub far_below : ink.pen.at ≤ 2 ^ 60
    far_below = omega (arith, goes.reached.place_most, goes.reached.shapes_most)

    -- no layer stands before the first shape
    first-lines : lines (name_of 0) (shapes_of (to_draw p)) ≡ lines [] (shapes_of (to_draw p))
    first-lines = ap (λ (l : List ℕ). lines l (shapes_of (to_draw p))) (no_name 0 refl)

    pub file_length : flat_length p.letters ≡ ink.pen.at + 2
    unfolding flat
    file_length = omega (arith, goes.next, ap length first-lines, length-append (lines [] (shapes_of (to_draw p))) (69 ∷ 10 ∷ []))

    pub over-told : {room : List ℕ} {r : Answer} → TooLong (ink.pen.at + 2) (length room) → r ≡ failure t (refuse FlatFileTooLong 0) [] → Comes t words room r room
    over-told {room} h e =
        refusing [] ((refusal FlatFileTooLong 0 []).1 (by_flat_file let_pass goes-held.ends (subst (λ (n : ℕ). TooLong n (length room)) (sym file_length) h))) e

    accepting : {room : ℕ} → ink.pen.at + 2 ≤ room → ink.pen.at + 2 ≤ 16777216 → Accepting t words room (commands 0 p.letters) (tally ink.counts) (to_draw p)
    accepting h k = record {
      roles = p.letters;
      passed = let_pass;
      are_commands = refl;
      is_drawing = refl;
      finishes = goes-held.ends;
      room_fits = omega (arith, h, file_length);
      limit_fits = omega (arith, k, file_length);
    }

    -- all is before the end, so the lines in the room are those of all shapes
    all_lines : bytes_of dry (to_draw p) ≡ lines [] (shapes_of (to_draw p))
    all_lines =
        ap (λ (es : List Event). lines (name_of 0) (shapes_of es)) (until_all (counts 0 0 0) (to_draw p) (tally ink.counts) goes.ends) ∙ first-lines

    file_in : {room left : List ℕ} → left ≡ sets (sets room 0 (held_lines words p)) ink.pen.at (69 ∷ 10 ∷ [])
        → Writes room left 0 (ink.pen.at + 2) (flat (shapes_of (to_draw p)))
    unfolding flat
    file_in {room} {left} e =
        both {a = lines [] (shapes_of (to_draw p))} (written (ap (sets room 0) (ap (λ (es : List Event). bytes_of dry es) as_drawn ∙ all_lines)) (goes.next ∙ ap (λ (l : List ℕ). 0 + length l) first-lines)) (written {bytes = 69 ∷ 10 ∷ []} e refl)

    -- the room is drawn onto with as many words as were lent for measuring
    pub written-told : {room left : List ℕ} {r : Answer} {k w : ℕ} → w ≡ words → k ≡ rounded (commands 0 p.letters) → ink.pen.at + 2 ≤ length room → ink.pen.at + 2 ≤ 16777216
        → left ≡ sets (sets room 0 (held_lines w p)) ink.pen.at (69 ∷ 10 ∷ []) → r ≡ success (ink.pen.at + 2) (tally ink.counts) k → Comes t words room r left
    unfolding given_back flat_file
    written-told {room} {left} {k = j} as_many ej h k e g = record {
      outcome = accepted (commands 0 p.letters) (tally ink.counts) (to_draw p);
      answers = acceptance.1 (accepting h k);
      given = g ∙ ap₂ {C = Answer} (λ (n i : ℕ). success n (tally ink.counts) i) (sym file_length) ej;
      kept = begins (file_in (subst (λ (n : ℕ). left ≡ sets (sets room 0 (held_lines n p)) ink.pen.at (69 ∷ 10 ∷ [])) as_many e)) (omega (arith, h, file_length));
    }

-- ---- and the words cleared

pub cleared-promised : {t : List ℕ} {words words' : List ℤ} {room left : List ℕ} {r : Answer} {n : ℕ} → Comes t (length words) room r left → n ≡ length words
    → words' ≡ replicate n (pos 0) → Promised t words room r words' left
cleared-promised h as_many e = record {
  outcome = h.outcome;
  answers = h.answers;
  given = h.given;
  kept = h.kept;
  cleared = e ∙ ap (λ (k : ℕ). replicate k (pos 0)) as_many;
}
