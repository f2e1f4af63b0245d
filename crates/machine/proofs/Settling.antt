-- How a text comes out that is drawn with records lent: refused before it is drawn, stopped in its drawing, or finished, when the records made no difference, so that
-- the reader's own laws tell it.
-- Assumes nothing.
use Rattle.std.specs.Prelude.{if◌then◌else◌, Err, Ok, Result}
use mathlib.Core.Path.{◌≡◌, refl, sym, ap, ◌∙◌, subst}
use mathlib.Core.Bool.{Bool, true, false}
use mathlib.Core.List.{List, [], ◌∷◌, map}
use mathlib.Core.Option.{Option, none, some}
use Prim.Native.Nat.{ℕ, ◌+◌, ◌≤◌, ◌<◌}
use native.Mathlib.Omega.{arith}
use borrow.Author.Tests.{leb-false, ltb-false}
use lib.Dec.{leb, ltb}
use lib.ListN.{length}
use lib.Seq.{sets}
use Rattle.grammar.specs.Viable.{Judged}
use Rattle.definition.specs.declared.Answer.{Answer}
use Rattle.definition.specs.declared.Refusal.{Refusal}
use Rattle.definition.specs.Limits.{most_bytes}
use Rattle.definition.specs.Words.{Placed}
use Rattle.definition.specs.declared.Rule.TheVariants.{TooFewRecords, FlatFileTooLong}
use Rattle.definition.specs.Rules.{refuse}
use Rattle.definition.specs.Commands.{Command, commands}
use Rattle.definition.specs.Faults.{first_fault}
use Rattle.definition.specs.Rounded.{rounded}
use Rattle.definition.specs.Table.{Definition}
use Rattle.definition.specs.Drawing.{Chain, Event, called, drew, entered, removed, refused}
use Rattle.definition.specs.Counts.{Counts, counts, End, finished, stopped, counted, go_on, ending}
use Rattle.definition.specs.Held.{held_to}
use Rattle.definition.specs.Answer
use Rattle.definition.specs.Answer.{Outcome, rejected, flat_file, success, failure, given_back, drawing_of, held_drawing, fitted, drawn, outcome_of, Answers}
use Rattle.definition.specs.Records.{stacked_to, stacked_drawing, drawn_with, outcome_with, AnswersWith, too_long, not_cif, read}
use Rattle.definition.proofs.Right.{unique}
use Rattle.laws.proofs.Lists.Range.{All}
use Rattle.laws.proofs.Story.Counting.{not_finished}
use Rattle.laws.proofs.Commands.WordsWithin.{held-within}
use Rattle.laws.proofs.Rules.Outcomes.{TooLong}
use Rattle.stacking.proofs.Stacked.{Fits, stacked_all}
use Rattle.counts.specs.Counting.{tally}
use Rattle.reading.specs.Refusal.{fault_said, by_verdict}
use Rattle.shapes.specs.declared.Ink.{Ink}
use Rattle.shapes.specs.Painting.{Goes, Answered, Painted}
use Rattle.passing.specs.Passed.{Passed, to_draw, dry, lent_of}
use Rattle.library.specs.Memory.{most_words}
use Rattle.reader.specs.Screened.{Screened, over, within, Comes}
use Rattle.reader.proofs.Promises.{over-told, written-told}
use Rattle.turns.specs.declared.Net.{Net}
use Rattle.machine.specs.Underway.{Host, lends, Settled, all_of, CameOut, refused_early, stopped_there, too_long_for, written_out}

-- ---- a finished drawing was refused nothing

module _ (n : ℕ) (es : List Event) (last : Counts) where
  counted_on : ((next : Counts) → ending next (map (stacked_to n) es) ≡ finished last → All (Fits n) es) → (x : End) → go_on x (λ next. ending next (map (stacked_to n) es)) ≡ finished last → All (Fits n) es
  unfolding go_on
  counted_on further (finished next) k = further next k
  counted_on further (stopped r l) k = absurd (not_finished k)

  called_on : ((next : Counts) → ending next (map (stacked_to n) es) ≡ finished last → All (Fits n) es) → (c : Counts) (p : ℕ) (chain : Chain) (d : Definition) (b : Bool) → leb n (length chain) ≡ b
      → ending c ((if b then refused (refuse TooFewRecords p) chain else called p chain d) ∷ map (stacked_to n) es) ≡ finished last → (length chain < n) × All (Fits n) es
  unfolding ending go_on counted
  called_on further c p chain d true q k = absurd (not_finished k)
  called_on further c p chain d false q k = (leb-false n (length chain) q, counted_on further (counted c (called p chain d)) k)

unheld : (n : ℕ) (c : Counts) (es : List Event) (last : Counts) → ending c (map (stacked_to n) es) ≡ finished last → All (Fits n) es
unfolding ending go_on counted stacked_to All
unheld n c [] last h = tt
unheld n c (called p chain d ∷ es) last h = called_on n es last (λ next. unheld n next es last) c p chain d (leb n (length chain)) refl h
unheld n c (drew d ∷ es) last h = (tt, counted_on n es last (λ next. unheld n next es last) (counted c (drew d)) h)
unheld n c (entered d before ∷ es) last h = (tt, counted_on n es last (λ next. unheld n next es last) (counted c (entered d before)) h)
unheld n c (removed x before ∷ es) last h = (tt, counted_on n es last (λ next. unheld n next es last) (counted c (removed x before)) h)
unheld n c (refused r chain ∷ es) last h = absurd (not_finished h)

-- ---- of more words lent than bodies can need nothing changes

held-lent : {t : List ℕ} (p : Passed t) (w : ℕ) → map (held_to (lent_of w)) (to_draw p) ≡ map (held_to w) (to_draw p)
held-lent p w = go (ltb w most_words) refl
  where
    go : (b : Bool) → ltb w most_words ≡ b → map (held_to (if b then w else most_words)) (to_draw p) ≡ map (held_to w) (to_draw p)
    go true e = refl
    go false e = held-within p.marked most_words p.short ∙ sym (held-within p.marked w (let s = p.short in let z = ltb-false w most_words e in omega (arith, s, z)))

-- ---- refused before it is drawn

never_clear : {k : ℕ} {why : Refusal} → Ok k ≡ Err why → ⊥
never_clear e = let z : ◌≡◌ {A = ℕ} 0 1 = cc in omega arith

abbrev outcome_by : Result ℕ Refusal → Outcome
outcome_by (Ok k) = rejected (refuse FlatFileTooLong 0) []
outcome_by (Err why) = rejected why []

judged-answers : {t : List ℕ} {w n room : ℕ} {why : Refusal} → length t ≤ most_bytes → (v : Result Unit ℕ) → Judged t v → by_verdict t v (Err why) → AnswersWith t w n room (rejected why [])
judged-answers {t} {w} {n} {room} {why} h (Ok _) g e = go (first_fault (commands 0 g.0)) refl (e g.0 g.1)
  where
    go : (f : Option Refusal) → first_fault (commands 0 g.0) ≡ f → Err why ≡ fault_said f (rounded (commands 0 g.0)) → AnswersWith t w n room (rejected why [])
    go none q x = absurd (never_clear (sym x))
    go (some r) q x = unfold outcome_with drawn_with in
        subst (AnswersWith t w n room) (ap (λ (f : Option Refusal). drawn_with f (commands 0 g.0) w n room) q ∙ ap outcome_by (sym x)) (read {m = g.0} h g.1)
judged-answers {t} {w} {n} {room} h (Err i) g e = subst (AnswersWith t w n room) (ap outcome_by (sym e)) (not_cif h g.0 g.1)

fault-answers : {t : List ℕ} {w n room : ℕ} {d : Result ℕ Refusal} {why : Refusal} → Screened t d → d ≡ Err why → AnswersWith t w n room (rejected why [])
fault-answers {t} {w} {n} {room} (over h) is = subst (AnswersWith t w n room) (ap outcome_by is) (too_long h)
fault-answers {t} (within h f) is = judged-answers h f.verdict f.judged (subst (by_verdict t f.verdict) is f.is)

-- a refusal leaves the room as it was
refusing : {t : List ℕ} {h : Host} {a : Answer} {why : Refusal} {room : List ℕ} (chain : Chain) → AnswersWith t h.lent h.records (length h.room) (rejected why chain) → a ≡ failure t why chain
    → room ≡ h.room → Settled t h a room
unfolding given_back flat_file
refusing {why = why} chain x e k = record { outcome = rejected why chain; answers = x; given = e; kept = k }

fault_settled : {t : List ℕ} {h : Host} {a : Answer} {d : Result ℕ Refusal} {why : Refusal} {room : List ℕ} → Screened t d → d ≡ Err why → a ≡ failure t why [] → room ≡ h.room → Settled t h a room
fault_settled s is e k = refusing [] (fault-answers s is) e k

-- ---- a text that is drawn

module _ {t : List ℕ} (p : Passed t) (h : Host) where
  abbrev cs : List (Placed Command)
  cs = commands 0 p.letters

  pub all_is : all_of p h ≡ stacked_drawing h.lent h.records cs
  all_is = ap (map (stacked_to h.records)) (held-lent p h.lent)

  stopped_settled : {chain : Chain} {why : Refusal} → ending (counts 0 0 0) (all_of p h) ≡ stopped why chain
      → {a : Answer} {room : List ℕ} → a ≡ failure t why chain → room ≡ h.room → Settled t h a room
  unfolding outcome_with drawn_with fitted
  stopped_settled {chain = chain} {why} s e k =
      refusing chain
      (subst (AnswersWith t h.lent h.records (length h.room))
      (ap (λ (y : Option Refusal). drawn_with y cs h.lent h.records (length h.room)) p.clear
      ∙ ap (λ (z : End). fitted z cs (drawing_of cs) (length h.room)) (ap (ending (counts 0 0 0)) (sym all_is) ∙ s))
      (read p.short p.marked))
      e k

  -- where it finishes
  module _ {ink : Ink} (g : Goes dry (all_of p h) ink) where
    as_held : stacked_drawing h.lent h.records cs ≡ held_drawing h.lent cs
    as_held = stacked_all h.records (held_drawing h.lent cs) (unheld h.records (counts 0 0 0) (held_drawing h.lent cs) (tally ink.counts) (ap (ending (counts 0 0 0)) (sym all_is) ∙ g.ends))

    outcome-same : outcome_with p.letters h.lent h.records (length h.room) ≡ outcome_of p.letters h.lent (length h.room)
    unfolding outcome_with drawn_with outcome_of drawn
    outcome-same =
        ap (λ (y : Option Refusal). drawn_with y cs h.lent h.records (length h.room)) p.clear
        ∙ ap (λ (es : List Event). fitted (ending (counts 0 0 0) es) cs (drawing_of cs) (length h.room)) as_held
        ∙ sym (ap (λ (y : Option Refusal). drawn y cs h.lent (length h.room)) p.clear)

    comes_settled : {a : Answer} {room : List ℕ} → Comes t h.lent h.room a room → Settled t h a room
    comes_settled c = record {
      outcome = c.outcome;
      answers =
          subst (AnswersWith t h.lent h.records (length h.room)) (outcome-same ∙ sym (unique c.answers (Answer.read p.short p.marked))) (read p.short p.marked);
      given = c.given;
      kept = c.kept;
    }

    all_held : all_of p h ≡ map (held_to h.lent) (to_draw p)
    all_held = all_is ∙ as_held

  goes_of : {from : Ink} {room₀ room' : List ℕ} {chain : Chain} {ink : Ink} → Painted from (all_of p h) room₀ chain (Ok ink) room' → Goes from (all_of p h) ink
  unfolding Answered
  goes_of x = x.answer

  pub finished-goes : {from : Ink} {room₀ room' : List ℕ} {chain : Chain} {ink : Ink} → Painted from (all_of p h) room₀ chain (Ok ink) room' → Goes from (all_of p h) ink
  finished-goes x = goes_of x

  module _ {room₀ room' : List ℕ} {chain : Chain} {ink : Ink} (x : Painted dry (all_of p h) room₀ chain (Ok ink) room') where
    held-painted : Painted dry (map (held_to h.lent) (to_draw p)) room₀ chain (Ok ink) room'
    held-painted = subst (λ (es : List Event). Painted dry es room₀ chain (Ok ink) room') (all_held (goes_of x)) x

    too_long_settled : {a : Answer} → TooLong (ink.pen.at + 2) (length h.room) → a ≡ failure t (refuse FlatFileTooLong 0) [] → {room : List ℕ} → room ≡ h.room → Settled t h a room
    too_long_settled {a} l e {room} k = subst (Settled t h a) (sym k) (comes_settled (goes_of x) (over-told h.lent p held-painted refl l e))

  -- the lines stand in the room, and at their end the last one
  written_settled : {chain : Chain} {ink : Ink} {room room' : List ℕ} → Painted dry (all_of p h) h.room chain (Ok ink) room → ink.pen.at + 2 ≤ length h.room → ink.pen.at + 2 ≤ most_bytes
      → room' ≡ sets room ink.pen.at (69 ∷ 10 ∷ []) → {a : Answer} {k : ℕ} → k ≡ rounded cs → a ≡ success (ink.pen.at + 2) (tally ink.counts) k → Settled t h a room'
  written_settled {ink = ink} {room} {room'} x i l e {a} {k} q g =
      let y = held-painted x in
      comes_settled (goes_of x)
      (written-told h.lent p y refl {w = h.lent} refl q i l (e ∙ ap (λ (r : List ℕ). sets r ink.pen.at (69 ∷ 10 ∷ [])) y.laid) g)

-- ---- so how it came out is what an engine that is lent records promises, where no shape counts as drawn before

pub settles : {t : List ℕ} {lent : ℕ} {room₀ : List ℕ} {records : ℕ} {a : Answer} {net : Net} {room : List ℕ} → CameOut t (lends lent room₀ records) a net room → Settled t (lends lent room₀ records) a room
settles (refused_early s is e k) = fault_settled s is e k
settles {lent = lent} {room₀} {records} (stopped_there p x n e k) = stopped_settled p (lends lent room₀ records) x e k
settles {lent = lent} {room₀} {records} (too_long_for p x l e k) = too_long_settled p (lends lent room₀ records) x l e k
settles {lent = lent} {room₀} {records} (written_out p x i l e q g) = written_settled p (lends lent room₀ records) x i l e q g
