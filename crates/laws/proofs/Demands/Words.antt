-- Request 10 (RULES 8): whatever words are lent, a text comes out as it does with as many words as it has bytes, or it is refused with 25; and that exactly where the live
-- bodies need more words than were lent, at the DS of the first definition for which they do, if nothing stops the reading before.
-- Assumes nothing.
use mathlib.Core.Path.{◌≡◌, refl, sym, ap, ◌∙◌, subst}
use mathlib.Core.List.{List, []}
use mathlib.Core.Logic.{◌↔◌}
use mathlib.Core.Option.{Option, none, some}
use Prim.Native.Nat.{ℕ, ◌≤◌, ◌<◌}
use native.Mathlib.Omega.{arith}
use lib.ListN.{length}
use Rattle.grammar.specs.Notation.{Letter}
use Rattle.grammar.specs.Viable.{Marked}
use Rattle.grammar.proofs.Markings.{one_marking}
use Rattle.definition.specs.declared.Refusal.{Refusal}
use Rattle.definition.specs.Limits.{most_bytes}
use Rattle.definition.specs.Words.{Placed}
use Rattle.definition.specs.declared.Rule.TheVariants.{TooFewWords}
use Rattle.definition.specs.Rules.{refuse}
use Rattle.definition.specs.Commands.{Command, commands}
use Rattle.definition.specs.Faults.{first_fault}
use Rattle.definition.specs.Standing.{outside}
use Rattle.definition.specs.Drawing.{Chain, Event, deeds}
use Rattle.definition.specs.Held.{words_needed}
use Rattle.definition.specs.Counts.{Counts, counts, End, finished, stopped, ending}
use Rattle.definition.specs.Answer.{Outcome, accepted, rejected, drawing_of, held_drawing, fitted, drawn, outcome_of, Answers, too_long, not_cif, read}
use Rattle.laws.proofs.Commands.WordsWithin.{words_within, held-within}
use Rattle.laws.proofs.Story.Held.{TooFew, too_few-needed, too_few-stops, EndsHeld, as_before, by_words, held-ends, held-finished, until_stop, until_all, too_few_exactly}
use Rattle.laws.proofs.Story.HeldStory.{stopped_by_words}
use Rattle.laws.proofs.Rules.FaultRules.{no_first-fault}
use Rattle.laws.proofs.Rules.DrawingRules.{drawing_stops}
use Rattle.laws.proofs.Rules.Outcomes.{Passed, by_drawing, Accepting, refusal, acceptance}
use Rattle.laws.proofs.Demands.Demand2.{refused_by_drawing}

-- refusals 1 to 9 let the text pass; and of its drawing a definition with its DS here is the first for which the words lent are too few, and nothing stops it before
pub record TooFewLent (t : List ℕ) (words p : ℕ) : Type 0 where
  pub roles : List Letter
  pub passed : Passed t roles
  pub lacking : TooFew words (counts 0 0 0) (drawing_of (commands 0 roles))
  pub place_is : lacking.definition.place ≡ p

-- RULES 8: 25, exactly when the live bodies after some DF need more words than were lent, at the DS; with no calls open
pub refused_by_words : {t : List ℕ} {words room p : ℕ} {chain : Chain}
    → Answers t words room (rejected (refuse TooFewWords p) chain) ↔ ((chain ≡ []) × TooFewLent t words p)
refused_by_words {t} {words} {room} {p} {chain} = (there, λ h. subst (λ (x : Chain). Answers t words room (rejected (refuse TooFewWords p) x)) (sym h.0) (back h.1))
  where
    there : Answers t words room (rejected (refuse TooFewWords p) chain) → (chain ≡ []) × TooFewLent t words p
    there a =
        let s = (refused_by_drawing {r = TooFewWords} (record { least = omega arith; most = omega arith })).0 a in
        let ds = deeds (outside []) (commands 0 s.roles) in
        let f = (stopped_by_words words (counts 0 0 0) [] ds p chain).0 ((drawing_stops words [] ds TooFewWords p chain).1 s.stops) in
        (f.2, record { roles = s.roles; passed = s.passed; lacking = f.0; place_is = f.1 })

    back : TooFewLent t words p → Answers t words room (rejected (refuse TooFewWords p) [])
    back l =
        (refusal TooFewWords p []).1
        (by_drawing l.passed
        (too_few-stops words (counts 0 0 0) (drawing_of (commands 0 l.roles)) l.lacking ∙ ap (λ (q : ℕ). stopped (refuse TooFewWords q) []) l.place_is))

-- then fewer were lent than the text needs, and so fewer than it has bytes
pub fewer_than_needed : {t : List ℕ} {words p : ℕ} (l : TooFewLent t words p) → words < words_needed (drawing_of (commands 0 l.roles))
fewer_than_needed l = too_few-needed l.lacking

pub fewer_than_bytes : {t : List ℕ} {words p : ℕ} → TooFewLent t words p → words < length t
fewer_than_bytes l = omega (arith, fewer_than_needed l, words_within l.passed.marked)

-- with as many words as the text has bytes 25 never occurs
pub never-25 : {t : List ℕ} {words room p : ℕ} {chain : Chain} → length t ≤ words → Answers t words room (rejected (refuse TooFewWords p) chain) → ⊥
never-25 h a = omega (arith, h, fewer_than_bytes (refused_by_words.0 a).1)

-- and how many are lent beyond that does not matter
pub enough_drawing : {t : List ℕ} {m : List Letter} → Marked t m → (words words' : ℕ) → length t ≤ words → length t ≤ words'
    → held_drawing words (commands 0 m) ≡ held_drawing words' (commands 0 m)
enough_drawing k words words' h g = held-within k words h ∙ sym (held-within k words' g)

-- ---- with the words lent, and with as many as the text has bytes

pub data WithWords (t : List ℕ) (words room : ℕ) (o : Outcome) : Type 0 where
  the_same : Answers t (length t) room o → WithWords t words room o
  refused-25 : (p : ℕ) → o ≡ rejected (refuse TooFewWords p) [] → TooFewLent t words p → WithWords t words room o

module _ {t : List ℕ} (words room : ℕ) {m : List Letter} (h : length t ≤ most_bytes) (k : Marked t m) where
  by_end : first_fault (commands 0 m) ≡ none → {x : End} → EndsHeld words (counts 0 0 0) (drawing_of (commands 0 m)) x
      → WithWords t words room (fitted x (commands 0 m) (drawing_of (commands 0 m)) room)
  unfolding outcome_of drawn
  by_end e (as_before n) =
      the_same
      (subst (Answers t (length t) room)
      (ap (λ (y : Option Refusal). drawn y (commands 0 m) (length t) room) e
      ∙ ap (λ (y : List Event). fitted (ending (counts 0 0 0) y) (commands 0 m) (drawing_of (commands 0 m)) room) (held-within k (length t) (omega arith)))
      (read h k))
  by_end e (by_words f) =
      refused-25 f.definition.place (unfold fitted in refl)
      (record { roles = m; passed = record { within = h; marked = k; unbroken = (no_first-fault k).0 e }; lacking = f; place_is = refl })

  by_fault : (f : Option Refusal) → first_fault (commands 0 m) ≡ f → WithWords t words room (drawn f (commands 0 m) words room)
  unfolding outcome_of drawn
  by_fault (some r) e = the_same (subst (Answers t (length t) room) (ap (λ (y : Option Refusal). drawn y (commands 0 m) (length t) room) e) (read h k))
  by_fault none e = by_end e (held-ends words (counts 0 0 0) (drawing_of (commands 0 m)))

  as_read : WithWords t words room (outcome_of m words room)
  unfolding outcome_of
  as_read = by_fault (first_fault (commands 0 m)) refl

pub as_without_words : {t : List ℕ} {words room : ℕ} {o : Outcome} → Answers t words room o → WithWords t words room o
as_without_words (too_long h) = the_same (too_long h)
as_without_words (not_cif h g l) = the_same (not_cif h g l)
as_without_words {t} {words} {room} (read h k) = as_read words room h k

-- ---- how many words a text needs

-- 25 exactly when fewer are lent than the live bodies need as far as the reading comes
pub words_decide : {t : List ℕ} {m : List Letter} (words room : ℕ) → Passed t m
    → ((p : ℕ) × Answers t words room (rejected (refuse TooFewWords p) [])) ↔ (words < words_needed (until_stop (counts 0 0 0) (drawing_of (commands 0 m))))
words_decide {t} {m} words room q = (there, back)
  where
    there : (p : ℕ) × Answers t words room (rejected (refuse TooFewWords p) []) → words < words_needed (until_stop (counts 0 0 0) (drawing_of (commands 0 m)))
    there (p, a) =
        let l = (refused_by_words.0 a).1 in
        subst (λ (x : List Letter). words < words_needed (until_stop (counts 0 0 0) (drawing_of (commands 0 x)))) (one_marking l.passed.marked q.marked)
        ((too_few_exactly words (counts 0 0 0) (drawing_of (commands 0 l.roles))).0 l.lacking)

    back : words < words_needed (until_stop (counts 0 0 0) (drawing_of (commands 0 m))) → (p : ℕ) × Answers t words room (rejected (refuse TooFewWords p) [])
    back h =
        let f = (too_few_exactly words (counts 0 0 0) (drawing_of (commands 0 m))).1 h in
        (f.definition.place, refused_by_words.1 (refl, record { roles = m; passed = q; lacking = f; place_is = refl }))

-- a text whose drawing finishes needs what its whole drawing needs
pub words_decide_all : {t : List ℕ} {m : List Letter} (words room : ℕ) → Passed t m → {c : Counts} → ending (counts 0 0 0) (drawing_of (commands 0 m)) ≡ finished c
    → ((p : ℕ) × Answers t words room (rejected (refuse TooFewWords p) [])) ↔ (words < words_needed (drawing_of (commands 0 m)))
words_decide_all {t} {m} words room q {c} e =
    subst (λ (es : List Event). ((p : ℕ) × Answers t words room (rejected (refuse TooFewWords p) [])) ↔ (words < words_needed es))
    (until_all (counts 0 0 0) (drawing_of (commands 0 m)) c e) (words_decide words room q)

-- a text is accepted exactly when it is with as many words as it has bytes, and the words lent are as many as it needs
pub accepted_by_words : {t : List ℕ} {words room : ℕ} {cs : List (Placed Command)} {c : Counts} {es : List Event}
    → Answers t words room (accepted cs c es) ↔ (Answers t (length t) room (accepted cs c es) × (words_needed es ≤ words))
accepted_by_words {t} {words} {room} {cs} {c} {es} = (λ a. there (acceptance.0 a), λ h. acceptance.1 (back (acceptance.0 h.0) h.1))
  where
    finishes_with : (v w : ℕ) (a : Accepting t v room cs c es) → words_needed es ≤ w → Accepting t w room cs c es
    finishes_with v w a h = record {
      roles = a.roles;
      passed = a.passed;
      are_commands = a.are_commands;
      is_drawing = a.is_drawing;
      finishes =
          (held-finished w (counts 0 0 0) (drawing_of (commands 0 a.roles)) c).1
          (((held-finished v (counts 0 0 0) (drawing_of (commands 0 a.roles)) c).0 a.finishes).0, subst (λ (x : List Event). words_needed x ≤ w) a.is_drawing h);
      room_fits = a.room_fits;
      limit_fits = a.limit_fits;
    }

    needs : (v : ℕ) (a : Accepting t v room cs c es) → words_needed es ≤ v
    needs v a =
        subst (λ (x : List Event). words_needed x ≤ v) (sym a.is_drawing)
        ((held-finished v (counts 0 0 0) (drawing_of (commands 0 a.roles)) c).0 a.finishes).1

    within-bytes : (v : ℕ) (a : Accepting t v room cs c es) → words_needed es ≤ length t
    within-bytes v a = subst (λ (x : List Event). words_needed x ≤ length t) (sym a.is_drawing) (words_within a.passed.marked)

    there : Accepting t words room cs c es → Answers t (length t) room (accepted cs c es) × (words_needed es ≤ words)
    there a = (acceptance.1 (finishes_with words (length t) a (within-bytes words a)), needs words a)

    back : Accepting t (length t) room cs c es → words_needed es ≤ words → Accepting t words room cs c es
    back a h = finishes_with (length t) words a h
