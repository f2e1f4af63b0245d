-- The three demands and requests 4 and 10, carried to `flatten`: what it gives back of any text t, any words and any room, and what it leaves in words and room. Its
-- contract `Promised t words room r words' left` is all that is used, so the same holds of every reader that keeps it. docs/DEMANDS.md has the user's words beside each theorem.
-- Assumes nothing.
use mathlib.Core.Path.{◌≡◌, refl, sym, ap, ap₂, ◌∙◌, subst}
use mathlib.Core.List.{List, []}
use mathlib.Core.Logic.Iff
use mathlib.Core.Logic.{◌↔◌}
use Prim.Native.Nat.{ℕ, ◌≤◌, ◌<◌}
use native.Mathlib.Omega.{arith}
use lib.IntN.{ℤ, pos}
use lib.ListN.{length, replicate, take, drop, length-append}
use lib.Seq.{take_at}
use Rattle.grammar.specs.Viable.{Grammatical, LongestViable}
use Rattle.definition.specs.declared.Answer.{Answer}
use Rattle.definition.specs.declared.Refusal.{Refusal}
use Rattle.definition.specs.declared.Rule.{Rule}
use Rattle.definition.specs.declared.Rule.TheVariants.{TextTooLong, NotInGrammar, TooFewWords, XOutOfRange, YOutOfRange, FlatFileTooLong}
use Rattle.definition.specs.Limits.{most_bytes}
use Rattle.definition.specs.Words.{Placed}
use Rattle.definition.specs.Rules.{number_of, refuse}
use Rattle.definition.specs.Commands.{Command}
use Rattle.definition.specs.Drawing.{Chain, Event}
use Rattle.definition.specs.Counts.{Counts, shapes_of}
use Rattle.definition.specs.Flat.{flat}
use Rattle.definition.specs.Answer.{Outcome, accepted, rejected, success, Answers, Promised}
use Rattle.definition.proofs.Right.{unique}
use Rattle.laws.proofs.Rules.Order.{ByCommand, ByDrawing, one_number, number_from-1, number_not-5}
use Rattle.laws.proofs.Rules.Outcomes.{Accepting}
use Rattle.laws.proofs.Demands.Demand1.{Located, RefusalHolds, refusal-holds, SuccessHolds, success-holds}
use Rattle.laws.proofs.Demands.Demand2.{Refused, CommandsBreak, DrawingStopped, FileTooLong, refused_by_length, refused_by_grammar, refused_by_command, refused_by_drawing}
use Rattle.laws.proofs.Demands.Demand2.{OutOfRange, refused_by_x, refused_by_y, refused_by_flat_file, accepted_exactly}
use Rattle.laws.proofs.Rules.DrawingRules.{FarInX, FarInY}
use Rattle.laws.proofs.Demands.Words.{TooFewLent, refused_by_words, fewer_than_bytes, WithWords, as_without_words}
use Rattle.laws.proofs.Demands.Demand3.{Demand3, demand3, twice}

-- the number and the place of an answer
abbrev pub Says : Answer → (number place : ℕ) → Type 0
Says r n p = (r.number ≡ n) × (r.place ≡ p)

-- what a reading leaves in its room, r' and left' from room', where the text is what an earlier one left: r and left
pub record SameAgain (r : Answer) (left room' : List ℕ) (r' : Answer) (left' : List ℕ) : Type 0 where
  pub accepted-again : Says r' 0 0
  pub same_length : r'.length ≡ r.length
  pub same_shapes : r'.shapes ≡ r.shapes
  pub no_calls : r'.calls ≡ 0
  pub no_redefinitions : r'.redefinitions ≡ 0
  pub none_rounded : r'.rounded ≡ 0
  pub same_bytes : take r.length left' ≡ take r.length left
  pub rest-kept : drop r.length left' ≡ drop r.length room'

-- of the flat file of an accepted text, which is the first bytes of the room that is left
pub record Flattened (t : List ℕ) (words room : ℕ) (r : Answer) (left : List ℕ) : Type 0 where
  pub commands : List (Placed Command)
  pub counted : Counts
  pub events : List Event
  -- it is that of the shapes that the text draws
  pub drawn : Accepting t words room commands counted events
  pub is_flat : take r.length left ≡ flat (shapes_of events)
  -- it is in the grammar, holds only layer commands, shapes and the End, and draws the same shapes
  pub holds : Demand3 room counted (shapes_of events)
  -- and a reading of it, with any words, in any room that holds it, gives the same bytes
  pub again : (lent lent' : List ℤ) (room' left' : List ℕ) (r' : Answer) → r.length ≤ length room' → Promised (take r.length left) lent room' r' lent' left' → SameAgain r left room' r' left'

module _ {t : List ℕ} {words words' : List ℤ} {room left : List ℕ} {r : Answer} (h : Promised t words room r words' left) where
  -- ---- the number tells how the reading came out

  record Drew : Type 0 where
    commands : List (Placed Command)
    counted : Counts
    events : List Event
    is : h.outcome ≡ accepted commands counted events

  drew : r.number ≡ 0 → Drew
  drew e = go h.outcome refl
    where
      go : (o : Outcome) → h.outcome ≡ o → Drew
      go (accepted cs c es) is = record { commands = cs; counted = c; events = es; is = is }
      go (rejected by chain) is = let k = refusal-holds h is in absurd (omega (arith, e, k.0.number, k.1.first-number))

  record Stopped : Type 0 where
    by : Refusal
    open_calls : Chain
    is : h.outcome ≡ rejected by open_calls

  stopped : (r.number ≡ 0 → ⊥) → Stopped
  stopped e = go h.outcome refl
    where
      go : (o : Outcome) → h.outcome ≡ o → Stopped
      go (accepted cs c es) is = absurd (e (success-holds h is).no_number)
      go (rejected by chain) is = record { by = by; open_calls = chain; is = is }

  outcome_is : {o : Outcome} → Answers t (length words) (length room) o → h.outcome ≡ o
  outcome_is a = unique h.answers a

  -- ---- demand 1

  -- an answer with a number holds the number and place of a refusal, line and column of the place, the places of the calls open there, and nothing else, and leaves the
  -- room unchanged; the place lies within the text, and so do those of the calls, of which there are at most 32, and none but at 11 to 17 and 20. That an
  -- answer comes at all is what the proof of a Rattle function shows, and that only one is promised, the room's bytes included, is Right.one-answer
  pub refusals_hold : (r.number ≡ 0 → ⊥) → (by : Refusal) × (chain : Chain) × RefusalHolds t room r left by chain × Located t by chain
  refusals_hold e = let s = stopped e in let k = refusal-holds h s.is in (s.by, s.open_calls, k.0, k.1)

  -- the length told lies within the room that is left
  pub length-within : r.length ≤ length left
  length-within = go h.outcome refl
    where
      go : (o : Outcome) → h.outcome ≡ o → r.length ≤ length left
      go (rejected by chain) is = omega (arith, (refusal-holds h is).0.no_length)
      go (accepted cs c es) is =
          let k = success-holds h is in
          omega (arith, k.length_is, ap length k.room-holds, length-append (flat (shapes_of es)) (drop (length (flat (shapes_of es))) room))

  -- ---- demand 2

  -- accepted exactly when RULES 12 lets the text pass, its drawing finishes and its flat file fits
  pub accepted-when : (r.number ≡ 0) ↔ ((cs : List (Placed Command)) × (c : Counts) × (es : List Event) × Accepting t (length words) (length room) cs c es)
  accepted-when = (
    λ e. let d = drew e in (d.commands, d.counted, d.events, accepted_exactly.0 (subst (Answers t (length words) (length room)) d.is h.answers)),
    λ a. (success-holds h (outcome_is (accepted_exactly.1 a.3))).no_number,
  )

  -- and then the counts are the drawing's, the rounded distances those of the text, line, column and chain tell nothing, the first bytes of the room are the
  -- flat file of its shapes, and the rest is unchanged
  pub accepted_gives : {cs : List (Placed Command)} {c : Counts} {es : List Event} → Accepting t (length words) (length room) cs c es → SuccessHolds room r left cs c (flat (shapes_of es))
  accepted_gives a = success-holds h (outcome_is (accepted_exactly.1 a))

  refused-when : (by : Rule) {p : ℕ} → Says r (number_of by) p ↔ Refused t (length words) (length room) by p
  refused-when by {p} = (
    λ s.
        let k = stopped (λ z. omega (arith, s.0, z, number_from-1 by)) in
        let told = (refusal-holds h k.is).0 in
        let same : rejected k.by k.open_calls ≡ rejected (refuse by p) k.open_calls =
        ap₂ {C = Outcome} (λ (q : Rule) (n : ℕ). rejected (refuse q n) k.open_calls) (one_number k.by.rule by (sym told.number ∙ s.0)) (sym told.place ∙ s.1) in
        (k.open_calls, subst (Answers t (length words) (length room)) (k.is ∙ same) h.answers),
    λ s. let k = (refusal-holds h (outcome_is s.1)).0 in (k.number, k.place),
  )

  -- 1, text over 16,777,216 bytes; at 0
  pub refused_by_length-when : {p : ℕ} → Says r (number_of TextTooLong) p ↔ ((p ≡ 0) × (most_bytes < length t))
  refused_by_length-when = Iff.trans (refused-when TextTooLong) refused_by_length

  -- 2, not in the grammar; at the length of the longest prefix that some continuation completes to a grammatical text
  pub refused_by_grammar_when : {p : ℕ} → Says r (number_of NotInGrammar) p ↔ ((length t ≤ most_bytes) × (Grammatical t → ⊥) × LongestViable t p)
  refused_by_grammar_when = Iff.trans (refused-when NotInGrammar) refused_by_grammar

  -- 3 to 9, the first command that breaks a rule, the foremost of its rules, the nearest place
  pub refused_by_command-when : {by : Rule} {p : ℕ} → ByCommand by → Says r (number_of by) p ↔ CommandsBreak t by p
  refused_by_command-when {by} i = Iff.trans (refused-when by) (refused_by_command i)

  -- 5 never occurs, whatever the text and the room: since request 2 no rule has this number
  pub never-5 : r.number ≡ 5 → ⊥
  never-5 e =
      let k = refusals_hold (λ z. omega (arith, e, z)) in
      number_not-5 k.0.rule (sym k.2.number ∙ e)

  -- 10 to 17, 20 and 25, the first moment of the drawing that breaks a rule, the foremost of its rules; under the calls open there
  pub refused_by_drawing_when : {by : Rule} {p : ℕ} → ByDrawing by → Says r (number_of by) p ↔ ((chain : Chain) × DrawingStopped t (length words) by p chain)
  refused_by_drawing_when {by} i =
      Iff.trans (refused-when by) (λ s. (s.0, (refused_by_drawing i).0 s.1), λ s. (s.0, (refused_by_drawing i).1 s.1))

  -- and then these calls are told, with line and column of the place
  pub drawing_tells : {by : Rule} {p : ℕ} {chain : Chain} → ByDrawing by → DrawingStopped t (length words) by p chain → RefusalHolds t room r left (refuse by p) chain
  drawing_tells i s = (refusal-holds h (outcome_is ((refused_by_drawing i).1 s))).0

  -- 16, exactly when the first moment that breaks a rule draws a shape with some x beyond the range
  pub refused_by_x-when : {p : ℕ} → Says r (number_of XOutOfRange) p ↔ ((chain : Chain) × OutOfRange FarInX t (length words) p chain)
  refused_by_x-when = Iff.trans (refused-when XOutOfRange) (λ s. (s.0, refused_by_x.0 s.1), λ s. (s.0, refused_by_x.1 s.1))

  -- 20, exactly when it draws one whose x are all good and some y is not
  pub refused_by_y-when : {p : ℕ} → Says r (number_of YOutOfRange) p ↔ ((chain : Chain) × OutOfRange FarInY t (length words) p chain)
  refused_by_y-when = Iff.trans (refused-when YOutOfRange) (λ s. (s.0, refused_by_y.0 s.1), λ s. (s.0, refused_by_y.1 s.1))

  -- 18, flat file longer than the room or than 16,777,216; at 0
  pub refused_by_flat_file_when : {p : ℕ} → Says r (number_of FlatFileTooLong) p ↔ ((p ≡ 0) × FileTooLong t (length words) (length room))
  refused_by_flat_file_when = Iff.trans (refused-when FlatFileTooLong) refused_by_flat_file

  -- ---- request 10

  -- the words are all zero afterwards, refused or not, whatever stood in them
  pub words_zero : words' ≡ replicate (length words) (pos 0)
  words_zero = h.cleared

  -- 25, exactly when the live bodies after some DF need more words than were lent, at the DS of the first for which they do, if nothing stops the reading before
  pub refused_by_words_when : {p : ℕ} → Says r (number_of TooFewWords) p ↔ TooFewLent t (length words) p
  refused_by_words_when {p} =
      Iff.trans (refused-when TooFewWords)
      (λ s. (refused_by_words.0 s.1).1, λ l. ([], refused_by_words.1 (refl, l)))

  -- the answer is that with as many words as the text has bytes, or it is 25; and then the bodies do need more, at that DS and nothing earlier
  pub as_without : WithWords t (length words) (length room) h.outcome
  as_without = as_without_words h.answers

  -- with as many words as the text has bytes 25 never occurs
  pub never-25-when : length t ≤ length words → r.number ≡ number_of TooFewWords → ⊥
  never-25-when enough e = let l = refused_by_words_when.0 (e, refl) in let k = fewer_than_bytes l in omega (arith, enough, k)

  -- ---- demand 3

  pub flattened : r.number ≡ 0 → Flattened t (length words) (length room) r left
  unfolding success
  flattened e = record {
    commands = d.commands;
    counted = d.counted;
    events = d.events;
    drawn = accepted_exactly.0 answers;
    is_flat = is_flat;
    holds = holds;
    again = λ lent lent' room' left' r' fits q.
        let same = twice h d.is fits q in
        let g = (holds.settled lent lent' room' left' r' (omega (arith, fits, k.length_is)) (subst (λ (w : List ℕ). Promised w lent room' r' lent' left') is_flat q)).0 in
        record {
          accepted-again = (ap (λ (a : Answer). a.number) g, ap (λ (a : Answer). a.place) g);
          same_length = ap (λ (a : Answer). a.length) g ∙ sym k.length_is;
          same_shapes = ap (λ (a : Answer). a.shapes) g ∙ sym k.shapes_are;
          no_calls = ap (λ (a : Answer). a.calls) g;
          no_redefinitions = ap (λ (a : Answer). a.redefinitions) g;
          none_rounded = ap (λ (a : Answer). a.rounded) g;
          same_bytes = same.0;
          rest-kept = same.1;
        };
  }
    where
      d : Drew
      d = drew e

      k : SuccessHolds room r left d.commands d.counted (flat (shapes_of d.events))
      k = success-holds h d.is

      answers : Answers t (length words) (length room) (accepted d.commands d.counted d.events)
      answers = subst (Answers t (length words) (length room)) d.is h.answers

      holds : Demand3 (length room) d.counted (shapes_of d.events)
      holds = demand3 answers

      is_flat : take r.length left ≡ flat (shapes_of d.events)
      is_flat = ap (take r.length) k.room-holds ∙ take_at (flat (shapes_of d.events)) (drop (length (flat (shapes_of d.events))) room) r.length (sym k.length_is)
