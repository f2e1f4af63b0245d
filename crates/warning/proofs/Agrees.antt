-- The account of what is warned is the definition's: a drawing that finishes meets no refusal, so the account goes on to its end.
-- Assumes nothing.
use Rattle.std.specs.Prelude.{if◌then◌else◌}
use mathlib.Core.Path.{◌≡◌, refl, sym, ap, ap₂, ◌∙◌}
use mathlib.Core.Bool.{Bool, true, false}
use mathlib.Core.List.{List, [], ◌∷◌, ◌++◌, map, flat_map, append-nil}
use Prim.Native.Nat.{ℕ}
use lib.Dec.{ltb}
use lib.ListN.{length}
use Rattle.grammar.specs.Notation.{Letter}
use Rattle.grammar.proofs.Markings.{marking_is}
use Rattle.definition.specs.Limits.{most_definitions}
use Rattle.definition.specs.Words.{Placed}
use Rattle.definition.specs.declared.Rule.TheVariants.{TooManyDefinitions, TooFewWords}
use Rattle.definition.specs.Rules.{refuse}
use Rattle.definition.specs.Commands.{Command, commands}
use Rattle.definition.specs.Standing.{outside}
use Rattle.definition.specs.Table.{Definition, Table, enter}
use Rattle.definition.specs.Drawing.{Deed, output, define, remove, deeds, Event, entered, refused, happens, table_after, story}
use Rattle.definition.specs.Counts.{Counts, End, finished, stopped, counted, go_on, ending}
use Rattle.definition.specs.Held.{words_in, held_to}
use Rattle.definition.specs.Warnings.{Warning, warnings_at, warning_line, warning_lines}
use Rattle.definition.specs.Answer.{accepted, Answers}
use Rattle.laws.proofs.Lists.Joined.{flat-++, ending-++}
use Rattle.laws.proofs.Lists.Range.{All}
use Rattle.laws.proofs.Rules.Outcomes.{acceptance}
use Rattle.laws.proofs.Rules.FaultRules.{no_first-fault}
use Rattle.laws.proofs.Story.Counting.{not_finished}
use Rattle.laws.proofs.Story.HeldStory.{held-define, held-story}
use Rattle.laws.proofs.Story.Outputs.{Outputs, output-events}
use Rattle.passing.specs.Passed.{Passed}
use Rattle.warning.specs.Warned.{warned_at, stops_at, warned_from, warned_of}

-- ---- the lines of joined events

lines-++ : (a b : List Event) → warning_lines (a ++ b) ≡ warning_lines a ++ warning_lines b
unfolding warning_lines
lines-++ a b = ap (flat_map warning_line) (flat-++ warnings_at a b) ∙ flat-++ warning_line (flat_map warnings_at a) (flat_map warnings_at b)

one_line : (e : Event) → warning_lines (e ∷ []) ≡ flat_map warning_line (warnings_at e)
unfolding warning_lines flat_map
one_line e = ap (flat_map warning_line) (append-nil (warnings_at e))

-- what is drawn brings no warning
abbrev Silent : Event → Type 0
Silent e = warnings_at e ≡ []

silent_outputs : Outputs Silent
unfolding warnings_at
silent_outputs = record { of_call = λ p chain d. refl; of_shape = λ d. refl; of_refusal = λ r p chain h. refl }

no_lines : (es : List Event) → All Silent es → warning_lines es ≡ []
unfolding warning_lines flat_map All
no_lines [] h = refl
no_lines (e ∷ es) h = ap (λ (w : List Warning). flat_map warning_line (w ++ flat_map warnings_at es)) h.0 ∙ no_lines es h.1

-- ---- a deed that meets no refusal

abbrev held : (words : ℕ) → List Event → List Event
held w es = map (held_to w) es

-- a definition that is entered
record Enters (w : ℕ) (t : Table) (d : Definition) : Type 0 where
  goes_on : stops_at w t (define d) ≡ false
  happens_so : happens t (define d) ≡ entered d t ∷ []

first_end : (c : Counts) (r : _) {c' : Counts} → ending c (refused r [] ∷ []) ≡ finished c' → ⊥
unfolding ending counted go_on
first_end c r h = not_finished h

enters : (w : ℕ) (c : Counts) (t : Table) (d : Definition) {c' : Counts} → ending c (held w (happens t (define d))) ≡ finished c' → Enters w t d
unfolding stops_at happens
enters w c t d {c'} h =
    go (ltb most_definitions (length (enter d t))) (ltb w (words_in (enter d t))) refl refl (sym (ap (ending c) (held-define w t d)) ∙ h)
  where
    go : (a b : Bool) → ltb most_definitions (length (enter d t)) ≡ a → ltb w (words_in (enter d t)) ≡ b
        → ending c ((if a then refused (refuse TooManyDefinitions d.place) [] else if b then refused (refuse TooFewWords d.place) [] else entered d t) ∷ []) ≡ finished c' → Enters w t d
    go true b e f x = absurd (first_end c _ x)
    go false true e f x = absurd (first_end c _ x)
    go false false e f x = record { goes_on = unfold stops_at in rw (e, f); happens_so = unfold happens in rw e }

-- what is warned of it, and that the account goes on
pub warned-first : (w : ℕ) (t : Table) (d : Deed) (ds : List Deed) → stops_at w t d ≡ false → warned_from w t (d ∷ ds) ≡ warned_at t d ++ warned_from w (table_after t d) ds
unfolding warned_from
warned-first w t d ds e = rw e

record Warned (w : ℕ) (t : Table) (d : Deed) : Type 0 where
  goes_on : stops_at w t d ≡ false
  is : warned_at t d ≡ warning_lines (happens t d)

warned_deed : (w : ℕ) (c : Counts) (t : Table) (d : Deed) {c' : Counts} → ending c (held w (happens t d)) ≡ finished c' → Warned w t d
unfolding stops_at warned_at
warned_deed w c t (output s) h = record { goes_on = refl; is = sym (no_lines (happens t (output s)) (output-events Silent silent_outputs t s)) }
warned_deed w c t (define d) h =
    let x = enters w c t d h in
    record { goes_on = x.goes_on; is = sym (ap warning_lines x.happens_so ∙ one_line (entered d t)) }
warned_deed w c t (remove n) h = record { goes_on = refl; is = sym (unfold happens in one_line _) }

-- ---- all of them

record Parted (w : ℕ) (c : Counts) (a b : List Event) (c' : Counts) : Type 0 where
  counts : Counts
  first : ending c (held w a) ≡ finished counts
  later : ending counts (held w b) ≡ finished c'

parted : (w : ℕ) (c : Counts) (a b : List Event) (c' : Counts) → ending c (held w a ++ held w b) ≡ finished c' → Parted w c a b c'
unfolding go_on
parted w c a b c' h = go (ending c (held w a)) refl (sym (ending-++ c (held w a) (held w b)) ∙ h)
  where
    go : (o : End) → ending c (held w a) ≡ o → go_on o (λ x. ending x (held w b)) ≡ finished c' → Parted w c a b c'
    go (finished x) e f = record { counts = x; first = e; later = f }
    go (stopped r chain) e f = absurd (not_finished f)

pub warned_all : (w : ℕ) (c : Counts) (t : Table) (ds : List Deed) (c' : Counts) → ending c (held w (story t ds)) ≡ finished c' → warned_from w t ds ≡ warning_lines (story t ds)
unfolding story
warned_all w c t [] c' h = unfold warned_from warning_lines flat_map in refl
warned_all w c t (d ∷ ds) c' h =
    let x = parted w c (happens t d) (story (table_after t d) ds) c' (sym (ap (ending c) (held-story w t d ds)) ∙ h) in
    let y = warned_deed w c t d x.first in
    let z = warned_all w x.counts (table_after t d) ds c' x.later in
    warned-first w t d ds y.goes_on
    ∙ (ap₂ {C = List ℕ} (λ (a b : List ℕ). a ++ b) y.is z ∙ sym (lines-++ (happens t d) (story (table_after t d) ds)))

-- ---- an accepted text

same-letters : {t : List ℕ} (p q : Passed t) → p.letters ≡ q.letters
same-letters p q = marking_is p.marked ∙ sym (marking_is q.marked)

pub one_warned : {t : List ℕ} (w : ℕ) (p q : Passed t) → warned_of w p ≡ warned_of w q
one_warned w p q = ap (λ (m : List Letter). warned_from w [] (deeds (outside []) (commands 0 m))) (same-letters p q)

module _ {t : List ℕ} {words room : ℕ} {cs : List (Placed Command)} {c : Counts} {es : List Event} (a : Answers t words room (accepted cs c es)) where
  abbrev pub accepted-passed : Passed t
  accepted-passed =
      let x = acceptance.0 a in
      record { letters = x.roles; marked = x.passed.marked; short = x.passed.within; clear = (no_first-fault x.passed.marked).1 x.passed.unbroken }

  pub accepted-warned : (p : Passed t) → warned_of words p ≡ warning_lines es
  accepted-warned p =
      let x = acceptance.0 a in
      one_warned words p accepted-passed
      ∙ (warned_all words _ [] (deeds (outside []) (commands 0 x.roles)) c x.finishes ∙ ap warning_lines (sym x.is_drawing))
