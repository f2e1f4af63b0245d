-- Refusal 25 (RULES 8, request 10): a story that is held to the words lent is the story itself where enough are lent. Where they are too few, it ends as it did, or it is stopped
-- at the first definition for which they do not suffice, if nothing stops it before; and the shapes are the same.
-- Assumes nothing.
use Rattle.std.specs.Prelude.{if◌then◌else◌}
use mathlib.Core.Path.{◌≡◌, refl, sym, ap, ap₂, ◌∙◌, subst}
use mathlib.Core.Bool.{Bool, true, false}
use mathlib.Core.List.{List, [], ◌∷◌, ◌++◌, map, map-append, nil≢cons, head-eq_of_cons-eq, tail-eq_of_cons-eq}
use mathlib.Core.Logic.{◌↔◌}
use Prim.Native.Nat.{ℕ, ◌≤◌, ◌<◌, max}
use native.Mathlib.Omega.{arith}
use lib.Dec.{ltb}
use borrow.Author.Tests.{lt-ltb, le-ltb, ltb-true, ltb-false}
use Rattle.definition.specs.declared.Refusal.{Refusal}
use Rattle.definition.specs.declared.Rule.TheVariants.{TooFewWords}
use Rattle.definition.specs.Rules.{refuse}
use Rattle.definition.specs.Table.{Definition, Table, enter}
use Rattle.definition.specs.Drawing.{Chain, Drawn, Event, called, drew, entered, removed, refused}
use Rattle.definition.specs.Counts.{Counts, End, finished, stopped, counted, go_on, ending, shapes_of}
use Rattle.definition.specs.Held.{words_in, held_to, words_after, words_needed}
use Rattle.laws.proofs.Lists.Joined.{ending-++}
use Rattle.laws.proofs.Story.Counting.{not_finished}

-- ---- where enough words are lent

held_one : (words : ℕ) (e : Event) → words_after e ≤ words → held_to words e ≡ e
unfolding held_to words_after
held_one words (entered d before) h = rw (le-ltb words (words_in (enter d before)) h)
held_one words (called p chain d) h = refl
held_one words (drew d) h = refl
held_one words (removed n before) h = refl
held_one words (refused r chain) h = refl

pub held_all : (words : ℕ) (es : List Event) → words_needed es ≤ words → map (held_to words) es ≡ es
unfolding words_needed
held_all words [] h = refl
held_all words (e ∷ es) h =
    ap₂ {C = List Event} (λ (x : Event) (y : List Event). x ∷ y) (held_one words e (omega arith)) (held_all words es (omega arith))

pub needed-++ : (a b : List Event) → words_needed (a ++ b) ≡ max (words_needed a) (words_needed b)
unfolding words_needed
needed-++ [] b = omega arith
needed-++ (e ∷ a) b = omega (arith, needed-++ a b)

-- ---- the shapes, however many are lent

pub held-shapes : (words : ℕ) (es : List Event) → shapes_of (map (held_to words) es) ≡ shapes_of es
unfolding shapes_of held_to
held-shapes words [] = refl
held-shapes words (drew d ∷ es) = ap (λ (x : List Drawn). d ∷ x) (held-shapes words es)
held-shapes words (called p chain d ∷ es) = held-shapes words es
held-shapes words (entered d before ∷ es) = go (ltb words (words_in (enter d before))) ∙ held-shapes words es
  where
    go : (b : Bool) → shapes_of ((if b then refused (refuse TooFewWords d.place) [] else entered d before) ∷ map (held_to words) es) ≡ shapes_of (map (held_to words) es)
    go true = refl
    go false = refl
held-shapes words (removed n before ∷ es) = held-shapes words es
held-shapes words (refused r chain ∷ es) = held-shapes words es

-- ---- where too few are lent

-- the first definition of es whose live bodies need more words than were lent; from the counts c on nothing before it stops the counting
pub record TooFew (words : ℕ) (c : Counts) (es : List Event) : Type 0 where
  pub before : List Event
  pub definition : Definition
  pub table : Table
  pub after : List Event
  pub reached : Counts
  pub parted : es ≡ before ++ entered definition table ∷ after
  pub enough-before : words_needed before ≤ words
  pub counted_so_far : ending c before ≡ finished reached
  pub more-needed : words < words_in (enter definition table)

-- then fewer were lent than the story needs
pub too_few-needed : {words : ℕ} {c : Counts} {es : List Event} → TooFew words c es → words < words_needed es
unfolding words_needed words_after
too_few-needed {words} f =
    subst (λ (x : List Event). words < words_needed x) (sym f.parted)
    (omega (arith, f.more-needed, needed-++ f.before (entered f.definition f.table ∷ f.after)))

-- the story as it is held: all before that definition, and then the refusal at its DS, with no calls open
pub too_few-parted : (words : ℕ) (c : Counts) (es : List Event) (f : TooFew words c es)
    → map (held_to words) es ≡ f.before ++ refused (refuse TooFewWords f.definition.place) [] ∷ map (held_to words) f.after
unfolding held_to
too_few-parted words c es f =
    ap (map (held_to words)) f.parted
    ∙ map-append (held_to words) f.before (entered f.definition f.table ∷ f.after)
    ∙ ap₂ {C = List Event} (λ (x : List Event) (b : Bool). x ++ (if b then refused (refuse TooFewWords f.definition.place) [] else entered f.definition f.table) ∷ map (held_to words) f.after)
    (held_all words f.before f.enough-before) (lt-ltb words (words_in (enter f.definition f.table)) f.more-needed)

pub too_few-stops : (words : ℕ) (c : Counts) (es : List Event) (f : TooFew words c es)
    → ending c (map (held_to words) es) ≡ stopped (refuse TooFewWords f.definition.place) []
unfolding ending go_on counted
too_few-stops words c es f =
    ap (ending c) (too_few-parted words c es f)
    ∙ ending-++ c f.before (refused (refuse TooFewWords f.definition.place) [] ∷ map (held_to words) f.after)
    ∙ ap (λ (x : End). go_on x (λ c'. ending c' (refused (refuse TooFewWords f.definition.place) [] ∷ map (held_to words) f.after))) f.counted_so_far

-- an event for which the words suffice, and one for which they do not
data One (words : ℕ) : Event → Type 0 where
  enough : {e : Event} → words_after e ≤ words → One words e
  short : {d : Definition} {t : Table} → words < words_in (enter d t) → One words (entered d t)

one : (words : ℕ) (e : Event) → One words e
unfolding words_after
one words (entered d before) = go (ltb words (words_in (enter d before))) refl
  where
    go : (b : Bool) → ltb words (words_in (enter d before)) ≡ b → One words (entered d before)
    go true h = short (ltb-true _ _ h)
    go false h = enough (ltb-false _ _ h)
one words (called p chain d) = enough {e = called p chain d} (omega arith)
one words (drew d) = enough {e = drew d} (omega arith)
one words (removed n before) = enough {e = removed n before} (omega arith)
one words (refused r chain) = enough {e = refused r chain} (omega arith)

too_few-here : {words : ℕ} (c : Counts) {d : Definition} {t : Table} (es : List Event) → words < words_in (enter d t) → TooFew words c (entered d t ∷ es)
unfolding words_needed ending
too_few-here c {d} {t} es h = record {
  before = [];
  definition = d;
  table = t;
  after = es;
  reached = c;
  parted = refl;
  enough-before = omega arith;
  counted_so_far = refl;
  more-needed = h;
}

needed-more : (words : ℕ) (e : Event) (es : List Event) → words_after e ≤ words → words_needed es ≤ words → words_needed (e ∷ es) ≤ words
unfolding words_needed
needed-more words e es h g = omega arith

-- the counting goes on after an event that does not stop it
ending-more : (c : Counts) (e : Event) (next : Counts) (es : List Event) → counted c e ≡ finished next → ending c (e ∷ es) ≡ ending next es
unfolding ending go_on
ending-more c e next es h = rw h

ending-stops : (c : Counts) (e : Event) {r : Refusal} {chain : Chain} (es : List Event) → counted c e ≡ stopped r chain → ending c (e ∷ es) ≡ stopped r chain
unfolding ending go_on
ending-stops c e es h = rw h

abbrev too_few-later : {words : ℕ} {c : Counts} (e : Event) {next : Counts} {es : List Event} → words_after e ≤ words → counted c e ≡ finished next → TooFew words next es → TooFew words c (e ∷ es)
too_few-later {words} {c} e {next} {es} h g f = record {
  before = e ∷ f.before;
  definition = f.definition;
  table = f.table;
  after = f.after;
  reached = f.reached;
  parted = ap (λ (x : List Event). e ∷ x) f.parted;
  enough-before = needed-more words e f.before h f.enough-before;
  counted_so_far = ending-more c e next f.before g ∙ f.counted_so_far;
  more-needed = f.more-needed;
}

-- the other way: of a list whose first event neither stops the counting nor lacks words
too_few_tail : {words : ℕ} {c : Counts} (e : Event) {next : Counts} {es : List Event} → words_after e ≤ words → counted c e ≡ finished next → TooFew words c (e ∷ es) → TooFew words next es
unfolding words_after words_needed
too_few_tail {words} {c} e {next} {es} h g f = go f.before f.parted f.enough-before f.counted_so_far
  where
    go : (b : List Event) → e ∷ es ≡ b ++ entered f.definition f.table ∷ f.after → words_needed b ≤ words → ending c b ≡ finished f.reached → TooFew words next es
    go [] p k q =
        absurd (lacks (subst (λ (x : Event). words_after x ≤ words) (head-eq_of_cons-eq p) h))
      where
        lacks : words_in (enter f.definition f.table) ≤ words → ⊥
        lacks l = omega (arith, f.more-needed)
    go (x ∷ b) p k q = record {
      before = b;
      definition = f.definition;
      table = f.table;
      after = f.after;
      reached = f.reached;
      parted = tail-eq_of_cons-eq p;
      enough-before = omega arith;
      counted_so_far = sym (ending-more c x next b (ap (counted c) (sym (head-eq_of_cons-eq p)) ∙ g)) ∙ q;
      more-needed = f.more-needed;
    }

too_few_none : {words : ℕ} {c : Counts} → TooFew words c [] → ⊥
too_few_none f = go f.before f.parted
  where
    go : (b : List Event) → [] ≡ b ++ entered f.definition f.table ∷ f.after → ⊥
    go [] p = nil≢cons p
    go (x ∷ b) p = nil≢cons p

-- nothing lacks words where the first event stops the counting
too_few-stopped : {words : ℕ} {c : Counts} (e : Event) {r : Refusal} {chain : Chain} {es : List Event} → counted c e ≡ stopped r chain → TooFew words c (e ∷ es) → ⊥
unfolding counted
too_few-stopped {words} {c} e {r} {chain} {es} g f = go f.before f.parted f.counted_so_far
  where
    go : (b : List Event) → e ∷ es ≡ b ++ entered f.definition f.table ∷ f.after → ending c b ≡ finished f.reached → ⊥
    go [] p q = not_finished (sym g ∙ ap (counted c) (head-eq_of_cons-eq p))
    go (x ∷ b) p q = not_finished (sym (ending-stops c x b (ap (counted c) (sym (head-eq_of_cons-eq p)) ∙ g)) ∙ q)

-- ---- exactly where fewer are lent than the story needs as far as it comes

-- the events of a story before the first that stops the counting
unfoldable pub onward : End → Event → (Counts → List Event) → List Event
onward (finished c) e rest = e ∷ rest c
onward (stopped r chain) e rest = []

unfoldable pub until_stop : Counts → List Event → List Event
until_stop c [] = []
until_stop c (e ∷ es) = onward (counted c e) e (λ c'. until_stop c' es)

until-more : (c : Counts) (e : Event) (next : Counts) (es : List Event) → counted c e ≡ finished next → until_stop c (e ∷ es) ≡ e ∷ until_stop next es
unfolding until_stop onward
until-more c e next es h = rw h

until-stops : (c : Counts) (e : Event) {r : Refusal} {chain : Chain} (es : List Event) → counted c e ≡ stopped r chain → until_stop c (e ∷ es) ≡ []
unfolding until_stop onward
until-stops c e es h = rw h

-- a story that finishes comes to its end
pub until_all : (c : Counts) (es : List Event) (last : Counts) → ending c es ≡ finished last → until_stop c es ≡ es
unfolding until_stop
until_all c [] last h = refl
until_all c (e ∷ es) last h = go (counted c e) refl (λ next. until_all next es last)
  where
    go : (o : End) → counted c e ≡ o → ((next : Counts) → ending next es ≡ finished last → until_stop next es ≡ es) → until_stop c (e ∷ es) ≡ e ∷ es
    go (finished next) g further = until-more c e next es g ∙ ap (λ (x : List Event). e ∷ x) (further next (sym (ending-more c e next es g) ∙ h))
    go (stopped r chain) g further = absurd (not_finished (sym (ending-stops c e es g) ∙ h))

until-++ : (c : Counts) (a b : List Event) (next : Counts) → ending c a ≡ finished next → until_stop c (a ++ b) ≡ a ++ until_stop next b
unfolding ending
until-++ c [] b next h = ap (λ (x : Counts). until_stop x b) (counts_of h)
  where
    last_of : End → Counts
    last_of (finished x) = x
    last_of (stopped r chain) = c

    counts_of : finished c ≡ finished next → c ≡ next
    counts_of e = ap last_of e
until-++ c (e ∷ a) b next h = go (counted c e) refl (λ c'. until-++ c' a b next)
  where
    go : (o : End) → counted c e ≡ o → ((c' : Counts) → ending c' a ≡ finished next → until_stop c' (a ++ b) ≡ a ++ until_stop next b)
        → until_stop c (e ∷ (a ++ b)) ≡ e ∷ (a ++ until_stop next b)
    go (finished c') g further = until-more c e c' (a ++ b) g ∙ ap (λ (x : List Event). e ∷ x) (further c' (sym (ending-more c e c' a g) ∙ h))
    go (stopped r chain) g further = absurd (not_finished (sym (ending-stops c e a g) ∙ h))

too_few-until : {words : ℕ} {c : Counts} {es : List Event} → TooFew words c es → words < words_needed (until_stop c es)
unfolding words_needed words_after until_stop onward counted
too_few-until {words} {c} f =
    subst (λ (x : List Event). words < words_needed (until_stop c x)) (sym f.parted)
    (subst (λ (x : List Event). words < words_needed x) (sym (until-++ c f.before (entered f.definition f.table ∷ f.after) f.reached f.counted_so_far))
    (omega (arith, f.more-needed, needed-++ f.before (until_stop f.reached (entered f.definition f.table ∷ f.after)))))

none_needed : (words : ℕ) (es : List Event) → es ≡ [] → words < words_needed es → ⊥
unfolding words_needed
none_needed words [] e h = omega arith
none_needed words (x ∷ es) e h = nil≢cons (sym e)

until_too_few : (words : ℕ) (c : Counts) (es : List Event) → words < words_needed (until_stop c es) → TooFew words c es
unfolding words_needed
until_too_few words c [] h = absurd (none_needed words (until_stop c []) (unfold until_stop in refl) h)
until_too_few words c (e ∷ es) h = by_one (one words e) (λ next. until_too_few words next es) h
  where
    by_one : {e : Event} → One words e → ((next : Counts) → words < words_needed (until_stop next es) → TooFew words next es)
        → words < words_needed (until_stop c (e ∷ es)) → TooFew words c (e ∷ es)
    by_one (short l) further k = too_few-here c es l
    by_one (enough {e} l) further k = by_count (counted c e) refl
      where
        by_count : (o : End) → counted c e ≡ o → TooFew words c (e ∷ es)
        by_count (finished next) g =
            let more : words < words_needed (e ∷ until_stop next es) = subst (λ (x : List Event). words < words_needed x) (until-more c e next es g) k in
            too_few-later e l g (further next (omega arith))
        by_count (stopped r chain) g = absurd (none_needed words (until_stop c (e ∷ es)) (until-stops c e es g) k)

pub too_few_exactly : (words : ℕ) (c : Counts) (es : List Event) → TooFew words c es ↔ (words < words_needed (until_stop c es))
too_few_exactly words c es = (λ f. too_few-until f, until_too_few words c es)

-- how a story ends that is held to the words lent: as it did, or by 25, exactly where the words are too few
pub data EndsHeld (words : ℕ) (c : Counts) (es : List Event) : End → Type 0 where
  as_before : (TooFew words c es → ⊥) → EndsHeld words c es (ending c es)
  by_words : (f : TooFew words c es) → EndsHeld words c es (stopped (refuse TooFewWords f.definition.place) [])

module _ (words : ℕ) (c : Counts) (es : List Event) where
  ends-later : (e : Event) (next : Counts) → words_after e ≤ words → counted c e ≡ finished next → {o : End} → EndsHeld words next es o → EndsHeld words c (e ∷ es) o
  ends-later e next h g (as_before n) = subst (EndsHeld words c (e ∷ es)) (ending-more c e next es g) (as_before (λ f. n (too_few_tail e h g f)))
  ends-later e next h g (by_words f) = by_words (too_few-later e h g f)

  module _ (further : (next : Counts) → EndsHeld words next es (ending next (map (held_to words) es))) where
    ends-counted : (e : Event) → words_after e ≤ words → (o : End) → counted c e ≡ o → EndsHeld words c (e ∷ es) (ending c (e ∷ map (held_to words) es))
    ends-counted e h (finished next) g =
        subst (EndsHeld words c (e ∷ es)) (sym (ending-more c e next (map (held_to words) es) g)) (ends-later e next h g (further next))
    ends-counted e h (stopped r chain) g =
        subst (EndsHeld words c (e ∷ es)) (ending-stops c e es g ∙ sym (ending-stops c e (map (held_to words) es) g)) (as_before (too_few-stopped e g))

    ends_one : {e : Event} → One words e → EndsHeld words c (e ∷ es) (ending c (map (held_to words) (e ∷ es)))
    ends_one (short {d} {t} h) =
        let f : TooFew words c (entered d t ∷ es) = too_few-here c es h in
        subst (EndsHeld words c (entered d t ∷ es)) (sym (too_few-stops words c (entered d t ∷ es) f)) (by_words f)
    ends_one (enough {e} h) =
        subst (λ (x : Event). EndsHeld words c (e ∷ es) (ending c (x ∷ map (held_to words) es))) (sym (held_one words e h))
        (ends-counted e h (counted c e) refl)

pub held-ends : (words : ℕ) (c : Counts) (es : List Event) → EndsHeld words c es (ending c (map (held_to words) es))
held-ends words c [] = as_before too_few_none
held-ends words c (e ∷ es) = ends_one words c es (λ next. held-ends words next es) (one words e)

-- the drawing finishes, with the counts that it would have, exactly when it would and the words suffice
needed_of : (words : ℕ) (c : Counts) (es : List Event) (last : Counts) → ending c (map (held_to words) es) ≡ finished last → words_needed es ≤ words
unfolding words_needed
needed_of words c [] last h = omega arith
needed_of words c (e ∷ es) last h = by_one (one words e) (λ next. needed_of words next es last) h
  where
    by_one : {e : Event} → One words e → ((next : Counts) → ending next (map (held_to words) es) ≡ finished last → words_needed es ≤ words)
        → ending c (map (held_to words) (e ∷ es)) ≡ finished last → words_needed (e ∷ es) ≤ words
    by_one (short {d} {t} l) further k =
        absurd (not_finished (sym (too_few-stops words c (entered d t ∷ es) (too_few-here c es l)) ∙ k))
    by_one (enough {e} l) further k =
        by_count (counted c e) refl (subst (λ (x : Event). ending c (x ∷ map (held_to words) es) ≡ finished last) (held_one words e l) k)
      where
        by_count : (o : End) → counted c e ≡ o → ending c (e ∷ map (held_to words) es) ≡ finished last → words_needed (e ∷ es) ≤ words
        by_count (finished next) g m = needed-more words e es l (further next (sym (ending-more c e next (map (held_to words) es) g) ∙ m))
        by_count (stopped r chain) g m = absurd (not_finished (sym (ending-stops c e (map (held_to words) es) g) ∙ m))

pub held-finished : (words : ℕ) (c : Counts) (es : List Event) (last : Counts)
    → (ending c (map (held_to words) es) ≡ finished last) ↔ ((ending c es ≡ finished last) × (words_needed es ≤ words))
held-finished words c es last = (
  λ h. let k : words_needed es ≤ words = needed_of words c es last h in (ap (ending c) (sym (held_all words es k)) ∙ h, k),
  λ h. ap (ending c) (held_all words es h.1) ∙ h.0,
)

-- it is stopped by 25 exactly where the words are too few; a story that is stopped by 25 of itself is shut out
pub held-stopped : (words : ℕ) (c : Counts) (es : List Event) (p : ℕ) (chain : Chain) → (ending c es ≡ stopped (refuse TooFewWords p) chain → ⊥)
    → (ending c (map (held_to words) es) ≡ stopped (refuse TooFewWords p) chain) ↔ ((f : TooFew words c es) × (f.definition.place ≡ p) × (chain ≡ []))
held-stopped words c es p chain n = (
  λ h. go (held-ends words c es) h,
  λ h. too_few-stops words c es h.0 ∙ ap₂ {C = End} (λ (q : ℕ) (x : Chain). stopped (refuse TooFewWords q) x) h.1 (sym h.2),
)
  where
    place_of : End → ℕ
    place_of (finished x) = 0
    place_of (stopped r x) = r.place

    chain_of : End → Chain
    chain_of (finished x) = []
    chain_of (stopped r x) = x

    go : {o : End} → EndsHeld words c es o → o ≡ stopped (refuse TooFewWords p) chain → (f : TooFew words c es) × (f.definition.place ≡ p) × (chain ≡ [])
    go (as_before m) h = absurd (n h)
    go (by_words f) h = (f, ap place_of h, sym (ap chain_of h))
