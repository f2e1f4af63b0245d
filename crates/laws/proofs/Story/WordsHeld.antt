-- How many words the live bodies of a drawing need at most: those of the commands that its definitions retain. A command is retained by one
-- definition at most, so words for all commands of a text are words enough, and then refusal 25 falls nowhere.
-- Assumes nothing.
use Rattle.std.specs.Prelude.{if◌then◌else◌}
use mathlib.Core.Path.{◌≡◌, refl, sym, ap₂, subst}
use mathlib.Core.Bool.{Bool, true, false}
use mathlib.Core.List.{List, [], ◌∷◌, ◌++◌, map}
use Prim.Native.Nat.{ℕ, zero, suc, ◌+◌, ◌≤◌}
use native.Mathlib.Omega.{arith}
use borrow.Author.Tests.{le-ltb}
use lib.Dec.{ltb, eqb}
use lib.IntN.{ℤ}
use lib.ListN.{length}
use Rattle.definition.specs.Limits.{most_definitions, deepest}
use Rattle.definition.specs.Words.{Placed, at, those}
use Rattle.definition.specs.declared.Rule.TheVariants.{TooManyDefinitions}
use Rattle.definition.specs.Rules.{refuse}
use Rattle.definition.specs.Commands.{Shape, Turn, Command, draw, layer, call, start, finish, delete, nothing}
use Rattle.definition.specs.Standing.{Standing, outside, after}
use Rattle.definition.specs.Table.{Step, shape, instance, setting, Definition, Table, enter, forget}
use Rattle.definition.specs.Drawing.{step_of, retained, Deed, output, define, remove, deed_of, deeds, Chain, Event, called, drew, entered, removed, refused}
use Rattle.definition.specs.Drawing.{drawn_shape, drawn_step, drawn_body, Passage, barred, leads, passage_of, through, drawn_call, happens, table_after, story}
use Rattle.definition.specs.Held.{total, words_of_body, words_in, held_to, words_after, words_needed}
use Rattle.laws.proofs.Lists.Range.{All, all-++}
use Rattle.laws.proofs.Commands.Ordered.{Allowed, Ordered, after-inside}
use Rattle.laws.proofs.Story.Axes.{by_axes}

-- ---- the table

-- a definition adds its own words, and may take the place of another; DD adds none
enter_words : (d : Definition) (t : Table) → words_in (enter d t) ≤ words_of_body d.body + words_in t
unfolding enter words_in
enter_words d [] = omega arith
enter_words d (e ∷ t) = go (ltb d.symbol e.symbol) (eqb d.symbol e.symbol) (enter_words d t)
  where
    go : (a b : Bool) → words_in (enter d t) ≤ words_of_body d.body + words_in t
        → words_in (if a then d ∷ e ∷ t else if b then d ∷ t else e ∷ enter d t) ≤ words_of_body d.body + (words_of_body e.body + words_in t)
    go true b h = omega arith
    go false true h = omega arith
    go false false h = omega arith

those_words : (f : Definition → Bool) (t : Table) → words_in (those f t) ≤ words_in t
unfolding those words_in
those_words f [] = omega arith
those_words f (d ∷ t) = go (f d) (those_words f t)
  where
    go : (b : Bool) → words_in (those f t) ≤ words_in t → words_in (if b then d ∷ those f t else those f t) ≤ words_of_body d.body + words_in t
    go true h = omega arith
    go false h = omega arith

-- ---- the story

-- so many words hold the live bodies after the event
abbrev pub Holds : ℕ → Event → Type 0
Holds w e = words_after e ≤ w

module _ (w : ℕ) where
  shape-holds : (chain : Chain) (net : List (Turn ℤ)) (p : ℕ) (l : List ℕ) (k : Shape ℤ) → Holds w (drawn_shape chain net p l k)
  unfolding words_after
  shape-holds chain net p l k = by_axes chain net p l k (Holds w) (omega arith) (omega arith) (λ e. omega arith)

  module _ (f : ℕ → ℕ → List (Turn ℤ) → List Event) (holds : (p n : ℕ) (ts : List (Turn ℤ)) → All (Holds w) (f p n ts)) (chain : Chain) (net : List (Turn ℤ)) where
    step-holds : (p : ℕ) (s : Step) → All (Holds w) (drawn_step f chain net p s)
    unfolding drawn_step All
    step-holds p (shape l k) = (shape-holds chain net p l k, tt)
    step-holds p (instance n ts) = holds p n ts
    step-holds p (setting l) = tt

    body-holds : (b : List (Placed Step)) → All (Holds w) (drawn_body f chain net b)
    unfolding drawn_body All
    body-holds [] = tt
    body-holds (s ∷ b) = all-++ (Holds w) (drawn_step f chain net s.place s.what) (drawn_body f chain net b) (step-holds s.place s.what) (body-holds b)

  through-holds : (o : Passage) (p : ℕ) (chain : Chain) (go : Definition → List Event) → ((d : Definition) → All (Holds w) (go d)) → All (Holds w) (through o p chain go)
  unfolding through All words_after
  through-holds (barred r) p chain go h = (omega arith, tt)
  through-holds (leads d) p chain go h = (omega arith, h d)

  call-holds : (left : ℕ) (t : Table) (chain : Chain) (net : List (Turn ℤ)) (p n : ℕ) (ts : List (Turn ℤ)) → All (Holds w) (drawn_call left t chain net p n ts)
  unfolding drawn_call All
  call-holds zero t chain net p n ts = through-holds (passage_of 0 t chain n ts) p chain (λ d. []) (λ d. tt)
  call-holds (suc left) t chain net p n ts =
      let deeper : Chain = chain ++ (at p n ∷ []) in
      through-holds (passage_of (suc left) t chain n ts) p chain
      (λ d. drawn_body (drawn_call left t deeper (ts ++ net)) deeper (ts ++ net) d.body)
      (λ d. body-holds (drawn_call left t deeper (ts ++ net)) (λ q m us. call-holds left t deeper (ts ++ net) q m us) deeper (ts ++ net) d.body)

  happens-holds : (t : Table) (d : Deed) → words_in (table_after t d) ≤ w → All (Holds w) (happens t d)
  unfolding happens table_after All words_after
  happens-holds t (output s) h = step-holds (drawn_call deepest t [] []) (λ q m us. call-holds deepest t [] [] q m us) [] [] s.place s.what
  happens-holds t (define d) h = (go (ltb most_definitions (length (enter d t))), tt)
    where
      go : (b : Bool) → Holds w (if b then refused (refuse TooManyDefinitions d.place) [] else entered d t)
      go true = omega arith
      go false = h
  happens-holds t (remove n) h = (omega arith, tt)

-- the words of what a definition retains, and of what all do
unfoldable pub words_of_deed : Deed → ℕ
words_of_deed (output s) = 0
words_of_deed (define d) = words_of_body d.body
words_of_deed (remove n) = 0

abbrev pub words_of_deeds : List Deed → ℕ
words_of_deeds ds = total words_of_deed ds

after_words : (t : Table) (d : Deed) → words_in (table_after t d) ≤ words_of_deed d + words_in t
unfolding table_after words_of_deed forget
after_words t (output s) = omega arith
after_words t (define d) = enter_words d t
after_words t (remove n) = omega (arith, those_words (λ d. ltb d.symbol n.what) t)

story-holds : (w : ℕ) (t : Table) (ds : List Deed) → words_of_deeds ds + words_in t ≤ w → All (Holds w) (story t ds)
unfolding story All
story-holds w t [] h = tt
story-holds w t (d ∷ ds) h =
    let a = after_words t d in
    all-++ (Holds w) (happens t d) (story (table_after t d) ds) (happens-holds w t d (omega arith)) (story-holds w (table_after t d) ds (omega arith))

-- ---- the commands

-- the steps of a command have together at most so many words, whatever stands
abbrev pub Takes : ℕ → Command → Type 0
Takes k c = (s : Standing) → words_of_body (map (at 0) (step_of s c)) ≤ k

-- and commands one after the other
pub data Take : ℕ → List (Placed Command) → Type 0 where
  done : {k : ℕ} → Take k []
  step : {j k : ℕ} {c : Placed Command} {cs : List (Placed Command)} → Takes j c.what → Take k cs → Take (j + k) (c ∷ cs)

-- places make no difference, and joined bodies have the words of both
placed_words : (p q : ℕ) (ss : List Step) (b : List (Placed Step)) → words_of_body (map (at p) ss ++ b) ≡ words_of_body (map (at q) ss) + words_of_body b
unfolding words_of_body
placed_words p q [] b = omega arith
placed_words p q (s ∷ ss) b = let h = placed_words p q ss b in omega arith

joined_words : (a b : List Deed) → words_of_deeds (a ++ b) ≡ words_of_deeds a + words_of_deeds b
joined_words [] b = omega arith
joined_words (d ∷ a) b = let h = joined_words a b in omega arith

outputs_words : (i : Bool) (p : ℕ) (ss : List Step) → words_of_deeds (if i then [] else map (λ x. output (at p x)) ss) ≡ 0
unfolding words_of_deed
outputs_words true p ss = refl
outputs_words false p [] = refl
outputs_words false p (s ∷ ss) = let h = outputs_words false p ss in omega arith

-- only a DS defines, and it stands in no definition: it retains what an open definition would retain after it
deed_words : (s : Standing) (p : ℕ) (c : Command) (cs : List (Placed Command)) → Allowed s.inside c
    → words_of_deeds (deed_of s p c cs) ≤ (if s.inside then 0 else words_of_body (retained (after c s) cs))
unfolding deed_of words_of_deed Allowed
deed_words s p (draw k) cs a = let h = outputs_words s.inside p (step_of s (draw k)) in omega arith
deed_words s p (call n ts) cs a = let h = outputs_words s.inside p (step_of s (call n ts)) in omega arith
deed_words s p (start n x y) cs a = rw a (omega arith)
deed_words s p (delete n) cs a = omega arith
deed_words s p (layer l) cs a = omega arith
deed_words s p finish cs a = omega arith
deed_words s p nothing cs a = omega arith

if_words : (i : Bool) (b : List (Placed Step)) → words_of_body (if i then b else []) ≡ (if i then words_of_body b else 0)
unfolding words_of_body
if_words true b = refl
if_words false b = refl

-- what an open definition still retains, and later ones, is at most what the commands take
retained-within : (s : Standing) {k : ℕ} {cs : List (Placed Command)} → Take k cs → Ordered s.inside cs → words_of_deeds (deeds s cs) + words_of_body (retained s cs) ≤ k
unfolding deeds retained words_of_body Ordered
retained-within s done o = omega arith
retained-within s (step {j} {k} {c} {cs} t f) o =
    let rest = retained (after c.what s) cs in
    let h = retained-within (after c.what s) f (subst (λ (i : Bool). Ordered i cs) (sym (after-inside c.what s)) o.1) in
    let own = placed_words c.place 0 (step_of s c.what) rest in
    let first = t s in
    let both-deeds = joined_words (deed_of s c.place c.what cs) (deeds (after c.what s) cs) in
    rw if_words (go s.inside (words_of_deeds (deeds (after c.what s) cs)) (words_of_body rest) (deed_words s c.place c.what cs o.0) h own first both-deeds)
  where
    go : (i : Bool) (e r : ℕ) {x y d b : ℕ} → d ≤ (if i then 0 else r) → e + r ≤ k → b ≡ x + r → x ≤ j → y ≡ d + e → y + (if i then b else 0) ≤ j + k
    go true e r a h own first both-deeds = omega arith
    go false e r a h own first both-deeds = omega arith

-- ---- so many words are enough

pub take-holds : (w : ℕ) (cs : List (Placed Command)) → Take w cs → Ordered false cs → All (Holds w) (story [] (deeds (outside []) cs))
unfolding words_in
take-holds w cs t o = let h = retained-within (outside []) t o in story-holds w [] (deeds (outside []) cs) (omega arith)

held-event : (w v : ℕ) (e : Event) → w ≤ v → Holds w e → held_to v e ≡ e
unfolding held_to words_after
held-event w v (entered d before) h k =
    let enough : ltb v (words_in (enter d before)) ≡ false = le-ltb v (words_in (enter d before)) (omega arith) in
    rw enough
held-event w v (called p chain d) h k = refl
held-event w v (drew d) h k = refl
held-event w v (removed n before) h k = refl
held-event w v (refused r chain) h k = refl

pub held_all : (w v : ℕ) (es : List Event) → w ≤ v → All (Holds w) es → map (held_to v) es ≡ es
unfolding All
held_all w v [] h x = refl
held_all w v (e ∷ es) h x = ap₂ {C = List Event} (λ (a : Event) (l : List Event). a ∷ l) (held-event w v e h x.0) (held_all w v es h x.1)

pub needed-within : (w : ℕ) (es : List Event) → All (Holds w) es → words_needed es ≤ w
unfolding words_needed All
needed-within w [] x = omega arith
needed-within w (e ∷ es) x = let h = needed-within w es x.1 in let k = x.0 in omega arith
