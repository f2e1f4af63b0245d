-- Demand 3: the flat file of an accepted text is accepted, draws the same shapes, and flattened again gives the same bytes.
-- Assumes nothing.
use Rattle.std.specs.Prelude.{if◌then◌else◌}
use mathlib.Core.Path.{◌≡◌, refl, sym, ap, ◌∙◌, subst}
use mathlib.Core.Bool.{Bool, true, false, ◌&&◌}
use mathlib.Core.List.{List, [], ◌∷◌, ◌++◌, map}
use mathlib.Core.Option.{Option, none, some}
use Prim.Native.Nat.{ℕ, ◌+◌, ◌≤◌}
use native.Mathlib.Omega.{arith}
use borrow.Author.Tests.{ltb-true, le-leb, leb-true}
use lib.Dec.{T, ltb, leb}
use lib.IntN.{ℤ}
use lib.ListN.{length}
use Rattle.grammar.specs.Notation.{Letter}
use Rattle.grammar.specs.Viable.{Marked}
use Rattle.definition.specs.declared.Refusal.{Refusal}
use Rattle.definition.specs.Limits.{most_bytes, most_calls, most_shapes}
use Rattle.definition.specs.Words.{Placed, first}
use Rattle.definition.specs.declared.Rule.TheVariants.{TooManyCalls, TooManyShapes, FlatFileTooLong}
use Rattle.definition.specs.Rules.{refuse}
use Rattle.definition.specs.Commands.{Shape, Command, commands}
use Rattle.definition.specs.Standing.{outside}
use Rattle.definition.specs.Faults.{first_fault}
use Rattle.definition.specs.Drawing.{Chain, Drawn, Event, called, drew, entered, removed, refused, deeds}
use Rattle.definition.specs.Counts.{Counts, counts, End, finished, stopped, counted, go_on, ending, shapes_of}
use Rattle.definition.specs.Flat.{flat}
use Rattle.definition.specs.Answer.{Outcome, accepted, rejected, drawing_of, held_drawing, fitted, drawn, outcome_of, Answers, too_long, not_cif, read}
use Rattle.definition.specs.Held.{held_to}
use Rattle.laws.proofs.Lists.Range.{All, all_to, Within}
use Rattle.laws.proofs.Story.Kept.{shapes-within}
use Rattle.laws.proofs.FlatFile.Reread.{plain, Redrawn, Sayable, flat_letters, flat_redrawn, flat-plain, drawn-shapes, drawn-ending}
use Rattle.laws.proofs.FlatFile.Spelling.{flat-marked}
use Rattle.laws.proofs.FlatFile.Said.{Good, all_good, all_both, sayable, spelt, length-map}
use Rattle.laws.proofs.FlatFile.Faultless.{flat-clear}
use Rattle.laws.proofs.Story.Held.{held-finished}

stopped≢finished : {r : Refusal} {chain : Chain} {c : Counts} → stopped r chain ≡ finished c → ⊥
stopped≢finished e = subst ended? e tt
  where
    ended? : End → Type 0
    ended? (stopped r chain) = Unit {0}
    ended? (finished c) = ⊥

-- a drawing that finished from counts c with counts c' has counted its shapes, at most 1,048,576
pub record Counted (c : Counts) (es : List Event) (c' : Counts) : Type 0 where
  pub is : c.shapes + length (shapes_of es) ≡ c'.shapes
  pub limit : c'.shapes ≤ most_shapes

pub shapes-counted : (c : Counts) (es : List Event) (c' : Counts) → c.shapes ≤ most_shapes → ending c es ≡ finished c' → Counted c es c'
unfolding ending counted go_on shapes_of
shapes-counted c [] c' h e = let q : c ≡ c' = cc in let z : c.shapes ≡ c'.shapes = ap (λ (x : Counts). x.shapes) q in record { is = omega arith; limit = omega arith }
shapes-counted c (drew d ∷ es) c' h e = go (ltb c.shapes most_shapes) refl (shapes-counted (counts c.calls (c.shapes + 1) c.redefinitions) es c') e
  where
    go : (b : Bool) → ltb c.shapes most_shapes ≡ b
        → (c.shapes + 1 ≤ most_shapes → ending (counts c.calls (c.shapes + 1) c.redefinitions) es ≡ finished c' → Counted (counts c.calls (c.shapes + 1) c.redefinitions) es c')
        → go_on (if b then finished (counts c.calls (c.shapes + 1) c.redefinitions) else stopped (refuse TooManyShapes d.place) d.chain) (λ x. ending x es) ≡ finished c'
        → Counted c (drew d ∷ es) c'
    go true t f g =
        let r = f (omega (arith, ltb-true c.shapes most_shapes t)) g in
        let q : c.shapes + 1 + length (shapes_of es) ≡ c'.shapes = r.is in
        record { is = unfold shapes_of in omega arith; limit = r.limit }
    go false t f g = absurd (stopped≢finished g)
shapes-counted c (called p chain d ∷ es) c' h e = go (ltb c.calls most_calls) (shapes-counted (counts (c.calls + 1) c.shapes c.redefinitions) es c' h) e
  where
    go : (b : Bool)
        → (ending (counts (c.calls + 1) c.shapes c.redefinitions) es ≡ finished c' → Counted (counts (c.calls + 1) c.shapes c.redefinitions) es c')
        → go_on (if b then finished (counts (c.calls + 1) c.shapes c.redefinitions) else stopped (refuse TooManyCalls p) chain) (λ x. ending x es) ≡ finished c'
        → Counted c (called p chain d ∷ es) c'
    go true f g = let r = f g in record { is = unfold shapes_of in r.is; limit = r.limit }
    go false f g = absurd (stopped≢finished g)
shapes-counted c (entered d before ∷ es) c' h e = let r = shapes-counted _ es c' h e in record { is = r.is; limit = r.limit }
shapes-counted c (removed n before ∷ es) c' h e = let r = shapes-counted c es c' h e in record { is = r.is; limit = r.limit }
shapes-counted c (refused r chain ∷ es) c' h e = absurd (stopped≢finished e)

-- what it is to be accepted
pub record Accepted (m : List Letter) (room : ℕ) (c : Counts) (es : List Event) : Type 0 where
  pub no_fault : first_fault (commands 0 m) ≡ none
  pub is_story : es ≡ drawing_of (commands 0 m)
  pub ended : ending (counts 0 0 0) es ≡ finished c
  pub fits : (leb (length (flat (shapes_of es))) room && leb (length (flat (shapes_of es))) most_bytes) ≡ true

Yes : Outcome → Type 0
Yes (accepted cs c es) = Unit {0}
Yes (rejected r chain) = ⊥

pub accepted_by : (m : List Letter) (words room : ℕ) (cs : List (Placed Command)) (c : Counts) (es : List Event) → outcome_of m words room ≡ accepted cs c es → Accepted m room c es
unfolding outcome_of
accepted_by m words room cs c es e = by_fault (first_fault (commands 0 m)) refl e
  where
    story_of : List Event
    story_of = drawing_of (commands 0 m)

    by_fit : (b : Bool) (x : Counts) → ending (counts 0 0 0) story_of ≡ finished x → (leb (length (flat (shapes_of story_of))) room && leb (length (flat (shapes_of story_of))) most_bytes) ≡ b
        → first_fault (commands 0 m) ≡ none → (if b then accepted (commands 0 m) x story_of else rejected (refuse FlatFileTooLong 0) []) ≡ accepted cs c es → Accepted m room c es
    by_fit true x q f n h =
        let ex : x ≡ c = cc in
        let ee : story_of ≡ es = cc in
        subst (λ (y : List Event). Accepted m room c y) ee (record { no_fault = n; is_story = refl; ended = q ∙ ap (λ (y : Counts). finished y) ex; fits = f })
    by_fit false x q f n h = absurd (unfold Yes in (subst Yes (sym h) tt))

    by_end : (x : End) → ending (counts 0 0 0) (held_drawing words (commands 0 m)) ≡ x → first_fault (commands 0 m) ≡ none → fitted x (commands 0 m) story_of room ≡ accepted cs c es → Accepted m room c es
    by_end (stopped r chain) q f h = absurd (unfold Yes fitted in (subst Yes (sym h) tt))
    by_end (finished x) q f h = by_fit _ x ((held-finished words (counts 0 0 0) story_of x).0 q).0 refl f (unfold fitted in h)

    by_fault : (f : Option Refusal) → first_fault (commands 0 m) ≡ f → drawn f (commands 0 m) words room ≡ accepted cs c es → Accepted m room c es
    by_fault (some r) q h = absurd (unfold Yes drawn in (subst Yes (sym h) tt))
    by_fault none q h = by_end (ending (counts 0 0 0) (held_drawing words (commands 0 m))) refl q (unfold drawn in h)

and_first : (x y : Bool) → (x && y) ≡ true → x ≡ true
and_first true y e = refl
and_first false y e = e

and_second : (x y : Bool) → (x && y) ≡ true → y ≡ true
and_second true y e = e
and_second false y e = absurd (subst (λ (b : Bool). T b) (sym e) tt)

-- an accepted text: its letters, and that they are accepted
pub record Reading (t : List ℕ) (room : ℕ) (c : Counts) (es : List Event) : Type 0 where
  pub letters : List Letter
  pub marked : Marked t letters
  pub as_read : Accepted letters room c es

pub reading : {t : List ℕ} {words room : ℕ} {cs : List (Placed Command)} {c : Counts} {es : List Event} → Answers t words room (accepted cs c es) → Reading t room c es
reading {t} {words} {room} {cs} {c} {es} k = of k refl
  where
    of : {o : Outcome} → Answers t words room o → o ≡ accepted cs c es → Reading t room c es
    of (too_long h) e = absurd (unfold Yes in (subst Yes (sym e) tt))
    of (not_cif h g l) e = absurd (unfold Yes in (subst Yes (sym e) tt))
    of (read {m} h k) e = record { letters = m; marked = k; as_read = accepted_by m words room cs c es e }

pub within-room : {m : List Letter} {room : ℕ} {c : Counts} {es : List Event} → Accepted m room c es → length (flat (shapes_of es)) ≤ room
within-room {m} {room} {c} {es} a = leb-true (length (flat (shapes_of es))) room (and_first (leb (length (flat (shapes_of es))) room) _ a.fits)

pub within_limit : {m : List Letter} {room : ℕ} {c : Counts} {es : List Event} → Accepted m room c es → length (flat (shapes_of es)) ≤ most_bytes
within_limit {m} {room} {c} {es} a = leb-true (length (flat (shapes_of es))) most_bytes (and_second (leb (length (flat (shapes_of es))) room) _ a.fits)

-- every shape that commands without a fault draw can be said
abbrev Fine : Drawn → Type 0
Fine d = Good d.layer_of d.itself × Within d

pub all_sayable : {t : List ℕ} {m : List Letter} → Marked t m → first_fault (commands 0 m) ≡ none → All Fine (shapes_of (drawing_of (commands 0 m)))
all_sayable {t} {m} k e =
    all_both _ _ Fine (λ d g w. (g, w)) (shapes_of (drawing_of (commands 0 m))) (all_good m k.rule e) (shapes-within [] (deeds (outside []) (commands 0 m)))

-- a story of shapes alone needs no words
held-drew : (words : ℕ) (ds : List Drawn) → map (held_to words) (map drew ds) ≡ map drew ds
unfolding held_to
held-drew words [] = refl
held-drew words (d ∷ ds) = ap (λ (x : List Event). drew d ∷ x) (held-drew words ds)

-- the heart of demand 3, of the shapes ds that an accepted text draws: with any words, in every room that holds it their flat file is accepted, with the same shapes,
-- and its own flat file is itself
pub record Again (ds : List Drawn) : Type 0 where
  pub grammatical : Marked (flat ds) (flat_letters ds)
  pub events : List Event
  pub only_shapes : events ≡ map drew (shapes_of events)
  pub answers : (words room : ℕ) → length (flat ds) ≤ room → Answers (flat ds) words room (accepted (commands 0 (flat_letters ds)) (counts 0 (length ds) 0) events)
  pub same_shapes : map plain (shapes_of events) ≡ map plain ds
  pub same_bytes : flat (shapes_of events) ≡ flat ds

pub flattened : (t : List ℕ) (m : List Letter) (room : ℕ) (c : Counts) (es : List Event) → Marked t m → Accepted m room c es → Again (shapes_of es)
flattened t m room c es k a = record {
  grammatical = marked;
  events = map drew r.shapes;
  only_shapes = ap (λ (y : List Drawn). map drew y) (sym (drawn-shapes r.shapes));
  answers = λ words room' h. subst (Answers (flat (shapes_of es)) words room') (is_outcome words room' h) (read (within_limit a) marked);
  same_shapes = shapes-same;
  same_bytes = bytes_same;
}
  where
    fine : All Fine (shapes_of es)
    fine = subst (λ (y : List Event). All Fine (shapes_of y)) (sym a.is_story) (all_sayable k a.no_fault)

    good : All (λ (d : Drawn). Good d.layer_of d.itself) (shapes_of es)
    good = all_to _ _ (λ d g. g.0) (shapes_of es) fine

    say : All Sayable (shapes_of es)
    say = all_to _ _ (λ d g. sayable d g.0 g.1) (shapes_of es) fine

    marked : Marked (flat (shapes_of es)) (flat_letters (shapes_of es))
    marked = flat-marked (shapes_of es) (all_to _ _ spelt (shapes_of es) good)

    redrawn : List (Placed Command)
    redrawn = commands 0 (flat_letters (shapes_of es))

    r : Redrawn (drawing_of (commands 0 (flat_letters (shapes_of es)))) (shapes_of es)
    r = flat_redrawn (shapes_of es) say

    shapes-same : map plain (shapes_of (map drew r.shapes)) ≡ map plain (shapes_of es)
    shapes-same = ap (λ (y : List Drawn). map plain y) (drawn-shapes r.shapes) ∙ r.says

    bytes_same : flat (shapes_of (map drew r.shapes)) ≡ flat (shapes_of es)
    bytes_same = unfold flat in ap (λ (w : List ℕ). w ++ (69 ∷ 10 ∷ [])) (flat-plain [] (shapes_of (map drew r.shapes)) (shapes_of es) shapes-same)

    as_many : length r.shapes ≡ length (shapes_of es)
    as_many = sym (length-map plain r.shapes) ∙ ap (λ (y : List (List ℕ × Shape ℤ)). length y) r.says ∙ length-map plain (shapes_of es)

    bound : 0 + length r.shapes ≤ most_shapes
    bound = let n = shapes-counted (counts 0 0 0) es c (omega arith) a.ended in omega (arith, as_many, n.is, n.limit)

    clear : first_fault (commands 0 (flat_letters (shapes_of es))) ≡ none
    clear = unfold first_fault first in ap (λ (y : List Refusal). first y) (flat-clear (shapes_of es) say good)

    fit-again : (room' : ℕ) → length (flat (shapes_of es)) ≤ room'
        → fitted (finished (counts 0 (0 + length r.shapes) 0)) redrawn (map drew r.shapes) room' ≡ accepted redrawn (counts 0 (0 + length r.shapes) 0) (map drew r.shapes)
    fit-again room' h =
        unfold fitted in rw (bytes_same, le-leb (length (flat (shapes_of es))) room' h, le-leb (length (flat (shapes_of es))) most_bytes (within_limit a))

    is_outcome : (words room' : ℕ) → length (flat (shapes_of es)) ≤ room'
        → outcome_of (flat_letters (shapes_of es)) words room' ≡ accepted redrawn (counts 0 (length (shapes_of es)) 0) (map drew r.shapes)
    is_outcome words room' h =
        let start : outcome_of (flat_letters (shapes_of es)) words room' ≡ drawn none redrawn words room' =
        unfold outcome_of in ap (λ (f : Option Refusal). drawn f redrawn words room') clear in
        let drew-it : drawn none redrawn words room' ≡ fitted (ending (counts 0 0 0) (map (held_to words) (map drew r.shapes))) redrawn (map drew r.shapes) room' =
        unfold drawn in ap (λ (y : List Event). fitted (ending (counts 0 0 0) (map (held_to words) y)) redrawn y room') r.only in
        start ∙ drew-it
        ∙ ap (λ (y : List Event). fitted (ending (counts 0 0 0) y) redrawn (map drew r.shapes) room') (held-drew words r.shapes)
        ∙ ap (λ (x : End). fitted x redrawn (map drew r.shapes) room') (drawn-ending 0 r.shapes bound)
        ∙ fit-again room' h
        ∙ ap (λ (n : ℕ). accepted redrawn (counts 0 n 0) (map drew r.shapes)) (omega (arith, as_many))
