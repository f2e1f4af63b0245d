-- What is drawn one after another is drawn as one: the laws by which every function that draws composes its callees, and a loop keeps what is left.
-- Assumes nothing.
use Rattle.std.specs.Prelude.{Result, Ok, Err}
use mathlib.Core.Path.{◌≡◌, refl, sym, ap, ◌∙◌, subst}
use mathlib.Core.List.{List, [], ◌∷◌, ◌++◌, append_assoc, append-nil}
use Prim.Native.Nat.{ℕ}
use native.Mathlib.Nat.{add-zero}
use native.Mathlib.Omega.{arith}
use lib.ListN.{length, length-append}
use lib.Seq.{sets, length-sets}
use Rattle.definition.specs.Drawing.{Chain, Event, Drawn as Shown}
use Rattle.definition.specs.Counts.{End, finished, stopped, counted, go_on, ending, shapes_of}
use Rattle.definition.specs.Counts.{Counts as Tally}
use Rattle.definition.specs.Flat.{lines}
use Rattle.definition.specs.declared.Refusal.{Refusal}
use Rattle.laws.proofs.Lists.Joined.{ending-++, shapes_of-++}
use Rattle.pen.specs.Names.{name_of}
use Rattle.digits.specs.Writes.{Writes}
use Rattle.digits.proofs.Writing.{both, written}
use Rattle.counts.specs.declared.Counts.{Counts}
use Rattle.counts.specs.Counting.{tally}
use Rattle.shapes.specs.declared.Ink.{Ink}
use Rattle.shapes.specs.Painting.{going_by, until, inked, bytes_of, Reached, Goes, Answered, Painted}

pub never : (why : Refusal) (chain : Chain) (c : Tally) → stopped why chain ≡ finished c → ⊥
never why chain c e = let z : ◌≡◌ {A = ℕ} 0 1 = cc in omega arith

-- ---- the events before the first refusal, of joined events

unfoldable pub further : End → List Event → List Event
further (finished c) b = until c b
further (stopped why chain) b = []

pub until-++ : (c : Tally) (a b : List Event) → until c (a ++ b) ≡ until c a ++ further (ending c a) b
unfolding until ending further
until-++ c [] b = refl
until-++ c (e ∷ a) b = go (counted c e) (λ c'. until-++ c' a b)
  where
    go : (x : End) → ((c' : Tally) → until c' (a ++ b) ≡ until c' a ++ further (ending c' a) b) → going_by x e (λ c'. until c' (a ++ b)) ≡ going_by x e (λ c'. until c' a) ++ further (go_on x (λ c'. ending c' a)) b
    go (finished c') f = unfold going_by go_on in ap (λ (l : List Event). e ∷ l) (f c')
    go (stopped why chain) f = unfold going_by go_on further in refl

-- where all happens, all is before the end
pub until_all : (c : Tally) (es : List Event) (c' : Tally) → ending c es ≡ finished c' → until c es ≡ es
unfolding until ending
until_all c [] c' e = refl
until_all c (x ∷ es) c' e = go (counted c x) (λ d. until_all d es c') e
  where
    go : (y : End) → ((d : Tally) → ending d es ≡ finished c' → until d es ≡ es) → go_on y (λ d. ending d es) ≡ finished c' → going_by y x (λ d. until d es) ≡ x ∷ es
    go (finished d) f h = unfold going_by go_on in ap (λ (l : List Event). x ∷ l) (f d (unfold go_on in h))
    go (stopped why chain) f h = absurd (never why chain c' (unfold go_on in h))

-- ---- one after another

-- nothing happens
pub still : (ink : Ink) (room : List ℕ) {chain : Chain} → Reached ink → Painted ink [] room chain (Ok ink) room
unfolding Answered until ending shapes_of lines
still ink room h = record {
  answer = record { ends = refl; next = sym (add-zero ink.pen.at); on = λ ds. refl; reached = h };
  laid = refl;
}

-- an event that is counted and no shape
pub quiet : (ink : Ink) (c : Counts) (e : Event) (room : List ℕ) {chain : Chain} → counted (tally ink.counts) e ≡ finished (tally c) → shapes_of (e ∷ []) ≡ [] → Reached (inked c ink.pen)
    → Painted ink (e ∷ []) room chain (Ok (inked c ink.pen)) room
unfolding Answered until ending lines going_by go_on
quiet ink c e room h n k = record {
  answer = record {
    ends = rw h;
    next = rw n (sym (add-zero ink.pen.at));
    on = λ ds. rw n;
    reached = k;
  };
  laid = rw (h, n);
}

-- a refusal, before anything is drawn
pub refusal : (ink : Ink) (e : Event) (es : List Event) (room : List ℕ) (why : Refusal) (chain : Chain) → counted (tally ink.counts) e ≡ stopped why chain
    → Painted ink (e ∷ es) room chain (Err why) room
unfolding Answered until ending going_by go_on shapes_of lines
refusal ink e es room why chain h = record { answer = rw h; laid = rw h }

module _ {ink : Ink} {a : List Event} {room : List ℕ} {chain : Chain} where
  -- what is refused stays so, whatever would come
  pub cut : (b : List Event) {why : Refusal} {room' : List ℕ} → Painted ink a room chain (Err why) room' → Painted ink (a ++ b) room chain (Err why) room'
  unfolding Answered
  cut b {why} {room'} x =
      let e = x.answer in
      record {
        answer = ending-++ (tally ink.counts) a b ∙ (ap (λ (y : End). go_on y (λ d. ending d b)) e ∙ (unfold go_on in refl));
        laid =
            x.laid
            ∙ ap (λ (es : List Event). sets room ink.pen.at (lines (name_of ink.pen.layer) (shapes_of es)))
            (sym (append-nil (until (tally ink.counts) a)) ∙ sym (until-++ (tally ink.counts) a b ∙ (ap (λ (y : End). until (tally ink.counts) a ++ further y b) e ∙ (unfold further in refl))));
      }

  module _ {ink' : Ink} {room' : List ℕ} (x : Painted ink a room chain (Ok ink') room') where
    -- what is done is so whatever calls a refusal would be told with
    pub for_any : {other : Chain} → Painted ink a room other (Ok ink') room'
    unfolding Answered
    for_any = record { answer = x.answer; laid = x.laid }

    -- what is done, and what is done then
    went : Goes ink a ink'
    unfolding Answered
    went = x.answer

    all_before : until (tally ink.counts) a ≡ a
    all_before = until_all (tally ink.counts) a (tally ink'.counts) went.ends

    joined : (b : List Event) → bytes_of ink (a ++ b) ≡ lines (name_of ink.pen.layer) (shapes_of a) ++ bytes_of ink' b
    unfolding further
    joined b =
        ap (λ (es : List Event). lines (name_of ink.pen.layer) (shapes_of es))
        (until-++ (tally ink.counts) a b ∙ (ap (λ (es : List Event). es ++ further (ending (tally ink.counts) a) b) all_before ∙ ap (λ (y : End). a ++ further y b) went.ends))
        ∙ (ap (lines (name_of ink.pen.layer)) (shapes_of-++ a (until (tally ink'.counts) b)) ∙ went.on (shapes_of (until (tally ink'.counts) b)))

    own : Writes room room' ink.pen.at ink'.pen.at (lines (name_of ink.pen.layer) (shapes_of a))
    own = written (x.laid ∙ ap (λ (es : List Event). sets room ink.pen.at (lines (name_of ink.pen.layer) (shapes_of es))) all_before) went.next

    laid_both : (b : List Event) {room'' : List ℕ} → room'' ≡ sets room' ink'.pen.at (bytes_of ink' b) → room'' ≡ sets room ink.pen.at (bytes_of ink (a ++ b))
    laid_both b l = (both own (written l refl)).laid ∙ ap (sets room ink.pen.at) (sym (joined b))

    ends_then : (b : List Event) → ending (tally ink.counts) (a ++ b) ≡ ending (tally ink'.counts) b
    ends_then b = ending-++ (tally ink.counts) a b ∙ (ap (λ (y : End). go_on y (λ d. ending d b)) went.ends ∙ (unfold go_on in refl))

    goes_then : (b : List Event) {ink'' : Ink} → Goes ink' b ink'' → Goes ink (a ++ b) ink''
    goes_then b {ink'' = ink''} g =
        let l = name_of ink.pen.layer in
        let split : lines l (shapes_of (a ++ b)) ≡ lines l (shapes_of a) ++ lines (name_of ink'.pen.layer) (shapes_of b) = ap (lines l) (shapes_of-++ a b) ∙ went.on (shapes_of b) in
        record {
          ends = ends_then b ∙ g.ends;
          next = omega (arith, g.next, went.next, ap length split, length-append (lines l (shapes_of a)) (lines (name_of ink'.pen.layer) (shapes_of b)));
          on =
              λ ds.
              ap (λ (s : List Shown). lines l (s ++ ds)) (shapes_of-++ a b)
              ∙ (ap (lines l) (append_assoc (shapes_of a) (shapes_of b) ds)
              ∙ (went.on (shapes_of b ++ ds)
              ∙ (ap (λ (s : List ℕ). lines l (shapes_of a) ++ s) (g.on ds)
              ∙ (sym (append_assoc (lines l (shapes_of a)) (lines (name_of ink'.pen.layer) (shapes_of b)) (lines (name_of ink''.pen.layer) ds))
              ∙ ap (λ (s : List ℕ). s ++ lines (name_of ink''.pen.layer) ds) (sym split)))));
          reached = g.reached;
        }

    answer_then : (b : List Event) (open_calls : Chain) (r : Result Ink Refusal) → Answered ink' b open_calls r → Answered ink (a ++ b) open_calls r
    unfolding Answered
    answer_then b open_calls (Ok ink'') g = goes_then b g
    answer_then b open_calls (Err why) g = ends_then b ∙ g

    pub next_drawn : (b : List Event) {open_calls : Chain} {r : Result Ink Refusal} {room'' : List ℕ} → Painted ink' b room' open_calls r room'' → Painted ink (a ++ b) room open_calls r room''
    next_drawn b {open_calls} {r} y = record { answer = answer_then b open_calls r y.answer; laid = laid_both b y.laid }

-- ---- a loop that draws: what is to be drawn in all, and what of it is left. Nothing is refused yet, so that the calls of a refusal are told as none

pub record PaintedSoFar (all : List Event) (ink₀ : Ink) (room₀ : List ℕ) (left : List Event) (ink : Ink) (room : List ℕ) : Type 0 where
  pub done : List Event
  pub parts : done ++ left ≡ all
  pub drawn : Painted ink₀ done room₀ [] (Ok ink) room

pub begun : (all : List Event) (ink : Ink) (room : List ℕ) → Reached ink → PaintedSoFar all ink room all ink room
begun all ink room h = record { done = []; parts = refl; drawn = still ink room h }

module _ {all : List Event} {ink₀ : Ink} {room₀ : List ℕ} {left : List Event} {ink : Ink} {room : List ℕ}
    (g : PaintedSoFar all ink₀ room₀ left ink room) where
  pub room-kept : length room ≡ length room₀
  room-kept = ap length g.drawn.laid ∙ length-sets room₀ ink₀.pen.at (bytes_of ink₀ g.done)

  pub so_far : Reached ink
  so_far = (went g.drawn).reached

  parts_then : (now rest : List Event) → left ≡ now ++ rest → (g.done ++ now) ++ rest ≡ all
  parts_then now rest e = append_assoc g.done now rest ∙ (ap (λ (l : List Event). g.done ++ l) (sym e) ∙ g.parts)

  pub goes_on : (now rest : List Event) → left ≡ now ++ rest → {chain : Chain} {ink' : Ink} {room' : List ℕ} → Painted ink now room chain (Ok ink') room'
      → PaintedSoFar all ink₀ room₀ rest ink' room'
  goes_on now rest e x = record { done = g.done ++ now; parts = parts_then now rest e; drawn = next_drawn g.drawn now (for_any x) }

  -- what is left draws nothing
  pub skips : (rest : List Event) → left ≡ rest → PaintedSoFar all ink₀ room₀ rest ink room
  skips rest e = subst (λ (l : List Event). PaintedSoFar all ink₀ room₀ l ink room) e g

  pub stops : (now rest : List Event) → left ≡ now ++ rest → {chain : Chain} {why : Refusal} {room' : List ℕ} → Painted ink now room chain (Err why) room'
      → Painted ink₀ all room₀ chain (Err why) room'
  stops now rest e {chain} {why} {room'} x =
      subst (λ (l : List Event). Painted ink₀ l room₀ chain (Err why) room') (parts_then now rest e) (cut rest (next_drawn g.drawn now x))

  pub over : left ≡ [] → {chain : Chain} → Painted ink₀ all room₀ chain (Ok ink) room
  over e {chain} =
      subst (λ (l : List Event). Painted ink₀ l room₀ chain (Ok ink) room)
      (sym (append-nil g.done) ∙ (ap (λ (l : List Event). g.done ++ l) (sym e) ∙ g.parts)) (for_any g.drawn)
