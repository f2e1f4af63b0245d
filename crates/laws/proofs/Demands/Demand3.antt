-- Demand 3, whole: the flat file of an accepted text holds only layer commands, shapes and the End; every room that holds it accepts it, with the
-- same shapes; and flattened again it is the same bytes.
-- Assumes nothing.
use Rattle.std.specs.Prelude.{if◌then◌else◌}
use mathlib.Core.Path.{◌≡◌, refl, sym, ap, ◌∙◌, subst}
use mathlib.Core.Bool.{Bool, true, false, not}
use mathlib.Core.List.{List, [], ◌∷◌, ◌++◌, map}
use Prim.Native.Nat.{ℕ, suc, ◌+◌, ◌*◌, ◌%◌, ◌≤◌}
use native.Mathlib.Omega.{arith}
use borrow.Author.Tests.{eq-eqb}
use lib.Dec.{T}
use lib.IntN.{ℤ, nat_abs}
use lib.ListN.{length, take, drop, length-append}
use lib.Seq.{take_at, drop_at}
use Rattle.grammar.specs.Notation.{Letter, dec, has, head, skip, stop}
use Rattle.grammar.specs.Viable.{Marked}
use Rattle.grammar.specs.Tables.{letter}
use Rattle.grammar.proofs.Markings.{one_marking}
use Rattle.definition.specs.declared.Answer.{Answer}
use Rattle.definition.specs.Limits.{most_bytes}
use Rattle.definition.specs.Words.{Placed, at, same, those}
use Rattle.definition.specs.Standing.{outside, after, whole}
use Rattle.definition.specs.Faults.{distances}
use Rattle.definition.specs.Rounded.{ragged, rounded_from, rounded}
use Rattle.definition.specs.Commands.{Number, Kind, box, flash, wire, polygon, Command, draw, layer, call, start, finish, delete, nothing, command_at, commands, ◌plays◌}
use Rattle.definition.specs.Drawing.{Drawn, Event, drew}
use Rattle.definition.specs.Counts.{Counts, counts, shapes_of}
use Rattle.definition.specs.Flat.{letter_of, numbers_of_shape, flat}
use Rattle.definition.specs.Answer.{Outcome, accepted, flat_file, success, given_back, room_after, Answers, zeros, Promised}
use Rattle.laws.proofs.Commands.NumberPlaces.{as_long}
use Rattle.laws.proofs.Lists.Range.{All, all-++, all_to}
use Rattle.laws.proofs.FlatFile.Again.{spaced_letters}
use Rattle.laws.proofs.FlatFile.Reread.{plain, names, ended, line_letters, last_letters, said_letters, lines_letters, flat_letters, Headless, names_headless, spaced_headless}
use Rattle.definition.proofs.Right.{one_answer}
use Rattle.laws.proofs.FlatFile.Flattened.{Again, flattened, Reading, reading, within-room, within_limit, shapes-counted}

-- ---- what a flat file holds

-- the first letters of layer commands and shapes: L, B, R, W, P
pub data Opening : ℕ → Type 0 where
  of_layer : Opening 76
  of_box : Opening 66
  of_flash : Opening 82
  of_wire : Opening 87
  of_polygon : Opening 80

abbrev pub Opens : Letter → Type 0
Opens l = (l plays head) ≡ true → Opening l.byte

-- commands begin with such a letter, but the last, which is the E and stands before the last byte
pub record OnlyOpenings (f : List Letter) : Type 0 where
  pub before : List Letter
  pub is : f ≡ before ++ last_letters
  pub each : All Opens before

unfoldable pub LayerOrShape : Command → Type 0
LayerOrShape (layer l) = Unit {0}
LayerOrShape (draw k) = Unit {0}
LayerOrShape (call n ts) = ⊥
LayerOrShape (start n a b) = ⊥
LayerOrShape finish = ⊥
LayerOrShape (delete n) = ⊥
LayerOrShape nothing = ⊥

-- commands of a text of this length are layer commands and shapes, but the last, which is the E and stands before the last byte
pub record OnlyShapes (size : ℕ) (cs : List (Placed Command)) : Type 0 where
  pub before : List (Placed Command)
  pub end : ℕ
  pub is : cs ≡ before ++ (at end nothing ∷ [])
  pub each : All (λ (c : Placed Command). LayerOrShape c.what) before
  pub last_line : end + 2 ≡ size

-- ---- the letters

kind-opens : (k : Kind) → Opening (letter_of k)
unfolding letter_of
kind-opens box = of_box
kind-opens flash = of_flash
kind-opens wire = of_wire
kind-opens polygon = of_polygon

no_head : (l : Letter) → (l plays head) ≡ false → Opens l
no_head l e h = absurd (subst T (sym h ∙ e) tt)

line-opens : (c : ℕ) (b : List Letter) → Opening c → Headless b → All Opens (line_letters c b)
unfolding All dec
line-opens c b o h = (λ e. o, all-++ Opens b (ended []) (all_to _ Opens no_head b h) (no_head (letter 59 stop) refl, (no_head (letter 10 skip) refl, tt)))

said-opens : (before : List ℕ) (d : Drawn) → All Opens (said_letters before d)
unfolding said_letters All
said-opens before d =
    all-++ Opens (if same before d.layer_of then [] else line_letters 76 (names d.layer_of)) _ (go (same before d.layer_of))
    (line-opens (letter_of d.itself.kind) (spaced_letters (numbers_of_shape d.itself)) (kind-opens d.itself.kind) (spaced_headless (numbers_of_shape d.itself)))
  where
    go : (b : Bool) → All Opens (if b then [] else line_letters 76 (names d.layer_of))
    go true = tt
    go false = line-opens 76 (names d.layer_of) of_layer (names_headless d.layer_of)

lines_open : (before : List ℕ) (ds : List Drawn) → All Opens (lines_letters before ds)
unfolding lines_letters All
lines_open before [] = tt
lines_open before (d ∷ ds) = all-++ Opens (said_letters before d) (lines_letters d.layer_of ds) (said-opens before d) (lines_open d.layer_of ds)

flat_openings : (ds : List Drawn) → OnlyOpenings (flat_letters ds)
unfolding flat_letters
flat_openings ds = record { before = lines_letters [] ds; is = refl; each = lines_open [] ds }

-- ---- the commands

opened : (n : ℕ) (l : Letter) (m : List Letter) → Opening l.byte → LayerOrShape (command_at n l m)
opened n l m o = go l.byte o
  where
    go : (a : ℕ) → Opening a → LayerOrShape (command_at n (letter a l.role) m)
    go a of_layer = unfold command_at has LayerOrShape in tt
    go a of_box = unfold command_at has LayerOrShape in tt
    go a of_flash = unfold command_at has LayerOrShape in tt
    go a of_wire = unfold command_at has LayerOrShape in tt
    go a of_polygon = unfold command_at has LayerOrShape in tt

record Before (n : ℕ) (b m : List Letter) : Type 0 where
  those-before : List (Placed Command)
  is : commands n (b ++ m) ≡ those-before ++ commands (n + length b) m
  each : All (λ (c : Placed Command). LayerOrShape c.what) those-before

opening_commands : (n : ℕ) (b m : List Letter) → All Opens b → Before n b m
unfolding commands All
opening_commands n [] m h = record { those-before = []; is = ap (λ (k : ℕ). commands k m) (omega arith); each = tt }
opening_commands n (l ∷ b) m h = go (l plays head) refl h.0 (opening_commands (n + 1) b m h.1)
  where
    along : commands (n + 1 + length b) m ≡ commands (n + suc (length b)) m
    along = ap (λ (k : ℕ). commands k m) (omega arith)

    go : (t : Bool) → (l plays head) ≡ t → (t ≡ true → Opening l.byte) → Before (n + 1) b m → Before n (l ∷ b) m
    go true e o r = record {
      those-before = at n (command_at n l (b ++ m)) ∷ r.those-before;
      is = unfold commands in rw e (ap (λ (x : List (Placed Command)). at n (command_at n l (b ++ m)) ∷ x) (r.is ∙ ap (λ (x : List (Placed Command)). r.those-before ++ x) along));
      each = unfold All in (opened n l (b ++ m) (o refl), r.each);
    }
    go false e o r = record {
      those-before = r.those-before;
      is = unfold commands in rw e (r.is ∙ ap (λ (x : List (Placed Command)). r.those-before ++ x) along);
      each = r.each;
    }

only_shapes_of : {t : List ℕ} {f : List Letter} → Marked t f → OnlyOpenings f → OnlyShapes (length t) (commands 0 f)
only_shapes_of {t} {f} k o =
    let r = opening_commands 0 o.before last_letters o.each in
    record {
      before = r.those-before;
      end = 0 + length o.before;
      is = ap (commands 0) o.is ∙ r.is ∙ ap (λ (x : List (Placed Command)). r.those-before ++ x) (the_end (0 + length o.before));
      each = r.each;
      last_line =
          let b : length f ≡ length (o.before ++ last_letters) = ap (λ (x : List Letter). length x) o.is in
          omega (arith, as_long k, b, length-append o.before last_letters);
    }
  where
    the_end : (n : ℕ) → commands n last_letters ≡ at n nothing ∷ []
    the_end n = unfold commands command_at has dec in refl

-- ---- nothing is rounded again: a flat file has no definitions, and outside them nothing is scaled

no_number : (t : ℤ → Bool) → ((z : ℤ) → t z ≡ false) → (ds : List Number) → those (λ d. t d.what) ds ≡ []
unfolding those
no_number t h [] = refl
no_number t h (d ∷ ds) = rw (h d.what) (no_number t h ds)

whole-outside : (l : List ℕ) (z : ℤ) → not (whole (outside l) z) ≡ false
unfolding whole
whole-outside l z = ap (λ (b : Bool). not b) (eq-eqb (1 * nat_abs z % 1) 0 (rest (nat_abs z)))
  where
    rest : (n : ℕ) → 1 * n % 1 ≡ 0
    rest n = omega arith

none_ragged : (l : List ℕ) (c : Command) → length (ragged (outside l) c) ≡ 0
unfolding ragged
none_ragged l c = ap (λ (ds : List Number). length ds) (no_number (λ z. not (whole (outside l) z)) (whole-outside l) (distances c))

none_from : (l : List ℕ) (cs : List (Placed Command)) (p : ℕ) → All (λ (c : Placed Command). LayerOrShape c.what) cs → rounded_from (outside l) (cs ++ (at p nothing ∷ [])) ≡ 0
unfolding All rounded_from after LayerOrShape
none_from l [] p h = let e = none_ragged l nothing in omega arith
none_from l (c ∷ cs) p h = go c.what h.0 (λ m. none_from m cs p h.1)
  where
    ends : List (Placed Command)
    ends = cs ++ (at p nothing ∷ [])

    go : (w : Command) → LayerOrShape w → ((m : List ℕ) → rounded_from (outside m) ends ≡ 0) → length (ragged (outside l) w) + rounded_from (after w (outside l)) ends ≡ 0
    go (layer m) o f = let e = none_ragged l (layer m) in let g = f m in omega arith
    go (draw k) o f = let e = none_ragged l (draw k) in let g = f l in omega arith
    go (call n ts) o f = absurd o
    go (start n a b) o f = absurd o
    go finish o f = absurd o
    go (delete n) o f = absurd o
    go nothing o f = absurd o

none_rounded : {size : ℕ} {cs : List (Placed Command)} → OnlyShapes size cs → rounded cs ≡ 0
unfolding rounded
none_rounded o = ap (λ (cs : List (Placed Command)). rounded_from (outside []) cs) o.is ∙ none_from [] o.before o.end o.each

-- ---- demand 3

-- of the flat file of the shapes ds, which a text drew in a room of this length with counts c
pub record Demand3 (room : ℕ) (c : Counts) (ds : List Drawn) : Type 0 where
  -- it is in the grammar: its letters, and that they are the only ones
  pub letters : List Letter
  pub grammatical : Marked (flat ds) letters
  pub one_way : (m : List Letter) → Marked (flat ds) m → m ≡ letters
  -- it holds only layer commands, shapes and the End
  pub only_openings : OnlyOpenings letters
  pub only_shapes : OnlyShapes (length (flat ds)) (commands 0 letters)
  -- the room held it
  pub short : length (flat ds) ≤ most_bytes
  pub fitted : length (flat ds) ≤ room
  -- every room that holds it accepts it, however few words are lent: no calls, no redefinitions and nothing rounded, and as many shapes as were drawn
  pub events : List Event
  pub accepts : (words room' : ℕ) → length (flat ds) ≤ room' → Answers (flat ds) words room' (accepted (commands 0 letters) (counts 0 c.shapes 0) events)
  pub all_counted : c.shapes ≡ length ds
  -- nothing but shapes is drawn: the same, on the same layers, with the same numbers, in the same order
  pub nothing_else : events ≡ map drew (shapes_of events)
  pub same_shapes : map plain (shapes_of events) ≡ map plain ds
  -- flattened again it is the same bytes
  pub same_bytes : flat (shapes_of events) ≡ flat ds
  -- so a reader may leave it at the start of a room that holds it, with the rest of the room unchanged; and none may do otherwise
  pub promised : (words : List ℤ) (before : List ℕ) → length (flat ds) ≤ length before
      → Promised (flat ds) words before (success (length (flat ds)) (counts 0 c.shapes 0) 0) (zeros words) (flat ds ++ drop (length (flat ds)) before)
  pub settled : (words words' : List ℤ) (before left : List ℕ) (r : Answer) → length (flat ds) ≤ length before → Promised (flat ds) words before r words' left
      → (r ≡ success (length (flat ds)) (counts 0 c.shapes 0) 0) × (left ≡ flat ds ++ drop (length (flat ds)) before)

pub demand3 : {t : List ℕ} {words room : ℕ} {cs : List (Placed Command)} {c : Counts} {es : List Event} → Answers t words room (accepted cs c es) → Demand3 room c (shapes_of es)
demand3 {t} {words} {room} {cs} {c} {es} k = record {
  letters = flat_letters (shapes_of es);
  grammatical = again.grammatical;
  one_way = λ m h. one_marking h again.grammatical;
  only_openings = flat_openings (shapes_of es);
  only_shapes = only_shapes_of again.grammatical (flat_openings (shapes_of es));
  short = within_limit text.as_read;
  fitted = within-room text.as_read;
  events = again.events;
  accepts = accepts;
  all_counted = counted;
  nothing_else = again.only_shapes;
  same_shapes = again.same_shapes;
  same_bytes = again.same_bytes;
  promised = promised;
  settled = λ words words' before left r h p. let one = one_answer p (promised words before h) in (one.0, one.1);
}
  where
    text : Reading t room c es
    text = reading k

    again : Again (shapes_of es)
    again = flattened t text.letters room c es text.marked text.as_read

    counted : c.shapes ≡ length (shapes_of es)
    counted = let n = shapes-counted (counts 0 0 0) es c (omega arith) text.as_read.ended in omega (arith, n.is)

    accepts : (words' room' : ℕ) → length (flat (shapes_of es)) ≤ room' → Answers (flat (shapes_of es)) words' room' (accepted (commands 0 (flat_letters (shapes_of es))) (counts 0 c.shapes 0) again.events)
    accepts words' room' h = subst (λ (n : ℕ). Answers (flat (shapes_of es)) words' room' (accepted (commands 0 (flat_letters (shapes_of es))) (counts 0 n 0) again.events)) (sym counted) (again.answers words' room' h)

    promised : (lent : List ℤ) (before : List ℕ) → length (flat (shapes_of es)) ≤ length before
        → Promised (flat (shapes_of es)) lent before (success (length (flat (shapes_of es))) (counts 0 c.shapes 0) 0) (zeros lent) (flat (shapes_of es) ++ drop (length (flat (shapes_of es))) before)
    promised lent before h = record {
      outcome = accepted (commands 0 (flat_letters (shapes_of es))) (counts 0 c.shapes 0) again.events;
      answers = accepts (length lent) (length before) h;
      given =
          unfold given_back in (
          ap (λ (w : List ℕ). success (length w) (counts 0 c.shapes 0) 0) (sym again.same_bytes)
          ∙ ap (λ (k : ℕ). success (length (flat (shapes_of again.events))) (counts 0 c.shapes 0) k)
          (sym (none_rounded (only_shapes_of again.grammatical (flat_openings (shapes_of es))))));
      kept = unfold flat_file in ap (λ (w : List ℕ). w ++ drop (length w) before) (sym again.same_bytes);
      cleared = refl;
    }

success-length : (l : ℕ) (c : Counts) (k : ℕ) → (success l c k).length ≡ l
unfolding success
success-length l c k = refl

-- two readings in a row: what the first leaves at the start of its room, if it accepts, the second leaves at the start of its own, and the rest of that
-- room unchanged
pub twice : {t room left room' left' : List ℕ} {lent lent' again again' : List ℤ} {r r' : Answer} {cs : List (Placed Command)} {c : Counts} {es : List Event} (p : Promised t lent room r lent' left) → p.outcome ≡ accepted cs c es
    → r.length ≤ length room' → Promised (take r.length left) again room' r' again' left'
    → (take r.length left' ≡ take r.length left) × (drop r.length left' ≡ drop r.length room')
twice {t} {room} {left} {room'} {left'} {lent} {lent'} {again} {again'} {r} {r'} {cs} {c} {es} p e h q =
    let F = flat (shapes_of es) in
    let d : Demand3 (length room) c (shapes_of es) = demand3 (subst (Answers t (length lent) (length room)) e p.answers) in
    let back : r ≡ success (length F) c (rounded cs) = unfold given_back in (p.given ∙ ap (given_back t) e) in
    let size : length F ≡ r.length = sym (ap (λ (x : Answer). x.length) back ∙ success-length (length F) c (rounded cs)) in
    let leaves : left ≡ F ++ drop (length F) room = unfold flat_file in (p.kept ∙ ap (λ (o : Outcome). room_after o room) e) in
    let first : take r.length left ≡ F = ap (take r.length) leaves ∙ take_at F (drop (length F) room) r.length size in
    let second : left' ≡ F ++ drop (length F) room' =
    (d.settled again again' room' left' r' (omega (arith, size, h)) (subst (λ (w : List ℕ). Promised w again room' r' again' left') first q)).1 in (
      ap (take r.length) second ∙ take_at F (drop (length F) room') r.length size ∙ sym first,
      ap (drop r.length) second ∙ drop_at F (drop (length F) room') r.length size ∙ ap (λ (n : ℕ). drop n room') size,
    )
