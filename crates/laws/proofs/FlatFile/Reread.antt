-- The flat file read again draws the same shapes: its letters, its commands, and what they draw.
-- Assumes nothing.
use Rattle.std.specs.Prelude.{if◌then◌else◌}
use mathlib.Core.Path.{◌≡◌, refl, sym, ap, ap₂, ◌∙◌, subst}
use mathlib.Core.Bool.{Bool, true, false}
use mathlib.Core.List.{List, [], ◌∷◌, ◌++◌, map, append_assoc}
use Prim.Native.Nat.{ℕ, suc, ◌+◌, ◌≤◌}
use native.Mathlib.Omega.{arith}
use borrow.Author.Tests.{le-ltb, lt-ltb}
use lib.IntN.{ℤ, pos, negsuc, nat_abs}
use lib.ListN.{length}
use lib.Dec.{T, ltb}
use Rattle.grammar.specs.Notation.{Letter, dec, has, skip, head, name, stop}
use Rattle.grammar.specs.Viable.{bytes}
use Rattle.grammar.specs.Tables.{letter}
use Rattle.definition.specs.Limits.{largest, most_shapes}
use Rattle.definition.specs.Words.{Placed, at, Point, same, any}
use Rattle.definition.specs.Commands.{Shape, Turn, Number, Command, draw, layer, named, command_at, commands, ◌plays◌}
use Rattle.definition.specs.Standing.{outside, after, scaled_shape}
use Rattle.definition.specs.Faults.{beyond, both}
use Rattle.definition.specs.Turns.{act, aim, in_order, moved}
use Rattle.definition.specs.Table.{Table}
use Rattle.definition.specs.Drawing.{Drawn, Event, drew, step_of, deed_of, deeds, drawn_shape, drawn_step, happens, table_after, story}
use Rattle.definition.specs.Counts.{shapes_of, counts, finished, counted, go_on, ending}
use Rattle.definition.specs.Flat.{letter_of, numbers_of_shape, spaced, line, said, lines, flat, shortest}
use Rattle.laws.proofs.Lists.Range.{All, all-++}
use Rattle.laws.proofs.Story.Axes.{drawn-within}
use Rattle.laws.proofs.FlatFile.Again.{digit_letters, decimal_letters, spaced_letters, bytes-++, spaced-bytes}
use Rattle.definition.proofs.Rows.{same-eq}
use Rattle.laws.proofs.FlatFile.Shapes.{Formed, shape-read, read-outside}

-- ---- the letters

abbrev pub names : List ℕ → List Letter
names [] = []
names (a ∷ l) = letter a name ∷ names l

abbrev pub ended : List Letter → List Letter
ended m = letter 59 stop ∷ letter 10 skip ∷ m

abbrev pub line_letters : ℕ → List Letter → List Letter
line_letters c b = letter c head ∷ b ++ ended []

unfoldable pub said_letters : List ℕ → Drawn → List Letter
said_letters before d =
    (if same before d.layer_of then [] else line_letters 76 (names d.layer_of))
    ++ line_letters (letter_of d.itself.kind) (spaced_letters (numbers_of_shape d.itself))

unfoldable pub lines_letters : List ℕ → List Drawn → List Letter
lines_letters before [] = []
lines_letters before (d ∷ ds) = said_letters before d ++ lines_letters d.layer_of ds

unfoldable pub flat_letters : List Drawn → List Letter
flat_letters ds = lines_letters [] ds ++ (letter 69 head ∷ letter 10 skip ∷ [])

names_bytes : (l : List ℕ) → bytes (names l) ≡ l
names_bytes [] = refl
names_bytes (a ∷ l) = ap (λ (x : List ℕ). a ∷ x) (names_bytes l)

line-bytes : (c : ℕ) (b : List Letter) (w : List ℕ) → bytes b ≡ w → bytes (line_letters c b) ≡ line c w
line-bytes c b w e = ap (λ (x : List ℕ). c ∷ x) (bytes-++ b (ended []) ∙ ap (λ (x : List ℕ). x ++ (59 ∷ 10 ∷ [])) e)

said-bytes : (before : List ℕ) (d : Drawn) → bytes (said_letters before d) ≡ said before d
unfolding said_letters said
said-bytes before d =
    let zs = numbers_of_shape d.itself in
    bytes-++ (if same before d.layer_of then [] else line_letters 76 (names d.layer_of)) (line_letters (letter_of d.itself.kind) (spaced_letters zs))
    ∙ ap₂ {C = List ℕ} (λ (x y : List ℕ). x ++ y) (go (same before d.layer_of)) (line-bytes (letter_of d.itself.kind) (spaced_letters zs) (spaced zs) (spaced-bytes zs))
  where
    go : (b : Bool) → bytes (if b then [] else line_letters 76 (names d.layer_of)) ≡ (if b then [] else line 76 d.layer_of)
    go true = refl
    go false = line-bytes 76 (names d.layer_of) d.layer_of (names_bytes d.layer_of)

lines-bytes : (before : List ℕ) (ds : List Drawn) → bytes (lines_letters before ds) ≡ lines before ds
unfolding lines_letters lines
lines-bytes before [] = refl
lines-bytes before (d ∷ ds) =
    bytes-++ (said_letters before d) (lines_letters d.layer_of ds)
    ∙ ap₂ {C = List ℕ} (λ (x y : List ℕ). x ++ y) (said-bytes before d) (lines-bytes d.layer_of ds)

pub flat-bytes : (ds : List Drawn) → bytes (flat_letters ds) ≡ flat ds
unfolding flat_letters flat
flat-bytes ds = bytes-++ (lines_letters [] ds) _ ∙ ap (λ (x : List ℕ). x ++ (69 ∷ 10 ∷ [])) (lines-bytes [] ds)

-- ---- its commands

abbrev pub Headless : List Letter → Type 0
Headless m = All (λ (l : Letter). (l plays head) ≡ false) m

pass : (n : ℕ) (b w : List Letter) → Headless b → commands n (b ++ w) ≡ commands (n + length b) w
unfolding commands All
pass n [] w h = ap (λ (k : ℕ). commands k w) (omega arith)
pass n (l ∷ b) w h = rw h.0 (pass (n + 1) b w h.1 ∙ ap (λ (k : ℕ). commands k w) (omega arith))

pub names_headless : (l : List ℕ) → Headless (names l)
unfolding All dec
names_headless [] = tt
names_headless (a ∷ l) = (refl, names_headless l)

digits_headless : (cs : List ℕ) → Headless (digit_letters cs)
unfolding All dec digit_letters
digits_headless [] = tt
digits_headless (c ∷ cs) = (refl, go cs)
  where
    go : (cs : List ℕ) → Headless (Rattle.laws.proofs.FlatFile.Again.laters cs)
    go [] = tt
    go (c ∷ cs) = (refl, go cs)

decimal_headless : (z : ℤ) → Headless (decimal_letters z)
unfolding All dec decimal_letters
decimal_headless (pos n) = digits_headless (shortest n)
decimal_headless (negsuc n) = (refl, digits_headless (shortest (suc n)))

pub spaced_headless : (zs : List ℤ) → Headless (spaced_letters zs)
unfolding All dec spaced_letters
spaced_headless [] = tt
spaced_headless (z ∷ []) = decimal_headless z
spaced_headless (z ∷ y ∷ zs) = all-++ _ (decimal_letters z) (letter 32 skip ∷ spaced_letters (y ∷ zs)) (decimal_headless z) (refl, spaced_headless (y ∷ zs))

-- one line is one command
pub line-commands : (n c : ℕ) (b m : List Letter) → Headless b
    → (k : ℕ) × (commands n (line_letters c b ++ m) ≡ at n (command_at n (letter c head) (b ++ ended m)) ∷ commands k m)
line-commands n c b m h = (
  n + 1 + length b + 1 + 1,
  ap (λ (x : List Letter). commands n (letter c head ∷ x)) (append_assoc b (ended []) m)
      ∙ begun
      ∙ ap (λ (cs : List (Placed Command)). at n (command_at n (letter c head) (b ++ ended m)) ∷ cs) (pass (n + 1) b (ended m) h ∙ over (n + 1 + length b)),
)
  where
    begun : commands n (letter c head ∷ (b ++ ended m)) ≡ at n (command_at n (letter c head) (b ++ ended m)) ∷ commands (n + 1) (b ++ ended m)
    begun = unfold commands dec in refl

    over : (k : ℕ) → commands k (ended m) ≡ commands (k + 1 + 1) m
    over k = unfold commands dec in refl

-- the layer's name is read
names_read : (l : List ℕ) (m : List Letter) → named (names l ++ ended m) ≡ l
unfolding named dec
names_read [] m = refl
names_read (a ∷ l) m = ap (λ (x : List ℕ). a ∷ x) (names_read l m)

pub layer-read : (n : ℕ) (l : List ℕ) (m : List Letter) → command_at n (letter 76 head) (names l ++ ended m) ≡ layer l
layer-read n l m = begun ∙ ap (λ (x : List ℕ). layer x) (names_read l m)
  where
    begun : command_at n (letter 76 head) (names l ++ ended m) ≡ layer (named (names l ++ ended m))
    begun = unfold command_at has in refl

-- ---- what it draws

-- what the flat file says of a shape
abbrev pub plain : Drawn → List ℕ × Shape ℤ
plain d = (d.layer_of, d.itself)

unfoldable pub InRange : List ℤ → Type 0
InRange [] = Unit {0}
InRange (z ∷ zs) = (nat_abs z ≤ largest) × InRange zs

-- what the flat file needs of a shape
pub record Sayable (d : Drawn) : Type 0 where
  pub formed : Formed d.itself
  pub in_range : InRange (numbers_of_shape d.itself)

pub range_right : (a b : List ℤ) → InRange (a ++ b) → InRange b
unfolding InRange
range_right [] b h = h
range_right (z ∷ a) b h = range_right a b h.1

pub range_left : (a b : List ℤ) → InRange (a ++ b) → InRange a
unfolding InRange
range_left [] b h = tt
range_left (z ∷ a) b h = (h.0, range_left a b h.1)

pub none_beyond : (zs : List ℤ) → InRange zs → any beyond zs ≡ false
unfolding any InRange beyond
none_beyond [] h = refl
none_beyond (z ∷ zs) h = rw (le-ltb largest (nat_abs z) h.0) (none_beyond zs h.1)

points-beyond : (k : Shape ℤ) → InRange (numbers_of_shape k) → any beyond (both k.points) ≡ false
points-beyond k h = none_beyond (both k.points) (range_left (both k.points) (both k.directions) (range_right k.sizes (both k.points ++ both k.directions) h))

unmoved : (k : Shape ℤ) → moved [] k ≡ k
unfolding moved
unmoved k = λ i. record { kind = k.kind; sizes = k.sizes; points = go act k.points i; directions = go aim k.directions i }
  where
    go : (f : Turn ℤ → Point ℤ → Point ℤ) (ps : List (Point ℤ)) → map (in_order f []) ps ≡ ps
    go f [] = refl
    go f (p ∷ ps) = ap₂ {C = List (Point ℤ)} (λ (q : Point ℤ) (qs : List (Point ℤ)). q ∷ qs) (unfold in_order in refl) (go f ps)

abbrev drew-plain : ℕ → List ℕ → Shape ℤ → Event
drew-plain n l k = drew (record { place = n; chain = []; net = []; layer_of = l; itself = k })

drawn_plain : (n : ℕ) (l : List ℕ) (k : Shape ℤ) → InRange (numbers_of_shape k) → drawn_shape [] [] n l k ≡ drew-plain n l k
drawn_plain n l k h =
    drawn-within [] [] n l k (ap (λ (x : Shape ℤ). any beyond (both x.points)) (unmoved k) ∙ points-beyond k h)
    ∙ ap (drew-plain n l) (unmoved k)

-- what happens at letters, read from place n on where the layer stands
abbrev pub again : Table → List ℕ → ℕ → List Letter → List Event
again t before n m = story t (deeds (outside before) (commands n m))

abbrev from : Table → List ℕ → List (Placed Command) → List Event
from t before cs = story t (deeds (outside before) cs)

layer-line : (t : Table) (before l : List ℕ) (n : ℕ) (m : List Letter) → (k : ℕ) × (again t before n (line_letters 76 (names l) ++ m) ≡ again t l k m)
layer-line t before l n m =
    let r = line-commands n 76 (names l) m (names_headless l) in
    (r.0, ap (from t before) (r.1 ∙ ap (λ (c : Command). at n c ∷ commands r.0 m) (layer-read n l m)) ∙ set (commands r.0 m))
  where
    set : (cs : List (Placed Command)) → from t before (at n (layer l) ∷ cs) ≡ from t l cs
    set cs = unfold deeds deed_of after in refl

shape-line : (t : Table) (d : Drawn) (n : ℕ) (m : List Letter) → Sayable d
    → (k : ℕ) × (again t d.layer_of n (line_letters (letter_of d.itself.kind) (spaced_letters (numbers_of_shape d.itself)) ++ m) ≡ drew-plain n d.layer_of d.itself ∷ again t d.layer_of k m)
shape-line t d n m g =
    let l = d.layer_of in
    let zs = numbers_of_shape d.itself in
    let r = line-commands n (letter_of d.itself.kind) (spaced_letters zs) m (spaced_headless zs) in
    let w = shape-read n d.itself g.formed (letter 59 stop) (letter 10 skip ∷ m) refl in (
      r.0,
      ap (from t l) (r.1 ∙ ap (λ (c : Command). at n c ∷ commands r.0 m) w.1)
          ∙ put w.0 (commands r.0 m)
          ∙ ap (λ (k : Shape ℤ). drawn_shape [] [] n l k ∷ from t l (commands r.0 m)) (read-outside l w.0 ∙ w.2)
          ∙ ap (λ (e : Event). e ∷ from t l (commands r.0 m)) (drawn_plain n l d.itself g.in_range),
    )
  where
    put : (w : Shape Number) (cs : List (Placed Command))
        → from t d.layer_of (at n (draw w) ∷ cs) ≡ drawn_shape [] [] n d.layer_of (scaled_shape (outside d.layer_of) w) ∷ from t d.layer_of cs
    put w cs = unfold deeds deed_of step_of after story happens drawn_step table_after in refl

abbrev pub last_letters : List Letter
last_letters = letter 69 head ∷ letter 10 skip ∷ []

said-again : (t : Table) (before : List ℕ) (d : Drawn) (n : ℕ) (m : List Letter) → Sayable d
    → (p : ℕ) × (k : ℕ) × (again t before n (said_letters before d ++ m) ≡ drew-plain p d.layer_of d.itself ∷ again t d.layer_of k m)
unfolding said_letters
said-again t before d n m g = go (same before d.layer_of) refl
  where
    own : List Letter
    own = line_letters (letter_of d.itself.kind) (spaced_letters (numbers_of_shape d.itself))

    go : (b : Bool) → same before d.layer_of ≡ b
        → (p : ℕ) × (k : ℕ) × (again t before n (((if b then [] else line_letters 76 (names d.layer_of)) ++ own) ++ m) ≡ drew-plain p d.layer_of d.itself ∷ again t d.layer_of k m)
    go true e =
        let q : before ≡ d.layer_of = same-eq before d.layer_of (subst T (sym e) tt) in
        let r = shape-line t d n m g in
        (n, r.0, ap (λ (l : List ℕ). again t l n (own ++ m)) q ∙ r.1)
    go false e =
        let r = layer-line t before d.layer_of n (own ++ m) in
        let r' = shape-line t d r.0 m g in
        (r.0, r'.0, ap (λ (x : List Letter). again t before n x) (append_assoc (line_letters 76 (names d.layer_of)) own m) ∙ r.1 ∙ r'.1)

-- the events are shapes only, and the shapes say the same
pub record Redrawn (es : List Event) (ds : List Drawn) : Type 0 where
  pub shapes : List Drawn
  pub only : es ≡ map drew shapes
  pub says : map plain shapes ≡ map plain ds

redrawn : (t : Table) (before : List ℕ) (ds : List Drawn) (n : ℕ) → All Sayable ds → Redrawn (again t before n (lines_letters before ds ++ last_letters)) ds
unfolding lines_letters All
redrawn t before [] n h = record { shapes = []; only = unfold commands command_at has dec deeds deed_of after story in refl; says = refl }
redrawn t before (d ∷ ds) n h =
    let r = said-again t before d n (lines_letters d.layer_of ds ++ last_letters) h.0 in
    let x = redrawn t d.layer_of ds r.1 h.1 in
    record {
      shapes = record { place = r.0; chain = []; net = []; layer_of = d.layer_of; itself = d.itself } ∷ x.shapes;
      only = ap (λ (y : List Letter). again t before n y) (append_assoc (said_letters before d) (lines_letters d.layer_of ds) last_letters) ∙ r.2
          ∙ ap (λ (y : List Event). drew-plain r.0 d.layer_of d.itself ∷ y) x.only;
      says = ap (λ (y : List (List ℕ × Shape ℤ)). plain d ∷ y) x.says;
    }

-- the flat file of sayable shapes draws them again, and nothing else happens
pub flat_redrawn : (ds : List Drawn) → All Sayable ds → Redrawn (again [] [] 0 (flat_letters ds)) ds
unfolding flat_letters
flat_redrawn ds h = redrawn [] [] ds 0 h

pub drawn-shapes : (ds : List Drawn) → shapes_of (map drew ds) ≡ ds
unfolding shapes_of
drawn-shapes [] = refl
drawn-shapes (d ∷ ds) = ap (λ (x : List Drawn). d ∷ x) (drawn-shapes ds)

-- it ends with that many shapes
pub drawn-ending : (n : ℕ) (ds : List Drawn) → n + length ds ≤ most_shapes → ending (counts 0 n 0) (map drew ds) ≡ finished (counts 0 (n + length ds) 0)
unfolding ending counted go_on
drawn-ending n [] h = ap (λ (k : ℕ). finished (counts 0 k 0)) (omega arith)
drawn-ending n (d ∷ ds) h =
    let room : ltb n most_shapes ≡ true = lt-ltb n most_shapes (omega (arith, h)) in
    rw room (drawn-ending (n + 1) ds (omega (arith, h)) ∙ ap (λ (k : ℕ). finished (counts 0 k 0)) (omega arith))

-- and shapes that say the same have the same flat file
pub flat-plain : (before : List ℕ) (ds es : List Drawn) → map plain ds ≡ map plain es → lines before ds ≡ lines before es
unfolding lines said
flat-plain before ds es e = lines_of ds ∙ ap (λ (x : List (List ℕ × Shape ℤ)). told before x) e ∙ sym (lines_of es)
  where
    told : List ℕ → List (List ℕ × Shape ℤ) → List ℕ
    told b [] = []
    told b (x ∷ xs) = ((if same b x.0 then [] else line 76 x.0) ++ line (letter_of x.1.kind) (spaced (numbers_of_shape x.1))) ++ told x.0 xs

    lines_from : (b : List ℕ) (xs : List Drawn) → lines b xs ≡ told b (map plain xs)
    lines_from b [] = refl
    lines_from b (x ∷ xs) = ap (λ (w : List ℕ). ((if same b x.layer_of then [] else line 76 x.layer_of) ++ line (letter_of x.itself.kind) (spaced (numbers_of_shape x.itself))) ++ w) (lines_from x.layer_of xs)

    lines_of : (xs : List Drawn) → lines before xs ≡ told before (map plain xs)
    lines_of xs = lines_from before xs
