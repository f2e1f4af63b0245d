-- What is printed of a flat file's lines: nothing of an L line, which leaves its layer behind, and of a shape's line the definition's line for it.
-- Assumes nothing.
use Rattle.std.specs.Prelude.{Option, Some, if◌then◌else◌}
use mathlib.Core.Path.{◌≡◌, refl, sym, ap, ◌∙◌, subst}
use mathlib.Core.Bool.{Bool, true, false}
use mathlib.Core.List.{List, [], ◌∷◌, ◌++◌, append_assoc}
use mathlib.Core.Logic.{inl, inr}
use Prim.Native.Nat.{ℕ, suc, ◌+◌, ◌*◌, ◌/◌, ◌≤◌}
use native.Mathlib.Omega.{arith}
use borrow.Author.Tests.{ne_eqb}
use lib.Dec.{T, eqb, leb→le, leb}
use lib.IntN.{ℤ, pos, negsuc}
use lib.ListN.{length}
use Rattle.grammar.specs.Notation.{has}
use Rattle.grammar.proofs.Tests.{and_left, and_right}
use Rattle.definition.specs.Words.{same, bytes_of}
use Rattle.definition.specs.Commands.{Kind, box, flash, wire, polygon}
use Rattle.definition.specs.Drawing.{Drawn}
use Rattle.definition.specs.Flat.{shortest, decimal, spaced, letter_of, numbers_of_shape, said, lines}
use Rattle.definition.specs.Flat
use Rattle.definition.specs.Listing.{fields, shape_lines}
use Rattle.laws.proofs.Lists.Range.{All, all_to, all-++}
use Rattle.definition.proofs.Rows.{same-eq}
use Rattle.laws.proofs.FlatFile.Decimals.{DigitByte, shortest_is, digit_low, digit_high}
use Rattle.laws.proofs.FlatFile.Spelling.{NameChar}
use Rattle.laws.proofs.FlatFile.Sound.{Sound}
use Rattle.pen.specs.Names.{packed_by, packed, name_of}
use Rattle.pen.proofs.Names.{name_back, sound-name}
use Rattle.lines.specs.Followed.{line, fresh, opened, named, line_after, pushed, ends}
use Rattle.lines.specs.declared.Line.{Line}
use Rattle.listing.specs.Account.{heading, wrote, printed}

-- ---- bytes by the tests that are made of them

-- within a line: neither its stop nor its end
pub record Inner (b : ℕ) : Type 0 where
  pub no_feed : eqb b 10 ≡ false
  pub no_stop : eqb b 59 ≡ false

pub inner : (b : ℕ) → (b ≡ 10 → ⊥) → (b ≡ 59 → ⊥) → Inner b
inner b h k = record { no_feed = ne_eqb b 10 h; no_stop = ne_eqb b 59 k }

pub name_inner : (a : ℕ) → NameChar a → Inner a
unfolding has
name_inner a (inl h) = let k = leb→le a 57 (and_right (leb 48 a) (leb a 57) h) in let l = leb→le 48 a (and_left (leb 48 a) (leb a 57) h) in inner a (λ e. omega (arith, e, l)) (λ e. omega (arith, e, k))
name_inner a (inr h) = let l = leb→le 65 a (and_left (leb 65 a) (leb a 90) h) in inner a (λ e. omega (arith, e, l)) (λ e. omega (arith, e, l))

digit_inner : (a : ℕ) → DigitByte a → Inner a
digit_inner a h = let l = digit_low a h in let k = digit_high a h in inner a (λ e. omega (arith, e, l)) (λ e. omega (arith, e, k))

decimal_inner : (z : ℤ) → All Inner (decimal z)
unfolding decimal All
decimal_inner (pos n) = all_to DigitByte Inner digit_inner (shortest n) (shortest_is n).says.digit-bytes
decimal_inner (negsuc n) = (inner 45 (λ e. omega (arith, e)) (λ e. omega (arith, e)), all_to DigitByte Inner digit_inner (shortest (suc n)) (shortest_is (suc n)).says.digit-bytes)

pub spaced_inner : (zs : List ℤ) → All Inner (spaced zs)
unfolding spaced All
spaced_inner [] = tt
spaced_inner (z ∷ []) = decimal_inner z
spaced_inner (z ∷ y ∷ zs) = all-++ Inner (decimal z) (32 ∷ spaced (y ∷ zs)) (decimal_inner z) (inner 32 (λ e. omega (arith, e)) (λ e. omega (arith, e)), spaced_inner (y ∷ zs))

-- the letter of a shape
pub record Drawing (c : ℕ) : Type 0 where
  pub some : eqb c 0 ≡ false
  pub no_feed : eqb c 10 ≡ false
  pub no_layer_lem : eqb c 76 ≡ false
  pub no_end : eqb c 69 ≡ false
  pub no_minus : eqb c 45 ≡ false
  pub no_stop : ends c ≡ false
  pub no_digit : pushed 0 c ≡ 0

pub draws : (k : Kind) → Drawing (letter_of k)
unfolding letter_of
draws box = record { some = refl; no_feed = refl; no_layer_lem = refl; no_end = refl; no_minus = refl; no_stop = refl; no_digit = refl }
draws flash = record { some = refl; no_feed = refl; no_layer_lem = refl; no_end = refl; no_minus = refl; no_stop = refl; no_digit = refl }
draws wire = record { some = refl; no_feed = refl; no_layer_lem = refl; no_end = refl; no_minus = refl; no_stop = refl; no_digit = refl }
draws polygon = record { some = refl; no_feed = refl; no_layer_lem = refl; no_end = refl; no_minus = refl; no_stop = refl; no_digit = refl }

-- ---- the line that is read, byte by byte

-- a layer's name so far, with further letters
unfoldable pub gathered : ℕ → ℕ → List ℕ → ℕ
gathered y u [] = y
gathered y u (b ∷ l) = gathered (y + b * u) (u / 256) l

pub layer-read : (l : List ℕ) → length l ≤ 4 → gathered 0 16777216 l ≡ packed l
unfolding gathered packed packed_by
layer-read [] h = refl
layer-read (a ∷ []) h = omega arith
layer-read (a ∷ b ∷ []) h = omega arith
layer-read (a ∷ b ∷ c ∷ []) h = omega arith
layer-read (a ∷ b ∷ c ∷ d ∷ []) h = omega arith
layer-read (a ∷ b ∷ c ∷ d ∷ e ∷ l) h = absurd (omega (arith, h))

pub named_by : (n y u b : ℕ) → Inner b → line_after (line n y u (Some 76)) b ≡ line n (y + b * u) (u / 256) (Some 76)
unfolding line_after named
named_by n y u b h = rw (h.no_feed, h.no_stop)

pub opens-layer : (n y : ℕ) → line_after (fresh n y) 76 ≡ line n 0 16777216 (Some 76)
unfolding line_after opened
opens-layer n y = refl

pub opens-shape : (n y c : ℕ) → Drawing c → line_after (fresh n y) c ≡ line (n + 1) y 0 (Some c)
unfolding line_after opened
opens-shape n y c d = rw (d.no_feed, d.no_layer_lem, d.no_end, d.some)

pub stays : (n y u c b : ℕ) → Drawing c → eqb b 10 ≡ false → line_after (line n y u (Some c)) b ≡ line n y u (Some c)
unfolding line_after
stays n y u c b d h = rw (h, d.no_layer_lem)

pub line-ends : (n y u : ℕ) (c : Option ℕ) → line_after (line n y u c) 10 ≡ fresh n y
unfolding line_after
line-ends n y u c = refl

-- ---- what is written at a byte

silent : (n y u b : ℕ) → Inner b → wrote (line n y u (Some 76)) b ≡ []
unfolding wrote
silent n y u b h = rw h.no_feed

headed : (n y c : ℕ) → Drawing c → wrote (fresh n y) c ≡ heading n y c
unfolding wrote
headed n y c d = rw (d.no_feed, d.no_layer_lem, d.no_end)

copied : (n y u c b : ℕ) → Drawing c → Inner b → wrote (line n y u (Some c)) b ≡ b ∷ []
unfolding wrote
copied n y u c b d h = rw (h.no_feed, d.no_layer_lem, d.no_end, h.no_stop)

stopped : (n y u c : ℕ) → Drawing c → wrote (line n y u (Some c)) 59 ≡ 10 ∷ []
unfolding wrote
stopped n y u c d = rw (d.no_layer_lem, d.no_end)

-- ---- what is printed of a line

step : (s : Line) (b : ℕ) (m : List ℕ) {w : List ℕ} {r : Line} → wrote s b ≡ w → line_after s b ≡ r → printed s (b ∷ m) ≡ w ++ printed r m
unfolding printed
step s b m {w} {r} e f = ap (λ (x : List ℕ). x ++ printed (line_after s b) m) e ∙ ap (λ (x : Line). w ++ printed x m) f

feed : (n y u : ℕ) (c : Option ℕ) (m : List ℕ) → printed (line n y u c) (10 ∷ m) ≡ printed (fresh n y) m
unfolding printed wrote line_after
feed n y u c m = refl

name_end : (n y u : ℕ) (m : List ℕ) → printed (line n y u (Some 76)) (59 ∷ 10 ∷ m) ≡ printed (fresh n y) m
unfolding printed wrote line_after named
name_end n y u m = refl

-- the rest of an L line
name-line : (n y u : ℕ) (l m : List ℕ) → All Inner l → printed (line n y u (Some 76)) (l ++ (59 ∷ 10 ∷ m)) ≡ printed (fresh n (gathered y u l)) m
unfolding gathered All
name-line n y u [] m h = name_end n y u m
name-line n y u (b ∷ l) m h =
    step (line n y u (Some 76)) b (l ++ (59 ∷ 10 ∷ m)) (silent n y u b h.0) (named_by n y u b h.0) ∙ name-line n (y + b * u) (u / 256) l m h.1

layer-opened : (n y : ℕ) (m : List ℕ) → printed (fresh n y) (76 ∷ m) ≡ printed (line n 0 16777216 (Some 76)) m
unfolding printed wrote line_after opened
layer-opened n y m = refl

layer-line : (n y : ℕ) (l m : List ℕ) → All Inner l → length l ≤ 4 → printed (fresh n y) (76 ∷ (l ++ (59 ∷ 10 ∷ m))) ≡ printed (fresh n (packed l)) m
layer-line n y l m h k =
    layer-opened n y (l ++ (59 ∷ 10 ∷ m)) ∙ (name-line n 0 16777216 l m h ∙ ap (λ (p : ℕ). printed (fresh n p) m) (layer-read l k))

-- the numbers of a shape, and its line's end
body-line : (n y c : ℕ) (b m : List ℕ) → Drawing c → All Inner b → printed (line n y 0 (Some c)) (b ++ (59 ∷ 10 ∷ m)) ≡ b ++ (10 ∷ printed (fresh n y) m)
unfolding All
body-line n y c [] m d h =
    step (line n y 0 (Some c)) 59 (10 ∷ m) (stopped n y 0 c d) (stays n y 0 c 59 d refl) ∙ ap (λ (x : List ℕ). 10 ∷ x) (feed n y 0 (Some c) m)
body-line n y c (a ∷ b) m d h =
    step (line n y 0 (Some c)) a (b ++ (59 ∷ 10 ∷ m)) (copied n y 0 c a d h.0) (stays n y 0 c a d h.0.no_feed) ∙ ap (λ (x : List ℕ). a ∷ x) (body-line n y c b m d h.1)

shape-line : (n y c : ℕ) (b m : List ℕ) → Drawing c → All Inner b
    → printed (fresh n y) (c ∷ (b ++ (59 ∷ 10 ∷ m))) ≡ heading n y c ++ (b ++ (10 ∷ printed (fresh (n + 1) y) m))
shape-line n y c b m d h =
    step (fresh n y) c (b ++ (59 ∷ 10 ∷ m)) (headed n y c d) (opens-shape n y c d) ∙ ap (λ (x : List ℕ). heading n y c ++ x) (body-line (n + 1) y c b m d h)

last_line : (n y : ℕ) → printed (fresh n y) (69 ∷ 10 ∷ []) ≡ []
unfolding printed wrote line_after opened
last_line n y = refl

-- ---- one shape and all

-- the L line, where there is one, and the shape's
pub said_is : (before : List ℕ) (d : Drawn) (m : List ℕ) → said before d ++ m
    ≡ (if same before d.layer_of then [] else Flat.line 76 d.layer_of) ++ (letter_of d.itself.kind ∷ (spaced (numbers_of_shape d.itself) ++ (59 ∷ 10 ∷ m)))
unfolding said
said_is before d m =
    append_assoc (if same before d.layer_of then [] else Flat.line 76 d.layer_of) _ m
    ∙ ap (λ (x : List ℕ). (if same before d.layer_of then [] else Flat.line 76 d.layer_of) ++ (letter_of d.itself.kind ∷ x)) (append_assoc (spaced (numbers_of_shape d.itself)) (59 ∷ 10 ∷ []) m)

layer_set : (n : ℕ) (before l m : List ℕ) → All Inner l → length l ≤ 4
    → printed (fresh n (packed before)) ((if same before l then [] else Flat.line 76 l) ++ m) ≡ printed (fresh n (packed l)) m
layer_set n before l m h k = go (same before l) refl
  where
    go : (b : Bool) → same before l ≡ b → printed (fresh n (packed before)) ((if b then [] else Flat.line 76 l) ++ m) ≡ printed (fresh n (packed l)) m
    go true e = ap (λ (x : List ℕ). printed (fresh n (packed x)) m) (same-eq before l (subst T (sym e) tt))
    go false e = ap (λ (x : List ℕ). printed (fresh n (packed before)) (76 ∷ x)) (append_assoc l (59 ∷ 10 ∷ []) m) ∙ layer-line n (packed before) l m h k

-- the definition's line for a shape
abbrev line_of : ℕ → Drawn → List ℕ → List ℕ
line_of n d m =
    bytes_of "shape" ++ (fields (decimal (pos n) ∷ d.layer_of ∷ (letter_of d.itself.kind ∷ []) ∷ spaced (numbers_of_shape d.itself) ∷ []) ++ m)

heading_is : (n y c : ℕ) (m : List ℕ) → heading n y c ++ m ≡ bytes_of "shape" ++ (9 ∷ (decimal (pos n) ++ (9 ∷ (name_of y ++ (9 ∷ c ∷ 9 ∷ m)))))
unfolding heading bytes_of
heading_is n y c m =
    ap (λ (x : List ℕ). bytes_of "shape" ++ (9 ∷ x))
    (append_assoc (decimal (pos n)) (9 ∷ (name_of y ++ (9 ∷ c ∷ 9 ∷ []))) m ∙ ap (λ (x : List ℕ). decimal (pos n) ++ (9 ∷ x)) (append_assoc (name_of y) (9 ∷ c ∷ 9 ∷ []) m))

line_is : (n : ℕ) (d : Drawn) (m : List ℕ) → Sound d
    → heading n (packed d.layer_of) (letter_of d.itself.kind) ++ (spaced (numbers_of_shape d.itself) ++ (10 ∷ m)) ≡ line_of n d m
unfolding fields bytes_of
line_is n d m s =
    heading_is n (packed d.layer_of) (letter_of d.itself.kind) (spaced (numbers_of_shape d.itself) ++ (10 ∷ m))
    ∙ simp (append_assoc, name_back d.layer_of (sound-name d s))

said-printed : (n : ℕ) (before : List ℕ) (d : Drawn) (m : List ℕ) → Sound d
    → printed (fresh n (packed before)) (said before d ++ m) ≡ line_of n d (printed (fresh (n + 1) (packed d.layer_of)) m)
said-printed n before d m s =
    let c = letter_of d.itself.kind in
    let b = spaced (numbers_of_shape d.itself) in
    ap (printed (fresh n (packed before))) (said_is before d m)
    ∙ (layer_set n before d.layer_of (c ∷ (b ++ (59 ∷ 10 ∷ m))) (all_to NameChar Inner name_inner d.layer_of s.name_chars) s.short-name
    ∙ (shape-line n (packed d.layer_of) c b m (draws d.itself.kind) (spaced_inner (numbers_of_shape d.itself))
    ∙ line_is n d (printed (fresh (n + 1) (packed d.layer_of)) m) s))

-- all shapes, and the last line
pub lines-printed : (n : ℕ) (before : List ℕ) (ds : List Drawn) → All Sound ds
    → printed (fresh n (packed before)) (lines before ds ++ (69 ∷ 10 ∷ [])) ≡ shape_lines n ds
unfolding lines shape_lines All
lines-printed n before [] h = last_line n (packed before)
lines-printed n before (d ∷ ds) h =
    ap (printed (fresh n (packed before))) (append_assoc (said before d) (lines d.layer_of ds) (69 ∷ 10 ∷ []))
    ∙ (said-printed n before d (lines d.layer_of ds ++ (69 ∷ 10 ∷ [])) h.0 ∙ ap (line_of n d) (lines-printed (n + 1) d.layer_of ds h.1))
