-- The flat file is in the grammar: a derivation of its letters, built from the productions.
-- Assumes nothing.
use Rattle.std.specs.Prelude.{if◌then◌else◌}
use mathlib.Core.Path.{◌≡◌, refl, sym, ap, ◌∙◌, subst}
use mathlib.Core.Bool.{Bool, true, false}
use mathlib.Core.List.{List, [], ◌∷◌, ◌++◌, append_assoc, append-nil}
use mathlib.Core.Logic.{◌⊎◌, inl, inr}
use Prim.Native.Nat.{ℕ, suc, ◌≤◌, ◌<◌}
use native.Mathlib.Omega.{arith}
use lib.Dec.{T}
use lib.IntN.{ℤ, pos, negsuc}
use lib.ListN.{length}
use Rattle.grammar.specs.Notation.{Expression, ◌▹◌, many, option, Letter, Match, char, both, left, right, none, more, absent, present, is, dec, has, Digit, Upper}
use Rattle.grammar.specs.Notation.{skip, head, sign, lead, later, name, stop, one, Blank}
use Rattle.grammar.specs.Productions.{sep, semi, c, shortname, integer_d, integer, sinteger, point, path, prim_command, command, cif_file}
use Rattle.grammar.specs.Viable.{Marked}
use Rattle.grammar.specs.Tables.{letter}
use Rattle.definition.specs.Words.{Point, same}
use Rattle.definition.specs.Commands.{Shape}
use Rattle.definition.specs.Faults
use Rattle.definition.specs.Flat.{shortest, letter_of, numbers_of_shape, flat}
use Rattle.definition.specs.Drawing.{Drawn}
use Rattle.laws.proofs.Lists.Range.{All}
use Rattle.laws.proofs.FlatFile.Decimals.{DigitByte, shortest_is}
use Rattle.laws.proofs.FlatFile.Again.{laters, digit_letters, decimal_letters, spaced_letters}
use Rattle.laws.proofs.FlatFile.Shapes.{Formed, a_box, a_flash, a_wire, a_polygon}
use Rattle.laws.proofs.FlatFile.Reread.{names, ended, line_letters, said_letters, lines_letters, flat_letters, flat-bytes}

-- ---- numbers, points, paths

laters_match : (cs : List ℕ) → All DigitByte cs → Match (many (one later Digit)) (laters cs)
unfolding All is dec has
laters_match [] h = none
laters_match (a ∷ cs) h = more (letter a later ∷ []) (laters cs) (char h.0) (laters_match cs h.1) refl

digits_match : (cs : List ℕ) → 0 < length cs → All DigitByte cs → Match integer_d (digit_letters cs)
unfolding All is dec has digit_letters
digits_match [] p h = absurd (omega (arith, p))
digits_match (a ∷ cs) p h = both (letter a lead ∷ []) (laters cs) (char h.0) (laters_match cs h.1) refl

decimal-digits : (n : ℕ) → Match integer_d (digit_letters (shortest n))
decimal-digits n = digits_match (shortest n) (shortest_is n).says.some (shortest_is n).says.digit-bytes

integer_match : (n : ℕ) → Match integer (decimal_letters (pos n))
unfolding decimal_letters
integer_match n = both [] (digit_letters (shortest n)) none (decimal-digits n) refl

sinteger_match : (z : ℤ) → Match sinteger (decimal_letters z)
unfolding decimal_letters is dec has
sinteger_match (pos n) = both [] (digit_letters (shortest n)) none (both [] (digit_letters (shortest n)) absent (decimal-digits n) refl) refl
sinteger_match (negsuc n) =
    let ds = digit_letters (shortest (suc n)) in
    both [] (letter 45 sign ∷ ds) none (both (letter 45 sign ∷ []) ds (present (char tt)) (decimal-digits (suc n)) refl) refl

sp : Letter
sp = letter 32 skip

sep_match : Match sep (sp ∷ [])
unfolding sp is dec has
sep_match = right (char tt)

point_letters : Point ℤ → List Letter
point_letters p = decimal_letters p.x ++ (sp ∷ decimal_letters p.y)

more_points : List (Point ℤ) → List Letter
more_points [] = []
more_points (q ∷ qs) = sp ∷ (point_letters q ++ more_points qs)

point_match : (p : Point ℤ) → Match point (point_letters p)
unfolding point_letters
point_match p =
    both (decimal_letters p.x) (sp ∷ decimal_letters p.y) (sinteger_match p.x) (both (sp ∷ []) (decimal_letters p.y) sep_match (sinteger_match p.y) refl) refl

more_match : (qs : List (Point ℤ)) → Match (many (sep ▹ point)) (more_points qs)
unfolding more_points
more_match [] = none
more_match (q ∷ qs) = more (sp ∷ point_letters q) (more_points qs) (both (sp ∷ []) (point_letters q) sep_match (point_match q) refl) (more_match qs) refl

-- the letters of points are a path
tail_letters : (y : ℤ) (ps : List (Point ℤ)) → spaced_letters (y ∷ Faults.both ps) ≡ decimal_letters y ++ more_points ps
unfolding spaced_letters more_points point_letters sp
tail_letters y [] = sym (append-nil (decimal_letters y))
tail_letters y (q ∷ qs) =
    ap (λ (x : List Letter). decimal_letters y ++ (letter 32 skip ∷ x))
    (ap (λ (x : List Letter). decimal_letters q.x ++ (letter 32 skip ∷ x)) (tail_letters q.y qs)
    ∙ sym (append_assoc (decimal_letters q.x) (letter 32 skip ∷ decimal_letters q.y) (more_points qs)))

path-letters : (p : Point ℤ) (ps : List (Point ℤ)) → spaced_letters (Faults.both (p ∷ ps)) ≡ point_letters p ++ more_points ps
unfolding spaced_letters point_letters sp
path-letters p ps =
    ap (λ (x : List Letter). decimal_letters p.x ++ (letter 32 skip ∷ x)) (tail_letters p.y ps)
    ∙ sym (append_assoc (decimal_letters p.x) (letter 32 skip ∷ decimal_letters p.y) (more_points ps))

path_match : (p : Point ℤ) (ps : List (Point ℤ)) → Match path (spaced_letters (Faults.both (p ∷ ps)))
path_match p ps = both (point_letters p) (more_points ps) (point_match p) (more_match ps) (path-letters p ps)

some_path : (ps : List (Point ℤ)) → 0 < length ps → Match path (spaced_letters (Faults.both ps))
some_path [] h = absurd (omega (arith, h))
some_path (p ∷ ps) h = path_match p ps

-- a first number and a space
led : (a : ℕ) (y : ℤ) (zs : List ℤ) → spaced_letters (pos a ∷ y ∷ zs) ≡ decimal_letters (pos a) ++ (sp ∷ spaced_letters (y ∷ zs))
unfolding spaced_letters sp
led a y zs = refl

both_end : (ps : List (Point ℤ)) → Faults.both ps ++ [] ≡ Faults.both ps
both_end ps = append-nil (Faults.both ps)

-- ---- commands

shape_match : (k : Shape ℤ) → Formed k → 0 < length k.points → Match prim_command (letter (letter_of k.kind) head ∷ spaced_letters (numbers_of_shape k))
unfolding letter_of is dec has
shape_match k (a_box a b ctr d) h =
    let rest = spaced_letters (ctr.x ∷ ctr.y ∷ d.x ∷ d.y ∷ []) in
    let after-b = decimal_letters (pos b) ++ (sp ∷ rest) in
    let tail : Match (point ▹ option (sep ▹ point)) rest =
    both (point_letters ctr) (more_points (d ∷ [])) (point_match ctr)
    (present (both (sp ∷ []) (point_letters d ++ []) sep_match (subst (Match point) (sym (append-nil (point_letters d))) (point_match d)) (one_more d)))
    (path-letters ctr (d ∷ [])) in
    right (left
    (both (letter 66 head ∷ []) (spaced_letters (numbers_of_shape k)) (char tt)
    (both (decimal_letters (pos a)) (sp ∷ spaced_letters (pos b ∷ ctr.x ∷ ctr.y ∷ d.x ∷ d.y ∷ [])) (integer_match a)
    (both (sp ∷ []) (spaced_letters (pos b ∷ ctr.x ∷ ctr.y ∷ d.x ∷ d.y ∷ [])) sep_match
    (both (decimal_letters (pos b)) (sp ∷ rest) (integer_match b) (both (sp ∷ []) rest sep_match tail refl) (led b ctr.x _)) refl) (led a (pos b) _)) refl))
  where
    one_more : (q : Point ℤ) → more_points (q ∷ []) ≡ (sp ∷ []) ++ (point_letters q ++ [])
    one_more q = unfold more_points in refl
shape_match k (a_flash a ctr) h =
    right (right (left
    (both (letter 82 head ∷ []) (spaced_letters (numbers_of_shape k)) (char tt)
    (both (decimal_letters (pos a)) (sp ∷ spaced_letters (ctr.x ∷ ctr.y ∷ [])) (integer_match a)
    (both (sp ∷ []) (spaced_letters (ctr.x ∷ ctr.y ∷ [])) sep_match
    (subst (Match point) (sym (path-letters ctr [] ∙ nothing_more)) (point_match ctr)) refl) (led a ctr.x _)) refl)))
  where
    nothing_more : point_letters ctr ++ more_points [] ≡ point_letters ctr
    nothing_more = unfold more_points in append-nil (point_letters ctr)
shape_match k (a_wire a []) h = absurd (omega (arith, h))
shape_match k (a_wire a (p ∷ ps)) h =
    right (right (right (left
    (both (letter 87 head ∷ []) (spaced_letters (numbers_of_shape k)) (char tt)
    (both (decimal_letters (pos a)) (sp ∷ spaced_letters (Faults.both (p ∷ ps))) (integer_match a)
    (both (sp ∷ []) (spaced_letters (Faults.both (p ∷ ps))) sep_match (path_match p ps) refl)
    (ap (λ (zs : List ℤ). spaced_letters (pos a ∷ zs)) (both_end (p ∷ ps)) ∙ led a p.x _)) refl))))
shape_match k (a_polygon ps) h =
    left (both (letter 80 head ∷ []) (spaced_letters (Faults.both ps ++ [])) (char tt)
    (subst (λ (zs : List ℤ). Match path (spaced_letters zs)) (sym (both_end ps)) (some_path ps h)) refl)

-- a character of a layer's name
abbrev pub NameChar : ℕ → Type 0
NameChar a = T (has Digit a) ⊎ T (has Upper a)

char_match : (a : ℕ) → NameChar a → Match c (letter a name ∷ [])
unfolding is dec
char_match a (inl h) = left (char h)
char_match a (inr h) = right (char h)

name_match : (l : List ℕ) → 0 < length l → length l ≤ 4 → All NameChar l → Match shortname (names l)
unfolding All
name_match [] p q h = absurd (omega (arith, p))
name_match (a ∷ []) p q h = both (letter a name ∷ []) [] (char_match a h.0) (both [] [] absent (both [] [] absent absent refl) refl) refl
name_match (a ∷ b ∷ []) p q h =
    both (letter a name ∷ []) (letter b name ∷ []) (char_match a h.0)
    (both (letter b name ∷ []) [] (present (char_match b h.1.0)) (both [] [] absent absent refl) refl) refl
name_match (a ∷ b ∷ d ∷ []) p q h =
    both (letter a name ∷ []) (letter b name ∷ letter d name ∷ []) (char_match a h.0)
    (both (letter b name ∷ []) (letter d name ∷ []) (present (char_match b h.1.0))
    (both (letter d name ∷ []) [] (present (char_match d h.1.1.0)) absent refl) refl) refl
name_match (a ∷ b ∷ d ∷ e ∷ []) p q h =
    both (letter a name ∷ []) (letter b name ∷ letter d name ∷ letter e name ∷ []) (char_match a h.0)
    (both (letter b name ∷ []) (letter d name ∷ letter e name ∷ []) (present (char_match b h.1.0))
    (both (letter d name ∷ []) (letter e name ∷ []) (present (char_match d h.1.1.0)) (present (char_match e h.1.1.1.0)) refl) refl) refl
name_match (a ∷ b ∷ d ∷ e ∷ f ∷ l) p q h = absurd (omega (arith, q))

layer_match : (l : List ℕ) → 0 < length l → length l ≤ 4 → All NameChar l → Match prim_command (letter 76 head ∷ names l)
unfolding is dec has
layer_match l p q h =
    right (right (right (right (left (both (letter 76 head ∷ []) (names l) (char tt) (both [] (names l) none (name_match l p q h) refl) refl)))))

-- ---- lines, and the file

FlatLine : Expression
FlatLine = many (one skip Blank) ▹ option command ▹ semi

semi_match : Match semi (ended [])
unfolding is dec has
semi_match = both [] (ended []) none (both (letter 59 stop ∷ []) (letter 10 skip ∷ []) (char tt) (more (letter 10 skip ∷ []) [] (char tt) none refl) refl) refl

line_match : (a : ℕ) (b : List Letter) → Match prim_command (letter a head ∷ b) → Match FlatLine (line_letters a b)
unfolding FlatLine
line_match a b h = both [] (line_letters a b) none (both (letter a head ∷ b) (ended []) (present (left h)) semi_match refl) refl

join : (u v : List Letter) → Match (many FlatLine) u → Match (many FlatLine) v → Match (many FlatLine) (u ++ v)
join u v none k = k
join u v (more a b h m e) k =
    more a (b ++ v) h (join b v m k) (ap (λ (x : List Letter). x ++ v) e ∙ append_assoc a b v)

single : (u : List Letter) → Match FlatLine u → Match (many FlatLine) u
single u h = more u [] h none (sym (append-nil u))

-- what the grammar needs of a shape that is said
pub record Spelt (d : Drawn) : Type 0 where
  pub formed : Formed d.itself
  pub pathed : 0 < length d.itself.points
  pub some_name : 0 < length d.layer_of
  pub short-name : length d.layer_of ≤ 4
  pub name_chars : All NameChar d.layer_of

said_match : (before : List ℕ) (d : Drawn) → Spelt d → Match (many FlatLine) (said_letters before d)
unfolding said_letters
said_match before d g =
    join (if same before d.layer_of then [] else line_letters 76 (names d.layer_of)) (line_letters (letter_of d.itself.kind) (spaced_letters (numbers_of_shape d.itself)))
    (go (same before d.layer_of))
    (single _ (line_match (letter_of d.itself.kind) _ (shape_match d.itself g.formed g.pathed)))
  where
    go : (b : Bool) → Match (many FlatLine) (if b then [] else line_letters 76 (names d.layer_of))
    go true = none
    go false = single _ (line_match 76 (names d.layer_of) (layer_match d.layer_of g.some_name g.short-name g.name_chars))

lines_match : (before : List ℕ) (ds : List Drawn) → All Spelt ds → Match (many FlatLine) (lines_letters before ds)
unfolding lines_letters All
lines_match before [] h = none
lines_match before (d ∷ ds) h = join (said_letters before d) (lines_letters d.layer_of ds) (said_match before d h.0) (lines_match d.layer_of ds h.1)

pub flat_match : (ds : List Drawn) → All Spelt ds → Match cif_file (flat_letters ds)
unfolding flat_letters is dec has FlatLine
flat_match ds h =
    both (lines_letters [] ds) (letter 69 head ∷ letter 10 skip ∷ []) (lines_match [] ds h)
    (both (letter 69 head ∷ []) (letter 10 skip ∷ []) (char tt) (more (letter 10 skip ∷ []) [] (char tt) none refl) refl) refl

-- the flat file is grammatical, and these are its letters
pub flat-marked : (ds : List Drawn) → All Spelt ds → Marked (flat ds) (flat_letters ds)
flat-marked ds h = record { reads = flat-bytes ds; rule = flat_match ds h }
