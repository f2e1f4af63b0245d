-- Of an accepted text every shape drawn can be said: so its flat file is grammatical, and read again it draws the same shapes.
-- Assumes nothing.
use mathlib.Core.Path.{◌≡◌, refl, sym, ap, ap₂, ◌∙◌, subst}
use mathlib.Core.Bool.{Bool, true, false, ◌&&◌, ◌||◌}
use mathlib.Core.List.{List, [], ◌∷◌, ◌++◌, map, nil≢cons}
use mathlib.Core.Option.{Option, none, some}
use Prim.Native.Nat.{ℕ, suc, ◌≤◌, ◌<◌}
use native.Mathlib.Omega.{arith}
use borrow.Author.Tests.{ltb-false, eqb-false}
use lib.Dec.{T, ltb, eqb}
use lib.IntN.{ℤ, neg_ℤ, nat_abs}
use lib.ListN.{length}
use Rattle.grammar.specs.Notation.{Letter, Match}
use Rattle.grammar.specs.Productions.{cif_file}
use Rattle.definition.specs.Limits.{largest, most_points}
use Rattle.definition.specs.declared.Rule.{Rule}
use Rattle.definition.specs.declared.Rule.TheVariants.{NumberTooLarge, ZeroFactor, ScaledTooLarge, DegenerateCommand, NoLayer, TooManyParts}
use Rattle.definition.specs.Words.{at, Point, any}
use Rattle.definition.specs.Commands.{Kind, box, flash, wire, polygon, Shape, Turn, Number, translate, mirror_x, mirror_y, rotate}
use Rattle.definition.specs.Commands.{Command, draw, layer, call, start, finish, delete, nothing, commands}
use Rattle.definition.specs.Standing.{Standing, outside, after, scaled, scaled_point, scaled_shape}
use Rattle.definition.specs.Faults.{beyond, both, zero?, nowhere, least, empty_shape, parts_of, distances, numbers_of, at_numbers, at_command, zero_scale, degenerate, layerless, has_too_many, faults, all_faults, first_fault}
use Rattle.definition.specs.Turns.{Heading, +x, +y, -x, -y, heading, rotated, act, aim, in_order, moved}
use Rattle.definition.specs.Drawing.{step_of, Drawn}
use Rattle.definition.specs.Counts.{shapes_of}
use Rattle.definition.specs.Answer.{drawing_of}
use Rattle.laws.proofs.Lists.Range.{All, Within}
use Rattle.laws.proofs.Commands.Sizes.{Fits, Fits₂, Fit, FitStep, nil-left, nil-right, abs_neg, fit-moved, fit-step, no_fault}
use Rattle.laws.proofs.FlatFile.Shapes
use Rattle.laws.proofs.FlatFile.Shapes.{Formed}
use Rattle.laws.proofs.FlatFile.Reread.{InRange, Sayable}
use Rattle.laws.proofs.FlatFile.Spelling.{Spelt}
use Rattle.laws.proofs.Commands.Course.{natural}
use Rattle.laws.proofs.Commands.Made
use Rattle.laws.proofs.Commands.Made.{Drafted, Name, Made, all_made}
use Rattle.laws.proofs.Story.Kept

pub record Good (l : List ℕ) (k : Shape ℤ) : Type 0 where
  pub formed : Formed k
  pub fit : Fit k
  pub full : empty_shape k ≡ false
  pub few : ltb most_points (length k.points) ≡ false
  pub some_name : eqb (length l) 0 ≡ false
  pub a_name : Name l

-- ---- moving keeps it

formed_moved : (ts : List (Turn ℤ)) (k : Shape ℤ) → Formed k → Formed (moved ts k)
unfolding moved
formed_moved ts k (Shapes.a_box a b c d) = Shapes.a_box a b (in_order act ts c) (in_order aim ts d)
formed_moved ts k (Shapes.a_flash a c) = Shapes.a_flash a (in_order act ts c)
formed_moved ts k (Shapes.a_wire a ps) = Shapes.a_wire a (map (in_order act ts) ps)
formed_moved ts k (Shapes.a_polygon ps) = Shapes.a_polygon (map (in_order act ts) ps)

and_comm : (a b : Bool) → (a && b) ≡ (b && a)
and_comm true true = refl
and_comm true false = refl
and_comm false true = refl
and_comm false false = refl

zero_neg : (z : ℤ) → zero? (neg_ℤ z) ≡ zero? z
zero_neg z = ap (λ (n : ℕ). eqb n 0) (abs_neg z)

nowhere-rotated : (h : Option Heading) (p : Point ℤ) → nowhere (rotated h p) ≡ nowhere p
unfolding rotated
nowhere-rotated (some +x) p = refl
nowhere-rotated (some +y) p = ap (λ (b : Bool). b && zero? p.x) (zero_neg p.y) ∙ and_comm (zero? p.y) (zero? p.x)
nowhere-rotated (some -x) p = ap₂ (λ (a b : Bool). a && b) (zero_neg p.x) (zero_neg p.y)
nowhere-rotated (some -y) p = ap (λ (b : Bool). zero? p.y && b) (zero_neg p.x) ∙ and_comm (zero? p.y) (zero? p.x)
nowhere-rotated none p = refl

nowhere-aim : (t : Turn ℤ) (p : Point ℤ) → nowhere (aim t p) ≡ nowhere p
unfolding aim act
nowhere-aim (translate d) p = refl
nowhere-aim mirror_x p = ap (λ (b : Bool). b && zero? p.y) (zero_neg p.x)
nowhere-aim mirror_y p = ap (λ (b : Bool). zero? p.x && b) (zero_neg p.y)
nowhere-aim (rotate d) p = nowhere-rotated (heading d) p

nowhere-aims : (ts : List (Turn ℤ)) (p : Point ℤ) → nowhere (in_order aim ts p) ≡ nowhere p
unfolding in_order
nowhere-aims [] p = refl
nowhere-aims (t ∷ ts) p = nowhere-aims ts (aim t p) ∙ nowhere-aim t p

any_map : (f : Point ℤ → Point ℤ) → ((p : Point ℤ) → nowhere (f p) ≡ nowhere p) → (ps : List (Point ℤ)) → any nowhere (map f ps) ≡ any nowhere ps
unfolding any
any_map f h [] = refl
any_map f h (p ∷ ps) = ap₂ (λ (a b : Bool). a || b) (h p) (any_map f h ps)

pub length-map : {A B : Type 0} (f : A → B) (ps : List A) → length (map f ps) ≡ length ps
length-map f [] = refl
length-map f (p ∷ ps) = ap suc (length-map f ps)

empty-moved : (ts : List (Turn ℤ)) (k : Shape ℤ) → empty_shape (moved ts k) ≡ empty_shape k
unfolding empty_shape moved
empty-moved ts k =
    ap₂ (λ (b : Bool) (n : ℕ). any zero? k.sizes || b || ltb n (least k.kind)) (any_map (in_order aim ts) (nowhere-aims ts) k.directions) (length-map (in_order act ts) k.points)

good_moved : (ts : List (Turn ℤ)) (l : List ℕ) (k : Shape ℤ) → Good l k → Good l (moved ts k)
good_moved ts l k g = record {
  formed = formed_moved ts k g.formed;
  fit = fit-moved ts k g.fit;
  full = empty-moved ts k ∙ g.full;
  few = same_length ∙ g.few;
  some_name = g.some_name;
  a_name = g.a_name;
}
  where
    same_length : ltb most_points (length (moved ts k).points) ≡ ltb most_points (length k.points)
    same_length = unfold moved in ap (λ (n : ℕ). ltb most_points n) (length-map (in_order act ts) k.points)

-- ---- commands without a fault

not_at : (r : Rule) (p : ℕ) (b : Bool) → at_command r b p ≡ [] → b ≡ false
not_at n p true e = absurd (nil≢cons (sym e))
not_at n p false e = refl

pub or_first : (a b : Bool) → (a || b) ≡ false → a ≡ false
or_first true b e = e
or_first false b e = refl

formed_scaled : (s : Standing) (w : Shape Number) → Drafted w → Formed (scaled_shape s w)
unfolding scaled_shape scaled
formed_scaled s w (Made.a_box c d (natural p a) (natural q b)) = Shapes.a_box _ _ _ _
formed_scaled s w (Made.a_flash c (natural p a)) = Shapes.a_flash _ _
formed_scaled s w (Made.a_wire ps (natural p a)) = Shapes.a_wire _ _
formed_scaled s w (Made.a_polygon ps) = Shapes.a_polygon _

-- the layers that stand are names, or none
pub record Stands (s : Standing) : Type 0 where
  pub now-name : Name s.layer_set
  pub outer_name : Name s.layer_outside

no_name : Name []
no_name = unfold All in record { short = omega arith; chars = tt }

stands : (s : Standing) (c : Command) → Stands s → Made c → Stands (after c s)
unfolding after Made
stands s (draw k) x y = x
stands s (call n ts) x y = x
stands s (layer l) x y = record { now-name = y.1; outer_name = x.outer_name }
stands s (start n a b) x y = record { now-name = no_name; outer_name = x.now-name }
stands s finish x y = record { now-name = x.outer_name; outer_name = no_name }
stands s (delete n) x y = x
stands s nothing x y = x

good_step : (s : Standing) (p : ℕ) (c : Command) → Stands s → Made c → faults s (at p c) ≡ [] → All (Kept.StepP Good) (step_of s c)
unfolding step_of All Made Kept.StepP FitStep faults degenerate layerless has_too_many parts_of any
good_step s p (draw w) x y e =
    let e₁ = nil-right (at_numbers NumberTooLarge beyond (numbers_of (draw w))) _ e in
    let e₂ = nil-right (at_command ZeroFactor (zero_scale (draw w)) p) _ e₁ in
    let e₄ = nil-right (at_numbers ScaledTooLarge (λ z. beyond (scaled s z)) (distances (draw w))) _ e₂ in
    let e₅ = nil-right (at_command DegenerateCommand (degenerate s (draw w)) p) _ e₄ in
    let e₆ = nil-right (at_command NoLayer (layerless s (draw w)) p) _ e₅ in
    let seven : degenerate s (draw w) ≡ false = not_at DegenerateCommand p _ (nil-left (at_command DegenerateCommand (degenerate s (draw w)) p) _ e₄) in
    let eight : layerless s (draw w) ≡ false = not_at NoLayer p _ (nil-left (at_command NoLayer (layerless s (draw w)) p) _ e₅) in
    let nine : has_too_many (draw w) ≡ false = not_at TooManyParts p _ e₆ in (
      record {
        formed = formed_scaled s w y;
        fit = (fit-step s p (draw w) e).0;
        full = or_first (empty_shape (scaled_shape s w)) _ (or_first (empty_shape (scaled_shape s w) || false) _ seven);
        few = few_of nine;
        some_name = or_first (eqb (length s.layer_set) 0) _ eight;
        a_name = x.now-name;
      },
      tt,
    )
  where
    few_of : has_too_many (draw w) ≡ false → ltb most_points (length (scaled_shape s w).points) ≡ false
    few_of z =
        let q : ltb most_points (length (scaled_shape s w).points) ≡ ltb most_points (length w.points) = unfold scaled_shape in ap (λ (n : ℕ). ltb most_points n) (length-map (scaled_point s) w.points) in
        q ∙ or_first (ltb most_points (length w.points)) _ (or_first (ltb most_points (length w.points) || false) _ z)
good_step s p (call n ts) x y e = (tt, tt)
good_step s p (layer l) x y e = (tt, tt)
good_step s p (start n a b) x y e = tt
good_step s p finish x y e = tt
good_step s p (delete n) x y e = tt
good_step s p nothing x y e = tt

-- ---- so each can be said

pub all_good : (m : List Letter) → Match cif_file m → first_fault (commands 0 m) ≡ none → All (λ (d : Drawn). Good d.layer_of d.itself) (shapes_of (drawing_of (commands 0 m)))
unfolding first_fault
all_good m k e =
    Kept.kept Good Good (λ ts l k g e. good_moved ts l k g) Stands Made stands good_step (outside []) (commands 0 m) (record { now-name = no_name; outer_name = no_name }) (all_made k)
    (no_fault (all_faults (outside []) (commands 0 m)) e)

pub near : (z : ℤ) → beyond z ≡ false → nat_abs z ≤ largest
unfolding beyond
near z e = ltb-false largest (nat_abs z) e

sizes-near : (zs : List ℤ) → All Fits zs → InRange zs
unfolding All InRange
sizes-near [] h = tt
sizes-near (z ∷ zs) h = (near z h.0, sizes-near zs h.1)

directions-near : (ps : List (Point ℤ)) → All Fits₂ ps → InRange (both ps)
unfolding All InRange
directions-near [] h = tt
directions-near (p ∷ ps) h = (near p.x h.0.0, (near p.y h.0.1, directions-near ps h.1))

pub or_second : (a b : Bool) → (a || b) ≡ false → b ≡ false
or_second true b e = absurd (subst (λ (c : Bool). T c) e tt)
or_second false b e = e

points_near : (zs : List ℤ) → any beyond zs ≡ false → InRange zs
unfolding any InRange
points_near [] e = tt
points_near (z ∷ zs) e = (near z (or_first (beyond z) _ e), points_near zs (or_second (beyond z) _ e))

pub range-++ : (a b : List ℤ) → InRange a → InRange b → InRange (a ++ b)
unfolding InRange
range-++ [] b x y = y
range-++ (z ∷ a) b x y = (x.0, range-++ a b x.1 y)

some_points : (k : Shape ℤ) → empty_shape k ≡ false → 0 < length k.points
unfolding empty_shape
some_points k e = go k.kind (ltb-false (length k.points) (least k.kind) (or_second (any zero? k.sizes || any nowhere k.directions) _ e))
  where
    go : (h : Kind) → least h ≤ length k.points → 0 < length k.points
    go box l = let l' : 1 ≤ length k.points = unfold least in l in omega (arith, l')
    go flash l = let l' : 1 ≤ length k.points = unfold least in l in omega (arith, l')
    go wire l = let l' : 1 ≤ length k.points = unfold least in l in omega (arith, l')
    go polygon l = let l' : 3 ≤ length k.points = unfold least in l in omega (arith, l')

pub sayable : (d : Drawn) → Good d.layer_of d.itself → Within d → Sayable d
sayable d g w = record {
  formed = g.formed;
  in_range = range-++ d.itself.sizes _ (sizes-near d.itself.sizes g.fit.0)
      (range-++ (both d.itself.points) _ (points_near (both d.itself.points) w) (directions-near d.itself.directions g.fit.1));
}

pub spelt : (d : Drawn) → Good d.layer_of d.itself → Spelt d
spelt d g = record {
  formed = g.formed;
  pathed = some_points d.itself g.full;
  some_name = named_some d.layer_of g.some_name;
  short-name = g.a_name.short;
  name_chars = g.a_name.chars;
}
  where
    named_some : (l : List ℕ) → eqb (length l) 0 ≡ false → 0 < length l
    named_some l e = let q : ¬ (length l ≡ 0) = eqb-false (length l) 0 e in omega (arith, q)

pub all_both : {A : Type 0} (P Q R : A → Type 0) → ((a : A) → P a → Q a → R a) → (l : List A) → All P l → All Q l → All R l
unfolding All
all_both P Q R f [] x y = tt
all_both P Q R f (a ∷ l) x y = (f a x.0 y.0, all_both P Q R f l x.1 y.1)
