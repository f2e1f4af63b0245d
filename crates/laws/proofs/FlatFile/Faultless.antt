-- The flat file read again has no fault.
-- Assumes nothing.
use Rattle.std.specs.Prelude.{if◌then◌else◌}
use mathlib.Core.Path.{◌≡◌, refl, sym, ap, ap₂, ◌∙◌, subst}
use mathlib.Core.Bool.{Bool, true, false, ◌||◌}
use mathlib.Core.List.{List, [], ◌∷◌, ◌++◌, map, flat_map, append_assoc, append-nil}
use Prim.Native.Nat.{ℕ}
use lib.Dec.{T, ltb, eqb}
use lib.IntN.{ℤ}
use lib.ListN.{length}
use Rattle.grammar.specs.Notation.{Letter, dec, has, stop, skip}
use Rattle.grammar.specs.Tables.{letter}
use Rattle.definition.specs.declared.Refusal.{Refusal}
use Rattle.definition.specs.Limits.{most_points}
use Rattle.definition.specs.declared.Rule.{Rule}
use Rattle.definition.specs.declared.Rule.TheVariants.{NumberTooLarge, ScaledTooLarge}
use Rattle.definition.specs.Words.{Placed, at, Point, any, those, same}
use Rattle.definition.specs.Commands.{Shape, Number, Command, draw, layer, command_at, commands}
use Rattle.definition.specs.Standing.{outside, after, given, scaled, scaled_shape}
use Rattle.definition.specs.Faults.{beyond, both, empty_shape, parts_of, distances, numbers_of, at_numbers, zero_scale, degenerate, layerless, has_too_many, faults, all_faults}
use Rattle.definition.specs.Flat.{letter_of, numbers_of_shape}
use Rattle.definition.specs.Drawing.{Drawn}
use Rattle.laws.proofs.Lists.Range.{All}
use Rattle.definition.proofs.Rows.{same-eq}
use Rattle.laws.proofs.FlatFile.Again.{values, spaced_letters}
use Rattle.laws.proofs.FlatFile.Shapes.{valued, shape-read, read-outside, scaled-outside}
use Rattle.laws.proofs.FlatFile.Reread.{InRange, Sayable, names, line_letters, last_letters, said_letters, lines_letters, flat_letters, line-commands, names_headless, spaced_headless, layer-read, none_beyond, range_left, range_right}
use Rattle.laws.proofs.FlatFile.Said.{Good, range-++, or_first, or_second, length-map}

none_listed : (r : Rule) (t : ℤ → Bool) (ds : List Number) → any t (values ds) ≡ false → at_numbers r t ds ≡ []
unfolding at_numbers those any
none_listed r t [] e = refl
none_listed r t (d ∷ ds) e = rw (or_first (t d.what) _ e) (none_listed r t ds (or_second (t d.what) _ e))

values-++ : (a b : List Number) → values (a ++ b) ≡ values a ++ values b
values-++ [] b = refl
values-++ (d ∷ a) b = ap (λ (x : List ℤ). d.what ∷ x) (values-++ a b)

values-both : (ps : List (Point Number)) → values (both ps) ≡ both (map given ps)
values-both [] = refl
values-both (p ∷ ps) = ap (λ (x : List ℤ). p.x.what ∷ p.y.what ∷ x) (values-both ps)

numbers-drawn : (w : Shape Number) → values (numbers_of (draw w)) ≡ numbers_of_shape (valued w)
unfolding numbers_of parts_of flat_map
numbers-drawn w =
    let own = w.sizes ++ (both w.points ++ both w.directions) in
    ap (λ (x : List Number). values x) (append-nil (own ++ []) ∙ append-nil own)
    ∙ values-++ w.sizes (both w.points ++ both w.directions)
    ∙ ap (λ (x : List ℤ). values w.sizes ++ x)
    (values-++ (both w.points) (both w.directions) ∙ ap₂ {C = List ℤ} (λ (x y : List ℤ). x ++ y) (values-both w.points) (values-both w.directions))

distances-drawn : (w : Shape Number) → values (distances (draw w)) ≡ values w.sizes ++ both (map given w.points)
unfolding distances parts_of flat_map
distances-drawn w =
    let own = w.sizes ++ both w.points in
    ap (λ (x : List Number). values x) (append-nil (own ++ []) ∙ append-nil own)
    ∙ values-++ w.sizes (both w.points)
    ∙ ap (λ (x : List ℤ). values w.sizes ++ x) (values-both w.points)

any_same : (f g : ℤ → Bool) → ((z : ℤ) → f z ≡ g z) → (zs : List ℤ) → any f zs ≡ any g zs
unfolding any
any_same f g h [] = refl
any_same f g h (z ∷ zs) = ap₂ (λ (a b : Bool). a || b) (h z) (any_same f g h zs)

faults-draw : (n : ℕ) (l : List ℕ) (w : Shape Number) → Good l (valued w) → InRange (numbers_of_shape (valued w)) → faults (outside l) (at n (draw w)) ≡ []
unfolding faults zero_scale degenerate layerless has_too_many parts_of any
faults-draw n l w g h =
    let a = values w.sizes in
    let b = both (map given w.points) in
    let near : InRange (a ++ b) = range-++ a b (range_left a _ h) (range_left b (both (map given w.directions)) (range_right a _ h)) in
    let three : at_numbers NumberTooLarge beyond (numbers_of (draw w)) ≡ [] =
    none_listed NumberTooLarge beyond (numbers_of (draw w)) (ap (λ (zs : List ℤ). any beyond zs) (numbers-drawn w) ∙ none_beyond (numbers_of_shape (valued w)) h) in
    let six : at_numbers ScaledTooLarge (λ z. beyond (scaled (outside l) z)) (distances (draw w)) ≡ [] =
    none_listed ScaledTooLarge (λ z. beyond (scaled (outside l) z)) (distances (draw w))
    (any_same (λ z. beyond (scaled (outside l) z)) beyond (λ z. ap beyond (scaled-outside l z)) (values (distances (draw w)))
    ∙ ap (λ (zs : List ℤ). any beyond zs) (distances-drawn w) ∙ none_beyond (a ++ b) near) in
    let seven : empty_shape (scaled_shape (outside l) w) ≡ false = ap (λ (k : Shape ℤ). empty_shape k) (read-outside l w) ∙ g.full in
    let eight : eqb (length l) 0 ≡ false = g.some_name in
    let nine : ltb most_points (length w.points) ≡ false = ap (λ (k : ℕ). ltb most_points k) (sym (length-map given w.points)) ∙ g.few in
    rw (three, six, seven, eight, nine)

-- no fault from here on
abbrev Clear : List ℕ → ℕ → List Letter → Type 0
Clear before n m = all_faults (outside before) (commands n m) ≡ []

layer-clear : (before l : List ℕ) (n : ℕ) (m : List Letter) → ((k : ℕ) → Clear l k m) → Clear before n (line_letters 76 (names l) ++ m)
layer-clear before l n m f =
    let r = line-commands n 76 (names l) m (names_headless l) in
    ap (all_faults (outside before)) (r.1 ∙ ap (λ (c : Command). at n c ∷ commands r.0 m) (layer-read n l m)) ∙ set (commands r.0 m) ∙ f r.0
  where
    set : (cs : List (Placed Command)) → all_faults (outside before) (at n (layer l) ∷ cs) ≡ all_faults (outside l) cs
    set cs = unfold all_faults faults after at_numbers those numbers_of distances parts_of flat_map zero_scale degenerate layerless has_too_many any in refl

shape-clear : (d : Drawn) (n : ℕ) (m : List Letter) → Sayable d → Good d.layer_of d.itself → ((k : ℕ) → Clear d.layer_of k m)
    → Clear d.layer_of n (line_letters (letter_of d.itself.kind) (spaced_letters (numbers_of_shape d.itself)) ++ m)
shape-clear d n m s g f =
    let l = d.layer_of in
    let zs = numbers_of_shape d.itself in
    let r = line-commands n (letter_of d.itself.kind) (spaced_letters zs) m (spaced_headless zs) in
    let w = shape-read n d.itself s.formed (letter 59 stop) (letter 10 skip ∷ m) refl in
    ap (all_faults (outside l)) (r.1 ∙ ap (λ (c : Command). at n c ∷ commands r.0 m) w.1)
    ∙ begun w.0 (commands r.0 m)
    ∙ ap (λ (x : List Refusal). x ++ all_faults (outside l) (commands r.0 m))
    (faults-draw n l w.0 (subst (Good l) (sym w.2) g) (subst (λ (k : Shape ℤ). InRange (numbers_of_shape k)) (sym w.2) s.in_range))
    ∙ f r.0
  where
    begun : (w : Shape Number) (cs : List (Placed Command)) → all_faults (outside d.layer_of) (at n (draw w) ∷ cs) ≡ faults (outside d.layer_of) (at n (draw w)) ++ all_faults (outside d.layer_of) cs
    begun w cs = unfold all_faults after in refl

said-clear : (before : List ℕ) (d : Drawn) (n : ℕ) (m : List Letter) → Sayable d → Good d.layer_of d.itself → ((k : ℕ) → Clear d.layer_of k m) → Clear before n (said_letters before d ++ m)
unfolding said_letters
said-clear before d n m s g f = go (same before d.layer_of) refl
  where
    own : List Letter
    own = line_letters (letter_of d.itself.kind) (spaced_letters (numbers_of_shape d.itself))

    go : (b : Bool) → same before d.layer_of ≡ b → Clear before n (((if b then [] else line_letters 76 (names d.layer_of)) ++ own) ++ m)
    go true e =
        let q : before ≡ d.layer_of = same-eq before d.layer_of (subst T (sym e) tt) in
        subst (λ (l : List ℕ). Clear l n (own ++ m)) (sym q) (shape-clear d n m s g f)
    go false e =
        subst (λ (x : List Letter). Clear before n x) (sym (append_assoc (line_letters 76 (names d.layer_of)) own m))
        (layer-clear before d.layer_of n (own ++ m) (λ k. shape-clear d k m s g f))

lines_clear : (before : List ℕ) (ds : List Drawn) → All Sayable ds → All (λ (d : Drawn). Good d.layer_of d.itself) ds → (n : ℕ) → Clear before n (lines_letters before ds ++ last_letters)
unfolding lines_letters All
lines_clear before [] x y n =
    unfold commands command_at has dec all_faults faults after at_numbers those numbers_of distances parts_of flat_map zero_scale degenerate layerless has_too_many any in refl
lines_clear before (d ∷ ds) x y n =
    subst (λ (w : List Letter). Clear before n w) (sym (append_assoc (said_letters before d) (lines_letters d.layer_of ds) last_letters))
    (said-clear before d n (lines_letters d.layer_of ds ++ last_letters) x.0 y.0 (lines_clear d.layer_of ds x.1 y.1))

pub flat-clear : (ds : List Drawn) → All Sayable ds → All (λ (d : Drawn). Good d.layer_of d.itself) ds → all_faults (outside []) (commands 0 (flat_letters ds)) ≡ []
unfolding flat_letters
flat-clear ds x y = lines_clear [] ds x y 0
