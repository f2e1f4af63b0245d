-- The words of a body come back as its steps.
-- Assumes nothing.
use mathlib.Core.Path.{◌≡◌, refl, sym, ap, ap₂, ◌∙◌}
use mathlib.Core.List.{List, [], ◌∷◌, ◌++◌, append_assoc}
use Prim.Native.Nat.{ℕ, zero, suc, ◌+◌, ◌-◌, ◌*◌, ◌/◌, ◌%◌, ◌≤◌, ◌<◌}
use native.Mathlib.Omega.{arith}
use lib.IntN.{ℤ, pos}
use lib.ListN.{length, take, drop, length-append}
use lib.Seq.{take_at, drop_at}
use Rattle.definition.specs.Words.{Placed, at, Point}
use Rattle.definition.specs.Commands.{Kind, box, flash, wire, polygon, Shape, shape_of, Turn, translate, mirror_x, mirror_y, rotate}
use Rattle.definition.specs.Faults.{both}
use Rattle.definition.specs.Flat.{letter_of, numbers_of_shape}
use Rattle.definition.specs.Table.{Step, shape, instance, setting}
use Rattle.turns.specs.Words.{turn_words, turns_words}
use Rattle.moves.specs.Moves.{size_count, direction_count}
use Rattle.library.specs.Memory.{words_at, pairs, shape_in, kind_in, turns_in, step_in, steps_of, steps_in, layer_after}
use Rattle.library.specs.Sound.{letter_of_step, values_of, all_words, Fair, Proper, Sound}

pub pairs-both : (ps : List (Point ℤ)) → pairs (both ps) ≡ ps
unfolding pairs
pairs-both [] = refl
pairs-both (p ∷ ps) = ap (λ (x : List (Point ℤ)). p ∷ x) (pairs-both ps)

pub both-length : (ps : List (Point ℤ)) → length (both ps) ≡ 2 * length ps
both-length [] = refl
both-length (p ∷ ps) = let h = both-length ps in omega (arith, h)

mirror_x_lem : (ws : List ℤ) → turns_in (pos 88 ∷ ws) ≡ mirror_x ∷ turns_in ws
unfolding turns_in
mirror_x_lem [] = refl
mirror_x_lem (x ∷ []) = refl
mirror_x_lem (x ∷ y ∷ ws) = refl

mirror_y_lem : (ws : List ℤ) → turns_in (pos 89 ∷ ws) ≡ mirror_y ∷ turns_in ws
unfolding turns_in
mirror_y_lem [] = refl
mirror_y_lem (x ∷ []) = refl
mirror_y_lem (x ∷ y ∷ ws) = refl

pub turns-back : (ts : List (Turn ℤ)) → turns_in (turns_words ts) ≡ ts
unfolding turns_in turns_words turn_words
turns-back [] = refl
turns-back (translate p ∷ ts) = ap (λ (x : List (Turn ℤ)). translate p ∷ x) (turns-back ts)
turns-back (mirror_x ∷ ts) = mirror_x_lem (turns_words ts) ∙ ap (λ (x : List (Turn ℤ)). mirror_x ∷ x) (turns-back ts)
turns-back (mirror_y ∷ ts) = mirror_y_lem (turns_words ts) ∙ ap (λ (x : List (Turn ℤ)). mirror_y ∷ x) (turns-back ts)
turns-back (rotate p ∷ ts) = ap (λ (x : List (Turn ℤ)). rotate p ∷ x) (turns-back ts)

kind-back : (k : Kind) → kind_in (letter_of k) ≡ k
unfolding letter_of
kind-back box = refl
kind-back flash = refl
kind-back wire = refl
kind-back polygon = refl

-- three parts, the first and the last of known length
middle : (a p q : List ℤ) (s d : ℕ) → length a ≡ s → length q ≡ d
    → (take s (a ++ (p ++ q)) ≡ a) × (take (length (a ++ (p ++ q)) - d - s) (drop s (a ++ (p ++ q))) ≡ p) × (drop (length (a ++ (p ++ q)) - d) (a ++ (p ++ q)) ≡ q)
middle a p q s d e f =
    let m : length (a ++ (p ++ q)) - d - s ≡ length p = simp (length-append) (omega arith) in
    let n : length (a ++ (p ++ q)) - d ≡ length (a ++ p) = simp (length-append) (omega arith) in (
      take_at a (p ++ q) s e,
      ap (take (length (a ++ (p ++ q)) - d - s)) (drop_at a (p ++ q) s e) ∙ take_at p q (length (a ++ (p ++ q)) - d - s) (sym m),
      ap (drop (length (a ++ (p ++ q)) - d)) (sym (append_assoc a p q)) ∙ drop_at (a ++ p) q (length (a ++ (p ++ q)) - d) (sym n),
    )

pub shape-back : (k : Shape ℤ) → length k.sizes ≡ size_count k.kind → length k.directions ≡ direction_count k.kind → shape_in k.kind (numbers_of_shape k) ≡ k
shape-back k e f =
    let m = middle k.sizes (both k.points) (both k.directions) (size_count k.kind) (2 * direction_count k.kind) e (both-length k.directions ∙ ap (λ (x : ℕ). 2 * x) f) in
    λ i. shape_of k.kind (m.0 i) ((ap pairs m.1 ∙ pairs-both k.points) i) ((ap pairs m.2 ∙ pairs-both k.directions) i)

-- a shape's letter is no L and no C
pub shape-letter : (k : Kind) (l : List ℕ) (vs : List ℤ) → step_in (letter_of k) l vs ≡ shape l (shape_in k vs)
unfolding step_in letter_of
shape-letter box l vs = refl
shape-letter flash l vs = refl
shape-letter wire l vs = refl
shape-letter polygon l vs = refl

pub step_back : (l : List ℕ) (s : Step) → Fair l s → step_in (letter_of_step s) l (values_of s) ≡ s
unfolding letter_of_step values_of Fair
step_back l (shape m k) (e, f, g) = shape-letter k.kind l (numbers_of_shape k) ∙ (ap (shape l) (shape-back k f g) ∙ ap (λ (x : List ℕ). shape x k) (sym e))
step_back l (instance n ts) h = unfold step_in in ap (instance n) (turns-back ts)
step_back l (setting m) h = unfold step_in in ap setting h

pub letter-small : (s : Step) → letter_of_step s < 256
unfolding letter_of_step letter_of
letter-small (shape l k) = go k.kind
  where
    go : (x : Kind) → letter_of x < 256
    go box = omega arith
    go flash = omega arith
    go wire = omega arith
    go polygon = omega arith
letter-small (instance n ts) = omega arith
letter-small (setting l) = omega arith

pub letter_of_head : (a n : ℕ) → a < 256 → (a + 256 * n) % 256 ≡ a
letter_of_head a n h = omega arith

pub count_of_head : (a n : ℕ) → a < 256 → (a + 256 * n) / 256 ≡ n
count_of_head a n h = omega arith

pub decoded : (f : ℕ) (l : List ℕ) (ss : List (Placed Step)) → Proper l ss → length (all_words ss) ≤ f → steps_of f l (all_words ss) ≡ ss
unfolding all_words Proper steps_of
decoded zero l [] p h = refl
decoded (suc f) l [] p h = refl
decoded zero l (s ∷ ss) p h = absurd (omega arith)
decoded (suc f) l (s ∷ ss) p h =
    let vs = values_of s.what in
    let a = letter_of_step s.what in
    let rest = all_words ss in
    let n = length vs in
    let small = letter-small s.what in
    let step : step_in ((a + 256 * n) % 256) l (take ((a + 256 * n) / 256) (vs ++ rest)) ≡ s.what =
    ap₂ {C = Step} (λ (x y : ℕ). step_in x l (take y (vs ++ rest))) (letter_of_head a n small) (count_of_head a n small)
    ∙ (ap (step_in a l) (take_at vs rest n refl) ∙ step_back l s.what p.0) in
    let after : drop ((a + 256 * n) / 256) (vs ++ rest) ≡ rest = ap (λ (y : ℕ). drop y (vs ++ rest)) (count_of_head a n small) ∙ drop_at vs rest n refl in
    let more = decoded f (layer_after s.what l) ss p.2 (let q = length-append vs rest in omega (arith, q)) in
    ap₂ {C = List (Placed Step)} (λ (x : Step) (y : List ℤ). at s.place x ∷ steps_of f (layer_after x l) y) step after
    ∙ ap (λ (y : List (Placed Step)). s ∷ y) more

pub words_length : (b : List ℤ) (i n : ℕ) → length (words_at b i n) ≡ n
unfolding words_at
words_length b i zero = refl
words_length b i (suc n) = ap suc (words_length b (i + 1) n)

-- what the memory holds is what it means
pub steps_are : (b : List ℤ) (from n : ℕ) (s : Sound b from n) → steps_in b from n ≡ s.steps
steps_are b from n s =
    ap (steps_of n []) s.words ∙ decoded n [] s.steps s.proper (omega (arith, ap length s.words, words_length b from n))
