-- Points moved one by one, and a shape's numbers: they stand in their final places, and it is known whether some x is beyond the range and whether some
-- y is. A part of them is the definition's `numbers_of_shape` of the moved shape.
-- Assumes nothing.
use mathlib.Core.Path.{◌≡◌, refl, sym, ap, ◌∙◌, subst}
use mathlib.Core.Bool.{Bool, false, ◌||◌}
use mathlib.Core.List.{List, [], ◌∷◌, ◌++◌, map, append_assoc, append-nil}
use Prim.Native.Nat.{ℕ, suc, ◌+◌, ◌-◌, ◌*◌, ◌≤◌, ◌<◌}
use native.Mathlib.Nat.{add-zero}
use Rattle.std.proofs.Math.Bool.{or_assoc, or-false}
use native.Mathlib.Omega.{arith}
use lib.IntN.{ℤ, pos}
use lib.ListN.{length, take, drop, get_or, set, length-append, length-drop}
use lib.Seq.{sets, length-sets, length-take-le, take-suc, take_at, get_or-drop, drop-drop, drop-append_seam, get_or-append-add}
use Rattle.definition.specs.Commands.{Shape, Kind, box, flash, wire, polygon}
use Rattle.definition.specs.Flat.{letter_of}
use Rattle.definition.specs.Words.{Point, point, any}
use Rattle.definition.specs.Faults.{beyond, both}
use Rattle.turns.specs.Nets.{apply, turned}
use Rattle.turns.specs.declared.Net.{Net}
use Rattle.turns.specs.declared.Beyond.{Beyond}
use Rattle.turns.proofs.Signed.{told}
use Rattle.moves.specs.Moves.{size_count, direction_count, BeginAt, EndAt, Copied, Pointed, Judges, Moves, ShapedAt, MovesShape}
use Rattle.digits.proofs.Writing.{sets_append}

both-++ : (a b : List (Point ℤ)) → both (a ++ b) ≡ both a ++ both b
both-++ [] b = refl
both-++ (p ∷ a) b = ap (λ (l : List ℤ). p.x ∷ p.y ∷ l) (both-++ a b)

pub map_both : (f : Point ℤ → Point ℤ) (a : List (Point ℤ)) → length (both (map f a)) ≡ length (both a)
map_both f [] = refl
map_both f (p ∷ a) = ap (λ (n : ℕ). suc (suc n)) (map_both f a)

any-++ : {A : Type 0} (t : A → Bool) (a b : List A) → any t (a ++ b) ≡ (any t a || any t b)
unfolding any
any-++ t [] b = refl
any-++ t (x ∷ a) b = ap (λ (r : Bool). t x || r) (any-++ t a b) ∙ sym (or_assoc (t x) (any t a) (any t b))

-- a test of the points so far, and of one more
judged : (t : Point ℤ → Bool) (d : List (Point ℤ)) (p : Point ℤ) {before here after : Bool} → before ≡ any t d → here ≡ t p → after ≡ (before || here) → after ≡ any t (d ++ (p ∷ []))
unfolding any
judged t d p b h a = a ∙ ((λ k. b k || h k) ∙ (ap (λ (r : Bool). any t d || r) (sym (or-false (t p))) ∙ sym (any-++ t d (p ∷ []))))

-- between two points: those done are in their places, and those left stand from here on
pub record Moving (words : List ℤ) (end : ℕ) (net : Net) (points : List (Point ℤ)) (numbers₀ : List ℤ) (from i : ℕ) (far : Beyond) (numbers : List ℤ) : Type 0 where
  pub done : List (Point ℤ)
  pub left : List (Point ℤ)
  pub rest : List ℤ
  pub parts : map (apply net) points ≡ done ++ map (apply net) left
  pub are : drop i words ≡ both left ++ rest
  pub here : i ≡ from + length (both done)
  pub ends : i + length (both left) ≡ end
  pub test : Judges done far
  pub laid : numbers ≡ sets numbers₀ from (both done)

pub begin : {words : List ℤ} {from end : ℕ} (net : Net) (numbers : List ℤ) (h : Pointed words from end) → Moving words end net h.points numbers from from (record { x = false; y = false }) numbers
unfolding any
begin {from = from} net numbers h = record {
  done = [];
  left = h.points;
  rest = h.rest;
  parts = refl;
  are = h.are;
  here = sym (add-zero from);
  ends = h.ends;
  test = record { xs = refl; ys = refl };
  laid = refl;
}

-- the point that stands here, where one is left
record Next (words : List ℤ) (i end : ℕ) (left : List (Point ℤ)) (rest : List ℤ) : Type 0 where
  more : List (Point ℤ)
  are : left ≡ point (get_or words i (pos 0)) (get_or words (i + 1) (pos 0)) ∷ more
  then_on : drop (i + 2) words ≡ both more ++ rest
  ends : i + 2 + length (both more) ≡ end

next_of : (words : List ℤ) (i end : ℕ) (left : List (Point ℤ)) (rest : List ℤ) → i < end → drop i words ≡ both left ++ rest → i + length (both left) ≡ end → Next words i end left rest
next_of words i end [] rest h e f = absurd (omega (arith, f))
next_of words i end (p ∷ q) rest h e f = record {
  more = q;
  are = λ j. point (sym (on 0 i (sym (add-zero i))) j) (sym (on 1 (i + 1) refl) j) ∷ q;
  then_on = sym (drop-drop 2 i words) ∙ ap (drop 2) e;
  ends = omega (arith, f);
}
  where
    on : (k n : ℕ) → n ≡ i + k → get_or words n (pos 0) ≡ get_or (p.x ∷ p.y ∷ (both q ++ rest)) k (pos 0)
    on k n g = ap (λ (m : ℕ). get_or words m (pos 0)) g ∙ (sym (get_or-drop i words k (pos 0)) ∙ ap (λ (l : List ℤ). get_or l k (pos 0)) e)

module _ {words : List ℤ} {end : ℕ} {net : Net} {points : List (Point ℤ)} {numbers₀ : List ℤ} {from i : ℕ} {far : Beyond} {numbers : List ℤ}
    (g : Moving words end net points numbers₀ from i far numbers) where
  pub numbers-length : length numbers ≡ length numbers₀
  numbers-length = ap length g.laid ∙ length-sets numbers₀ from (both g.done)

  pub pair_fits : i < end → i + 2 ≤ end
  pair_fits h = let n = next_of words i end g.left g.rest h g.are g.ends in omega (arith, n.ends)

  -- one point more, as `place_at` tells it
  pub one_point : i < end → (b : Beyond) (numbers' : List ℤ)
      → ((p : Point ℤ) → p ≡ apply net (point (get_or words i (pos 0)) (get_or words (i + 1) (pos 0))) → (b.x ≡ beyond p.x) × (b.y ≡ beyond p.y) × (numbers' ≡ sets numbers i (p.x ∷ p.y ∷ [])))
      → (x y : Bool) → x ≡ (far.x || b.x) → y ≡ (far.y || b.y) → Moving words end net points numbers₀ from (i + 2) (record { x = x; y = y }) numbers'
  one_point h b numbers' told x y ex ey =
      let n = next_of words i end g.left g.rest h g.are g.ends in
      let p = apply net (point (get_or words i (pos 0)) (get_or words (i + 1) (pos 0))) in
      let new = p.x ∷ p.y ∷ [] in
      let d = both g.done in
      let joined : both (g.done ++ (p ∷ [])) ≡ d ++ new = both-++ g.done (p ∷ []) in
      record {
        done = g.done ++ (p ∷ []);
        left = n.more;
        rest = g.rest;
        parts =
            g.parts
            ∙ (ap (λ (l : List (Point ℤ)). g.done ++ map (apply net) l) n.are ∙ sym (append_assoc g.done (p ∷ []) (map (apply net) n.more)));
        are = n.then_on;
        here = omega (arith, g.here, ap length joined, length-append d new);
        ends = n.ends;
        test = record {
          xs = judged (λ q. beyond q.x) g.done p g.test.xs (told p refl).0 ex;
          ys = judged (λ q. beyond q.y) g.done p g.test.ys (told p refl).1 ey;
        };
        laid =
            (told p refl).2
            ∙ (ap (λ (m : List ℤ). sets m i new) g.laid
            ∙ (ap (λ (m : ℕ). sets (sets numbers₀ from d) m new) g.here ∙ (sets_append numbers₀ from d new ∙ ap (sets numbers₀ from) (sym joined))));
      }

  pub all_moved : end ≤ i → Moves net points numbers₀ from far numbers
  all_moved h =
      let z : g.left ≡ [] = none_left g.left (omega (arith, g.ends)) in
      let e : map (apply net) points ≡ g.done = g.parts ∙ (ap (λ (l : List (Point ℤ)). g.done ++ map (apply net) l) z ∙ append-nil g.done) in
      record {
        test = subst (λ (l : List (Point ℤ)). Judges l far) (sym e) g.test;
        laid = g.laid ∙ ap (λ (l : List (Point ℤ)). sets numbers₀ from (both l)) (sym e);
      }
    where
      none_left : (l : List (Point ℤ)) → length (both l) ≡ 0 → l ≡ []
      none_left [] q = refl
      none_left (p ∷ l) q = absurd (omega (arith, q))

-- ---- a shape

-- sizes and directions by the letter
apart : (m n : ℕ) → m < n → n ≡ m → ⊥
apart m n h e = omega (arith, e)

pub sizes_P : (k : Kind) → letter_of k ≡ 80 → size_count k ≡ 0
unfolding letter_of size_count
sizes_P polygon e = refl
sizes_P box e = absurd (apart 66 80 (omega arith) (sym e))
sizes_P flash e = absurd (apart 80 82 (omega arith) e)
sizes_P wire e = absurd (apart 80 87 (omega arith) e)

is_box : (k : Kind) → letter_of k ≡ 66 → k ≡ box
unfolding letter_of
is_box box e = refl
is_box polygon e = absurd (apart 66 80 (omega arith) e)
is_box flash e = absurd (apart 66 82 (omega arith) e)
is_box wire e = absurd (apart 66 87 (omega arith) e)

pub sizes_B : (k : Kind) → letter_of k ≡ 66 → size_count k ≡ 2
unfolding size_count
sizes_B k e = ap size_count (is_box k e)

pub sizes_other : (k : Kind) → (letter_of k ≡ 80 → ⊥) → (letter_of k ≡ 66 → ⊥) → size_count k ≡ 1
unfolding letter_of size_count
sizes_other flash p b = refl
sizes_other wire p b = refl
sizes_other polygon p b = absurd (p refl)
sizes_other box p b = absurd (b refl)

pub directions_B : (k : Kind) → letter_of k ≡ 66 → direction_count k ≡ 1
unfolding direction_count
directions_B k e = ap direction_count (is_box k e)

pub directions_other : (k : Kind) → (letter_of k ≡ 66 → ⊥) → direction_count k ≡ 0
unfolding letter_of direction_count
directions_other flash b = refl
directions_other wire b = refl
directions_other polygon b = refl
directions_other box b = absurd (b refl)

few-sizes : (k : Kind) → size_count k ≤ 2
unfolding size_count
few-sizes box = omega arith
few-sizes flash = omega arith
few-sizes wire = omega arith
few-sizes polygon = omega arith

pub none_copied : {words numbers : List ℤ} {from : ℕ} → from ≡ 2 → Copied words numbers from numbers
none_copied {words} {numbers} e = record { laid = ap (λ (n : ℕ). sets numbers 2 (take (n - 2) (drop 2 words))) (sym e) }

pub one_copied : {words numbers numbers₁ numbers₂ : List ℤ} {i from : ℕ} → Copied words numbers i numbers₁ → numbers₂ ≡ set numbers₁ i (get_or words i (pos 0))
    → 2 ≤ i → i < length words → from ≡ i + 1 → Copied words numbers from numbers₂
one_copied {words} {numbers} {i = i} {from} c e l h f =
    let old = take (i - 2) (drop 2 words) in
    let v = get_or words i (pos 0) in
    let at : i ≡ 2 + length old = omega (arith, length-take-le (i - 2) (drop 2 words) (omega (arith, short))) in
    record {
      laid =
          e
          ∙ (ap (λ (x : List ℤ). set x i v) c.laid
          ∙ (ap (λ (n : ℕ). set (sets numbers 2 old) n v) at ∙ (sets_append numbers 2 old (v ∷ []) ∙ ap (sets numbers 2) (sym more))));
    }
  where
    short : i - 2 < length (drop 2 words)
    short = omega (arith, length-drop 2 words, h, l)

    more : take (from - 2) (drop 2 words) ≡ take (i - 2) (drop 2 words) ++ (get_or words i (pos 0) ∷ [])
    more =
        let n : from - 2 ≡ suc (i - 2) = omega (arith, f, l) in
        let there : 2 + (i - 2) ≡ i = omega (arith, l) in
        ap (λ (m : ℕ). take m (drop 2 words)) n
        ∙ (take-suc (drop 2 words) (i - 2) (pos 0) short
        ∙ ap (λ (x : ℤ). take (i - 2) (drop 2 words) ++ (x ∷ [])) (get_or-drop 2 words (i - 2) (pos 0) ∙ ap (λ (m : ℕ). get_or words m (pos 0)) there))

no_directions : (l : List (Point ℤ)) → length l ≡ 0 → l ≡ []
no_directions [] e = refl
no_directions (p ∷ l) e = absurd (omega (arith, e))

one_direction : (l : List (Point ℤ)) → length l ≡ 1 → (d : Point ℤ) × (l ≡ d ∷ [])
one_direction [] e = absurd (omega (arith, e))
one_direction (p ∷ []) e = (p, refl)
one_direction (p ∷ q ∷ l) e = absurd (omega (arith, e))

both-length : (l : List (Point ℤ)) → length (both l) ≡ 2 * length l
both-length [] = refl
both-length (p ∷ l) = let e = both-length l in omega (arith, e)

module _ {words : List ℤ} {letter end : ℕ} (h : ShapedAt words letter end) where
  abbrev k : Shape ℤ
  k = h.shape

  -- the words, part by part
  pub parted : drop 2 words ≡ k.sizes ++ (both k.points ++ (both k.directions ++ h.rest))
  parted =
      h.are
      ∙ (ap (λ (l : List ℤ). l ++ h.rest) h.shaped.values_are
      ∙ (append_assoc k.sizes (both k.points ++ both k.directions) h.rest
      ∙ ap (λ (l : List ℤ). k.sizes ++ l) (append_assoc (both k.points) (both k.directions) h.rest)))

  all_long : end ≡ 2 + (length k.sizes + (length (both k.points) + 2 * direction_count k.kind))
  all_long =
      let e₁ = ap length h.shaped.values_are in
      let e₂ = length-append k.sizes (both k.points ++ both k.directions) in
      let e₃ = length-append (both k.points) (both k.directions) in
      omega (arith, h.ends, e₁, e₂, e₃, both-length k.directions, h.shaped.directions)

  module _ {from last : ℕ} (f : BeginAt letter from) (t : EndAt letter end last) where
    pub begins : from ≡ 2 + length k.sizes
    begins = omega (arith, f.behind_sizes k.kind h.shaped.letter_is, h.shaped.sizes)

    pub ends : last ≡ from + length (both k.points)
    ends = omega (arith, all_long, begins, t.before_directions k.kind h.shaped.letter_is)

    -- the places are in order
    pub in_order : (2 ≤ from) × (from ≤ 4) × (from ≤ last) × (last ≤ end)
    in_order =
        let begin = begins in
        let stop = ends in
        let n = t.before_directions k.kind h.shaped.letter_is in
        (omega (arith, begin), omega (arith, begin, few-sizes k.kind, h.shaped.sizes), omega (arith, stop), omega (arith, n))

    pub box_ends : letter ≡ 66 → (4 ≤ last) × (last + 2 ≡ end)
    box_ends e =
        let b = sym h.shaped.letter_is ∙ e in
        let begin = f.behind_sizes k.kind h.shaped.letter_is in
        let stop = t.before_directions k.kind h.shaped.letter_is in
        (omega (arith, begin, sizes_B k.kind b, in_order.2), omega (arith, stop, directions_B k.kind b))

    -- where its points stand
    unfoldable pub pointed : Pointed words from last
    pointed = record {
      points = k.points;
      rest = both k.directions ++ h.rest;
      are =
          ap (λ (n : ℕ). drop n words) begins
          ∙ (sym (drop-drop (length k.sizes) 2 words)
          ∙ (ap (drop (length k.sizes)) parted ∙ drop-append_seam k.sizes (both k.points ++ (both k.directions ++ h.rest))));
      ends = sym ends;
      within = omega (arith, in_order.3, h.within);
    }

    -- its sizes
    sizes_are : take (from - 2) (drop 2 words) ≡ k.sizes
    sizes_are =
        ap (take (from - 2)) parted ∙ take_at k.sizes (both k.points ++ (both k.directions ++ h.rest)) (from - 2) (omega (arith, begins))

    -- its direction
    direction_at : (p : Point ℤ) → k.directions ≡ p ∷ [] → (j : ℕ) → get_or words (last + j) (pos 0) ≡ get_or (p.x ∷ p.y ∷ h.rest) j (pos 0)
    direction_at p e j =
        let S = k.sizes in
        let P = both k.points in
        let D = both k.directions ++ h.rest in
        let n : last + j ≡ 2 + (length S + (length P + j)) = omega (arith, begins, ends) in
        ap (λ (m : ℕ). get_or words m (pos 0)) n
        ∙ (sym (get_or-drop 2 words (length S + (length P + j)) (pos 0))
        ∙ (ap (λ (l : List ℤ). get_or l (length S + (length P + j)) (pos 0)) parted
        ∙ (get_or-append-add S (P ++ D) (length P + j) (pos 0)
        ∙ (get_or-append-add P D j (pos 0) ∙ ap (λ (l : List (Point ℤ)). get_or (both l ++ h.rest) j (pos 0)) e))))

    -- sizes, then points, then directions
    module _ (net : Net) (numbers : List ℤ) {numbers₁ numbers₂ numbers₃ : List ℤ} {far : Beyond} (s : Copied words numbers from numbers₁)
        (m : Moves net k.points numbers₁ from far numbers₂) where
      shape-moved : numbers₃ ≡ sets numbers₂ last (both (map (turned net) k.directions)) → MovesShape net k numbers far numbers₃
      shape-moved e =
          let S = k.sizes in
          let P = both (map (apply net) k.points) in
          let D = both (map (turned net) k.directions) in
          let u : last ≡ from + length P = omega (arith, ends, map_both (apply net) k.points) in
          record {
            test = m.test;
            laid =
                e
                ∙ (ap (λ (x : List ℤ). sets x last D) m.laid
                ∙ (ap (λ (n : ℕ). sets (sets numbers₁ from P) n D) u
                ∙ (sets_append numbers₁ from P D
                ∙ (ap (λ (x : List ℤ). sets x from (P ++ D)) (s.laid ∙ ap (sets numbers 2) sizes_are)
                ∙ (ap (λ (n : ℕ). sets (sets numbers 2 S) n (P ++ D)) begins ∙ sets_append numbers 2 S (P ++ D))))));
          }

      pub unaimed_moved : (letter ≡ 66 → ⊥) → numbers₃ ≡ numbers₂ → MovesShape net k numbers far numbers₃
      unaimed_moved b e =
          let n = directions_other k.kind (λ q. b (h.shaped.letter_is ∙ q)) in
          let z = no_directions k.directions (h.shaped.directions ∙ n) in
          shape-moved (e ∙ ap (λ (x : List (Point ℤ)). sets numbers₂ last (both (map (turned net) x))) (sym z))

      pub aimed-moved : letter ≡ 66
          → ((p : Point ℤ) → p ≡ turned net (point (get_or words last (pos 0)) (get_or words (last + 1) (pos 0))) → numbers₃ ≡ sets numbers₂ last (p.x ∷ p.y ∷ []))
          → MovesShape net k numbers far numbers₃
      aimed-moved b a =
          let n = directions_B k.kind (sym h.shaped.letter_is ∙ b) in
          let d = one_direction k.directions (h.shaped.directions ∙ n) in
          let on : (j : ℕ) → get_or words (last + j) (pos 0) ≡ get_or (d.0.x ∷ d.0.y ∷ h.rest) j (pos 0) = direction_at d.0 d.1 in
          let here : get_or words last (pos 0) ≡ d.0.x = ap (λ (n : ℕ). get_or words n (pos 0)) (sym (add-zero last)) ∙ on 0 in
          shape-moved
          (a (turned net d.0) (λ j. turned net (point (sym here j) (sym (on 1) j))) ∙ ap (λ (x : List (Point ℤ)). sets numbers₂ last (both (map (turned net) x))) (sym d.1))
