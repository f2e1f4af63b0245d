-- The words of a command that no fault was found in are exact: its kind and its place, and the definition's own numbers, scaled, in written order, with
-- what is left out filled in. Nothing is cut and nothing capped.
-- Assumes nothing.
use mathlib.Core.Path.{◌≡◌, refl, sym, ap, ap₂, ◌∙◌, subst}
use mathlib.Core.Bool.{Bool, true, false, ◌||◌}
use mathlib.Core.List.{List, [], ◌∷◌, ◌++◌, map, flat_map, append-nil}
use mathlib.Core.Option.{none}
use Prim.Native.Nat.{ℕ, zero, suc, ◌+◌, ◌*◌, ◌≤◌, ◌<◌}
use native.Mathlib.Omega.{arith}
use native.Mathlib.Nat.{mul-zero}
use borrow.Author.Tests.{ltb-false, le-ltb}
use lib.Dec.{ltb}
use lib.IntN.{ℤ, pos, neg_ℤ, nat_abs}
use lib.ListN.{length}
use Rattle.grammar.specs.Notation.{Letter}
use Rattle.grammar.specs.Viable.{Marked}
use Rattle.definition.specs.Limits.{largest, most_bytes, most_points}
use Rattle.definition.specs.Words.{Placed, Point, any}
use Rattle.definition.specs.Commands.{Number, Turn, translate, mirror_x, mirror_y, rotate, Command, draw, layer, call, start, finish, delete, nothing, commands}
use Rattle.definition.specs.Standing.{Standing, outside, after, nearest, scaled, scaled_point, scaled_shape, scaled_turn}
use Rattle.definition.specs.Faults.{beyond, parts_of, shifts, bearings, both, distances, numbers_of, has_too_many, faults, all_faults, first_fault}
use Rattle.definition.specs.Flat.{letter_of, numbers_of_shape}
use Rattle.definition.proofs.Nearest.{nearest_zero}
use Rattle.laws.proofs.Lists.Range.{All, all_to}
use Rattle.laws.proofs.Commands.Sizes.{all_left, nil-left, nil-right, no_fault}
use Rattle.laws.proofs.FlatFile.Said.{length-map, or_first}
use Rattle.laws.proofs.Commands.Ordered.{Ordered, after-inside, ordered}
use Rattle.laws.proofs.Rules.FaultRules.{commands-written}
use Rattle.pieces.specs.Pieces.{letter_s, letter_f, capped, pieces}
use Rattle.pieces.specs.declared.Piece.{Piece}
use Rattle.pieces.specs.declared.Piece.TheVariants.{Word}
use Rattle.rules.specs.Letters.{letter_c, letter_d, letter_l, letter_r, letter_t, byte_unit, first_unit}
use Rattle.rules.specs.Written.{Written, written, letters, last_of, last_letter, packed_by}
use Rattle.rules.specs.Rules.{shapely, distance}
use Rattle.checking.specs.Account.{scope_after, at_start}
use Rattle.commands.specs.Words.{widest, held, signed, word, value_of, letter_words, body_of, closing, tally, kind_by, framed, words_of}
use Rattle.checking.specs.declared.Scope.{Scope}
use Rattle.reading.proofs.Says.{tells, Points, no_points, a_point, Turns, no_turns, a_shift, a_mirror_x, a_mirror_y, a_rotation}
use Rattle.reading.proofs.Says.{Says, a_polygon, a_box, a_turned_box, a_flash, a_wire, a_layer, a_call, a_start, a_scaled-start, a_finish, a_deletion, a_nothing}
use Rattle.reading.proofs.Says.{letter_x, letter_y, AllSay, none_said, one_said}
use Rattle.reading.proofs.AllSay.{all_say}
use Rattle.reading.proofs.Blames.{capped-exact}
use Rattle.reading.proofs.Facing.{abs_signed, letters_words, faces}
use Rattle.reading.proofs.Packed.{packed, packed-most}
use Rattle.reading.proofs.Agree.{Fits, Faultless, faultless, fits_after, fits-start}

-- ---- the definition's values

-- a transformation: its letter, of a mirror the axis, and its numbers
unfoldable pub turn_values : Turn ℤ → List ℤ
turn_values (translate p) = pos letter_t ∷ p.x ∷ p.y ∷ []
turn_values mirror_x = pos letter_x ∷ []
turn_values mirror_y = pos letter_y ∷ []
turn_values (rotate d) = pos letter_r ∷ d.x ∷ d.y ∷ []

unfoldable pub values_of : Standing → Command → List ℤ
values_of s (draw k) = numbers_of_shape (scaled_shape s k)
values_of s (layer l) = pos (packed l) ∷ []
values_of s (call n ts) = n.what ∷ flat_map turn_values (map (scaled_turn s) ts)
values_of s (start n a b) = n.what ∷ a.what ∷ b.what ∷ []
values_of s finish = []
values_of s (delete n) = n.what ∷ []
values_of s nothing = []

-- the letter of a command's kind; of one that does nothing it is its first letter, b
unfoldable pub kind_of : Command → ℕ → ℕ
kind_of (draw k) b = letter_of k.kind
kind_of (layer l) b = letter_l
kind_of (call n ts) b = letter_c
kind_of (start n x y) b = letter_s
kind_of finish b = letter_f
kind_of (delete n) b = letter_d
kind_of nothing b = b

abbrev pub exact_words : Standing → ℕ → Placed Command → List ℤ
exact_words s b d = let vs = values_of s d.what in pos (kind_of d.what b + byte_unit * length vs) ∷ pos d.place ∷ vs

-- ---- numbers

held-exact : (n : ℕ) → n ≤ widest → held n ≡ n
unfolding held
held-exact n h = rw (le-ltb widest n h) refl

word_exact : (σ : Bool) (n : ℕ) → n ≤ widest → word σ n ≡ signed σ n
unfolding word
word_exact σ n h = ap (signed σ) (held-exact n h)

abbrev Near : Number → Type 0
Near z = beyond z.what ≡ false

near-size : (σ : Bool) (v : ℕ) → beyond (signed σ v) ≡ false → ltb largest v ≡ false
unfolding beyond
near-size σ v e = ap (λ (n : ℕ). ltb largest n) (sym (abs_signed σ v)) ∙ e

-- what stands
module _ (s : Standing) (hb : 0 < s.b) where
  abbrev NearScaled : Number → Type 0
  NearScaled z = beyond (scaled s z.what) ≡ false

  scaled-signed : (σ : Bool) (v : ℕ) → scaled s (signed σ v) ≡ signed σ (nearest (s.a * v) s.b)
  unfolding scaled
  scaled-signed false v = refl
  scaled-signed true zero = ap pos (none_left) ∙ ap (λ (n : ℕ). neg_ℤ (pos n)) (sym none_left)
    where
      none_left : nearest (s.a * 0) s.b ≡ 0
      none_left = ap (λ (n : ℕ). nearest n s.b) (mul-zero s.a) ∙ nearest_zero s.b
  scaled-signed true (suc v) = refl

  scaled-size : (σ : Bool) (v : ℕ) → beyond (scaled s (signed σ v)) ≡ false → nearest (s.a * v) s.b ≤ largest
  unfolding beyond
  scaled-size σ v e =
      let h = ltb-false largest (nat_abs (scaled s (signed σ v))) e in
      let d : nat_abs (scaled s (signed σ v)) ≡ nearest (s.a * v) s.b = ap nat_abs (scaled-signed σ v) ∙ abs_signed σ (nearest (s.a * v) s.b) in
      omega arith

  module _ (l w i : ℕ) where
    far_value : (σ : Bool) (v : ℕ) → distance l w i ≡ true → beyond (signed σ v) ≡ false → beyond (scaled s (signed σ v)) ≡ false
        → value_of s.a s.b l w i σ (capped v) ≡ scaled s (signed σ v)
    far_value σ v d e f =
        let h = scaled-size σ v f in
        rw (d, capped-exact v (near-size σ v e)) (word_exact σ (nearest (s.a * v) s.b) (omega arith) ∙ sym (scaled-signed σ v))

    plain_value : (σ : Bool) (v : ℕ) → distance l w i ≡ false → beyond (signed σ v) ≡ false → value_of s.a s.b l w i σ (capped v) ≡ signed σ v
    plain_value σ v d e =
        let h = ltb-false largest v (near-size σ v e) in
        rw (d, capped-exact v (near-size σ v e)) (word_exact σ v (omega arith))

  -- points
  path-values : (l : ℕ) → ((w i : ℕ) → distance l w i ≡ true) → {xs : List Piece} {ps : List (Point Number)} → Points xs ps → (w i : ℕ) → All Near (both ps) → All NearScaled (both ps)
      → body_of s.a s.b l w i xs ≡ both (map (scaled_point s) ps)
  unfolding body_of All
  path-values l d no_points w i n f = refl
  path-values l d (a_point (tells p σ v) (tells q τ u) r) w i n f =
      λ k. far_value l w i σ v (d w i) n.0 f.0 k ∷ far_value l w (i + 1) τ u (d w (i + 1)) n.1.0 f.1.0 k ∷ path-values l d r w (i + 1 + 1) n.1.1 f.1.1 k

  -- transformations
  turn-values : {xs : List Piece} {ts : List (Turn Number)} → Turns xs ts → (w i : ℕ) → All Near (flat_map (λ t. both (shifts t) ++ both (bearings t)) ts) → All NearScaled (flat_map (λ t. both (shifts t)) ts)
      → body_of s.a s.b letter_c w i xs ≡ flat_map turn_values (map (scaled_turn s) ts)
  unfolding body_of flat_map shifts bearings letter_words word held turn_values scaled_turn All distance
  turn-values no_turns w i n f = refl
  turn-values (a_shift (tells p σ v) (tells q τ u) r) w i n f =
      λ k. pos letter_t ∷ far_value letter_c letter_t i σ v refl n.0 f.0 k ∷ far_value letter_c letter_t (i + 1) τ u refl n.1.0 f.1.0 k
      ∷ turn-values r letter_t (i + 1 + 1) n.1.1 f.1.1 k
  turn-values (a_mirror_x r) w i n f = ap (λ (vs : List ℤ). pos letter_x ∷ vs) (turn-values r letter_x i n f)
  turn-values (a_mirror_y r) w i n f = ap (λ (vs : List ℤ). pos letter_y ∷ vs) (turn-values r letter_y i n f)
  turn-values (a_rotation (tells p σ v) (tells q τ u) r) w i n f =
      λ k. pos letter_r ∷ plain_value letter_c letter_r i σ v refl n.0 k ∷ plain_value letter_c letter_r (i + 1) τ u refl n.1.0 k
      ∷ turn-values r letter_r (i + 1 + 1) n.1.1 f k

  -- a name is no number
  no_values : (l : List ℕ) (w i : ℕ) → body_of s.a s.b letter_l w i (map Word l) ≡ []
  unfolding body_of letter_words
  no_values [] w i = refl
  no_values (b ∷ l) w i = no_values l b i

  -- all words behind the place
  abbrev body_words : Written → List ℤ
  body_words c = body_of s.a s.b c.letter 0 0 c.items ++ closing c.letter (last_letter c) (tally c.items) (packed_by first_unit (letters c.items))

  two_nil : {A : Type 0} (l : List A) → (l ++ []) ++ [] ≡ l
  two_nil l = append-nil (l ++ []) ∙ append-nil l

  body-exact : {c : Written} {d : Placed Command} → Says c d → Faultless s d → body_words c ≡ values_of s d.what
  unfolding body_of letter_words closing tally word held letters last_of distance shapely values_of scaled_shape numbers_of distances parts_of flat_map All
  body-exact (a_polygon {ps = ps} g h) f =
      let n = all_left Near (both ps) [] (subst (All Near) (two_nil (both ps ++ [])) f.near) in
      let m = subst (All NearScaled) (two_nil (both ps)) f.near-distances in
      ap (λ (vs : List ℤ). vs ++ []) (path-values 80 (λ w i. refl) g 0 0 n m)
  body-exact (a_box (tells i σ v) (tells j τ w) (tells k υ x) (tells m φ y)) f =
      let n = f.near in
      let e = f.near-distances in
      λ q. far_value 66 0 0 σ v refl n.0 e.0 q ∷ far_value 66 0 1 τ w refl n.1.0 e.1.0 q ∷ far_value 66 0 2 υ x refl n.1.1.0 e.1.1.0 q
      ∷ far_value 66 0 3 φ y refl n.1.1.1.0 e.1.1.1.0 q ∷ pos 1 ∷ pos 0 ∷ []
  body-exact (a_turned_box (tells i σ v) (tells j τ w) (tells k υ x) (tells m φ y) (tells o α a) (tells r β b)) f =
      let n = f.near in
      let e = f.near-distances in
      λ q. far_value 66 0 0 σ v refl n.0 e.0 q ∷ far_value 66 0 1 τ w refl n.1.0 e.1.0 q ∷ far_value 66 0 2 υ x refl n.1.1.0 e.1.1.0 q
      ∷ far_value 66 0 3 φ y refl n.1.1.1.0 e.1.1.1.0 q ∷ plain_value 66 0 4 α a refl n.1.1.1.1.0 q ∷ plain_value 66 0 5 β b refl n.1.1.1.1.1.0 q ∷ []
  body-exact (a_flash (tells i σ v) (tells j τ w) (tells k υ x)) f =
      let n = f.near in
      let e = f.near-distances in
      λ q. far_value 82 0 0 σ v refl n.0 e.0 q ∷ far_value 82 0 1 τ w refl n.1.0 e.1.0 q ∷ far_value 82 0 2 υ x refl n.1.1.0 e.1.1.0 q ∷ []
  body-exact (a_wire {ps = ps} (tells i σ v) g h) f =
      let n = all_left Near (both ps) [] (subst (All Near) (two_nil (both ps ++ [])) f.near.1) in
      let m = subst (All NearScaled) (two_nil (both ps)) f.near-distances.1 in
      λ q. far_value 87 0 0 σ v refl f.near.0 f.near-distances.0 q ∷ (path-values 87 (λ w i. refl) g 0 1 n m q ++ [])
  body-exact (a_layer {l = l} h n) f =
      ap₂ {C = List ℤ} (λ (vs : List ℤ) (ws : List ℕ). vs ++ (word false (packed ws) ∷ [])) (no_values l 0 0) (letters_words l)
      ∙ ap (λ (z : ℤ). z ∷ []) (word_exact false (packed l) (packed-most l n))
  body-exact (a_call (tells i σ v) g) f =
      λ q. plain_value 67 0 0 σ v refl f.near.0 q ∷ ((append-nil _ ∙ turn-values g 0 1 f.near.1 f.near-distances) q)
  body-exact (a_start (tells i σ v)) f = λ q. plain_value 68 83 0 σ v refl f.near.0 q ∷ pos 1 ∷ pos 1 ∷ []
  body-exact (a_scaled-start (tells i σ v) (tells j τ w) (tells k υ x)) f =
      let n = f.near in
      λ q. plain_value 68 83 0 σ v refl n.0 q ∷ plain_value 68 83 1 τ w refl n.1.0 q ∷ plain_value 68 83 2 υ x refl n.1.1.0 q ∷ []
  body-exact a_finish f = refl
  body-exact (a_deletion (tells i σ v)) f = λ q. plain_value 68 68 0 σ v refl f.near.0 q ∷ []
  body-exact (a_nothing i) f = rw (i.not_L, i.not_B, i.not_D) refl

-- ---- the two words in front

pub kind-exact : {c : Written} {d : Placed Command} → Says c d → kind_by c.letter (last_letter c) ≡ kind_of d.what c.letter
unfolding letters last_of kind_of letter_of
kind-exact (a_polygon g h) = refl
kind-exact (a_box x y z w) = refl
kind-exact (a_turned_box x y z w u v) = refl
kind-exact (a_flash x y z) = refl
kind-exact (a_wire x g h) = refl
kind-exact (a_layer h n) = refl
kind-exact (a_call x g) = refl
kind-exact (a_start (tells i σ v)) = refl
kind-exact (a_scaled-start (tells i σ v) (tells j τ w) (tells k υ x)) = refl
kind-exact a_finish = refl
kind-exact (a_deletion (tells i σ v)) = refl
kind-exact (a_nothing i) = rw i.not_D refl

kind-small : {c : Written} {d : Placed Command} → Says c d → kind_of d.what c.letter < 256
unfolding kind_of letter_of
kind-small (a_polygon g h) = omega arith
kind-small (a_box x y z w) = omega arith
kind-small (a_turned_box x y z w u v) = omega arith
kind-small (a_flash x y z) = omega arith
kind-small (a_wire x g h) = omega arith
kind-small (a_layer h n) = omega arith
kind-small (a_call x g) = omega arith
kind-small (a_start x) = omega arith
kind-small (a_scaled-start x y z) = omega arith
kind-small a_finish = omega arith
kind-small (a_deletion x) = omega arith
kind-small (a_nothing i) = i.small

both-length : (ps : List (Point ℤ)) → length (both ps) ≡ 2 * length ps
both-length [] = refl
both-length (p ∷ ps) = let e = both-length ps in omega arith

turns-length : (s : Standing) (ts : List (Turn Number)) → length (flat_map turn_values (map (scaled_turn s) ts)) ≤ 3 * length ts
unfolding flat_map turn_values scaled_turn
turns-length s [] = omega arith
turns-length s (translate p ∷ ts) = let h = turns-length s ts in omega arith
turns-length s (mirror_x ∷ ts) = let h = turns-length s ts in omega arith
turns-length s (mirror_y ∷ ts) = let h = turns-length s ts in omega arith
turns-length s (rotate d ∷ ts) = let h = turns-length s ts in omega arith

path-length : (s : Standing) (ps : List (Point Number)) → (ltb most_points (length ps) || false || false) ≡ false → length (both (map (scaled_point s) ps) ++ []) ≤ 2048
path-length s ps e =
    let m = ltb-false most_points (length ps) (or_first _ _ (or_first _ _ e)) in
    let n = ap length (append-nil (both (map (scaled_point s) ps))) ∙ both-length (map (scaled_point s) ps) in
    let k = length-map (scaled_point s) ps in
    omega arith

pub few-values : (s : Standing) {c : Written} {d : Placed Command} → Says c d → has_too_many d.what ≡ false → length (values_of s d.what) ≤ 2049
unfolding values_of scaled_shape has_too_many parts_of any
few-values s (a_polygon {ps = ps} g h) e = let n = path-length s ps e in omega arith
few-values s (a_box x y z w) e = omega arith
few-values s (a_turned_box x y z w u v) e = omega arith
few-values s (a_flash x y z) e = omega arith
few-values s (a_wire {ps = ps} x g h) e = let n = path-length s ps e in omega arith
few-values s (a_layer h n) e = omega arith
few-values s (a_call {ts = ts} x g) e = let m = ltb-false 32 (length ts) e in let n = turns-length s ts in omega arith
few-values s (a_start x) e = omega arith
few-values s (a_scaled-start x y z) e = omega arith
few-values s a_finish e = omega arith
few-values s (a_deletion x) e = omega arith
few-values s (a_nothing i) e = omega arith

framed-exact : (k p : ℕ) (vs : List ℤ) → k < 256 → length vs ≤ 2049 → p ≤ widest → framed k p vs ≡ pos (k + byte_unit * length vs) ∷ pos p ∷ vs
framed-exact k p vs h n m =
    ap₂ {C = List ℤ} (λ (x y : ℤ). x ∷ y ∷ vs)
    (ap (λ (i : ℕ). word false (k + byte_unit * i)) (held-exact (length vs) (omega arith)) ∙ word_exact false (k + byte_unit * length vs) (omega arith)) (word_exact false p m)

-- ---- so the words are exact

pub words_exact : (s : Scope) (σ : Standing) {c : Written} {d : Placed Command} → Fits s σ → Says c d → Faultless σ d → d.place ≤ widest
    → words_of s.a s.b c ≡ exact_words σ c.letter d
unfolding words_of
words_exact s σ {c} {d} g x f h =
    ap₂ {C = List ℤ} (λ (a b : ℕ). words_of a b c) g.scale.same_a g.scale.same_b
    ∙ (ap₂ {C = List ℤ} (λ (k : ℕ) (vs : List ℤ). framed k c.place vs) (kind-exact x) (body-exact σ g.scale.some_b x f)
    ∙ (ap (λ (p : ℕ). framed (kind_of d.what c.letter) p (values_of σ d.what)) (faces x).place
    ∙ framed-exact (kind_of d.what c.letter) d.place (values_of σ d.what) (kind-small x) (few-values σ x f.not_many) h))

-- those of all commands, each where its scope stands
pub data AllExact : Scope → Standing → List Written → List (Placed Command) → Type 0 where
  none_left : {s : Scope} {σ : Standing} → AllExact s σ [] []
  one_exact : {s : Scope} {σ : Standing} {c : Written} {d : Placed Command} {cs : List Written} {ds : List (Placed Command)} → Says c d → Fits s σ → Faultless σ d
      → words_of s.a s.b c ≡ exact_words σ c.letter d → AllExact (scope_after s c) (after d.what σ) cs ds → AllExact s σ (c ∷ cs) (d ∷ ds)

pub exact_from : {cs : List Written} {ds : List (Placed Command)} → AllSay cs ds → (s : Scope) (σ : Standing) → Fits s σ → Ordered σ.inside ds → all_faults σ ds ≡ []
    → All (λ (d : Placed Command). d.place ≤ widest) ds → AllExact s σ cs ds
unfolding all_faults Ordered All
exact_from none_said s σ g o e h = none_left
exact_from (one_said {c} {d} {cs} {ds} x xs) s σ g o e h =
    let f = faultless σ d (nil-left (faults σ d) (all_faults (after d.what σ) ds) e) in
    one_exact x g f (words_exact s σ g x f h.0)
    (exact_from xs (scope_after s c) (after d.what σ) (fits_after s σ g x o.0 f) (subst (λ (i : Bool). Ordered i ds) (sym (after-inside d.what σ)) o.1)
    (nil-right (faults σ d) (all_faults (after d.what σ) ds) e) h.1)

-- a text that refusals 1 to 9 let pass
pub all_exact : {t : List ℕ} {m : List Letter} → Marked t m → length t ≤ most_bytes → first_fault (commands 0 m) ≡ none
    → AllExact at_start (outside []) (written (pieces 0 0 m)) (commands 0 m)
unfolding first_fault
all_exact {m = m} k h e =
    exact_from (all_say k) at_start (outside []) fits-start (ordered k 0) (no_fault (all_faults (outside []) (commands 0 m)) e)
    (all_to _ (λ (d : Placed Command). d.place ≤ widest) (λ d w. let i = w.stand.within in omega arith) (commands 0 m) (commands-written k))
