-- The marks of a command: its numbers in text order, each with whether it is a distance and whether it may not be 0. They stand between the account,
-- which goes over the numbers once, and the definition, which asks one refusal after another.
-- Assumes nothing.
use Rattle.std.specs.Prelude.{if◌then◌else◌}
use mathlib.Core.Path.{◌≡◌, refl, sym, ap, ap₂, ◌∙◌}
use mathlib.Core.Bool.{Bool, true, false, ◌&&◌, ◌||◌, or_assoc, or-false}
use mathlib.Core.List.{List, [], ◌∷◌, ◌++◌, map, flat_map, append-nil}
use mathlib.Core.Option.{Option}
use Prim.Native.Nat.{ℕ, ◌+◌, ◌*◌}
use native.Mathlib.Omega.{arith}
use native.Mathlib.Nat.{zero-add}
use lib.Dec.{ltb, eqb}
use lib.IntN.{ℤ, nat_abs}
use lib.ListN.{length}
use Rattle.definition.specs.Words.{Point, any, those}
use Rattle.definition.specs.Commands.{Number, Shape, Turn, Command, draw, layer, call, start, finish, delete, nothing}
use Rattle.definition.specs.Standing.{Standing, given, nearest, scaled, scaled_point, scaled_shape}
use Rattle.definition.proofs.Nearest.{abs_scaled}
use Rattle.definition.specs.Faults.{zero?, least, empty_shape, degenerate, parts_of, shifts, bearings, both, distances, numbers_of, nowhere}
use Rattle.laws.proofs.FlatFile.Said.{length-map}
use Rattle.reading.proofs.Foremost.{along, first_place, found}

pub record Mark : Type 0 where
  pub number : Number
  pub far : Bool
  pub vital : Bool

abbrev pub mark : Bool → Bool → Number → Mark
mark f v z = record { number = z; far = f; vital = v }

abbrev pub path_marks : List (Point Number) → List Mark
path_marks [] = []
path_marks (p ∷ ps) = mark true false p.x ∷ mark true false p.y ∷ path_marks ps

-- of a direction the second number may not be 0 if the first is
abbrev pub bearing_marks : List (Point Number) → List Mark
bearing_marks [] = []
bearing_marks (d ∷ ds) = mark false false d.x ∷ mark false (zero? d.x.what) d.y ∷ bearing_marks ds

abbrev pub shape_marks : Shape Number → List Mark
shape_marks k = map (mark true true) k.sizes ++ (path_marks k.points ++ bearing_marks k.directions)

abbrev pub turn_marks : Turn Number → List Mark
turn_marks t = path_marks (shifts t) ++ bearing_marks (bearings t)

unfoldable pub marks_of : Command → List Mark
marks_of c =
    map (mark false false) (parts_of c).symbols
    ++ (map (mark false false) (parts_of c).factors ++ (flat_map shape_marks (parts_of c).shapes ++ flat_map turn_marks (parts_of c).turns))

-- along marks: what each brings, by the test and its place, to what those after it bring
unfoldable pub along_marks : {X : Type 0} → (Bool → ℕ → X → X) → (Mark → Bool) → List Mark → X → X
along_marks f h [] x = x
along_marks f h (m ∷ ms) x = f (h m) m.number.place (along_marks f h ms x)

-- the place of the first mark that passes the test, or else x
abbrev pub found_by : (Mark → Bool) → List Mark → Option ℕ → Option ℕ
found_by h ms x = along_marks first_place h ms x

-- how many pass it
abbrev pub one_place : Bool → ℕ → ℕ → ℕ
one_place b p n = (if b then 1 else 0) + n

-- ---- along marks, and along numbers; what does not pass the test brings nothing

module _ {X : Type 0} (f : Bool → ℕ → X → X) (skips : (p : ℕ) (x : X) → f false p x ≡ x) (h : Mark → Bool) (t : ℤ → Bool) where
  abbrev Same : List Mark → List Number → Type 0
  Same ms zs = (x : X) → along_marks f h ms x ≡ along f t zs x

  by-++ : (a b : List Mark) (x : X) → along_marks f h (a ++ b) x ≡ along_marks f h a (along_marks f h b x)
  unfolding along_marks
  by-++ [] b x = refl
  by-++ (m ∷ a) b x = ap (λ (y : X). f (h m) m.number.place y) (by-++ a b x)

  along-++ : (a b : List Number) (x : X) → along f t (a ++ b) x ≡ along f t a (along f t b x)
  unfolding along
  along-++ [] b x = refl
  along-++ (z ∷ a) b x = ap (λ (y : X). f (t z.what) z.place y) (along-++ a b x)

  same-++ : (a b : List Mark) (y z : List Number) → Same a y → Same b z → Same (a ++ b) (y ++ z)
  same-++ a b y z i j x = by-++ a b x ∙ (i (along_marks f h b x) ∙ (ap (along f t y) (j x) ∙ sym (along-++ y z x)))

  same-nil : Same [] []
  unfolding along_marks along
  same-nil x = refl

  same-flat : {A : Type 0} (i : A → List Mark) (g : A → List Number) → ((a : A) → Same (i a) (g a)) → (l : List A) → Same (flat_map i l) (flat_map g l)
  unfolding flat_map
  same-flat i g k [] = same-nil
  same-flat i g k (a ∷ l) = same-++ (i a) (flat_map i l) (g a) (flat_map g l) (k a) (same-flat i g k l)

  -- where marks with these bits are tested so
  same_map : (b v : Bool) → ((z : Number) → h (mark b v z) ≡ t z.what) → (zs : List Number) → Same (map (mark b v) zs) zs
  unfolding along_marks along
  same_map b v k [] x = refl
  same_map b v k (z ∷ zs) x = rw (k z) (ap (λ (y : X). f (t z.what) z.place y) (same_map b v k zs x))

  same-path : ((v : Bool) (z : Number) → h (mark true v z) ≡ t z.what) → (ps : List (Point Number)) → Same (path_marks ps) (both ps)
  unfolding along_marks along
  same-path k [] x = refl
  same-path k (p ∷ ps) x =
      rw (k false p.x, k false p.y) (ap (λ (y : X). f (t p.x.what) p.x.place (f (t p.y.what) p.y.place y)) (same-path k ps x))

  same_bearing : ((v : Bool) (z : Number) → h (mark false v z) ≡ t z.what) → (ps : List (Point Number)) → Same (bearing_marks ps) (both ps)
  unfolding along_marks along
  same_bearing k [] x = refl
  same_bearing k (p ∷ ps) x =
      rw (k false p.x, k (zero? p.x.what) p.y)
      (ap (λ (y : X). f (t p.x.what) p.x.place (f (t p.y.what) p.y.place y)) (same_bearing k ps x))

  none_map : ((v : Bool) (z : Number) → h (mark false v z) ≡ false) → (zs : List Number) → Same (map (mark false false) zs) []
  unfolding along_marks along
  none_map k [] x = refl
  none_map k (z ∷ zs) x = rw (k false z) (skips _ _ ∙ none_map k zs x)

  none_bearing : ((v : Bool) (z : Number) → h (mark false v z) ≡ false) → (ps : List (Point Number)) → Same (bearing_marks ps) []
  unfolding along_marks along
  none_bearing k [] x = refl
  none_bearing k (p ∷ ps) x = rw (k false p.x, k (zero? p.x.what) p.y) (skips _ _ ∙ (skips _ _ ∙ none_bearing k ps x))

  -- marks before or after that are never met
  same_after : (a b : List Mark) (y : List Number) → Same a y → Same b [] → Same (a ++ b) y
  unfolding along
  same_after a b y i j x = by-++ a b x ∙ (i (along_marks f h b x) ∙ ap (along f t y) (j x))

  same-before : (a b : List Mark) (y : List Number) → Same a [] → Same b y → Same (a ++ b) y
  unfolding along
  same-before a b y i j x = by-++ a b x ∙ (i (along_marks f h b x) ∙ j x)

module _ {X : Type 0} (f : Bool → ℕ → X → X) (skips : (p : ℕ) (x : X) → f false p x ≡ x) (t : ℤ → Bool) where
  -- of all numbers
  along_all : (c : Command) → (x : X) → along_marks f (λ m. t m.number.what) (marks_of c) x ≡ along f t (numbers_of c) x
  unfolding marks_of numbers_of
  along_all c =
      let h : Mark → Bool = λ m. t m.number.what in
      let n = (parts_of c).symbols in
      let ab = (parts_of c).factors in
      let ks = (parts_of c).shapes in
      let ts = (parts_of c).turns in
      same-++ f skips h t _ _ n _ (same_map f skips h t false false (λ z. refl) n)
      (same-++ f skips h t _ _ ab _ (same_map f skips h t false false (λ z. refl) ab)
      (same-++ f skips h t (flat_map shape_marks ks) (flat_map turn_marks ts) _ _
      (same-flat f skips h t shape_marks (λ k. k.sizes ++ (both k.points ++ both k.directions))
      (λ k. same-++ f skips h t _ _ k.sizes _ (same_map f skips h t true true (λ z. refl) k.sizes)
      (same-++ f skips h t (path_marks k.points) (bearing_marks k.directions) (both k.points) (both k.directions) (same-path f skips h t (λ v z. refl) k.points) (same_bearing f skips h t (λ v z. refl) k.directions))) ks)
      (same-flat f skips h t turn_marks (λ u. both (shifts u) ++ both (bearings u))
      (λ u. same-++ f skips h t (path_marks (shifts u)) (bearing_marks (bearings u)) (both (shifts u)) (both (bearings u)) (same-path f skips h t (λ v z. refl) (shifts u)) (same_bearing f skips h t (λ v z. refl) (bearings u))) ts)))

  -- of distances
  along_far : (c : Command) → (x : X) → along_marks f (λ m. m.far && t m.number.what) (marks_of c) x ≡ along f t (distances c) x
  unfolding marks_of distances
  along_far c =
      let h : Mark → Bool = λ m. m.far && t m.number.what in
      let ks = (parts_of c).shapes in
      let ts = (parts_of c).turns in
      same-before f skips h t _ _ _ (none_map f skips h t (λ v z. refl) (parts_of c).symbols)
      (same-before f skips h t _ _ _ (none_map f skips h t (λ v z. refl) (parts_of c).factors)
      (same-++ f skips h t (flat_map shape_marks ks) (flat_map turn_marks ts) _ _
      (same-flat f skips h t shape_marks (λ k. k.sizes ++ both k.points)
      (λ k. same-++ f skips h t _ _ k.sizes _ (same_map f skips h t true true (λ z. refl) k.sizes)
      (same_after f skips h t (path_marks k.points) (bearing_marks k.directions) (both k.points) (same-path f skips h t (λ v z. refl) k.points) (none_bearing f skips h t (λ v z. refl) k.directions))) ks)
      (same-flat f skips h t turn_marks (λ u. both (shifts u))
      (λ u. same_after f skips h t (path_marks (shifts u)) (bearing_marks (bearings u)) (both (shifts u)) (same-path f skips h t (λ v z. refl) (shifts u)) (none_bearing f skips h t (λ v z. refl) (bearings u))) ts)))

module _ (t : ℤ → Bool) where
  pub all_marks : (c : Command) (x : Option ℕ) → found_by (λ m. t m.number.what) (marks_of c) x ≡ found t (numbers_of c) x
  all_marks c x = along_all first_place (λ p y. refl) t c x

  pub far_marks : (c : Command) (x : Option ℕ) → found_by (λ m. m.far && t m.number.what) (marks_of c) x ≡ found t (distances c) x
  far_marks c x = along_far first_place (λ p y. refl) t c x

  passing : (zs : List Number) → along one_place t zs 0 ≡ length (those (λ d. t d.what) zs)
  unfolding along those
  passing [] = refl
  passing (z ∷ zs) = go (t z.what) (passing zs)
    where
      rest : List Number
      rest = those (λ d. t d.what) zs

      go : (b : Bool) → along one_place t zs 0 ≡ length rest → (if b then 1 else 0) + along one_place t zs 0 ≡ length (if b then z ∷ rest else rest)
      go true e = omega arith
      go false e = omega arith

  -- how many distances pass the test
  pub far_counted : (c : Command) → along_marks one_place (λ m. m.far && t m.number.what) (marks_of c) 0 ≡ length (those (λ d. t d.what) (distances c))
  far_counted c = along_far one_place (λ p n. zero-add n) t c 0 ∙ passing (distances c)

-- ---- what may not be 0

unfoldable pub few_points : Command → Bool
few_points c = any (λ k. ltb (length k.points) (least k.kind)) (parts_of c).shapes

any-++ : {A : Type 0} (t : A → Bool) (a b : List A) → any t (a ++ b) ≡ (any t a || any t b)
unfolding any
any-++ t [] b = refl
any-++ t (x ∷ a) b = ap (λ (y : Bool). t x || y) (any-++ t a b) ∙ sym (or_assoc (t x) (any t a) (any t b))

any_map : {A B : Type 0} (t : B → Bool) (f : A → B) (l : List A) → any t (map f l) ≡ any (λ a. t (f a)) l
unfolding any
any_map t f [] = refl
any_map t f (a ∷ l) = ap (λ (y : Bool). t (f a) || y) (any_map t f l)

-- what a mark is worth at a scale, and whether it may not be 0 and is
abbrev pub worth_at : ℕ → ℕ → Mark → ℕ
worth_at a b m = if m.far then nearest (a * nat_abs m.number.what) b else nat_abs m.number.what

abbrev pub weighty_at : ℕ → ℕ → Mark → Bool
weighty_at a b m = m.vital && eqb (worth_at a b m) 0

module _ (s : Standing) where
  abbrev weighty : Mark → Bool
  weighty m = weighty_at s.a s.b m

  path_light : (ps : List (Point Number)) → any weighty (path_marks ps) ≡ false
  unfolding any
  path_light [] = refl
  path_light (p ∷ ps) = path_light ps

  bearing_weight : (ds : List (Point Number)) → any weighty (bearing_marks ds) ≡ any (λ d. nowhere (given d)) ds
  unfolding any
  bearing_weight [] = refl
  bearing_weight (d ∷ ds) = ap (λ (y : Bool). nowhere (given d) || y) (bearing_weight ds)

  turn_weight : (t : Turn Number) → any weighty (turn_marks t) ≡ any (λ d. nowhere (given d)) (bearings t)
  turn_weight t =
      any-++ weighty (path_marks (shifts t)) (bearing_marks (bearings t))
      ∙ (ap (λ (x : Bool). x || any weighty (bearing_marks (bearings t))) (path_light (shifts t)) ∙ bearing_weight (bearings t))

  turns_weight : (ts : List (Turn Number)) → any weighty (flat_map turn_marks ts) ≡ any (λ t. any (λ d. nowhere (given d)) (bearings t)) ts
  unfolding any flat_map
  turns_weight [] = refl
  turns_weight (t ∷ ts) = any-++ weighty (turn_marks t) (flat_map turn_marks ts) ∙ ap₂ (λ (x y : Bool). x || y) (turn_weight t) (turns_weight ts)

  sizes_weight : (zs : List Number) → any weighty (map (mark true true) zs) ≡ any zero? (map (λ d. scaled s d.what) zs)
  unfolding any
  sizes_weight [] = refl
  sizes_weight (z ∷ zs) = ap₂ (λ (x y : Bool). x || y) (ap (λ (n : ℕ). eqb n 0) (sym (abs_scaled s z.what))) (sizes_weight zs)

  pub weights : (c : Command) → (any weighty (marks_of c) || few_points c) ≡ degenerate s c
  unfolding marks_of few_points degenerate parts_of any flat_map
  weights (draw k) =
      let a = map (mark true true) k.sizes in
      let b = path_marks k.points in
      let d = bearing_marks k.directions in
      let ms = a ++ (b ++ d) in
      let f = ltb (length k.points) (least k.kind) in
      let e : any weighty ((ms ++ []) ++ []) ≡ (any weighty a || any weighty d) =
      ap (any weighty) (append-nil (ms ++ []) ∙ append-nil ms)
      ∙ (any-++ weighty a (b ++ d) ∙ ap (λ (y : Bool). any weighty a || y) (any-++ weighty b d ∙ ap (λ (y : Bool). y || any weighty d) (path_light k.points))) in
      ap (λ (y : Bool). y || (f || false)) e
      ∙ (ap₂ (λ (x y : Bool). (x || y) || (f || false)) (sizes_weight k.sizes) (bearing_weight k.directions ∙ sym (any_map nowhere given k.directions))
      ∙ (last (any zero? (map (λ d. scaled s d.what) k.sizes) || any nowhere (map given k.directions)) f ∙ empty))
    where
      last : (x f : Bool) → (x || (f || false)) ≡ (((x || f) || false) || false)
      last true f = refl
      last false true = refl
      last false false = refl

      empty : (((any zero? (map (λ d. scaled s d.what) k.sizes) || any nowhere (map given k.directions) || ltb (length k.points) (least k.kind)) || false) || false)
          ≡ ((empty_shape (scaled_shape s k) || false) || false)
      empty = unfold empty_shape scaled_shape in ap (λ (n : ℕ). ((any zero? (map (λ d. scaled s d.what) k.sizes) || any nowhere (map given k.directions) || ltb n (least k.kind)) || false) || false) (sym (length-map (scaled_point s) k.points))
  weights (call n ts) = or-false (any weighty (flat_map turn_marks ts)) ∙ turns_weight ts
  weights (start n a b) = refl
  weights (delete n) = refl
  weights (layer l) = refl
  weights finish = refl
  weights nothing = refl
