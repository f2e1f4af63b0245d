-- Places count from the start of a text: the same letters k places further on have the same commands with all places k more, and nothing else of
-- them depends on places. The crates above cite this where a text or a body is read again from another start.
-- Assumes nothing.
use Rattle.std.specs.Prelude.{if◌then◌else◌}
use mathlib.Core.Path.{◌≡◌, refl, sym, ap, ap₂, ◌∙◌, subst}
use mathlib.Core.Bool.{Bool, true, false, not, ◌||◌}
use mathlib.Core.List.{List, [], ◌∷◌, ◌++◌, map, map-map, map-append, flat_map}
use mathlib.Core.Option
use Prim.Native.Nat.{ℕ, zero, suc, ◌+◌, ◌-◌, ◌≤◌}
use native.Mathlib.Omega.{arith}
use lib.Dec.{ltb, eqb}
use lib.IntN.{ℤ, pos, neg_ℤ, nat_abs}
use lib.ListN.{length, get_or, drop, length-map, get_or-map}
use Rattle.grammar.specs.Notation.{Letter, head, second, turn, axis, sign, lead, stop, 'B', 'C', 'D', 'L', 'P', 'R', 'S', 'T', 'W', 'X'}
use Rattle.definition.specs.declared.Refusal.{Refusal}
use Rattle.definition.specs.Limits.{most_points, most_turns}
use Rattle.definition.specs.declared.Rule.{Rule}
use Rattle.definition.specs.declared.Rule.TheVariants.{NumberTooLarge, ZeroFactor, ScaledTooLarge, DegenerateCommand, NoLayer, TooManyParts}
use Rattle.definition.specs.Rules.{refuse}
use Rattle.definition.specs.Words.{Placed, at, Point, point, those, any, first}
use Rattle.definition.specs.Commands.{Number, box, flash, wire, polygon, Shape, shape_of, Turn, translate, mirror_x, mirror_y, rotate}
use Rattle.definition.specs.Commands.{Command, draw, layer, call, start, finish, delete, nothing, ◌plays◌, ◌is◌}
use Rattle.definition.specs.Commands.{worth, numbers, nth, paired, next, turn_at, turns, command_at, commands}
use Rattle.definition.specs.Standing.{Standing, after, given, scaled, scaled_point, scaled_shape, scaled_turn, outside, whole}
use Rattle.definition.specs.Faults.{Parts, parts, parts_of, shifts, bearings, both, distances, numbers_of, zero_scale, degenerate, layerless, has_too_many, at_numbers, at_command, faults, all_faults, zero?, beyond, nowhere, empty_shape, first_fault}
use Rattle.definition.specs.Rounded.{ragged, rounded_from}
use Rattle.definition.specs.Table.{shape, instance}
use Rattle.definition.specs.Drawing.{step_of}
use Rattle.laws.proofs.Lists.Joined.{standing}
use Rattle.laws.proofs.Story.Tables.{chosen}

-- ---- all places in a thing k more

abbrev pub shift : {A : Type 0} → ℕ → Placed A → Placed A
shift k p = at (k + p.place) p.what

abbrev pub shift_point : ℕ → Point Number → Point Number
shift_point k p = point (shift k p.x) (shift k p.y)

abbrev pub shift_shape : ℕ → Shape Number → Shape Number
shift_shape k s = shape_of s.kind (map (shift k) s.sizes) (map (shift_point k) s.points) (map (shift_point k) s.directions)

unfoldable pub shift_turn : ℕ → Turn Number → Turn Number
shift_turn k (translate p) = translate (shift_point k p)
shift_turn k mirror_x = mirror_x
shift_turn k mirror_y = mirror_y
shift_turn k (rotate d) = rotate (shift_point k d)

unfoldable pub shift_command : ℕ → Command → Command
shift_command k (draw s) = draw (shift_shape k s)
shift_command k (layer l) = layer l
shift_command k (call n ts) = call (shift k n) (map (shift_turn k) ts)
shift_command k (start n a b) = start (shift k n) (shift k a) (shift k b)
shift_command k finish = finish
shift_command k (delete n) = delete (shift k n)
shift_command k nothing = nothing

-- a command and its own place
abbrev pub shifted : ℕ → Placed Command → Placed Command
shifted k c = at (k + c.place) (shift_command k c.what)

-- ---- lists

drop-map : {A B : Type 0} (f : A → B) (n : ℕ) (l : List A) → drop n (map f l) ≡ map f (drop n l)
drop-map f zero l = refl
drop-map f (suc n) [] = refl
drop-map f (suc n) (a ∷ l) = drop-map f n l

-- a list is another one with the function done to each, and so are two that are joined
pub record Maps {A : Type 0} (f : A → A) (a b : List A) : Type 0 where
  pub maps : b ≡ map f a

itself : {A : Type 0} {f : A → A} (a : List A) → Maps f a (map f a)
itself a = record { maps = refl }

and_then : {A : Type 0} {f : A → A} {a a' b b' : List A} → Maps f a a' → Maps f b b' → Maps f (a ++ b) (a' ++ b')
and_then {A} {f} {a} {a'} {b} {b'} x y = record { maps = ap₂ {C = List A} (λ (u v : List A). u ++ v) x.maps y.maps ∙ sym (map-append f a b) }

-- ---- numbers

-- a number with a minus sign has its place one before, so that n is not 0
pub numbers_shift : (k n : ℕ) (minus : Bool) (m : List Letter) → 1 ≤ n → numbers (k + n) minus m ≡ map (shift k) (numbers n minus m)
unfolding numbers
numbers_shift k n minus [] h = refl
numbers_shift k n minus (l ∷ m) h =
    let rest : numbers (k + n + 1) (l plays sign) m ≡ map (shift k) (numbers (n + 1) (l plays sign) m) =
    ap (λ (p : ℕ). numbers p (l plays sign) m) (omega arith) ∙ numbers_shift k (n + 1) (l plays sign) m (omega arith) in
    chosen (map (shift k)) (l plays turn || l plays stop) refl
    (chosen (map (shift k)) (l plays lead)
    (ap₂ {C = List Number} (λ (d : Number) (ds : List Number). d ∷ ds) (number minus) rest) rest)
  where
    v : ℤ
    v = pos (worth (l.byte - 48) m)

    number : (s : Bool) → (if s then at (k + n - 1) (neg_ℤ v) else at (k + n) v) ≡ shift k (if s then at (n - 1) (neg_ℤ v) else at n v)
    number true = ap (λ (p : ℕ). at p (neg_ℤ v)) (omega arith)
    number false = refl

paired_shift : (k : ℕ) (ns : List Number) → paired (map (shift k) ns) ≡ map (shift_point k) (paired ns)
unfolding paired
paired_shift k [] = refl
paired_shift k (x ∷ []) = refl
paired_shift k (x ∷ y ∷ ns) = ap (λ (ps : List (Point Number)). shift_point k (point x y) ∷ ps) (paired_shift k ns)

-- what a command at place n reads of its numbers
module _ (k n : ℕ) (m : List Letter) where
  own : numbers (k + n + 1) false m ≡ map (shift k) (numbers (n + 1) false m)
  own = ap (λ (p : ℕ). numbers p false m) (omega arith) ∙ numbers_shift k (n + 1) false m (omega arith)

  nth_shift : (z : ℤ) (i : ℕ) → nth (k + n) (numbers (k + n + 1) false m) z i ≡ shift k (nth n (numbers (n + 1) false m) z i)
  nth_shift z i = ap (λ (ns : List Number). get_or ns i (at (k + n) z)) own ∙ get_or-map (shift k) (numbers (n + 1) false m) i (at n z)

  point_shift : (y z : ℤ) (i j : ℕ)
      → point (nth (k + n) (numbers (k + n + 1) false m) y i) (nth (k + n) (numbers (k + n + 1) false m) z j)
      ≡ shift_point k (point (nth n (numbers (n + 1) false m) y i) (nth n (numbers (n + 1) false m) z j))
  point_shift y z i j = ap₂ {C = Point Number} (λ (a b : Number). point a b) (nth_shift y i) (nth_shift z j)

-- ---- transformations and commands

pub turn_at_shift : (k n : ℕ) (l : Letter) (m : List Letter) → turn_at (k + n) l m ≡ shift_turn k (turn_at n l m)
unfolding turn_at shift_turn
turn_at_shift k n l m =
    let f = shift_turn k in
    let two = point_shift k n m (pos 0) (pos 0) 0 1 in
    chosen f (l is 'T') (ap (λ (p : Point Number). translate p) two)
    (chosen f (l is 'R') (ap (λ (p : Point Number). rotate p) two) (chosen f (next axis m is 'X') refl refl))

pub turns_shift : (k n : ℕ) (m : List Letter) → turns (k + n) m ≡ map (shift_turn k) (turns n m)
unfolding turns
turns_shift k n [] = refl
turns_shift k n (l ∷ m) =
    let f = map (shift_turn k) in
    let rest : turns (k + n + 1) m ≡ f (turns (n + 1) m) = ap (λ (p : ℕ). turns p m) (omega arith) ∙ turns_shift k (n + 1) m in
    chosen f (l plays stop) refl
    (chosen f (l plays turn) (ap₂ {C = List (Turn Number)} (λ (t : Turn Number) (ts : List (Turn Number)). t ∷ ts) (turn_at_shift k n l m) rest) rest)

pub command_at_shift : (k n : ℕ) (l : Letter) (m : List Letter) → command_at (k + n) l m ≡ shift_command k (command_at n l m)
unfolding command_at shift_command
command_at_shift k n l m =
    let f = shift_command k in
    let nr = nth_shift k n m (pos 0) in
    let nr₁ = nth_shift k n m (pos 1) in
    let ns = numbers (n + 1) false m in
    chosen f (l is 'P') (ap (λ (ps : List (Point Number)). draw (shape_of polygon [] ps [])) (ap paired (own k n m) ∙ paired_shift k ns))
    (chosen f (l is 'B') (λ i. draw (shape_of box (nr 0 i ∷ nr 1 i ∷ []) (point_shift k n m (pos 0) (pos 0) 2 3 i ∷ []) (point_shift k n m (pos 1) (pos 0) 4 5 i ∷ [])))
    (chosen f (l is 'R') (λ i. draw (shape_of flash (nr 0 i ∷ []) (point_shift k n m (pos 0) (pos 0) 1 2 i ∷ []) []))
    (chosen f (l is 'W')
    (ap₂ {C = Command} (λ (d : Number) (ps : List (Point Number)). draw (shape_of wire (d ∷ []) ps [])) (nr 0)
    (ap (λ (ds : List Number). paired (drop 1 ds)) (own k n m) ∙ ap paired (drop-map (shift k) 1 ns) ∙ paired_shift k (drop 1 ns)))
    (chosen f (l is 'L') refl
    (chosen f (l is 'C')
    (ap₂ {C = Command} (λ (d : Number) (ts : List (Turn Number)). call d ts) (nr 0)
    (ap (λ (p : ℕ). turns p m) (omega arith) ∙ turns_shift k (n + 1) m))
    (chosen f (l is 'D')
    (chosen f (next second m is 'S') (λ i. start (nr 0 i) (nr₁ 1 i) (nr₁ 2 i))
    (chosen f (next second m is 'D') (ap (λ (d : Number). delete d) (nr 0)) refl)) refl))))))

-- the commands of a text that stands k places further on
pub commands_shift : (k n : ℕ) (m : List Letter) → commands (k + n) m ≡ map (shifted k) (commands n m)
unfolding commands
commands_shift k n [] = refl
commands_shift k n (l ∷ m) =
    let f = map (shifted k) in
    let rest : commands (k + n + 1) m ≡ f (commands (n + 1) m) = ap (λ (p : ℕ). commands p m) (omega arith) ∙ commands_shift k (n + 1) m in
    chosen f (l plays head)
    (ap₂ {C = List (Placed Command)} (λ (c : Command) (cs : List (Placed Command)). at (k + n) c ∷ cs) (command_at_shift k n l m) rest) rest

-- ---- what stands, and what is scaled

pub after_shift : (k : ℕ) (c : Command) (s : Standing) → after (shift_command k c) s ≡ after c s
unfolding after shift_command
after_shift k (draw w) s = refl
after_shift k (layer l) s = refl
after_shift k (call n ts) s = refl
after_shift k (start n a b) s = refl
after_shift k finish s = refl
after_shift k (delete n) s = refl
after_shift k nothing s = refl

pub standing_shift : (k : ℕ) (s : Standing) (cs : List (Placed Command)) → standing s (map (shifted k) cs) ≡ standing s cs
unfolding standing
standing_shift k s [] = refl
standing_shift k s (c ∷ cs) = ap (λ (x : Standing). standing x (map (shifted k) cs)) (after_shift k c.what s) ∙ standing_shift k (after c.what s) cs

pub scaled_shape_shift : (k : ℕ) (s : Standing) (w : Shape Number) → scaled_shape s (shift_shape k w) ≡ scaled_shape s w
unfolding scaled_shape
scaled_shape_shift k s w =
    λ i. shape_of w.kind (map-map (λ (d : Number). scaled s d.what) (shift k) w.sizes i)
    (map-map (scaled_point s) (shift_point k) w.points i) (map-map given (shift_point k) w.directions i)

pub scaled_turn_shift : (k : ℕ) (s : Standing) (t : Turn Number) → scaled_turn s (shift_turn k t) ≡ scaled_turn s t
unfolding scaled_turn shift_turn
scaled_turn_shift k s (translate p) = refl
scaled_turn_shift k s mirror_x = refl
scaled_turn_shift k s mirror_y = refl
scaled_turn_shift k s (rotate d) = refl

pub step_of_shift : (k : ℕ) (s : Standing) (c : Command) → step_of s (shift_command k c) ≡ step_of s c
unfolding step_of shift_command
step_of_shift k s (draw w) = ap (λ (x : Shape ℤ). shape s.layer_set x ∷ []) (scaled_shape_shift k s w)
step_of_shift k s (call n ts) =
    ap (λ (x : List (Turn ℤ)). instance (nat_abs n.what) x ∷ [])
    (map-map (scaled_turn s) (shift_turn k) ts ∙ (λ i. map (λ t. scaled_turn_shift k s t i) ts))
step_of_shift k s (layer l) = refl
step_of_shift k s (start n a b) = refl
step_of_shift k s finish = refl
step_of_shift k s (delete n) = refl
step_of_shift k s nothing = refl

-- ---- faults

both_shift : (k : ℕ) (ps : List (Point Number)) → Maps (shift k) (both ps) (both (map (shift_point k) ps))
both_shift k ps = record { maps = go ps }
  where
    go : (ps : List (Point Number)) → both (map (shift_point k) ps) ≡ map (shift k) (both ps)
    go [] = refl
    go (p ∷ ps) = ap (λ (x : List Number). shift k p.x ∷ shift k p.y ∷ x) (go ps)

abbrev pub shift_refusal : ℕ → Refusal → Refusal
shift_refusal k r = record { rule = r.rule; place = k + r.place }

-- a test of numbers finds the same ones
at_numbers_shift : (n : Rule) (k : ℕ) (fails : ℤ → Bool) (ds : List Number) → at_numbers n fails (map (shift k) ds) ≡ map (shift_refusal k) (at_numbers n fails ds)
unfolding at_numbers those
at_numbers_shift n k fails [] = refl
at_numbers_shift n k fails (d ∷ ds) = go (fails d.what) (at_numbers_shift n k fails ds)
  where
    found : List Number → List Number
    found l = those (λ d. fails d.what) l

    go : (b : Bool) → map (λ (d : Number). refuse n d.place) (found (map (shift k) ds)) ≡ map (shift_refusal k) (map (λ (d : Number). refuse n d.place) (found ds))
        → map (λ (d : Number). refuse n d.place) (if b then shift k d ∷ found (map (shift k) ds) else found (map (shift k) ds))
        ≡ map (shift_refusal k) (map (λ (d : Number). refuse n d.place) (if b then d ∷ found ds else found ds))
    go true h = ap (λ (x : List Refusal). refuse n (k + d.place) ∷ x) h
    go false h = h

at_command_shift : (n : Rule) (k : ℕ) (b : Bool) (p : ℕ) → at_command n b (k + p) ≡ map (shift_refusal k) (at_command n b p)
at_command_shift n k true p = refl
at_command_shift n k false p = refl

abbrev shift_parts : ℕ → Parts → Parts
shift_parts k p = parts (map (shift k) p.symbols) (map (shift k) p.factors) (map (shift_shape k) p.shapes) (map (shift_turn k) p.turns)

parts_of_shift : (k : ℕ) (c : Command) → parts_of (shift_command k c) ≡ shift_parts k (parts_of c)
unfolding parts_of shift_command
parts_of_shift k (draw w) = refl
parts_of_shift k (layer l) = refl
parts_of_shift k (call n ts) = refl
parts_of_shift k (start n a b) = refl
parts_of_shift k finish = refl
parts_of_shift k (delete n) = refl
parts_of_shift k nothing = refl

flat_map_shift : {A : Type 0} (k : ℕ) (f : A → List Number) (g : A → A) → ((a : A) → Maps (shift k) (f a) (f (g a))) → (l : List A)
    → Maps (shift k) (flat_map f l) (flat_map f (map g l))
unfolding flat_map
flat_map_shift k f g h [] = itself []
flat_map_shift k f g h (a ∷ l) = and_then (h a) (flat_map_shift k f g h l)

shifts_shift : (k : ℕ) (t : Turn Number) → shifts (shift_turn k t) ≡ map (shift_point k) (shifts t)
unfolding shifts shift_turn
shifts_shift k (translate p) = refl
shifts_shift k mirror_x = refl
shifts_shift k mirror_y = refl
shifts_shift k (rotate d) = refl

bearings_shift : (k : ℕ) (t : Turn Number) → bearings (shift_turn k t) ≡ map (shift_point k) (bearings t)
unfolding bearings shift_turn
bearings_shift k (translate p) = refl
bearings_shift k mirror_x = refl
bearings_shift k mirror_y = refl
bearings_shift k (rotate d) = refl

module _ (k : ℕ) where
  both_of : (ps qs : List (Point Number)) → qs ≡ map (shift_point k) ps → Maps (shift k) (both ps) (both qs)
  both_of ps qs e = subst (λ (x : List (Point Number)). Maps (shift k) (both ps) (both x)) (sym e) (both_shift k ps)

  pub distances_shift : (c : Command) → distances (shift_command k c) ≡ map (shift k) (distances c)
  unfolding distances
  distances_shift c =
      rw (parts_of_shift k c)
      (and_then
      (flat_map_shift k (λ (w : Shape Number). w.sizes ++ both w.points) (shift_shape k) (λ w. and_then (itself w.sizes) (both_shift k w.points)) (parts_of c).shapes)
      (flat_map_shift k (λ (t : Turn Number). both (shifts t)) (shift_turn k) (λ t. both_of (shifts t) _ (shifts_shift k t)) (parts_of c).turns)).maps

  pub numbers_of_shift : (c : Command) → numbers_of (shift_command k c) ≡ map (shift k) (numbers_of c)
  unfolding numbers_of
  numbers_of_shift c =
      rw (parts_of_shift k c)
      (and_then (itself (parts_of c).symbols)
      (and_then (itself (parts_of c).factors)
      (and_then
      (flat_map_shift k (λ (w : Shape Number). w.sizes ++ (both w.points ++ both w.directions)) (shift_shape k)
      (λ w. and_then (itself w.sizes) (and_then (both_shift k w.points) (both_shift k w.directions))) (parts_of c).shapes)
      (flat_map_shift k (λ (t : Turn Number). both (shifts t) ++ both (bearings t)) (shift_turn k)
      (λ t. and_then (both_of (shifts t) _ (shifts_shift k t)) (both_of (bearings t) _ (bearings_shift k t))) (parts_of c).turns)))).maps

-- a test that does not look at places
pub any_map : {A : Type 0} (f : A → Bool) (g : A → A) → ((a : A) → f (g a) ≡ f a) → (l : List A) → any f (map g l) ≡ any f l
unfolding any
any_map f g h [] = refl
any_map f g h (a ∷ l) = ap₂ {C = Bool} (λ (x y : Bool). x || y) (h a) (any_map f g h l)

module _ (k : ℕ) (s : Standing) (c : Command) where
  zero_scale_shift : zero_scale (shift_command k c) ≡ zero_scale c
  unfolding zero_scale
  zero_scale_shift = rw (parts_of_shift k c) (any_map (λ (d : Number). zero? d.what) (shift k) (λ d. refl) (parts_of c).factors)

  degenerate_shift : degenerate s (shift_command k c) ≡ degenerate s c
  unfolding degenerate
  degenerate_shift =
      let lost : Point Number → Bool = λ d. nowhere (given d) in
      rw (parts_of_shift k c)
      (ap₂ {C = Bool} (λ (x y : Bool). x || y)
      (any_map (λ (w : Shape Number). empty_shape (scaled_shape s w)) (shift_shape k) (λ w. ap empty_shape (scaled_shape_shift k s w)) (parts_of c).shapes)
      (any_map (λ (t : Turn Number). any lost (bearings t)) (shift_turn k)
      (λ t. ap (any lost) (bearings_shift k t) ∙ any_map lost (shift_point k) (λ d. refl) (bearings t)) (parts_of c).turns))

  layerless_shift : layerless s (shift_command k c) ≡ layerless s c
  unfolding layerless
  layerless_shift = rw (parts_of_shift k c) (any_map (λ (w : Shape Number). eqb (length s.layer_set) 0) (shift_shape k) (λ w. refl) (parts_of c).shapes)

  has_too_many_shift : has_too_many (shift_command k c) ≡ has_too_many c
  unfolding has_too_many
  has_too_many_shift =
      rw (parts_of_shift k c)
      (ap₂ {C = Bool} (λ (x y : Bool). x || y)
      (any_map (λ (w : Shape Number). ltb most_points (length w.points)) (shift_shape k) (λ w. ap (ltb most_points) (length-map w.points (shift_point k))) (parts_of c).shapes)
      (ap (ltb most_turns) (length-map (parts_of c).turns (shift_turn k))))

pub faults_shift : (k : ℕ) (s : Standing) (c : Placed Command) → faults s (shifted k c) ≡ map (shift_refusal k) (faults s c)
unfolding faults
faults_shift k s c =
    let w = c.what in
    (and_then (number NumberTooLarge beyond (numbers_of w) _ (numbers_of_shift k w))
    (and_then (command ZeroFactor (zero_scale w) _ (zero_scale_shift k s w))
    (and_then (number ScaledTooLarge (λ d. beyond (scaled s d)) (distances w) _ (distances_shift k w))
    (and_then (command DegenerateCommand (degenerate s w) _ (degenerate_shift k s w))
    (and_then (command NoLayer (layerless s w) _ (layerless_shift k s w)) (command TooManyParts (has_too_many w) _ (has_too_many_shift k s w))))))).maps
  where
    number : (n : Rule) (fails : ℤ → Bool) (ds ds' : List Number) → ds' ≡ map (shift k) ds → Maps (shift_refusal k) (at_numbers n fails ds) (at_numbers n fails ds')
    number n fails ds ds' e = record { maps = ap (at_numbers n fails) e ∙ at_numbers_shift n k fails ds }

    command : (n : Rule) (b b' : Bool) → b' ≡ b → Maps (shift_refusal k) (at_command n b c.place) (at_command n b' (k + c.place))
    command n b b' e = record { maps = ap (λ (x : Bool). at_command n x (k + c.place)) e ∙ at_command_shift n k b c.place }

pub all_faults_shift : (k : ℕ) (s : Standing) (cs : List (Placed Command)) → all_faults s (map (shifted k) cs) ≡ map (shift_refusal k) (all_faults s cs)
unfolding all_faults
all_faults_shift k s [] = refl
all_faults_shift k s (c ∷ cs) =
    ap₂ {C = List Refusal} (λ (x y : List Refusal). x ++ y) (faults_shift k s c)
    (ap (λ (x : Standing). all_faults x (map (shifted k) cs)) (after_shift k c.what s) ∙ all_faults_shift k (after c.what s) cs)
    ∙ sym (map-append (shift_refusal k) (faults s c) (all_faults (after c.what s) cs))

pub first_fault_shift : (k : ℕ) (cs : List (Placed Command)) → first_fault (map (shifted k) cs) ≡ Option.map (shift_refusal k) (first_fault cs)
unfolding first_fault
first_fault_shift k cs = ap first (all_faults_shift k (outside []) cs) ∙ go (all_faults (outside []) cs)
  where
    go : (rs : List Refusal) → first (map (shift_refusal k) rs) ≡ Option.map (shift_refusal k) (first rs)
    go [] = unfold first in refl
    go (r ∷ rs) = unfold first in refl

-- ---- rounded distances

those_shift : (k : ℕ) (test : ℤ → Bool) (ds : List Number) → those (λ (d : Number). test d.what) (map (shift k) ds) ≡ map (shift k) (those (λ (d : Number). test d.what) ds)
unfolding those
those_shift k test [] = refl
those_shift k test (d ∷ ds) = chosen (map (shift k)) (test d.what) (ap (λ (x : List Number). shift k d ∷ x) (those_shift k test ds)) (those_shift k test ds)

ragged_shift : (k : ℕ) (s : Standing) (c : Command) → ragged s (shift_command k c) ≡ map (shift k) (ragged s c)
unfolding ragged
ragged_shift k s c = ap (those (λ (d : Number). not (whole s d.what))) (distances_shift k c) ∙ those_shift k (λ z. not (whole s z)) (distances c)

pub rounded_shift : (k : ℕ) (s : Standing) (cs : List (Placed Command)) → rounded_from s (map (shifted k) cs) ≡ rounded_from s cs
unfolding rounded_from
rounded_shift k s [] = refl
rounded_shift k s (c ∷ cs) =
    ap₂ {C = ℕ} (λ (m n : ℕ). m + n) (ap (λ (x : List Number). length x) (ragged_shift k s c.what) ∙ length-map (ragged s c.what) (shift k))
    (ap (λ (x : Standing). rounded_from x (map (shifted k) cs)) (after_shift k c.what s) ∙ rounded_shift k (after c.what s) cs)
