-- Demand 2 for the refusals 3 to 9: a rule for each row of the table of RULES 12, and that the first fault of a text is the first rule broken: the commands in
-- text order, within a command by number, within a number by place.
-- Assumes nothing.
use Rattle.std.specs.Prelude.{if◌then◌else◌}
use mathlib.Core.Path.{◌≡◌, refl, sym, ap, ◌∙◌, subst, ap₂}
use mathlib.Core.Bool.{Bool, true, false, ◌&&◌, ◌||◌}
use mathlib.Core.List.Memᴰ
use mathlib.Core.List.{List, [], ◌∷◌, ◌++◌, map, Memᴰ, nil≢cons, append_assoc}
use mathlib.Core.Logic.{◌⊎◌, inl, inr, ◌↔◌}
use mathlib.Core.Option.{Option, none, some}
use Prim.Native.Nat.{ℕ, suc, ◌*◌, ◌≤◌, ◌<◌}
use native.Mathlib.Omega.{arith}
use native.Mathlib.Nat.{mul-zero}
use borrow.Author.Tests.{ltb-true, eqb-true, lt-ltb, eq-eqb, le-ltb}
use lib.Dec.{T, ltb, eqb}
use lib.IntN.{ℤ, nat_abs}
use lib.ListN.{length}
use Rattle.grammar.specs.Notation.{Letter}
use Rattle.grammar.specs.Viable.{Marked}
use Rattle.definition.specs.declared.Refusal.{Refusal}
use Rattle.definition.specs.Limits.{largest, most_points, most_turns}
use Rattle.definition.specs.declared.Rule.{Rule}
use Rattle.definition.specs.declared.Rule.TheVariants.{NumberTooLarge, ZeroFactor, ScaledTooLarge, DegenerateCommand, NoLayer, TooManyParts}
use Rattle.definition.specs.Rules.{number_of, refuse, order}
use Rattle.definition.specs.Words.{Placed, at, Point, any, those, first}
use Rattle.definition.specs.Commands.{Number, Kind, box, flash, wire, polygon, Shape, Turn, translate, mirror_x, mirror_y, rotate}
use Rattle.definition.specs.Commands.{Command, draw, layer, call, start, finish, delete, nothing, commands}
use Rattle.definition.specs.Standing.{Standing, outside, after, nearest, scaled, given, scaled_point, scaled_shape}
use Rattle.definition.specs.Faults.{beyond, zero?, parts_of, bearings, distances, numbers_of, zero_scale, nowhere, least, empty_shape, degenerate, layerless, has_too_many}
use Rattle.definition.specs.Faults.{at_numbers, at_command, faults, all_faults, first_fault}
use Rattle.definition.proofs.Nearest.{nearest_zero, abs_scaled}
use Rattle.laws.proofs.Lists.Range.{All, all-++}
use Rattle.laws.proofs.Rules.Order.{rank_in, rank, Earlier, ByCommand, one_rank, one_rule}
use Rattle.laws.proofs.Commands.Sizes.{nil-left, nil-right, all_right, no_fault, all_left}
use Rattle.laws.proofs.FlatFile.Said.{length-map, all_both}
use Rattle.laws.proofs.Commands.NumberPlaces.{Rising, done, idle, stands, Small, Null, Stands, as_long, commands_stand}
use Rattle.laws.proofs.Commands.Wires.{Pathed, commands_pathed}

-- ---- the rules

infix 40 ◌∈◌
abbrev pub ◌∈◌ : {A : Type 0} → A → List A → Type 0
a ∈ l = Memᴰ a l

-- the length, after scaling and rounding, of a distance; and the direction (0, 0)
abbrev pub Scaled : Standing → Number → ℕ
Scaled s d = nearest (s.a * nat_abs d.what) s.b

pub record Nowhere (q : Point Number) : Type 0 where
  pub no_x : nat_abs q.x.what ≡ 0
  pub no_y : nat_abs q.y.what ≡ 0

-- RULES 12: the command c breaks, where s stands, the rule of this row at this place
pub data Breaks (s : Standing) (c : Placed Command) : Rule → (place : ℕ) → Type 0 where
  -- a number beyond 16,777,215; its minus sign or first digit
  number-beyond : (d : Number) → d ∈ numbers_of c.what → largest < nat_abs d.what → Breaks s c NumberTooLarge d.place
  -- a or b is 0; the DS
  zero_factor_lem : (symbol a b : Number) → c.what ≡ start symbol a b → (nat_abs a.what ≡ 0) ⊎ (nat_abs b.what ≡ 0) → Breaks s c ZeroFactor c.place
  -- scaled distance beyond 16,777,215; that number
  scaled-beyond : (d : Number) → d ∈ distances c.what → largest < Scaled s d → Breaks s c ScaledTooLarge d.place
  -- zero length, width or diameter; direction (0, 0) of a box or an R; polygon under 3 points; the command
  zero-size : (k : Shape Number) (d : Number) → c.what ≡ draw k → d ∈ k.sizes → Scaled s d ≡ 0 → Breaks s c DegenerateCommand c.place
  zero_direction : (k : Shape Number) (q : Point Number) → c.what ≡ draw k → q ∈ k.directions → Nowhere q → Breaks s c DegenerateCommand c.place
  zero_turn : (symbol : Number) (ts : List (Turn Number)) (q : Point Number) → c.what ≡ call symbol ts → rotate q ∈ ts → Nowhere q → Breaks s c DegenerateCommand c.place
  few-points : (k : Shape Number) → c.what ≡ draw k → k.kind ≡ polygon → length k.points < 3 → Breaks s c DegenerateCommand c.place
  -- shape with no layer set; the command
  no_layer_lem : (k : Shape Number) → c.what ≡ draw k → s.layer_set ≡ [] → Breaks s c NoLayer c.place
  -- over 1,024 points or 32 transformations; the command
  many-points : (k : Shape Number) → c.what ≡ draw k → most_points < length k.points → Breaks s c TooManyParts c.place
  many-turns : (symbol : Number) (ts : List (Turn Number)) → c.what ≡ call symbol ts → most_turns < length ts → Breaks s c TooManyParts c.place

-- what stands behind commands
abbrev pub standing : Standing → List (Placed Command) → Standing
standing s [] = s
standing s (c ∷ cs) = standing (after c.what s) cs

-- no command breaks any rule where it stands, if s stands before the first
abbrev pub UnbrokenFrom : Standing → List (Placed Command) → Type 0
UnbrokenFrom s cs =
    (before : List (Placed Command)) (c : Placed Command) (behind : List (Placed Command)) → cs ≡ before ++ (c ∷ behind)
    → (r : Rule) (place : ℕ) → Breaks (standing s before) c r place → ⊥

-- RULES 12, the order: for all commands in text order, within a command by number, within a number by place
pub record FirstBreakFrom (s : Standing) (cs : List (Placed Command)) (rule : Rule) (place : ℕ) : Type 0 where
  pub before : List (Placed Command)
  pub command : Placed Command
  pub behind : List (Placed Command)
  pub split : cs ≡ before ++ (command ∷ behind)
  pub breaks : Breaks (standing s before) command rule place
  pub none_before : UnbrokenFrom s before
  pub none_earlier : (r : Rule) (p : ℕ) → Earlier r rule → Breaks (standing s before) command r p → ⊥
  pub none_nearer : (p : ℕ) → p < place → Breaks (standing s before) command rule p → ⊥

-- a text's commands begin outside definitions, with no layer set
abbrev pub FirstBreak : List (Placed Command) → Rule → (place : ℕ) → Type 0
FirstBreak cs rule place = FirstBreakFrom (outside []) cs rule place

abbrev pub Unbroken : List (Placed Command) → Type 0
Unbroken cs = UnbrokenFrom (outside []) cs

-- ---- tests and members

false≢true : {A : Type 0} → false ≡ true → A
false≢true e = absurd (subst T (sym e) tt)

or_true : (a b : Bool) → (a || b) ≡ true → (a ≡ true) ⊎ (b ≡ true)
or_true true b e = inl refl
or_true false b e = inr e

or_one : (a b : Bool) → (a ≡ true) ⊎ (b ≡ true) → (a || b) ≡ true
or_one true b h = refl
or_one false b (inl e) = false≢true e
or_one false b (inr e) = e

and-true : (a b : Bool) → (a && b) ≡ true → (a ≡ true) × (b ≡ true)
and-true true b e = (refl, e)
and-true false b e = false≢true e

module _ {A : Type 0} where
  any_found : (t : A → Bool) (l : List A) → any t l ≡ true → (a : A) × (a ∈ l) × (t a ≡ true)
  unfolding any
  any_found t [] e = false≢true e
  any_found t (x ∷ l) e = go (or_true (t x) (any t l) e) (any_found t l)
    where
      go : (t x ≡ true) ⊎ (any t l ≡ true) → (any t l ≡ true → (a : A) × (a ∈ l) × (t a ≡ true)) → (a : A) × (a ∈ (x ∷ l)) × (t a ≡ true)
      go (inl h) f = (x, Memᴰ.head refl, h)
      go (inr h) f = let r = f h in (r.0, Memᴰ.tail r.1, r.2)

  any_has : (t : A → Bool) {a : A} {l : List A} → a ∈ l → t a ≡ true → any t l ≡ true
  unfolding any
  any_has t (Memᴰ.head {x} {xs} e) h = or_one (t x) (any t xs) (inl (ap t (sym e) ∙ h))
  any_has t (Memᴰ.tail {x} {xs} m) h = or_one (t x) (any t xs) (inr (any_has t m h))

  any_map : {B : Type 0} (t : B → Bool) (f : A → B) (l : List A) → any t (map f l) ≡ any (λ a. t (f a)) l
  unfolding any
  any_map t f [] = refl
  any_map t f (x ∷ l) = ap (λ (b : Bool). t (f x) || b) (any_map t f l)

  all_member : (P : A → Type 0) {a : A} {l : List A} → a ∈ l → All P l → P a
  unfolding All
  all_member P (Memᴰ.head e) x = subst P (sym e) x.0
  all_member P (Memᴰ.tail m) x = all_member P m x.1

-- ---- refusals by one rule

-- the refusal for a number that fails; and the numbers that the refusals are for
number-refused : (r : Rule) (t : ℤ → Bool) {d : Number} {ds : List Number} → d ∈ ds → t d.what ≡ true → refuse r d.place ∈ at_numbers r t ds
unfolding at_numbers those
number-refused r t {d} (Memᴰ.head {x} {xs} e) h = rw (ap (λ (y : Number). t y.what) (sym e) ∙ h) (Memᴰ.head (ap (λ (y : Number). refuse r y.place) e))
number-refused r t {d} (Memᴰ.tail {x} {xs} m) h = go (t x.what) (number-refused r t m h)
  where
    go : (b : Bool) → refuse r d.place ∈ map (λ y. refuse r y.place) (those (λ y. t y.what) xs)
        → refuse r d.place ∈ map (λ y. refuse r y.place) (if b then x ∷ those (λ y. t y.what) xs else those (λ y. t y.what) xs)
    go true i = Memᴰ.tail i
    go false i = i

record Failing (t : ℤ → Bool) (ds : List Number) (n : Rule) (r : Refusal) : Type 0 where
  number : Number
  among : number ∈ ds
  fails : t number.what ≡ true
  same : r ≡ refuse n number.place

refused-number : (n : Rule) (t : ℤ → Bool) (ds : List Number) {r : Refusal} → r ∈ at_numbers n t ds → Failing t ds n r
unfolding at_numbers those
refused-number n t [] m = absurd (Memᴰ.not-nil m)
refused-number n t (x ∷ ds) {r} m = go (t x.what) refl (λ m'. refused-number n t ds m') m
  where
    further : Failing t ds n r → Failing t (x ∷ ds) n r
    further f = record { number = f.number; among = Memᴰ.tail f.among; fails = f.fails; same = f.same }

    split : t x.what ≡ true → (r ∈ at_numbers n t ds → Failing t ds n r) → (r ≡ refuse n x.place) ⊎ (r ∈ at_numbers n t ds) → Failing t (x ∷ ds) n r
    split e f (inl h) = record { number = x; among = Memᴰ.head refl; fails = e; same = h }
    split e f (inr h) = further (f h)

    go : (b : Bool) → t x.what ≡ b → (r ∈ at_numbers n t ds → Failing t ds n r)
        → r ∈ map (λ y. refuse n y.place) (if b then x ∷ those (λ y. t y.what) ds else those (λ y. t y.what) ds) → Failing t (x ∷ ds) n r
    go true e f i = split e f (Memᴰ.cases_cons i)
    go false e f i = further (f i)

command-refused : (n : Rule) (p : ℕ) (b : Bool) → b ≡ true → refuse n p ∈ at_command n b p
command-refused n p true e = Memᴰ.head refl
command-refused n p false e = false≢true e

refused-command : (n : Rule) (p : ℕ) (b : Bool) {r : Refusal} → r ∈ at_command n b p → (b ≡ true) × (r ≡ refuse n p)
refused-command n p true m = (refl, Memᴰ.eq_of_singleton m)
refused-command n p false m = absurd (Memᴰ.not-nil m)

-- ---- what the parts of a command are parts of

shape-drawn : (w : Command) {k : Shape Number} → k ∈ (parts_of w).shapes → w ≡ draw k
unfolding parts_of
shape-drawn (draw k') m = ap (λ (x : Shape Number). draw x) (sym (Memᴰ.eq_of_singleton m))
shape-drawn (layer l) m = absurd (Memᴰ.not-nil m)
shape-drawn (call n ts) m = absurd (Memᴰ.not-nil m)
shape-drawn (start n a b) m = absurd (Memᴰ.not-nil m)
shape-drawn finish m = absurd (Memᴰ.not-nil m)
shape-drawn (delete n) m = absurd (Memᴰ.not-nil m)
shape-drawn nothing m = absurd (Memᴰ.not-nil m)

-- a command without transformations, or the call whose they are
turns-called : (w : Command) → ((parts_of w).turns ≡ []) ⊎ ((n : Number) × (w ≡ call n (parts_of w).turns))
unfolding parts_of
turns-called (call n ts) = inr (n, refl)
turns-called (draw k) = inl refl
turns-called (layer l) = inl refl
turns-called (start n a b) = inl refl
turns-called finish = inl refl
turns-called (delete n) = inl refl
turns-called nothing = inl refl

bearing_turned : (t : Turn Number) {q : Point Number} → q ∈ bearings t → t ≡ rotate q
unfolding bearings
bearing_turned (rotate d) m = ap (λ (x : Point Number). rotate x) (sym (Memᴰ.eq_of_singleton m))
bearing_turned (translate p) m = absurd (Memᴰ.not-nil m)
bearing_turned mirror_x m = absurd (Memᴰ.not-nil m)
bearing_turned mirror_y m = absurd (Memᴰ.not-nil m)

empty_list : {A : Type 0} (l : List A) → length l ≡ 0 → l ≡ []
empty_list [] e = refl
empty_list (a ∷ l) e = absurd (omega arith)

-- ---- a refusal stands for a rule broken

module _ (s : Standing) (p : ℕ) where
  zero_scale_broken : (w : Command) → zero_scale w ≡ true → Breaks s (at p w) ZeroFactor p
  unfolding zero_scale parts_of any
  zero_scale_broken (start n a b) e = go (or_true (zero? a.what) (zero? b.what || false) e)
    where
      go : (zero? a.what ≡ true) ⊎ ((zero? b.what || false) ≡ true) → Breaks s (at p (start n a b)) ZeroFactor p
      go (inl h) = zero_factor_lem n a b refl (inl (eqb-true (nat_abs a.what) 0 h))
      go (inr h) = last (or_true (zero? b.what) false h)
        where
          last : (zero? b.what ≡ true) ⊎ (false ≡ true) → Breaks s (at p (start n a b)) ZeroFactor p
          last (inl i) = zero_factor_lem n a b refl (inr (eqb-true (nat_abs b.what) 0 i))
          last (inr i) = false≢true i
  zero_scale_broken (draw k) e = false≢true e
  zero_scale_broken (layer l) e = false≢true e
  zero_scale_broken (call n ts) e = false≢true e
  zero_scale_broken finish e = false≢true e
  zero_scale_broken (delete n) e = false≢true e
  zero_scale_broken nothing e = false≢true e

  nowhere_at : (q : Point Number) → nowhere (given q) ≡ true → Nowhere q
  nowhere_at q e =
      let h = and-true (zero? q.x.what) (zero? q.y.what) e in
      record { no_x = eqb-true (nat_abs q.x.what) 0 h.0; no_y = eqb-true (nat_abs q.y.what) 0 h.1 }

  few_broken : (k : Shape Number) → (k.kind ≡ polygon) ⊎ (0 < length k.points) → length k.points < least k.kind → Breaks s (at p (draw k)) DegenerateCommand p
  unfolding least
  few_broken k (inl g) h = few-points k refl g (subst (λ (x : Kind). length k.points < least x) g h)
  few_broken k (inr g) h = go k.kind refl h
    where
      go : (x : Kind) → k.kind ≡ x → length k.points < least x → Breaks s (at p (draw k)) DegenerateCommand p
      go polygon e i = few-points k refl e i
      go box e i = absurd (omega arith)
      go flash e i = absurd (omega arith)
      go wire e i = absurd (omega arith)

  empty_broken : (k : Shape Number) → (k.kind ≡ polygon) ⊎ (0 < length k.points) → empty_shape (scaled_shape s k) ≡ true → Breaks s (at p (draw k)) DegenerateCommand p
  unfolding empty_shape scaled_shape
  empty_broken k f e = either (or_true _ _ e)
    where
      sized : (d : Number) × (d ∈ k.sizes) × (zero? (scaled s d.what) ≡ true) → Breaks s (at p (draw k)) DegenerateCommand p
      sized r = zero-size k r.0 refl r.1 (sym (abs_scaled s r.0.what) ∙ eqb-true (nat_abs (scaled s r.0.what)) 0 r.2)

      aimed : (q : Point Number) × (q ∈ k.directions) × (nowhere (given q) ≡ true) → Breaks s (at p (draw k)) DegenerateCommand p
      aimed r = zero_direction k r.0 refl r.1 (nowhere_at r.0 r.2)

      number : (any zero? (map (λ d. scaled s d.what) k.sizes) ≡ true) ⊎ (any nowhere (map given k.directions) ≡ true) → Breaks s (at p (draw k)) DegenerateCommand p
      number (inl h) = sized (any_found (λ d. zero? (scaled s d.what)) k.sizes (sym (any_map zero? (λ (d : Number). scaled s d.what) k.sizes) ∙ h))
      number (inr h) = aimed (any_found (λ q. nowhere (given q)) k.directions (sym (any_map nowhere given k.directions) ∙ h))

      either : ((any zero? (map (λ d. scaled s d.what) k.sizes) || any nowhere (map given k.directions)) ≡ true)
          ⊎ (ltb (length (map (scaled_point s) k.points)) (least k.kind) ≡ true) → Breaks s (at p (draw k)) DegenerateCommand p
      either (inl h) = number (or_true _ _ h)
      either (inr h) = few_broken k f (subst (λ (n : ℕ). n < least k.kind) (length-map (scaled_point s) k.points) (ltb-true _ _ h))

  -- what holds of a command that draws the shape holds of the command
  drawn_pathed : {w : Command} {k : Shape Number} → Pathed w → w ≡ draw k → (k.kind ≡ polygon) ⊎ (0 < length k.points)
  unfolding Pathed
  drawn_pathed f e = subst Pathed e f

  degenerate_broken : (w : Command) → Pathed w → degenerate s w ≡ true → Breaks s (at p w) DegenerateCommand p
  unfolding degenerate
  degenerate_broken w f e = go (or_true _ _ e)
    where
      emptied : (k : Shape Number) × (k ∈ (parts_of w).shapes) × (empty_shape (scaled_shape s k) ≡ true) → Breaks s (at p w) DegenerateCommand p
      emptied r =
          let d = shape-drawn w r.1 in
          subst (λ (x : Command). Breaks s (at p x) DegenerateCommand p) (sym d) (empty_broken r.0 (drawn_pathed f d) r.2)

      aimed : (t : Turn Number) → t ∈ (parts_of w).turns → (q : Point Number) × (q ∈ bearings t) × (nowhere (given q) ≡ true) → ((parts_of w).turns ≡ []) ⊎ ((n : Number) × (w ≡ call n (parts_of w).turns)) → Breaks s (at p w) DegenerateCommand p
      aimed t m r (inl h) = absurd (Memᴰ.not-nil (subst (Memᴰ t) h m))
      aimed t m r (inr h) = zero_turn h.0 (parts_of w).turns r.0 h.1 (Memᴰ.cast (sym (bearing_turned t r.1)) m) (nowhere_at r.0 r.2)

      turned : (t : Turn Number) × (t ∈ (parts_of w).turns) × (any (λ d. nowhere (given d)) (bearings t) ≡ true) → Breaks s (at p w) DegenerateCommand p
      turned r = aimed r.0 r.1 (any_found _ _ r.2) (turns-called w)

      go : (any (λ k. empty_shape (scaled_shape s k)) (parts_of w).shapes ≡ true) ⊎ (any (λ t. any (λ d. nowhere (given d)) (bearings t)) (parts_of w).turns ≡ true) → Breaks s (at p w) DegenerateCommand p
      go (inl h) = emptied (any_found _ _ h)
      go (inr h) = turned (any_found _ _ h)

  layerless_broken : (w : Command) → layerless s w ≡ true → Breaks s (at p w) NoLayer p
  unfolding layerless
  layerless_broken w e =
      let r = any_found (λ (k : Shape Number). eqb (length s.layer_set) 0) (parts_of w).shapes e in
      no_layer_lem r.0 (shape-drawn w r.1) (empty_list s.layer_set (eqb-true (length s.layer_set) 0 r.2))

  too_many_broken : (w : Command) → has_too_many w ≡ true → Breaks s (at p w) TooManyParts p
  unfolding has_too_many
  too_many_broken w e = go (or_true _ _ e)
    where
      long : most_turns < length (parts_of w).turns → ((parts_of w).turns ≡ []) ⊎ ((n : Number) × (w ≡ call n (parts_of w).turns)) → Breaks s (at p w) TooManyParts p
      long h (inl i) = absurd (omega (arith, ap length i))
      long h (inr i) = many-turns i.0 (parts_of w).turns i.1 h

      go : (any (λ (k : Shape Number). ltb most_points (length k.points)) (parts_of w).shapes ≡ true) ⊎ (ltb most_turns (length (parts_of w).turns) ≡ true) → Breaks s (at p w) TooManyParts p
      go (inl h) =
          let r = any_found (λ (k : Shape Number). ltb most_points (length k.points)) (parts_of w).shapes h in
          many-points r.0 (shape-drawn w r.1) (ltb-true most_points (length r.0.points) r.2)
      go (inr h) = long (ltb-true most_turns (length (parts_of w).turns) h) (turns-called w)

-- a member of two lists joined is one of the first, or of the second
parted : {A P : Type 0} {a : A} (l : List A) {k : List A} → (a ∈ l → P) → (a ∈ k → P) → a ∈ (l ++ k) → P
parted {A} {P} {a} l {k} f g m = go (Memᴰ.append_cases l m)
  where
    go : (a ∈ l) ⊎ (a ∈ k) → P
    go (inl i) = f i
    go (inr i) = g i

module _ (s : Standing) (c : Placed Command) where
  abbrev Broken : Refusal → Type 0
  Broken r = (rule : Rule) × (r ≡ refuse rule r.place) × Breaks s c rule r.place

  broken : Pathed c.what → {r : Refusal} → r ∈ faults s c → Broken r
  unfolding faults beyond
  broken f {r} m =
      parted (at_numbers NumberTooLarge beyond (numbers_of c.what)) (at_number NumberTooLarge beyond _ (λ d i e. number-beyond d i (ltb-true largest (nat_abs d.what) e)))
      (parted (at_command ZeroFactor (zero_scale c.what) c.place) (at_command_lem ZeroFactor _ (zero_scale_broken s c.place c.what))
      (parted (at_numbers ScaledTooLarge (λ d. beyond (scaled s d)) (distances c.what))
      (at_number ScaledTooLarge (λ d. beyond (scaled s d)) _ (λ d i e. scaled-beyond d i (subst (λ (n : ℕ). largest < n) (abs_scaled s d.what) (ltb-true largest (nat_abs (scaled s d.what)) e))))
      (parted (at_command DegenerateCommand (degenerate s c.what) c.place) (at_command_lem DegenerateCommand _ (degenerate_broken s c.place c.what f))
      (parted (at_command NoLayer (layerless s c.what) c.place) (at_command_lem NoLayer _ (layerless_broken s c.place c.what))
      (at_command_lem TooManyParts _ (too_many_broken s c.place c.what)))))) m
    where
      at_number : (n : Rule) (t : ℤ → Bool) (ds : List Number) → ((d : Number) → d ∈ ds → t d.what ≡ true → Breaks s c n d.place) → r ∈ at_numbers n t ds → Broken r
      at_number n t ds g i = let h = refused-number n t ds i in subst Broken (sym h.same) (n, refl, g h.number h.among h.fails)

      at_command_lem : (n : Rule) (b : Bool) → (b ≡ true → Breaks s c n c.place) → r ∈ at_command n b c.place → Broken r
      at_command_lem n b g i = let h = refused-command n c.place b i in subst Broken (sym h.1) (n, refl, g h.0)

  -- ---- and a rule broken has its refusal

  -- the refusals by each rule
  abbrev threes : List Refusal
  threes = at_numbers NumberTooLarge beyond (numbers_of c.what)

  abbrev fours : List Refusal
  fours = at_command ZeroFactor (zero_scale c.what) c.place

  abbrev sixes : List Refusal
  sixes = at_numbers ScaledTooLarge (λ d. beyond (scaled s d)) (distances c.what)

  abbrev sevens : List Refusal
  sevens = at_command DegenerateCommand (degenerate s c.what) c.place

  abbrev eights : List Refusal
  eights = at_command NoLayer (layerless s c.what) c.place

  abbrev nines : List Refusal
  nines = at_command TooManyParts (has_too_many c.what) c.place

  among_threes : {r : Refusal} → r ∈ threes → r ∈ faults s c
  unfolding faults
  among_threes m = Memᴰ.append_left _ m

  among_fours : {r : Refusal} → r ∈ fours → r ∈ faults s c
  unfolding faults
  among_fours m = Memᴰ.append_right threes (Memᴰ.append_left _ m)

  among_sixes : {r : Refusal} → r ∈ sixes → r ∈ faults s c
  unfolding faults
  among_sixes m = Memᴰ.append_right threes (Memᴰ.append_right fours (Memᴰ.append_left _ m))

  -- the refusals that stand at the command, from 7 on
  behind_sixes : {r : Refusal} → r ∈ (sevens ++ (eights ++ nines)) → r ∈ faults s c
  unfolding faults
  behind_sixes m = Memᴰ.append_right threes (Memᴰ.append_right fours (Memᴰ.append_right sixes m))

  among_sevens : degenerate s c.what ≡ true → refuse DegenerateCommand c.place ∈ faults s c
  among_sevens e = behind_sixes (Memᴰ.append_left _ (command-refused DegenerateCommand c.place (degenerate s c.what) e))

  among_eights : layerless s c.what ≡ true → refuse NoLayer c.place ∈ faults s c
  among_eights e = behind_sixes (Memᴰ.append_right sevens (Memᴰ.append_left _ (command-refused NoLayer c.place (layerless s c.what) e)))

  among_nines : has_too_many c.what ≡ true → refuse TooManyParts c.place ∈ faults s c
  among_nines e = behind_sixes (Memᴰ.append_right sevens (Memᴰ.append_right eights (command-refused TooManyParts c.place (has_too_many c.what) e)))

  empty-degenerate : (k : Shape Number) → c.what ≡ draw k → empty_shape (scaled_shape s k) ≡ true → refuse DegenerateCommand c.place ∈ faults s c
  unfolding degenerate parts_of any
  empty-degenerate k e h = among_sevens (subst (λ (w : Command). degenerate s w ≡ true) (sym e) (or_one _ _ (inl (or_one _ _ (inl h)))))

  nowhere-test : (q : Point Number) → Nowhere q → nowhere (given q) ≡ true
  nowhere-test q h = rw (eq-eqb (nat_abs q.x.what) 0 h.no_x, eq-eqb (nat_abs q.y.what) 0 h.no_y)

  zero-empty : (k : Shape Number) → (any zero? (scaled_shape s k).sizes ≡ true) ⊎ (any nowhere (scaled_shape s k).directions ≡ true) → empty_shape (scaled_shape s k) ≡ true
  unfolding empty_shape
  zero-empty k h = or_one _ _ (inl (or_one (any zero? (scaled_shape s k).sizes) (any nowhere (scaled_shape s k).directions) h))

  few-empty : (k : Shape Number) → k.kind ≡ polygon → length k.points < 3 → empty_shape (scaled_shape s k) ≡ true
  unfolding empty_shape scaled_shape least
  few-empty k e h =
      or_one (any zero? (scaled_shape s k).sizes || any nowhere (scaled_shape s k).directions) _ (inr (lt-ltb (length (map (scaled_point s) k.points)) (least k.kind)
      (subst (λ (x : Kind). length (map (scaled_point s) k.points) < least x) (sym e) (omega (arith, length-map (scaled_point s) k.points)))))

  listed : {n : Rule} {p : ℕ} → Breaks s c n p → refuse n p ∈ faults s c
  unfolding beyond zero_scale degenerate layerless has_too_many parts_of bearings any scaled_shape
  listed (number-beyond d m h) = among_threes (number-refused NumberTooLarge beyond m (lt-ltb largest (nat_abs d.what) h))
  listed (zero_factor_lem n a b e h) = among_fours (command-refused ZeroFactor c.place (zero_scale c.what) (subst (λ (w : Command). zero_scale w ≡ true) (sym e) (go h)))
    where
      go : (nat_abs a.what ≡ 0) ⊎ (nat_abs b.what ≡ 0) → (zero? a.what || (zero? b.what || false)) ≡ true
      go (inl i) = or_one (zero? a.what) _ (inl (eq-eqb (nat_abs a.what) 0 i))
      go (inr i) = or_one (zero? a.what) _ (inr (or_one (zero? b.what) false (inl (eq-eqb (nat_abs b.what) 0 i))))
  listed (scaled-beyond d m h) = among_sixes (number-refused ScaledTooLarge (λ x. beyond (scaled s x)) m (lt-ltb largest (nat_abs (scaled s d.what)) (subst (λ (n : ℕ). largest < n) (sym (abs_scaled s d.what)) h)))
  listed (zero-size k d e m h) =
      empty-degenerate k e (zero-empty k (inl (any_map zero? (λ (x : Number). scaled s x.what) k.sizes ∙ any_has (λ x. zero? (scaled s x.what)) m (eq-eqb _ 0 (abs_scaled s d.what ∙ h)))))
  listed (zero_direction k q e m h) = empty-degenerate k e (zero-empty k (inr (any_map nowhere given k.directions ∙ any_has (λ x. nowhere (given x)) m (nowhere-test q h))))
  listed (zero_turn n ts q e m h) =
      among_sevens (subst (λ (w : Command). degenerate s w ≡ true) (sym e)
      (any_has (λ t. any (λ d. nowhere (given d)) (bearings t)) m (or_one (nowhere (given q)) _ (inl (nowhere-test q h)))))
  listed (few-points k e h i) = empty-degenerate k e (few-empty k h i)
  listed (no_layer_lem k e h) =
      among_eights (subst (λ (w : Command). layerless s w ≡ true) (sym e) (or_one _ _ (inl (ap (λ (l : List ℕ). eqb (length l) 0) h))))
  listed (many-points k e h) =
      among_nines (subst (λ (w : Command). has_too_many w ≡ true) (sym e) (or_one _ _ (inl (or_one _ _ (inl (lt-ltb most_points (length k.points) h))))))
  listed (many-turns n ts e h) = among_nines (subst (λ (w : Command). has_too_many w ≡ true) (sym e) (lt-ltb most_turns (length ts) h))

-- ---- the first refusal of a command is the least, by the order of the rules and then by place

abbrev rank_of : Refusal → ℕ
rank_of r = rank_in order (number_of r.rule)

abbrev Before : Refusal → Refusal → Type 0
Before r q = (rank_of r < rank_of q) ⊎ ((rank_of r ≡ rank_of q) × (r.place ≤ q.place))

unfoldable Least : List Refusal → Type 0
Least [] = Unit {0}
Least (r ∷ l) = All (Before r) l

-- refusals by the rule of rank n; and by rules after it
record Ranked (n : ℕ) (l : List Refusal) : Type 0 where
  ranks : All (λ (r : Refusal). rank_of r ≡ n) l
  in_order : Least l

record After (n : ℕ) (l : List Refusal) : Type 0 where
  later : All (λ (r : Refusal). n < rank_of r) l
  in_order : Least l

pub all_so : {A : Type 0} (P Q : A → Type 0) → ((a : A) → P a → Q a) → (l : List A) → All P l → All Q l
all_so P Q f l x = all_both P P Q (λ a p q. f a p) l x x

behind : {k n : ℕ} (a : List Refusal) → k < n → Ranked n a → After k a
behind {k} {n} a h x = record { later = all_so (λ (r : Refusal). rank_of r ≡ n) (λ (r : Refusal). k < rank_of r) (λ r e. subst (λ (i : ℕ). k < i) (sym e) h) a x.ranks; in_order = x.in_order }

joined-order : {n : ℕ} (a b : List Refusal) → All (λ (r : Refusal). rank_of r ≡ n) a → Least a → After n b → Least (a ++ b)
unfolding Least All
joined-order [] b x o y = y.in_order
joined-order {n} (r ∷ a) b x o y = all-++ (Before r) a b o (all_so (λ (q : Refusal). n < rank_of q) (Before r) (λ q e. inl (subst (λ (i : ℕ). i < rank_of q) (sym x.0) e)) b y.later)

joined : {k n : ℕ} (a b : List Refusal) → k < n → Ranked n a → After n b → After k (a ++ b)
joined {k} {n} a b h x y =
    record {
      later =
          all-++ (λ (r : Refusal). k < rank_of r) a b (behind a h x).later
          (all_so (λ (r : Refusal). n < rank_of r) (λ (r : Refusal). k < rank_of r) (λ r e. further (rank_of r) e) b y.later);
      in_order = joined-order a b x.ranks x.in_order y;
    }
  where
    further : (i : ℕ) → n < i → k < i
    further i g = omega arith

one_refusal : (n : Rule) (p : ℕ) (b : Bool) → Ranked (rank n) (at_command n b p)
unfolding Least All
one_refusal n p true = record { ranks = (refl, tt); in_order = tt }
one_refusal n p false = record { ranks = tt; in_order = tt }

-- of numbers that rise, where idle ones never fail
module _ (Idle : ℤ → Type 0) (n : Rule) (t : ℤ → Bool) (passes : (z : ℤ) → Idle z → t z ≡ false) where
  abbrev From : ℕ → Refusal → Type 0
  From low r = (rank_of r ≡ rank n) × (low ≤ r.place)

  abbrev refusals : List Number → List Refusal
  refusals ds = map (λ d. refuse n d.place) (those (λ d. t d.what) ds)

  all_from : {low high : ℕ} {ds : List Number} → Rising Idle low high ds → All (From low) (refusals ds)
  unfolding those All
  all_from done = tt
  all_from (idle {d} {ds} z r) = rw (passes d.what z) (all_from r)
  all_from {low} (stands {d} {ds} a b r) = go (t d.what) (all_so (From (suc d.place)) (From low) (λ q e. (e.0, omega (arith, e.1))) (refusals ds) (all_from r))
    where
      go : (b : Bool) → All (From low) (refusals ds) → All (From low) (map (λ x. refuse n x.place) (if b then d ∷ those (λ x. t x.what) ds else those (λ x. t x.what) ds))
      go true x = ((refl, a), x)
      go false x = x

  least_first : {low high : ℕ} {ds : List Number} → Rising Idle low high ds → Least (refusals ds)
  unfolding those Least All
  least_first done = tt
  least_first (idle {d} {ds} z r) = rw (passes d.what z) (least_first r)
  least_first (stands {d} {ds} a b r) = go (t d.what) (all_from r) (least_first r)
    where
      go : (b : Bool) → All (From (suc d.place)) (refusals ds) → Least (refusals ds) → Least (map (λ x. refuse n x.place) (if b then d ∷ those (λ x. t x.what) ds else those (λ x. t x.what) ds))
      go true x y = all_so (From (suc d.place)) (Before (refuse n d.place)) (λ q e. inr (sym e.0, omega (arith, e.1))) (refusals ds) x
      go false x y = y

  rising_refusals : {low high : ℕ} {ds : List Number} → Rising Idle low high ds → Ranked (rank n) (at_numbers n t ds)
  unfolding at_numbers
  rising_refusals {low} {high} {ds} r = record { ranks = all_so (From low) (λ (q : Refusal). rank_of q ≡ rank n) (λ q e. e.0) (refusals ds) (all_from r); in_order = least_first r }

module _ (s : Standing) where
  small-within : (z : ℤ) → Small z → beyond z ≡ false
  unfolding beyond
  small-within z h = le-ltb largest (nat_abs z) (omega arith)

  null_scaled : (z : ℤ) → Null z → nearest (s.a * nat_abs z) s.b ≡ 0
  null_scaled z h = ap (λ (n : ℕ). nearest n s.b) (ap (λ (n : ℕ). s.a * n) h ∙ mul-zero s.a) ∙ nearest_zero s.b

  null_within : (z : ℤ) → Null z → beyond (scaled s z) ≡ false
  unfolding beyond
  null_within z h = le-ltb largest (nat_abs (scaled s z)) (omega (arith, abs_scaled s z, null_scaled z h))

  faults-least : (c : Placed Command) (high : ℕ) → Stands high c → Least (faults s c)
  unfolding faults
  faults-least c high h =
      (joined {k = 0} (threes s c) _ (omega arith) (rising_refusals Small NumberTooLarge beyond small-within h.numbers_rise)
      (joined (fours s c) _ (omega arith) (one_refusal ZeroFactor c.place (zero_scale c.what))
      (joined (sixes s c) _ (omega arith) (rising_refusals Null ScaledTooLarge (λ d. beyond (scaled s d)) null_within h.distances_rise)
      (joined (sevens s c) _ (omega arith) (one_refusal DegenerateCommand c.place (degenerate s c.what))
      (joined (eights s c) _ (omega arith) (one_refusal NoLayer c.place (layerless s c.what)) (behind (nines s c) (omega arith) (one_refusal TooManyParts c.place (has_too_many c.what)))))))
      ).in_order

-- ---- the first rule broken

cons_head : {A : Type 0} {a b : A} {k l : List A} → ◌≡◌ {A = List A} (a ∷ k) (b ∷ l) → a ≡ b
cons_head e = cc

cons_tail : {A : Type 0} {a b : A} {k l : List A} → ◌≡◌ {A = List A} (a ∷ k) (b ∷ l) → k ≡ l
cons_tail e = cc

no_split : {A : Type 0} (k : List A) (a : A) (l : List A) → ◌≡◌ {A = List A} [] (k ++ (a ∷ l)) → ⊥
no_split [] a l e = nil≢cons e
no_split (b ∷ k) a l e = nil≢cons e

-- what is known of a command of a text whose length is `high`
pub record InText (high : ℕ) (c : Placed Command) : Type 0 where
  pub stand : Stands high c
  pub path : Pathed c.what

pub commands-written : {t : List ℕ} {m : List Letter} → Marked t m → All (InText (length t)) (commands 0 m)
commands-written {t} {m} k =
    all_both (Stands (length t)) (λ (c : Placed Command). Pathed c.what) (InText (length t)) (λ c x y. record { stand = x; path = y }) (commands 0 m)
    (commands_stand 0 (length t) m (omega (arith, as_long k))) (commands_pathed k.rule)

nothing-listed : {A : Type 0} {r : Refusal} {l : List Refusal} → r ∈ l → l ≡ [] → A
nothing-listed {r = r} m e = absurd (Memᴰ.not-nil (subst (Memᴰ r) e m))

module _ (s : Standing) (c : Placed Command) (high : ℕ) (w : InText high c) where
  -- the first refusal goes before every rule broken
  first-earlier : (r : Refusal) (l : List Refusal) → faults s c ≡ r ∷ l → {n : Rule} {p : ℕ} → Breaks s c n p → Before r (refuse n p)
  first-earlier r l e {n} {p} b = go (Memᴰ.cases_cons (subst (Memᴰ (refuse n p)) e (listed s c b)))
    where
      others : All (Before r) l
      others = unfold Least in (subst Least e (faults-least s c high w.stand))

      go : (refuse n p ≡ r) ⊎ (refuse n p ∈ l) → Before r (refuse n p)
      go (inl h) = inr (sym (ap rank_of h), omega (arith, ap (λ (q : Refusal). q.place) h))
      go (inr m) = all_member (Before r) m others

  first_broken : (r : Refusal) (l : List Refusal) → faults s c ≡ r ∷ l → Broken s c r
  first_broken r l e = broken s c w.path (subst (Memᴰ r) (sym e) (Memᴰ.head refl))

unbroken_on : (s : Standing) (c : Placed Command) (cs : List (Placed Command)) → faults s c ≡ [] → UnbrokenFrom (after c.what s) cs → UnbrokenFrom s (c ∷ cs)
unbroken_on s c cs e u [] d behind h n p b = nothing-listed (listed s c (subst (λ (x : Placed Command). Breaks s x n p) (sym (cons_head h)) b)) e
unbroken_on s c cs e u (x ∷ before) d behind h n p b =
    u before d behind (cons_tail h) n p (subst (λ (y : Placed Command). Breaks (standing (after y.what s) before) d n p) (sym (cons_head h)) b)

-- no fault is found exactly where no rule is broken
faultless_unbroken : (s : Standing) (cs : List (Placed Command)) → all_faults s cs ≡ [] → UnbrokenFrom s cs
unfolding all_faults
faultless_unbroken s [] e = λ before d behind h n p b. no_split before d behind h
faultless_unbroken s (c ∷ cs) e = unbroken_on s c cs (nil-left (faults s c) _ e) (faultless_unbroken (after c.what s) cs (nil-right (faults s c) _ e))

unbroken_faultless : (high : ℕ) (s : Standing) (cs : List (Placed Command)) → All (InText high) cs → UnbrokenFrom s cs → all_faults s cs ≡ []
unfolding all_faults All
unbroken_faultless high s [] x u = refl
unbroken_faultless high s (c ∷ cs) x u =
    rw (own (faults s c) refl) (unbroken_faultless high (after c.what s) cs x.1 (λ before d behind h. u (c ∷ before) d behind (ap (λ (l : List (Placed Command)). c ∷ l) h)))
  where
    own : (l : List Refusal) → faults s c ≡ l → faults s c ≡ []
    own [] e = e
    own (r ∷ l) e = let (rule, h, b) = first_broken s c high x.0 r l e in absurd (u [] c cs refl rule r.place b)

-- the faults of commands, and then of others
faults_on : (s : Standing) (cs ds : List (Placed Command)) → all_faults s (cs ++ ds) ≡ all_faults s cs ++ all_faults (standing s cs) ds
unfolding all_faults
faults_on s [] ds = refl
faults_on s (c ∷ cs) ds = ap (λ (l : List Refusal). faults s c ++ l) (faults_on (after c.what s) cs ds) ∙ sym (append_assoc (faults s c) _ _)

some_same : {A : Type 0} {a b : A} → ◌≡◌ {A = Option A} (some a) (some b) → a ≡ b
some_same e = cc

no_first : {A B : Type 0} {a : A} → ◌≡◌ {A = Option A} none (some a) → B
no_first e = let z : ◌≡◌ {A = ℕ} 0 1 = cc in absurd (omega arith)

-- the rule of a refusal, and that it is the first broken
abbrev pub FirstRule : Standing → List (Placed Command) → Refusal → Type 0
FirstRule s cs r = (rule : Rule) × (r ≡ refuse rule r.place) × FirstBreakFrom s cs rule r.place

fault_broken : (high : ℕ) (s : Standing) (cs : List (Placed Command)) → All (InText high) cs → (r : Refusal) → first (all_faults s cs) ≡ some r → FirstRule s cs r
unfolding all_faults first All
fault_broken high s [] x r e = no_first e
fault_broken high s (c ∷ cs) x r e = go (faults s c) refl (fault_broken high (after c.what s) cs x.1 r) e
  where
    further : faults s c ≡ [] → FirstRule (after c.what s) cs r → FirstRule s (c ∷ cs) r
    further h (rule, i, f) = (
      rule,
      i,
      record {
        before = c ∷ f.before;
        command = f.command;
        behind = f.behind;
        split = ap (λ (l : List (Placed Command)). c ∷ l) f.split;
        breaks = f.breaks;
        none_before = unbroken_on s c f.before h f.none_before;
        none_earlier = f.none_earlier;
        none_nearer = f.none_nearer;
      },
    )

    here : (l : List Refusal) → faults s c ≡ r ∷ l → FirstRule s (c ∷ cs) r
    here l h = by_rule (first_broken s c high x.0 r l h)
      where
        not_earlier : (n : Rule) (p : ℕ) → Before r (refuse n p) → rank n < rank_of r → ⊥
        not_earlier n p (inl i) g = omega arith
        not_earlier n p (inr i) g = omega (arith, i.0)

        not_nearer : (n : Rule) (p : ℕ) → Before r (refuse n p) → rank_of r ≡ rank n → p < r.place → ⊥
        not_nearer n p (inl i) e g = omega arith
        not_nearer n p (inr i) e g = omega (arith, i.1)

        by_rule : Broken s c r → FirstRule s (c ∷ cs) r
        by_rule (rule, i, b) = (
          rule,
          i,
          record {
            before = [];
            command = c;
            behind = cs;
            split = refl;
            breaks = b;
            none_before = λ before d behind g n p b. no_split before d behind g;
            none_earlier = λ n p g b. not_earlier n p (first-earlier s c high x.0 r l h b) (subst (λ (q : Refusal). rank n < rank_of q) (sym i) g);
            none_nearer = λ p g b. not_nearer rule p (first-earlier s c high x.0 r l h b) (ap rank_of i) g;
          },
        )

    go : (l : List Refusal) → faults s c ≡ l → (first (all_faults (after c.what s) cs) ≡ some r → FirstRule (after c.what s) cs r)
        → first (l ++ all_faults (after c.what s) cs) ≡ some r → FirstRule s (c ∷ cs) r
    go [] h f g = further h (f g)
    go (q ∷ l) h f g = here l (h ∙ ap (λ (y : Refusal). y ∷ l) (some_same g))

broken_fault : (high : ℕ) (s : Standing) (cs : List (Placed Command)) → All (InText high) cs → {rule : Rule} {place : ℕ} → FirstBreakFrom s cs rule place → first (all_faults s cs) ≡ some (refuse rule place)
unfolding all_faults first All
broken_fault high s cs x {rule} {place} f =
    ap (λ (l : List (Placed Command)). first (all_faults s l)) f.split
    ∙ ap (λ (l : List Refusal). first l) (faults_on s f.before (f.command ∷ f.behind))
    ∙ ap (λ (l : List Refusal). first (l ++ all_faults (standing s f.before) (f.command ∷ f.behind))) (unbroken_faultless high s f.before (all_left _ f.before _ all) f.none_before)
    ∙ go (faults (standing s f.before) f.command) refl
  where
    all : All (InText high) (f.before ++ (f.command ∷ f.behind))
    all = subst (All (InText high)) f.split x

    own : InText high f.command
    own = (all_right (InText high) f.before (f.command ∷ f.behind) all).0

    same : (r : Refusal) → Broken (standing s f.before) f.command r → Before r (refuse rule place) → r ≡ refuse rule place
    same r (q, e, b) (inl h) = absurd (f.none_earlier q r.place (subst (λ (i : Refusal). rank_of i < rank rule) e h) b)
    same r (q, e, b) (inr h) =
        let one : q ≡ rule = one_rank q rule (sym (ap rank_of e) ∙ h.0) in
        let nearer : r.place < place → ⊥ = λ i. f.none_nearer r.place i (subst (λ (n : Rule). Breaks (standing s f.before) f.command n r.place) one b) in
        e ∙ ap₂ {C = Refusal} (λ (n : Rule) (p : ℕ). refuse n p) one (omega (arith, h.1, nearer))

    go : (l : List Refusal) → faults (standing s f.before) f.command ≡ l
        → first (l ++ all_faults (after f.command.what (standing s f.before)) f.behind) ≡ some (refuse rule place)
    go [] h = nothing-listed (listed (standing s f.before) f.command f.breaks) h
    go (r ∷ l) h =
        ap (λ (q : Refusal). some q)
        (same r (first_broken (standing s f.before) f.command high own r l h) (first-earlier (standing s f.before) f.command high own r l h f.breaks))

-- RULES 12, refusals 3 to 9: the first fault of a text is by the first rule that its commands break
pub fault-rule : {t : List ℕ} {m : List Letter} → Marked t m → {r : Refusal} → first_fault (commands 0 m) ≡ some r → FirstRule (outside []) (commands 0 m) r
unfolding first_fault
fault-rule {t} {m} k {r} e = fault_broken (length t) (outside []) (commands 0 m) (commands-written k) r e

pub first-fault : {t : List ℕ} {m : List Letter} → Marked t m → {rule : Rule} {place : ℕ}
    → (first_fault (commands 0 m) ≡ some (refuse rule place)) ↔ FirstBreak (commands 0 m) rule place
unfolding first_fault
first-fault {t} {m} k {rule} {place} = (
  λ e. let (q, h, f) = fault-rule k e in subst (λ (r : Rule). FirstBreak (commands 0 m) r place) (one_rule q rule (sym h)) f,
  broken_fault (length t) (outside []) (commands 0 m) (commands-written k),
)

-- and it has none exactly where no command breaks a rule
pub no_first-fault : {t : List ℕ} {m : List Letter} → Marked t m → (first_fault (commands 0 m) ≡ none) ↔ Unbroken (commands 0 m)
unfolding first_fault first
no_first-fault {t} {m} k = (
  λ e. faultless_unbroken (outside []) (commands 0 m) (no_fault (all_faults (outside []) (commands 0 m)) e),
  λ u. ap (λ (l : List Refusal). first l) (unbroken_faultless (length t) (outside []) (commands 0 m) (commands-written k) u),
)

-- ---- the ranks and the places of the rules

pub rule_ranked : {s : Standing} {c : Placed Command} {n : Rule} {p : ℕ} → Breaks s c n p → ByCommand n
rule_ranked (number-beyond d m h) = record { least = omega arith; most = omega arith }
rule_ranked (zero_factor_lem n a b e h) = record { least = omega arith; most = omega arith }
rule_ranked (scaled-beyond d m h) = record { least = omega arith; most = omega arith }
rule_ranked (zero-size k d e m h) = record { least = omega arith; most = omega arith }
rule_ranked (zero_direction k q e m h) = record { least = omega arith; most = omega arith }
rule_ranked (zero_turn n ts q e m h) = record { least = omega arith; most = omega arith }
rule_ranked (few-points k e h i) = record { least = omega arith; most = omega arith }
rule_ranked (no_layer_lem k e h) = record { least = omega arith; most = omega arith }
rule_ranked (many-points k e h) = record { least = omega arith; most = omega arith }
rule_ranked (many-turns n ts e h) = record { least = omega arith; most = omega arith }

-- a number that is not idle stands where the numbers rise
not_idle : {Idle : ℤ → Type 0} {low high : ℕ} {d : Number} {ds : List Number} → Rising Idle low high ds → d ∈ ds → (Idle d.what → ⊥) → d.place < high
not_idle done m f = absurd (Memᴰ.not-nil m)
not_idle {Idle} {low} {high} {d} (idle {d = x} {ds} z r) m f = go (Memᴰ.cases_cons m) (λ i. not_idle r i f)
  where
    go : (d ≡ x) ⊎ (d ∈ ds) → (d ∈ ds → d.place < high) → d.place < high
    go (inl e) g = absurd (f (subst (λ (y : Number). Idle y.what) (sym e) z))
    go (inr i) g = g i
not_idle {Idle} {low} {high} {d} (stands {d = x} {ds} a b r) m f = go (Memᴰ.cases_cons m) (λ i. not_idle r i f)
  where
    go : (d ≡ x) ⊎ (d ∈ ds) → (d ∈ ds → d.place < high) → d.place < high
    go (inl e) g = subst (λ (y : Number). y.place < high) (sym e) b
    go (inr i) g = g i

rule-place : {s : Standing} {c : Placed Command} {high : ℕ} {n : Rule} {p : ℕ} → Stands high c → Breaks s c n p → p < high
rule-place {s} {c} x (number-beyond d m h) = not_idle x.numbers_rise m (λ z. omega arith)
rule-place {s} {c} x (zero_factor_lem n a b e h) = x.within
rule-place {s} {c} x (scaled-beyond d m h) = not_idle x.distances_rise m (λ z. omega (arith, null_scaled s d.what z))
rule-place {s} {c} x (zero-size k d e m h) = x.within
rule-place {s} {c} x (zero_direction k q e m h) = x.within
rule-place {s} {c} x (zero_turn n ts q e m h) = x.within
rule-place {s} {c} x (few-points k e h i) = x.within
rule-place {s} {c} x (no_layer_lem k e h) = x.within
rule-place {s} {c} x (many-points k e h) = x.within
rule-place {s} {c} x (many-turns n ts e h) = x.within

pub break_place : {t : List ℕ} {m : List Letter} → Marked t m → {rule : Rule} {place : ℕ} → FirstBreak (commands 0 m) rule place → place < length t
unfolding All
break_place {t} {m} k f =
    let all : All (InText (length t)) (f.before ++ (f.command ∷ f.behind)) = subst (All (InText (length t))) f.split (commands-written k) in
    rule-place (all_right (InText (length t)) f.before (f.command ∷ f.behind) all).0.stand f.breaks
