-- The recogniser goes as the grammar does: each step is sound and complete, and every live state has a completion. All that is said above a
-- state, a depth and a byte rests on this file.
-- Assumes nothing.
use mathlib.Core.Path.{◌≡◌, refl, sym, ap, ◌∙◌, subst}
use mathlib.Core.Bool.{Bool, true, false, not, ◌&&◌, ◌||◌}
use mathlib.Core.List.{List, [], ◌∷◌, append-nil}
use mathlib.Core.Logic.{◌⊎◌, inl, inr}
use Prim.Native.Nat.{ℕ, zero, suc, ◌+◌, ◌-◌, ◌*◌, ◌/◌, ◌%◌, ◌≤◌, ◌<◌}
use native.Mathlib.Nat.{not-suc-le-zero, le_of_suc-le-suc}
use native.Mathlib.Numerals.{add-one}
use native.Mathlib.Omega.{arith}
use borrow.Author.Tests.{ltb-true, ltb-false, eqb-false}
use lib.Dec.{T, ltb, leb, eqb, ltb→lt, leb→le, eqb→eq, eqb-suc-zero}
use lib.ListN.{length, get_or}
use Rattle.grammar.specs.Notation.{Class, Role, Letter, Expression, Match, has, is, dec, skip, head, second, turn, axis, sign, lead, later, name, stop, Digit, Upper, Blank, User, Comment, lpar, rpar, semicolon}
use Rattle.grammar.specs.Notation.{'-', 'B', 'C', 'D', 'E', 'F', 'L', 'M', 'P', 'R', 'S', 'T', 'W', 'X', 'Y'}
use Rattle.grammar.specs.Productions.{cif_file}
use Rattle.grammar.specs.Tables.{kinds, samples, table, roles, ends, letter, kind_count, entry_count, role_count, state_count, lpar_kind, stuck, rpar_kind, deep, role_unit, foreign_kind, accepting}
use Rattle.grammar.specs.Steps.{choose, kind_of, next_of, entry_of, mode_after, entered, within, mode, mark_of, role_of, number}
use Rattle.grammar.specs.declared.Mode.{Mode}
use Rattle.grammar.proofs.Derivatives.{Choice, Item, end, next, Items, here, there, push, push_in, push_out, derive}
use Rattle.grammar.proofs.Items.{no_items, derive_items, derive_item, complete, sound, final, final_sound, part, part_sound}
use Rattle.grammar.proofs.Roles.{sole, sole_seq, sole_items, sole_items_role}
use Rattle.grammar.proofs.Tests.{and_left, and_right, and_both, or_right, or_cases, bit_eq, same_bit, every_at, upto_at}
use Rattle.grammar.proofs.Fitting.{deepen, labels, entry, ranged, fits, table_fits, classes, alike, kind_fits, kinds-fit, sample_fits, samples-fit, reach, last_one_fits, last_fits, labels_first, role_fits, roles-fit, every_entry}

-- tests, turned into facts
alike_at : (cs : List Class) (a b : ℕ) → T (alike cs a b) → (n : ℕ) (d : Class) → n < length cs → has (get_or cs n d) a ≡ has (get_or cs n d) b
alike_at [] a b t n d h = absurd (not-suc-le-zero h)
alike_at (c ∷ cs) a b t zero d h = bit_eq (has c a) (has c b) (and_left (same_bit (has c a) (has c b)) (alike cs a b) t)
alike_at (c ∷ cs) a b t (suc n) d h = alike_at cs a b (and_right (same_bit (has c a) (has c b)) (alike cs a b) t) n d (le_of_suc-le-suc h)

alike_all : (a b : ℕ) → T (alike classes a b) → (c : Class) → has c a ≡ has c b
alike_all a b t Digit = alike_at classes a b t 0 Digit (omega arith)
alike_all a b t Upper = alike_at classes a b t 1 Digit (omega arith)
alike_all a b t Blank = alike_at classes a b t 2 Digit (omega arith)
alike_all a b t User = alike_at classes a b t 3 Digit (omega arith)
alike_all a b t Comment = alike_at classes a b t 4 Digit (omega arith)
alike_all a b t '-' = alike_at classes a b t 5 Digit (omega arith)
alike_all a b t lpar = alike_at classes a b t 6 Digit (omega arith)
alike_all a b t rpar = alike_at classes a b t 7 Digit (omega arith)
alike_all a b t semicolon = alike_at classes a b t 8 Digit (omega arith)
alike_all a b t 'B' = alike_at classes a b t 9 Digit (omega arith)
alike_all a b t 'C' = alike_at classes a b t 10 Digit (omega arith)
alike_all a b t 'D' = alike_at classes a b t 11 Digit (omega arith)
alike_all a b t 'E' = alike_at classes a b t 12 Digit (omega arith)
alike_all a b t 'F' = alike_at classes a b t 13 Digit (omega arith)
alike_all a b t 'L' = alike_at classes a b t 14 Digit (omega arith)
alike_all a b t 'M' = alike_at classes a b t 15 Digit (omega arith)
alike_all a b t 'P' = alike_at classes a b t 16 Digit (omega arith)
alike_all a b t 'R' = alike_at classes a b t 17 Digit (omega arith)
alike_all a b t 'S' = alike_at classes a b t 18 Digit (omega arith)
alike_all a b t 'T' = alike_at classes a b t 19 Digit (omega arith)
alike_all a b t 'W' = alike_at classes a b t 20 Digit (omega arith)
alike_all a b t 'X' = alike_at classes a b t 21 Digit (omega arith)
alike_all a b t 'Y' = alike_at classes a b t kind_count Digit (omega arith)

-- the byte that stands for a byte's kind
unfoldable pub stand : ℕ → ℕ
stand k = get_or samples k 0

kind-test : (a : ℕ) → a < 256 → T (kind_fits a (kind_of a))
unfolding kind_of kinds
kind-test a h = every_at kind_fits kinds kinds-fit a h

pub kind-below : (a : ℕ) → a < 256 → kind_of a < kind_count
unfolding kind_fits
kind-below a h = ltb→lt (kind_of a) kind_count (and_left (ltb (kind_of a) kind_count) (alike classes a (get_or samples (kind_of a) 0)) (kind-test a h))

pub agree : (a : ℕ) → a < 256 → (c : Class) → has c a ≡ has c (stand (kind_of a))
unfolding kind_fits stand
agree a h = alike_all a (get_or samples (kind_of a) 0) (and_right (ltb (kind_of a) kind_count) (alike classes a (get_or samples (kind_of a) 0)) (kind-test a h))

-- the texts of a state and a depth
pub label : ℕ → Choice
label q = get_or labels q []

abbrev pub Lang : ℕ → ℕ → List Letter → Type 0
Lang q d w = Items (deepen d (label q)) w

pub deepen_zero : (is : Choice) → deepen 0 is ≡ is
deepen_zero [] = refl
deepen_zero (i ∷ is) = ap (λ (l : Choice). i ∷ l) (deepen_zero is)

-- the table's entry at a state and a kind
pub table-length : length table ≡ entry_count
unfolding table
table-length = refl

pub role : ℕ → ℕ → Role
role q k = get_or roles (get_or table (q * kind_count + k) 0 / role_unit) skip

pub record Row (q k : ℕ) : Type 0 where
  pub range : T (ranged (next_of q k))
  pub numbered : get_or table (q * kind_count + k) 0 / role_unit < role_count
  pub sole : T (sole_items (stand k) (role q k) (label q))
  pub into : T (part (derive_items (letter (stand k) (role q k)) (label q)) (entry labels (next_of q k)))
  pub back : T (part (entry labels (next_of q k)) (derive_items (letter (stand k) (role q k)) (label q)))

abbrev Tested : ℕ → ℕ → ℕ → ℕ → Role → Type 0
Tested b q x n ρ = T ((ranged x && ltb n role_count) && (sole_items b ρ (label q) && (part (derive_items (letter b ρ) (label q)) (entry labels x) && part (entry labels x) (derive_items (letter b ρ) (label q)))))

-- what a test of every entry says of the entry at a state and a kind
pub entry_at : (f : ℕ → ℕ → ℕ → Bool) → T (every_entry f table) → (q k : ℕ) → q < state_count → k < kind_count → T (f q k (get_or table (q * kind_count + k) 0))
entry_at f t q k hq hk =
    let i = q * kind_count + k in
    let x = get_or table i 0 in
    let hi : i < entry_count = omega arith in
    let ek : i % kind_count ≡ k = omega arith in
    let eq : i / kind_count ≡ q = omega arith in
    let u : T (f (i / kind_count) (i % kind_count) x) = every_at (λ j y. f (j / kind_count) (j % kind_count) y) table t i (subst (λ (n : ℕ). i < n) (sym table-length) hi) in
    subst (λ (k' : ℕ). T (f q k' x)) ek (subst (λ (q' : ℕ). T (f q' (i % kind_count) x)) eq u)

row : (q k : ℕ) → q < state_count → k < kind_count → Row q k
unfolding next_of stand label role fits
row q k hq hk = go (entry_at (fits labels) table_fits q k hq hk)
  where
    go : Tested (stand k) q (next_of q k) (get_or table (q * kind_count + k) 0 / role_unit) (role q k) → Row q k
    go t =
        let x : ℕ = next_of q k in
        let n : ℕ = get_or table (q * kind_count + k) 0 / role_unit in
        let g : T (ranged x && ltb n role_count) = and_left (ranged x && ltb n role_count) _ t in
        let u = and_right (ranged x && ltb n role_count) _ t in
        let v = and_right (sole_items (stand k) (role q k) (label q)) _ u in
        let d = derive_items (letter (stand k) (role q k)) (label q) in
        record {
          range = and_left (ranged x) _ g;
          numbered = ltb→lt n role_count (and_right (ranged x) _ g);
          sole = and_left (sole_items (stand k) (role q k) (label q)) _ u;
          into = and_left (part d (entry labels x)) _ v;
          back = and_right (part d (entry labels x)) _ v;
        }

ranges : (x : ℕ) → T (ranged x) → (x < state_count) ⊎ ((x ≡ stuck) ⊎ ((deep ≤ x) × (x < deep + state_count)))
ranges x t = go (or_cases (ltb x state_count) _ t)
  where
    last : T (leb deep x && ltb x (deep + state_count)) → (deep ≤ x) × (x < deep + state_count)
    last h = (leb→le deep x (and_left (leb deep x) _ h), ltb→lt x (deep + state_count) (and_right (leb deep x) _ h))

    more : T (eqb x stuck) ⊎ T (leb deep x && ltb x (deep + state_count)) → (x ≡ stuck) ⊎ ((deep ≤ x) × (x < deep + state_count))
    more (inl h) = inl (eqb→eq x stuck h)
    more (inr h) = inr (last h)

    go : T (ltb x state_count) ⊎ T (eqb x stuck || (leb deep x && ltb x (deep + state_count))) → (x < state_count) ⊎ ((x ≡ stuck) ⊎ ((deep ≤ x) × (x < deep + state_count)))
    go (inl h) = inl (ltb→lt x state_count h)
    go (inr h) = inr (more (or_cases (eqb x stuck) _ h))

-- a state that is one, with the texts w
pub record Alive (p : Mode) (w : List Letter) : Type 0 where
  pub state : p.state < state_count
  pub texts : Lang p.state p.depth w

abbrev entry_b : Bool → Bool → ℕ → Choice
entry_b s t x = choose s (label x) (choose t [] (deepen 1 (label (x - deep))))

abbrev entered_b : Bool → Bool → ℕ → Mode
entered_b s t x = choose s (mode x 0) (choose t (mode stuck 0) (mode (x - deep) 1))

module _ (x : ℕ) (r : (x < state_count) ⊎ ((x ≡ stuck) ⊎ ((deep ≤ x) × (x < deep + state_count)))) where
  small : ltb x deep ≡ true → x < state_count
  small e = go r
    where
      go : (x < state_count) ⊎ ((x ≡ stuck) ⊎ ((deep ≤ x) × (x < deep + state_count))) → x < state_count
      go (inl h) = h
      go (inr (inl h)) = omega (arith, ltb-true x deep e)
      go (inr (inr h)) = omega (arith, ltb-true x deep e)

  large : ltb x deep ≡ false → eqb x stuck ≡ false → x - deep < state_count
  large e f = go r
    where
      go : (x < state_count) ⊎ ((x ≡ stuck) ⊎ ((deep ≤ x) × (x < deep + state_count))) → x - deep < state_count
      go (inl h) = omega (arith, ltb-false x deep e)
      go (inr (inl h)) = absurd (eqb-false x stuck f h)
      go (inr (inr h)) = omega arith

  entry_to : {w : List Letter} (s t : Bool) → ltb x deep ≡ s → eqb x stuck ≡ t → Items (entry_b s t x) w → Alive (entered_b s t x) w
  entry_to {w} true t e f m = record { state = small e; texts = subst (λ (l : Choice). Items l w) (sym (deepen_zero (label x))) m }
  entry_to false true e f m = absurd (no_items m refl)
  entry_to false false e f m = record { state = large e f; texts = m }

  entry_back : {w : List Letter} (s t : Bool) → ltb x deep ≡ s → eqb x stuck ≡ t → ((entered_b s t x).state ≡ stuck → ⊥) → Lang (entered_b s t x).state (entered_b s t x).depth w → Items (entry_b s t x) w
  entry_back {w} true t e f n m = subst (λ (l : Choice). Items l w) (deepen_zero (label x)) m
  entry_back false true e f n m = absurd (n refl)
  entry_back false false e f n m = m

  entry_range : (s t : Bool) → ltb x deep ≡ s → eqb x stuck ≡ t → ((entered_b s t x).state ≡ stuck → ⊥) → (entered_b s t x).state < state_count
  entry_range true t e f n = small e
  entry_range false true e f n = absurd (n refl)
  entry_range false false e f n = large e f

-- within a comment: what is left after a byte, by its classes
module _ (b e : ℕ) where
  deeper_by : is skip Comment (letter b skip) ≡ false → is skip lpar (letter b skip) ≡ true → is skip rpar (letter b skip) ≡ false → (is : Choice) → derive_items (letter b skip) (deepen (suc e) is) ≡ deepen (suc (suc e)) is
  unfolding derive_items derive_item derive
  deeper_by c l r [] = refl
  deeper_by c l r (i ∷ is) = rw (c, l, r, deeper_by c l r is)

  closed_by : is skip Comment (letter b skip) ≡ false → is skip lpar (letter b skip) ≡ false → is skip rpar (letter b skip) ≡ true → (is : Choice) → derive_items (letter b skip) (deepen (suc e) is) ≡ deepen e is
  unfolding derive_items derive_item derive
  closed_by c l r [] = refl
  closed_by c l r (i ∷ is) = rw (c, l, r, closed_by c l r is)

  stopped_by : is skip Comment (letter b skip) ≡ false → is skip lpar (letter b skip) ≡ false → is skip rpar (letter b skip) ≡ false → (is : Choice) → derive_items (letter b skip) (deepen (suc e) is) ≡ []
  unfolding derive_items derive_item derive
  stopped_by c l r [] = refl
  stopped_by c l r (i ∷ is) = rw (c, l, r, stopped_by c l r is)

  passed_by : is skip Comment (letter b skip) ≡ true → is skip lpar (letter b skip) ≡ false → is skip rpar (letter b skip) ≡ false → (is : Choice) → derive_items (letter b skip) (deepen (suc e) is) ≡ deepen (suc e) is
  unfolding derive_items derive_item derive
  passed_by c l r [] = refl
  passed_by c l r (i ∷ is) = rw (c, l, r, passed_by c l r is)

abbrev inside_b : ℕ → ℕ → Bool → Bool → Bool → Mode
inside_b q e s t u = choose s (mode q (suc e + 1)) (choose t (mode q (suc e - 1)) (choose u (mode stuck 0) (mode q (suc e))))

module _ (q e b : ℕ) (hq : q < state_count) where
  in_to : {w : List Letter} (s t u : Bool) → is skip lpar (letter b skip) ≡ s → is skip rpar (letter b skip) ≡ t → is skip Comment (letter b skip) ≡ (not s && (not t && not u)) → (T s → T t → ⊥)
      → Items (derive_items (letter b skip) (deepen (suc e) (label q))) w → Alive (inside_b q e s t u) w
  in_to true true u l r c x m = absurd (x tt tt)
  in_to {w} true false u l r c x m = record {
    state = hq;
    texts = subst (λ (n : ℕ). Lang q n w) (sym (add-one (suc e))) (subst (λ (is : Choice). Items is w) (deeper_by b e c l r (label q)) m);
  }
  in_to {w} false true u l r c x m =
      let back : e ≡ suc e - 1 = omega arith in
      record { state = hq; texts = subst (λ (n : ℕ). Lang q n w) back (subst (λ (is : Choice). Items is w) (closed_by b e c l r (label q)) m) }
  in_to false false true l r c x m = absurd (no_items m (stopped_by b e c l r (label q)))
  in_to {w} false false false l r c x m = record { state = hq; texts = subst (λ (is : Choice). Items is w) (passed_by b e c l r (label q)) m }

  in_back : {w : List Letter} (s t u : Bool) → is skip lpar (letter b skip) ≡ s → is skip rpar (letter b skip) ≡ t → is skip Comment (letter b skip) ≡ (not s && (not t && not u)) → (T s → T t → ⊥)
      → ((inside_b q e s t u).state ≡ stuck → ⊥) → Lang (inside_b q e s t u).state (inside_b q e s t u).depth w → Items (derive_items (letter b skip) (deepen (suc e) (label q))) w
  in_back true true u l r c x n m = absurd (x tt tt)
  in_back {w} true false u l r c x n m =
      subst (λ (is : Choice). Items is w) (sym (deeper_by b e c l r (label q))) (subst (λ (n : ℕ). Lang q n w) (add-one (suc e)) m)
  in_back {w} false true u l r c x n m =
      let back : suc e - 1 ≡ e = omega arith in
      subst (λ (is : Choice). Items is w) (sym (closed_by b e c l r (label q))) (subst (λ (n : ℕ). Lang q n w) back m)
  in_back false false true l r c x n m = absurd (n refl)
  in_back {w} false false false l r c x n m = subst (λ (is : Choice). Items is w) (sym (passed_by b e c l r (label q))) m

  in_range : (s t u : Bool) → ((inside_b q e s t u).state ≡ stuck → ⊥) → (inside_b q e s t u).state < state_count
  in_range true t u n = hq
  in_range false true u n = hq
  in_range false false true n = absurd (n refl)
  in_range false false false n = hq

-- what tells a comment's kinds apart
sample_test : (k : ℕ) → k < kind_count → T (sample_fits k (stand k))
unfolding stand samples
sample_test k h = every_at sample_fits samples samples-fit k h

pub record Flags (k : ℕ) : Type 0 where
  pub deeper : has lpar (stand k) ≡ eqb k lpar_kind
  pub closed : has rpar (stand k) ≡ eqb k rpar_kind
  pub passed : has Comment (stand k) ≡ (not (eqb k lpar_kind) && (not (eqb k rpar_kind) && not (eqb k foreign_kind)))

flags : (k : ℕ) → k < kind_count → Flags k
unfolding sample_fits
flags k h =
    let t = sample_test k h in
    let u = and_right (same_bit (has lpar (stand k)) (eqb k lpar_kind)) _ t in
    record {
      deeper = bit_eq _ _ (and_left (same_bit (has lpar (stand k)) (eqb k lpar_kind)) _ t);
      closed = bit_eq _ _ (and_left (same_bit (has rpar (stand k)) (eqb k rpar_kind)) _ u);
      passed = bit_eq _ _ (and_right (same_bit (has rpar (stand k)) (eqb k rpar_kind)) _ u);
    }

apart : (k : ℕ) → T (eqb k lpar_kind) → T (eqb k rpar_kind) → ⊥
apart k s t = let e : k ≡ 3 = eqb→eq k 3 s in let f : k ≡ 4 = eqb→eq k 4 t in omega arith

-- skip's own test is the class's
skip_is : (c : Class) (b : ℕ) → is skip c (letter b skip) ≡ has c b
unfolding is dec
skip_is c b = refl

-- a letter's tests go by its byte's
is_of : (σ ρ : Role) (c : Class) (a b : ℕ) → has c a ≡ has c b → is ρ c (letter a σ) ≡ is ρ c (letter b σ)
unfolding is
is_of σ ρ c a b e = rw e

-- within a comment each letter is skipped
three : (s t u : Bool) → T u → T (((s || true) && ((t || true) && true)) && u)
three s t u h = and_both ((s || true) && ((t || true) && true)) u (and_both (s || true) ((t || true) && true) (or_right s true tt) (and_both (t || true) true (or_right t true tt) tt)) h

sole_deep : (b e : ℕ) (is : Choice) → T (sole_items b skip (deepen (suc e) is))
unfolding sole_items sole_seq sole
sole_deep b e [] = tt
sole_deep b e (i ∷ is) = three (not (has Comment b) && not (has lpar b)) (not (has rpar b)) _ (sole_deep b e is)

-- a step of the reader
module _ (q a : ℕ) (hq : q < state_count) (ha : a < 256) where
  there_of : (σ ρ : Role) (c : Class) → T (is ρ c (letter a σ)) → T (is ρ c (letter (stand (kind_of a)) σ))
  there_of σ ρ c t = subst T (is_of σ ρ c a (stand (kind_of a)) (agree a ha c)) t

  back_of : (σ ρ : Role) (c : Class) → T (is ρ c (letter (stand (kind_of a)) σ)) → T (is ρ c (letter a σ))
  back_of σ ρ c t = subst T (sym (is_of σ ρ c a (stand (kind_of a)) (agree a ha c))) t

  pub step-role : (d : ℕ) (σ : Role) {x : List Letter} → Lang q d (letter a σ ∷ x) → σ ≡ role_of q d a
  unfolding role_of mark_of role
  step-role zero σ {x} m =
      let k = kind_of a in
      let g = row q k hq (kind-below a ha) in
      sole_items_role (stand k) (role q k) (letter a σ) (agree a ha) (subst (λ (is : Choice). Items is (letter a σ ∷ x)) (deepen_zero (label q)) m) g.sole
  step-role (suc e) σ {x} m =
      rw (eqb-suc-zero e) (sole_items_role (stand (kind_of a)) skip (letter a σ) (agree a ha) m (sole_deep (stand (kind_of a)) e (label q)))

  pub step_to : (d : ℕ) (σ : Role) {x : List Letter} → Lang q d (letter a σ ∷ x) → Alive (mode_after q d a) x
  unfolding mode_after label role_of mark_of role
  step_to zero σ {x} m =
      let k = kind_of a in
      let g = row q k hq (kind-below a ha) in
      let i : Items (derive_items (letter (stand k) σ) (label q)) x =
      complete (letter a σ) (letter (stand k) σ) (there_of σ) (subst (λ (is : Choice). Items is (letter a σ ∷ x)) (deepen_zero (label q)) m)
      in
      let n = part_sound (entry labels (next_of q k)) g.into (subst (λ (τ : Role). Items (derive_items (letter (stand k) τ) (label q)) x) (step-role 0 σ m) i) in
      entry_to (next_of q k) (ranges (next_of q k) g.range) (ltb (next_of q k) deep) (eqb (next_of q k) stuck) refl refl n
  step_to (suc e) σ {x} m =
      let k = kind_of a in
      let f = flags k (kind-below a ha) in
      let s : σ ≡ skip = rw (eqb-suc-zero e) at (step-role (suc e) σ m) in
      let i : Items (derive_items (letter (stand k) σ) (deepen (suc e) (label q))) x = complete (letter a σ) (letter (stand k) σ) (there_of σ) m in
      subst (λ (t : Bool). Alive (choose t (entered (next_of q k)) (within q (suc e) k)) x) (sym (eqb-suc-zero e))
      (in_to q e (stand k) hq (eqb k lpar_kind) (eqb k rpar_kind) (eqb k foreign_kind) (skip_is lpar _ ∙ f.deeper) (skip_is rpar _ ∙ f.closed) (skip_is Comment _ ∙ f.passed) (apart k)
      (subst (λ (τ : Role). Items (derive_items (letter (stand k) τ) (deepen (suc e) (label q))) x) s i))

  pub step_back : (d : ℕ) {x : List Letter} → ((mode_after q d a).state ≡ stuck → ⊥) → Lang (mode_after q d a).state (mode_after q d a).depth x → Lang q d (letter a (role_of q d a) ∷ x)
  unfolding mode_after label role_of mark_of role
  step_back zero {x} n m =
      let k = kind_of a in
      let g = row q k hq (kind-below a ha) in
      let i = entry_back (next_of q k) (ranges (next_of q k) g.range) (ltb (next_of q k) deep) (eqb (next_of q k) stuck) refl refl n m in
      subst (λ (is : Choice). Items is (letter a (role q k) ∷ x)) (sym (deepen_zero (label q)))
      (sound (letter a (role q k)) (letter (stand k) (role q k)) (back_of (role q k)) (label q) x (part_sound (derive_items (letter (stand k) (role q k)) (label q)) g.back i))
  step_back (suc e) {x} n m =
      let k = kind_of a in
      let f = flags k (kind-below a ha) in
      let A = entered (next_of q k) in
      let B = within q (suc e) k in
      let R : Bool → Role = λ (t : Bool). get_or roles (choose t (get_or table (q * kind_count + k) 0 / role_unit) 0) skip in
      subst (λ (t : Bool). ((choose t A B).state ≡ stuck → ⊥) → Lang (choose t A B).state (choose t A B).depth x → Lang q (suc e) (letter a (R t) ∷ x)) (sym (eqb-suc-zero e))
      (λ n m. sound (letter a skip) (letter (stand k) skip) (back_of skip) (deepen (suc e) (label q)) x
      (in_back q e (stand k) hq (eqb k lpar_kind) (eqb k rpar_kind) (eqb k foreign_kind) (skip_is lpar _ ∙ f.deeper) (skip_is rpar _ ∙ f.closed) (skip_is Comment _ ∙ f.passed) (apart k) n m)) n m

  pub step_range : (d : ℕ) → ((mode_after q d a).state ≡ stuck → ⊥) → (mode_after q d a).state < state_count
  unfolding mode_after
  step_range zero n =
      let k = kind_of a in
      let g = row q k hq (kind-below a ha) in
      entry_range (next_of q k) (ranges (next_of q k) g.range) (ltb (next_of q k) deep) (eqb (next_of q k) stuck) refl refl n
  step_range (suc e) n =
      let k = kind_of a in
      let A = entered (next_of q k) in
      let B = within q (suc e) k in
      subst (λ (t : Bool). ((choose t A B).state ≡ stuck → ⊥) → (choose t A B).state < state_count) (sym (eqb-suc-zero e))
      (in_range q e (stand k) hq (eqb k lpar_kind) (eqb k rpar_kind) (eqb k foreign_kind)) n

-- the accepting state, and a completion of each
last-test : (q : ℕ) → q < state_count → T (last_one_fits q)
last-test q h = upto_at last_one_fits state_count last_fits q h

pub accepts : (q : ℕ) → q < state_count → final (label q) ≡ eqb q accepting
unfolding last_one_fits label
accepts q h = bit_eq _ _ (and_left (same_bit (final (get_or labels q [])) (eqb q accepting)) _ (last-test q h))

reach-sound : (is : Choice) (w : List Letter) → T (final (reach is w)) → Items is w
unfolding reach
reach-sound is [] t = final_sound is t
reach-sound is (a ∷ w) t = sound a a (λ ρ c h. h) is w (reach-sound (derive_items a is) w t)

by_close : (e : ℕ) (is : Choice) → derive_items (letter 41 skip) (deepen (suc e) is) ≡ deepen e is
unfolding is has
by_close e is = closed_by 41 e refl refl refl is

closing : (d : ℕ) (is : Choice) (w : List Letter) → Items is w → (z : List Letter) × Items (deepen d is) z
closing zero is w m = (w, subst (λ (l : Choice). Items l w) (sym (deepen_zero is)) m)
closing (suc e) is w m =
    let p = closing e is w m in
    (letter 41 skip ∷ p.0, sound (letter 41 skip) (letter 41 skip) (λ ρ c h. h) (deepen (suc e) is) p.0 (subst (λ (l : Choice). Items l p.0) (sym (by_close e is)) p.1))

pub live : (q d : ℕ) → q < state_count → (z : List Letter) × Lang q d z
unfolding last_one_fits label
live q d h =
    closing d (label q) (get_or ends q [])
    (reach-sound (label q) (get_or ends q []) (and_right (same_bit (final (get_or labels q [])) (eqb q accepting)) _ (last-test q h)))

-- the start
label_first : label 0 ≡ push cif_file [] ∷ []
unfolding label
label_first = labels_first

abbrev whole : List Letter → Type 0
whole w = Items (deepen 0 (push cif_file [] ∷ [])) w

pub start_to : {w : List Letter} → Match cif_file w → Lang 0 0 w
start_to {w} m =
    subst (λ (is : Choice). Items (deepen 0 is) w) (sym label_first) (here (push_in cif_file (next w [] m end (sym (append-nil w)))))

only : {r : Expression} {w : List Letter} → Item (r ∷ []) w → Match r w
only {r} (next u v m end d) = subst (Match r) (sym (d ∙ append-nil u)) m

whole_back : {w : List Letter} → Items (push cif_file [] ∷ []) w → Match cif_file w
whole_back (here k) = only (push_out cif_file k)
whole_back (there m) = absurd (no_items m refl)

pub start_back : {w : List Letter} → Lang 0 0 w → Match cif_file w
start_back {w} m = whole_back (subst (λ (is : Choice). Items (deepen 0 is) w) label_first m)

-- the roles and their numbers
pub mark-number : (m : ℕ) → m < role_count → number (get_or roles m skip) ≡ m
unfolding role_fits
mark-number m h = eqb→eq (number (get_or roles m skip)) m (upto_at role_fits role_count roles-fit m h)

pub number-mark : (ρ : Role) → get_or roles (number ρ) skip ≡ ρ
unfolding number
number-mark skip = refl
number-mark head = refl
number-mark second = refl
number-mark turn = refl
number-mark axis = refl
number-mark sign = refl
number-mark lead = refl
number-mark later = refl
number-mark name = refl
number-mark stop = refl

mark_chosen : (b : Bool) (n : ℕ) → n < role_count → choose b n 0 < role_count
mark_chosen true n h = h
mark_chosen false n h = omega arith

pub mark-below : (q d a : ℕ) → q < state_count → a < 256 → mark_of q d a < role_count
unfolding mark_of
mark-below q d a hq ha = mark_chosen (eqb d 0) _ (row q (kind_of a) hq (kind-below a ha)).numbered

pub entry_below : (q k : ℕ) → q < state_count → k < kind_count → entry_of q k < role_count * role_unit
unfolding entry_of
entry_below q k hq hk = let h = (row q k hq hk).numbered in omega arith
