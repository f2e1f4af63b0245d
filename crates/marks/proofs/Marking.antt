-- A run of names: what one name more makes of it, and that the bit of a name is the set of that one layer.
-- Assumes nothing.
use Rattle.std.specs.Prelude.{Option, Some, is_some, if◌then◌else◌}
use mathlib.Core.Path.{◌≡◌, refl, sym, ap, ap₂, ◌∙◌, subst}
use mathlib.Core.Bool.{Bool, true, false, ◌||◌}
use mathlib.Core.List.{List, [], ◌∷◌, ◌++◌}
use mathlib.Core.Logic.{inl, inr, ◌⊎◌}
use Prim.Native.Nat.{ℕ, zero, suc, ◌+◌, ◌*◌, ◌%◌, ◌^◌, ◌≤◌, ◌<◌}
use native.Mathlib.Nat.{eq-or-lt_of_le}
use native.Mathlib.Omega.{arith}
use lib.Dec.{T, eqb, eqb_refl}
use lib.ListN.{length, get_or, set, length-append, length-set}
use lib.Pow.{shl_exact}
use lib.Seq.{get_or-set_same, get_or-set_other}
use Rattle.definition.specs.Limits.{most_layers}
use Rattle.definition.specs.Words.{any, same}
use Rattle.definition.specs.Commands.{layer}
use Rattle.definition.specs.Summary.{Names, among, names_after}
use Rattle.definition.specs.Marks.{set_of_layers}
use Rattle.definition.proofs.Rows.{same-eq}
use Rattle.laws.proofs.Story.Marks.{set_one}
use Rattle.names.specs.Names.{name_of, packed}
use Rattle.marks.specs.declared.Names.{Names as Run}
use Rattle.marks.specs.Noted.{Known, Noted, New, MarkOf, marked, unmarked, bit_by, BitOf, Notes, known, new, too_many}

-- ---- names among others

true_by : (b : Bool) → T b → b ≡ true
true_by true t = refl
true_by false t = absurd t

same-itself : (l : List ℕ) → same l l ≡ true
unfolding same
same-itself [] = refl
same-itself (a ∷ l) = ap (λ (b : Bool). if b then same l l else false) (true_by (eqb a a) (eqb_refl a)) ∙ same-itself l

same_not : (a b : List ℕ) → (a ≡ b → ⊥) → same a b ≡ false
same_not a b h = go (same a b) refl
  where
    go : (c : Bool) → same a b ≡ c → same a b ≡ false
    go false e = e
    go true e = absurd (h (same-eq a b (subst T (sym e) tt)))

later-true : (b c : Bool) → c ≡ true → (b || c) ≡ true
later-true true c e = refl
later-true false c e = e

among_at : (ns : Names) (l : List ℕ) (i : ℕ) → i < length ns → get_or ns i [] ≡ l → among l ns ≡ true
unfolding among any
among_at [] l i h e = absurd (omega arith)
among_at (n ∷ ns) l zero h e = ap (λ (m : List ℕ). same l m || any (same l) ns) e ∙ ap (λ (b : Bool). b || any (same l) ns) (same-itself l)
among_at (n ∷ ns) l (suc i) h e = later-true (same l n) (any (same l) ns) (among_at ns l i (omega arith) e)

among_none : (ns : Names) (l : List ℕ) → ((i : ℕ) → i < length ns → get_or ns i [] ≡ l → ⊥) → among l ns ≡ false
unfolding among any
among_none [] l h = refl
among_none (n ∷ ns) l h =
    ap₂ {C = Bool} (λ (a b : Bool). a || b) (same_not l n (λ e. h 0 (omega arith) (sym e))) (among_none ns l (λ i k. h (suc i) (omega arith)))

at_most : (i n : ℕ) → i ≤ n → i ≤ n
at_most i n h = h

-- ---- a list with one more at its end

module _ {A : Type 0} (a d : A) where
  last_there : (l : List A) → get_or (l ++ (a ∷ [])) (length l) d ≡ a
  last_there [] = refl
  last_there (x ∷ l) = last_there l

  before_there : (l : List A) (i : ℕ) → i < length l → get_or (l ++ (a ∷ [])) i d ≡ get_or l i d
  before_there [] i h = absurd (omega arith)
  before_there (x ∷ l) zero h = refl
  before_there (x ∷ l) (suc i) h = before_there l i (omega arith)

-- ---- numbers of names

abbrev Back : List ℕ → Type 0
Back l = name_of (packed l) ≡ l

one_number : {l k : List ℕ} → Back l → Back k → packed l ≡ packed k → l ≡ k
one_number x y e = sym x ∙ ap name_of e ∙ y

module _ {run : List ℕ} {count : ℕ} {ns : Names} (n : Noted run count ns) {l : List ℕ} (k : Back l) {v : ℕ} (e : v ≡ packed l) where
  name_there : (i : ℕ) → i < count → get_or run i 0 ≡ v → get_or ns i [] ≡ l
  name_there i h f = one_number (n.known i h).back k (sym (n.numbers i h) ∙ f ∙ e)

  number_there : (i : ℕ) → i < count → get_or ns i [] ≡ l → get_or run i 0 ≡ v
  number_there i h f = n.numbers i h ∙ ap (λ (x : List ℕ). packed x) f ∙ sym e

  in_names : (i : ℕ) → i < length ns → i < count
  in_names i h = omega (arith, h, n.many)

  -- one that is there
  pub noted-known : (i : ℕ) → i < count → get_or run i 0 ≡ v → names_after ns (layer l) ≡ ns
  unfolding names_after
  noted-known i h f =
      ap (λ (b : Bool). if b then ns else ns ++ (l ∷ [])) (among_at ns l i (omega (arith, h, n.many)) (name_there i h f))

  -- one that is not
  pub noted-new : New run count v → names_after ns (layer l) ≡ ns ++ (l ∷ [])
  unfolding names_after
  noted-new h =
      ap (λ (b : Bool). if b then ns else ns ++ (l ∷ [])) (among_none ns l (λ i g f. h i (in_names i g) (number_there i (in_names i g) f)))

  more_names : length (ns ++ (l ∷ [])) ≡ count + 1
  more_names = let z = length-append ns (l ∷ []) in omega (arith, z, n.many)

  -- each place of the longer list is an old one or the last
  by_place : (P : List ℕ → ℕ → Type 0) → ((i : ℕ) → i < count → P (get_or ns i []) (get_or run i 0)) → P l v → count < most_layers
      → (i : ℕ) → i < count + 1 → P (get_or (ns ++ (l ∷ [])) i []) (get_or (set run count v) i 0)
  by_place P old last room i h = go (eq-or-lt_of_le (at_most i count (omega (arith, h))))
    where
      go : (i ≡ count) ⊎ (i < count) → P (get_or (ns ++ (l ∷ [])) i []) (get_or (set run count v) i 0)
      go (inl f) =
          subst (λ (j : ℕ). P (get_or (ns ++ (l ∷ [])) j []) (get_or (set run count v) j 0)) (sym f)
          (subst (λ (x : List ℕ). P x (get_or (set run count v) count 0))
          (sym (ap (λ (j : ℕ). get_or (ns ++ (l ∷ [])) j []) (sym n.many) ∙ last_there l [] ns))
          (subst (P l) (sym (get_or-set_same run count v 0 (omega (arith, room, n.sized)))) last))
      go (inr g) =
          subst (λ (x : List ℕ). P x (get_or (set run count v) i 0)) (sym (before_there l [] ns i (omega (arith, g, n.many))))
          (subst (P (get_or ns i [])) (sym (get_or-set_other run count i v 0 (λ f. omega (arith, f, g)))) (old i g))

  abbrev OldOrLast : ℕ → Type 0
  OldOrLast i = ((get_or (ns ++ (l ∷ [])) i [] ≡ l) × (i ≡ count)) ⊎ ((get_or (ns ++ (l ∷ [])) i [] ≡ get_or ns i []) × (i < count))

  old_or_last : (i : ℕ) → i < count + 1 → OldOrLast i
  old_or_last i h = go (eq-or-lt_of_le (at_most i count (omega (arith, h))))
    where
      go : (i ≡ count) ⊎ (i < count) → OldOrLast i
      go (inl f) = inl (ap (λ (j : ℕ). get_or (ns ++ (l ∷ [])) j []) (f ∙ sym n.many) ∙ last_there l [] ns, f)
      go (inr g) = inr (before_there l [] ns i (omega (arith, g, n.many)), g)

  still_apart : New run count v → (i j : ℕ) → i < count + 1 → j < count + 1 → get_or (ns ++ (l ∷ [])) i [] ≡ get_or (ns ++ (l ∷ [])) j [] → i ≡ j
  still_apart h i j x y e = go (old_or_last i x) (old_or_last j y)
    where
      go : OldOrLast i → OldOrLast j → i ≡ j
      go (inl (p, f)) (inl (q, g)) = f ∙ sym g
      go (inl (p, f)) (inr (q, g)) = absurd (h j g (number_there j g (sym q ∙ sym e ∙ p)))
      go (inr (p, f)) (inl (q, g)) = absurd (h i f (number_there i f (sym p ∙ e ∙ q)))
      go (inr (p, f)) (inr (q, g)) = n.apart i j f g (sym p ∙ e ∙ q)

  noted_more : 0 < length l → New run count v → count < most_layers → Noted (set run count v) (count + 1) (ns ++ (l ∷ []))
  noted_more some h room = record {
    sized = length-set run count v ∙ n.sized;
    many = more_names;
    few = omega (arith, room);
    numbers = by_place (λ x w. w ≡ packed x) n.numbers e room;
    known = λ i g. by_place (λ x w. Known x) n.known (record { some_letter = some; back = k }) room i g;
    apart = still_apart h;
  }

-- what `note` leaves: the names with this one, as many as there are; or one too many
module _ {run : Run} {ns : Names} (n : Noted run.numbers run.count ns) {l : List ℕ} (k : Back l) {v : ℕ} (e : v ≡ packed l) where
  pub noted-after : 0 < length l → {r : Bool} {run' : Run} → Notes run v r run' → r ≡ true → Noted run'.numbers run'.count (names_after ns (layer l))
  noted-after some (known h f) ok = subst (Noted run.numbers run.count) (sym (noted-known n k e _ h f)) n
  noted-after some (new h room) ok = subst (Noted (set run.numbers run.count v) (run.count + 1)) (sym (noted-new n k e h)) (noted_more n k e some h room)
  noted-after some (too_many h f) ok = absurd (let z : false ≡ true = ok in cc)

  pub one_too_many : {r : Bool} {run' : Run} → Notes run v r run' → r ≡ false → most_layers < length (names_after ns (layer l))
  one_too_many (known h f) none_left = absurd (let z : true ≡ false = none_left in cc)
  one_too_many (new h room) none_left = absurd (let z : true ≡ false = none_left in cc)
  one_too_many (too_many h f) none_left = let z = ap length (noted-new n k e h) ∙ more_names n k e in omega (arith, z, f)

-- ---- the set of one layer

-- a layer that is none of the names has no mark
no_mark : (ns : Names) (l : List ℕ) → ((j : ℕ) → j < length ns → get_or ns j [] ≡ l → ⊥) → set_of_layers ns (l ∷ []) ≡ 0
unfolding set_of_layers among any
no_mark [] l h = refl
no_mark (n ∷ ns) l h =
    ap₂ {C = ℕ} (λ (x : ℕ) (b : Bool). x * 2 + (if b || false then 1 else 0)) (no_mark ns l (λ j k. h (suc j) (omega arith))) (same_not n l (h 0 (omega arith)))

pub bit_is : {run : List ℕ} {count : ℕ} {ns : Names} → Noted run count ns → {l : List ℕ} → Back l → {v : ℕ} → v ≡ packed l → {r : ℕ} → BitOf run count v r
    → r ≡ set_of_layers ns (l ∷ [])
bit_is {run} {count} {ns} n {l} k {v} e {r} b = b.is ∙ go b.is_mark
  where
    go : {m : Option ℕ} → MarkOf run count v m → bit_by m ≡ set_of_layers ns (l ∷ [])
    go (unmarked h) = sym (no_mark ns l (λ j g f. h j (in_names n k e j g) (number_there n k e j (in_names n k e j g) f)))
    go (marked {i} h before here) =
        let there = name_there n k e i h here in
        sym (set_one ns l i (omega (arith, h, n.many)) there (λ j g f. n.apart j i (omega (arith, g, n.many)) h (f ∙ sym there)))

-- the empty name, which stands where no layer is set, has no mark
pub no_layer_bit : {run : List ℕ} {count : ℕ} {ns : Names} → Noted run count ns → set_of_layers ns ([] ∷ []) ≡ 0
no_layer_bit {ns = ns} n = no_mark ns [] (λ j h e. let z = (n.known j (omega (arith, h, n.many))).some_letter in let y = ap length e in omega (arith, z, y))

-- ---- for the code

pub one_bit : (k : ℕ) → k < 64 → 1 * 2 ^ k % 2 ^ 64 ≡ 2 ^ k
one_bit k h = shl_exact {a = 1} 1 k 64 (omega arith) (omega (arith, h)) ∙ omega arith

-- a name that has a mark stands among the names, and one that has none does not
pub has_mark : {run : List ℕ} {count v : ℕ} {m : Option ℕ} → MarkOf run count v m → is_some m ≡ true → (i : ℕ) × (i < count) × (get_or run i 0 ≡ v)
has_mark (marked {i} h before here) e = (i, h, here)
has_mark (unmarked h) e = absurd (let z : false ≡ true = e in cc)

pub has_none : {run : List ℕ} {count v : ℕ} {m : Option ℕ} → MarkOf run count v m → is_some m ≡ false → New run count v
has_none (marked h before here) e = absurd (let z : true ≡ false = e in cc)
has_none (unmarked h) e = h

pub mark_low : {run : List ℕ} {count v i : ℕ} → MarkOf run count v (Some i) → i < count
mark_low (marked h before here) = h
