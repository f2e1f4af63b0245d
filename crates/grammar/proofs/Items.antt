-- A choice of items: what is left of it after a letter, whether it has the empty text, whether it is part of another. A state of the recogniser
-- stands for one.
-- Assumes nothing.
use mathlib.Core.Path.{◌≡◌, refl, sym, ap, ap₂, ◌∙◌, subst}
use mathlib.Core.Bool.{Bool, true, false, ◌&&◌, ◌||◌}
use mathlib.Core.List.{List, [], ◌∷◌}
use mathlib.Core.Logic.{◌⊎◌, inl, inr}
use Prim.Native.Nat.{ℕ}
use native.Mathlib.Omega.{arith}
use lib.Dec.{T}
use Rattle.grammar.specs.Notation.{Class, Role, Letter, Expression, is, dec, Class-discrete, Role-discrete, Expression-discrete}
use Rattle.grammar.specs.Steps.{choose}
use Rattle.grammar.proofs.Tests.{and_left, and_right, and_both, or_left, or_right, or_cases}
use Rattle.grammar.proofs.Derivatives.{nil≢cons, head_eq, tail_eq, nil-left, nil-right, Sequence, Choice}
use Rattle.grammar.proofs.Derivatives.{Item, end, next, Items, here, there, nullable, nullable_sound, nullable_complete, derive, derive_keep, derive_complete, derive_sound, choose_yes, choose-keep, choose_cases}

none_here : {i : Sequence} {is : Choice} → ◌≡◌ {A = Choice} (i ∷ is) [] → ⊥
none_here e = let z : ◌≡◌ {A = ℕ} 0 1 = cc in omega arith

pub no_items : {is : Choice} {w : List Letter} → Items is w → is ≡ [] → ⊥
no_items (here k) e = none_here e
no_items (there m) e = none_here e

unfoldable pub derive_item : Letter → Sequence → Choice → Choice
derive_item b [] acc = acc
derive_item b (r ∷ i) acc = derive b r i (choose (nullable r) (derive_item b i acc) acc)

unfoldable pub derive_items : Letter → Choice → Choice
unfolding derive_item
derive_items b [] = []
derive_items b (i ∷ is) = derive_item b i (derive_items b is)

derive_item_keep : (b : Letter) (i : Sequence) (acc : Choice) {w : List Letter} → Items acc w → Items (derive_item b i acc) w
unfolding derive_item
derive_item_keep b [] acc m = m
derive_item_keep b (r ∷ i) acc m = derive_keep b r i _ (choose-keep (nullable r) _ _ (derive_item_keep b i acc m) m)

module _ (a b : Letter) (agree : (ρ : Role) (c : Class) → T (is ρ c a) → T (is ρ c b)) where
  derive_item_complete : {i : Sequence} {w : List Letter} → Item i w → (x : List Letter) → w ≡ a ∷ x → (acc : Choice) → Items (derive_item b i acc) x
  unfolding derive_item
  derive_item_complete end x e acc = absurd (nil≢cons e)
  derive_item_complete (next {r} {i} [] v m k d) x e acc =
      derive_keep b r i _ (choose_yes (nullable r) _ _ (nullable_complete m refl) (derive_item_complete k x (sym d ∙ e) acc))
  derive_item_complete (next {r} {i} (a' ∷ u) v m k d) x e acc =
      derive_complete a b agree m u (ap (λ (c : Letter). c ∷ u) (head_eq (sym d ∙ e))) i _ v x k (sym (tail_eq (sym d ∙ e)))

  pub complete : {is : Choice} {x : List Letter} → Items is (a ∷ x) → Items (derive_items b is) x
  unfolding derive_items derive_item
  complete {x = x} (here k) = derive_item_complete k x refl _
  complete {x = x} (there {i = i} m) = derive_item_keep b i _ (complete m)

module _ (a b : Letter) (agree : (ρ : Role) (c : Class) → T (is ρ c b) → T (is ρ c a)) where
  derive_item_sound : (i : Sequence) (acc : Choice) (x : List Letter) → Items (derive_item b i acc) x → Item i (a ∷ x) ⊎ Items acc x
  unfolding derive_item
  derive_item_sound [] acc x m = inr m
  derive_item_sound (r ∷ i) acc x m = go (derive_sound a b agree r i _ x m) (derive_item_sound i acc x)
    where
      last : T (nullable r) → Item i (a ∷ x) ⊎ Items acc x → Item (r ∷ i) (a ∷ x) ⊎ Items acc x
      last t (inl k) = inl (next [] (a ∷ x) (nullable_sound r t) k refl)
      last t (inr n) = inr n

      deep : (T (nullable r) × Items (derive_item b i acc) x) ⊎ Items acc x → (Items (derive_item b i acc) x → Item i (a ∷ x) ⊎ Items acc x) → Item (r ∷ i) (a ∷ x) ⊎ Items acc x
      deep (inl p) f = last p.0 (f p.1)
      deep (inr q) f = inr q

      go : Item (r ∷ i) (a ∷ x) ⊎ Items (choose (nullable r) (derive_item b i acc) acc) x → (Items (derive_item b i acc) x → Item i (a ∷ x) ⊎ Items acc x) → Item (r ∷ i) (a ∷ x) ⊎ Items acc x
      go (inl k) f = inl k
      go (inr n) f = deep (choose_cases (nullable r) _ _ n) f

  pub sound : (is : Choice) (x : List Letter) → Items (derive_items b is) x → Items is (a ∷ x)
  unfolding derive_items derive_item
  sound [] x m = absurd (no_items m refl)
  sound (i ∷ is) x m = go (derive_item_sound i (derive_items b is) x m) (sound is x)
    where
      go : Item i (a ∷ x) ⊎ Items (derive_items b is) x → (Items (derive_items b is) x → Items is (a ∷ x)) → Items (i ∷ is) (a ∷ x)
      go (inl k) f = here k
      go (inr n) f = there (f n)

-- the empty text
abbrev empty : Sequence → Bool
empty [] = true
empty (r ∷ i) = nullable r && empty i

abbrev pub final : Choice → Bool
final [] = false
final (i ∷ is) = empty i || final is

empty-sound : (i : Sequence) → T (empty i) → Item i []
empty-sound [] t = end
empty-sound (r ∷ i) t =
    next [] [] (nullable_sound r (and_left (nullable r) (empty i) t)) (empty-sound i (and_right (nullable r) (empty i) t)) refl

empty_complete : {i : Sequence} {w : List Letter} → Item i w → w ≡ [] → T (empty i)
empty_complete end e = tt
empty_complete (next {r} {i} u v m k d) e =
    and_both (nullable r) (empty i) (nullable_complete m (nil-left u v (sym d ∙ e))) (empty_complete k (nil-right u v (sym d ∙ e)))

pub final_sound : (is : Choice) → T (final is) → Items is []
final_sound [] t = absurd t
final_sound (i ∷ is) t = go (or_cases (empty i) (final is) t) (final_sound is)
  where
    go : T (empty i) ⊎ T (final is) → (T (final is) → Items is []) → Items (i ∷ is) []
    go (inl h) f = here (empty-sound i h)
    go (inr h) f = there (f h)

pub final_complete : {is : Choice} → Items is [] → T (final is)
final_complete (here {i} {is} k) = or_left (empty i) (final is) (empty_complete k refl)
final_complete (there {i} {is} m) = or_right (empty i) (final is) (final_complete m)

-- one choice is part of another
pub dec-sound : {A : Type 0} (d : Dec A) → T (dec d) → A
unfolding dec
dec-sound (yes p) t = p
dec-sound (no p) t = absurd t

unfoldable pub same : Sequence → Sequence → Bool
unfolding dec
same [] [] = true
same [] (s ∷ j) = false
same (r ∷ i) [] = false
same (r ∷ i) (s ∷ j) = dec (Expression-discrete Role-discrete Class-discrete r s) && same i j

same-sound : (i j : Sequence) → T (same i j) → i ≡ j
unfolding same
same-sound [] [] t = refl
same-sound [] (s ∷ j) t = absurd t
same-sound (r ∷ i) [] t = absurd t
same-sound (r ∷ i) (s ∷ j) t =
    ap₂ {C = Sequence} (λ (x : Expression) (y : Sequence). x ∷ y) (dec-sound (Expression-discrete Role-discrete Class-discrete r s) (and_left (dec (Expression-discrete Role-discrete Class-discrete r s)) (same i j) t))
    (same-sound i j (and_right (dec (Expression-discrete Role-discrete Class-discrete r s)) (same i j) t))

unfoldable pub member : Sequence → Choice → Bool
unfolding same
member i [] = false
member i (j ∷ js) = same i j || member i js

unfoldable pub part : Choice → Choice → Bool
unfolding member
part [] js = true
part (i ∷ is) js = member i js && part is js

member_sound : (i : Sequence) (js : Choice) {w : List Letter} → T (member i js) → Item i w → Items js w
unfolding member
member_sound i [] t k = absurd t
member_sound i (j ∷ js) {w} t k = go (or_cases (same i j) (member i js) t) (λ h. member_sound i js h k)
  where
    go : T (same i j) ⊎ T (member i js) → (T (member i js) → Items js w) → Items (j ∷ js) w
    go (inl h) f = here (subst (λ (l : Sequence). Item l w) (same-sound i j h) k)
    go (inr h) f = there (f h)

pub part_sound : {is : Choice} (js : Choice) {w : List Letter} → T (part is js) → Items is w → Items js w
unfolding part
part_sound js t (here {i} {is} k) = member_sound i js (and_left (member i js) (part is js) t) k
part_sound js t (there {i} {is} m) = part_sound js (and_right (member i js) (part is js) t) m
