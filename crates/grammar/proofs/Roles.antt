-- The role of a first letter where the expression leaves no choice: why a text has one marking although the print is ambiguous.
-- Assumes nothing.
use mathlib.Core.Path.{◌≡◌, refl, sym, ap, ◌∙◌, subst}
use mathlib.Core.Bool.{Bool, true, false, not, ◌&&◌, ◌||◌}
use mathlib.Core.List.{List, [], ◌∷◌}
use mathlib.Core.Logic.{◌⊎◌, inl, inr}
use Prim.Native.Nat.{ℕ}
use lib.Dec.{T}
use Rattle.grammar.specs.Notation.{Class, Role, Letter, Expression, Match, has, is, dec, Role-discrete, one, ◌▹◌, ◌∣◌, many, option, comment_text, skip, Comment, lpar}
use Rattle.grammar.specs.Notation.{char, both, left, right, none, more, absent, present, text}
use Rattle.grammar.proofs.Tests.{and_left, and_right, follows}
use Rattle.grammar.proofs.Derivatives.{nil≢cons, head_eq, Sequence, Choice, nullable, nullable_complete, Item, end, next, Items, here, there, First, plain, nest, first}
use Rattle.grammar.proofs.Items.{dec-sound}

-- a first letter of byte b has the role ρ
unfoldable pub sole : ℕ → Role → Expression → Bool
unfolding dec has
sole b ρ (one σ c) = not (has c b) || dec (Role-discrete σ ρ)
sole b ρ (r ▹ s) = sole b ρ r && (not (nullable r) || sole b ρ s)
sole b ρ (r ∣ s) = sole b ρ r && sole b ρ s
sole b ρ (many r) = sole b ρ r
sole b ρ (option r) = sole b ρ r
sole b ρ comment_text = (not (has Comment b) && not (has lpar b)) || dec (Role-discrete skip ρ)

unfoldable pub sole_seq : ℕ → Role → Sequence → Bool
unfolding sole
sole_seq b ρ [] = true
sole_seq b ρ (r ∷ i) = sole b ρ r && (not (nullable r) || sole_seq b ρ i)

unfoldable pub sole_items : ℕ → Role → Choice → Bool
unfolding sole_seq
sole_items b ρ [] = true
sole_items b ρ (i ∷ is) = sole_seq b ρ i && sole_items b ρ is

neither : (s t u : Bool) → T ((not s && not t) || u) → T s ⊎ T t → T u
neither true t u h k = h
neither false true u h k = h
neither false false u h (inl k) = absurd k
neither false false u h (inr k) = absurd k

module _ (b : ℕ) (ρ : Role) (a : Letter) (agree : (c : Class) → has c a.byte ≡ has c b) where
  -- a letter of a role and a class
  of_is : (σ : Role) (c : Class) → T (is σ c a) → (σ ≡ a.role) × T (has c b)
  unfolding is
  of_is σ c t =
      (dec-sound (Role-discrete σ a.role) (and_left (dec (Role-discrete σ a.role)) (has c a.byte) t), subst T (agree c) (and_right (dec (Role-discrete σ a.role)) (has c a.byte) t))

  pub sole_role : {r : Expression} {w : List Letter} → Match r w → (u : List Letter) → w ≡ a ∷ u → T (sole b ρ r) → a.role ≡ ρ
  unfolding sole
  sole_role (char {ρ = σ} {c} h) u e t =
      let p = of_is σ c (subst (λ (l : Letter). T (is σ c l)) (head_eq e) h) in
      sym p.0 ∙ dec-sound (Role-discrete σ ρ) (follows (has c b) _ t p.1)
  sole_role (both {r} {s} [] q m n f) u e t =
      sole_role n u (sym f ∙ e) (follows (nullable r) (sole b ρ s) (and_right (sole b ρ r) _ t) (nullable_complete m refl))
  sole_role (both {r} {s} (a' ∷ p) q m n f) u e t =
      sole_role m p (ap (λ (c : Letter). c ∷ p) (head_eq (sym f ∙ e))) (and_left (sole b ρ r) _ t)
  sole_role (left {r} {s} m) u e t = sole_role m u e (and_left (sole b ρ r) (sole b ρ s) t)
  sole_role (right {r} {s} m) u e t = sole_role m u e (and_right (sole b ρ r) (sole b ρ s) t)
  sole_role none u e t = absurd (nil≢cons e)
  sole_role (more [] q m n f) u e t = sole_role n u (sym f ∙ e) t
  sole_role (more (a' ∷ p) q m n f) u e t = sole_role m p (ap (λ (c : Letter). c ∷ p) (head_eq (sym f ∙ e))) t
  sole_role absent u e t = absurd (nil≢cons e)
  sole_role (present m) u e t = sole_role m u e t
  sole_role (text m) u e t = go (first (text m) a u e)
    where
      go : First a u → a.role ≡ ρ
      go (plain h n) =
          let p = of_is skip Comment h in
          sym p.0 ∙ dec-sound (Role-discrete skip ρ) (neither (has Comment b) (has lpar b) _ t (inl p.1))
      go (nest h n) =
          let p = of_is skip lpar h in
          sym p.0 ∙ dec-sound (Role-discrete skip ρ) (neither (has Comment b) (has lpar b) _ t (inr p.1))

  sole_seq_role : {i : Sequence} {w : List Letter} → Item i w → (u : List Letter) → w ≡ a ∷ u → T (sole_seq b ρ i) → a.role ≡ ρ
  unfolding sole_seq
  sole_seq_role end u e t = absurd (nil≢cons e)
  sole_seq_role (next {r} {i} [] v m k f) u e t =
      sole_seq_role k u (sym f ∙ e) (follows (nullable r) (sole_seq b ρ i) (and_right (sole b ρ r) _ t) (nullable_complete m refl))
  sole_seq_role (next {r} {i} (a' ∷ p) v m k f) u e t =
      sole_role m p (ap (λ (c : Letter). c ∷ p) (head_eq (sym f ∙ e))) (and_left (sole b ρ r) _ t)

  pub sole_items_role : {is : Choice} {u : List Letter} → Items is (a ∷ u) → T (sole_items b ρ is) → a.role ≡ ρ
  unfolding sole_items
  sole_items_role {u = u} (here {i} {is} k) t = sole_seq_role k u refl (and_left (sole_seq b ρ i) _ t)
  sole_items_role {u = u} (there {i} {is} m) t = sole_items_role m (and_right (sole_seq b ρ i) _ t)
