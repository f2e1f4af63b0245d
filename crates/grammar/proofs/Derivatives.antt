-- What is left of an expression after a first letter: its partial derivative, as a choice of items still to come. A theory of the notation, with
-- no grammar in it.
-- Assumes nothing.
use mathlib.Core.Path.{◌≡◌, refl, sym, ap, ◌∙◌, subst}
use mathlib.Core.Bool.{Bool, true, false, ◌&&◌, ◌||◌}
use mathlib.Core.List.{List, [], ◌∷◌, ◌++◌, append_assoc}
use mathlib.Core.Logic.{◌⊎◌, inl, inr}
use Prim.Native.Nat.{ℕ}
use native.Mathlib.Omega.{arith}
use lib.Dec.{T}
use Rattle.grammar.specs.Steps.{choose}
use Rattle.grammar.proofs.Tests.{and_left, and_right, and_both, or_left, or_right, or_cases}
use Rattle.grammar.specs.Notation.{Class, Role, Letter, Expression, Match, is, skip, one, ◌▹◌, ◌∣◌, many, option, comment_text, Comment, lpar, rpar}
use Rattle.grammar.specs.Notation.{char, both, left, right, none, more, absent, present, text}

-- lists
pub nil≢cons : {a : Letter} {w : List Letter} → ◌≡◌ {A = List Letter} [] (a ∷ w) → ⊥
nil≢cons e = let z : ◌≡◌ {A = ℕ} 0 1 = cc in omega arith

pub head_eq : {a b : Letter} {u v : List Letter} → ◌≡◌ {A = List Letter} (a ∷ u) (b ∷ v) → a ≡ b
head_eq e = cc

pub tail_eq : {a b : Letter} {u v : List Letter} → ◌≡◌ {A = List Letter} (a ∷ u) (b ∷ v) → u ≡ v
tail_eq e = cc

pub nil-left : (u v : List Letter) → u ++ v ≡ [] → u ≡ []
nil-left [] v e = refl
nil-left (a ∷ u) v e = absurd (nil≢cons (sym e))

pub nil-right : (u v : List Letter) → u ++ v ≡ [] → v ≡ []
nil-right [] v e = e
nil-right (a ∷ u) v e = absurd (nil≢cons (sym e))

-- an item is expressions one after another, and a choice is of such items
abbrev pub Sequence : Type 0
Sequence = List Expression

abbrev pub Choice : Type 0
Choice = List Sequence

-- the letters are a text of the item; of some item of the choice
pub data Item : Sequence → List Letter → Type 0 where
  end : Item [] []
  next : {r : Expression} {i : Sequence} {w : List Letter} (u v : List Letter) → Match r u → Item i v → w ≡ u ++ v → Item (r ∷ i) w

pub data Items : Choice → List Letter → Type 0 where
  here : {i : Sequence} {is : Choice} {w : List Letter} → Item i w → Items (i ∷ is) w
  there : {i : Sequence} {is : Choice} {w : List Letter} → Items is w → Items (i ∷ is) w

-- whether an expression stands for the empty text
abbrev pub nullable : Expression → Bool
nullable (one ρ c) = false
nullable (r ▹ s) = nullable r && nullable s
nullable (r ∣ s) = nullable r || nullable s
nullable (many r) = true
nullable (option r) = true
nullable comment_text = true

pub nullable_sound : (r : Expression) → T (nullable r) → Match r []
nullable_sound (one ρ c) t = absurd t
nullable_sound (r ▹ s) t =
    both [] [] (nullable_sound r (and_left (nullable r) (nullable s) t)) (nullable_sound s (and_right (nullable r) (nullable s) t)) refl
nullable_sound (r ∣ s) t = go (nullable_sound r) (nullable_sound s) (or_cases (nullable r) (nullable s) t)
  where
    go : (T (nullable r) → Match r []) → (T (nullable s) → Match s []) → T (nullable r) ⊎ T (nullable s) → Match (r ∣ s) []
    go f g (inl h) = left (f h)
    go f g (inr h) = right (g h)
nullable_sound (many r) t = none
nullable_sound (option r) t = absent
nullable_sound comment_text t = text (left none)

pub nullable_complete : {r : Expression} {w : List Letter} → Match r w → w ≡ [] → T (nullable r)
nullable_complete (char h) e = absurd (nil≢cons (sym e))
nullable_complete (both {r} {s} u v m n d) e =
    and_both (nullable r) (nullable s) (nullable_complete m (nil-left u v (sym d ∙ e))) (nullable_complete n (nil-right u v (sym d ∙ e)))
nullable_complete (left {r} {s} m) e = or_left (nullable r) (nullable s) (nullable_complete m e)
nullable_complete (right {r} {s} m) e = or_right (nullable r) (nullable s) (nullable_complete m e)
nullable_complete none e = tt
nullable_complete (more u v m n d) e = tt
nullable_complete absent e = tt
nullable_complete (present m) e = tt
nullable_complete (text m) e = tt

-- comments: a text's first byte, and what follows it
pub data First : Letter → List Letter → Type 0 where
  plain : {a : Letter} {u : List Letter} → T (is skip Comment a) → Match comment_text u → First a u
  nest : {a : Letter} {u : List Letter} → T (is skip lpar a) → Match (comment_text ▹ one skip rpar ▹ comment_text) u → First a u

abbrev Tail : List Letter → Type 0
Tail v = Match (one skip lpar ▹ comment_text ▹ one skip rpar ▹ comment_text) v

extend : {x : List Letter} → Match (comment_text ▹ one skip rpar ▹ comment_text) x → (v : List Letter) → Tail v → Match (comment_text ▹ one skip rpar ▹ comment_text) (x ++ v)
extend (both p q m (both s z k n d) e) v t =
    both p (q ++ v) m (both s (z ++ v) k (text (right (both z v n t refl))) (ap (λ (l : List Letter). l ++ v) d ∙ append_assoc s z v))
    (ap (λ (l : List Letter). l ++ v) e ∙ append_assoc p q v)

first-nil : {a : Letter} {u v : List Letter} → Tail v → v ≡ a ∷ u → First a u
first-nil (both p q (char h) n d) e =
    nest (subst (λ (k : Letter). T (is skip lpar k)) (head_eq (sym d ∙ e)) h) (subst (λ (l : List Letter). Match (comment_text ▹ one skip rpar ▹ comment_text) l) (tail_eq (sym d ∙ e)) n)

first_more : {a : Letter} {x v : List Letter} → First a x → Tail v → First a (x ++ v)
first_more {x = x} {v} (plain h m) t = plain h (text (right (both x v m t refl)))
first_more {x = x} {v} (nest h m) t = nest h (extend m v t)

first-eq : {a b : Letter} {u v : List Letter} → First a u → ◌≡◌ {A = List Letter} (a ∷ u) (b ∷ v) → First b v
first-eq {a} {b} {u} {v} f e = subst (λ (l : List Letter). First b l) (tail_eq e) (subst (λ (k : Letter). First k u) (head_eq e) f)

pub first : {w : List Letter} → Match comment_text w → (a : Letter) (u : List Letter) → w ≡ a ∷ u → First a u
first (text (left none)) a u e = absurd (nil≢cons e)
first (text (left (more p v (char h) n d))) a u e = first-eq (plain h (text (left n))) (sym d ∙ e)
first (text (right (both [] v m t d))) a u e = first-nil t (sym d ∙ e)
first (text (right (both (b ∷ x) v m t d))) a u e = first-eq (first_more (first m b x refl) t) (sym d ∙ e)

first_plain : {a : Letter} {u : List Letter} → T (is skip Comment a) → Match comment_text u → Match comment_text (a ∷ u)
first_plain {a} {u} h (text (left n)) = text (left (more (a ∷ []) u (char h) n refl))
first_plain {a} {u} h (text (right (both x v m t d))) = text (right (both (a ∷ x) v (first_plain h m) t (ap (λ (l : List Letter). a ∷ l) d)))

first_nest : {a : Letter} {u : List Letter} → T (is skip lpar a) → Match (comment_text ▹ one skip rpar ▹ comment_text) u → Match comment_text (a ∷ u)
first_nest {a} {u} h m = text (right (both [] (a ∷ u) (text (left none)) (both (a ∷ []) u (char h) m refl) refl))

-- a sequence with an expression in front, the expression's own sequence flattened
abbrev pub push : Expression → Sequence → Sequence
push (one ρ c) κ = one ρ c ∷ κ
push (r ▹ s) κ = push r (push s κ)
push (r ∣ s) κ = (r ∣ s) ∷ κ
push (many r) κ = many r ∷ κ
push (option r) κ = option r ∷ κ
push comment_text κ = comment_text ∷ κ

pub push_in : (r : Expression) {κ : Sequence} {w : List Letter} → Item (r ∷ κ) w → Item (push r κ) w
push_in (one ρ c) m = m
push_in (r ▹ s) (next u v (both p q m n d) k e) =
    push_in r (next p (q ++ v) m (push_in s (next q v n k refl)) (e ∙ ap (λ (l : List Letter). l ++ v) d ∙ append_assoc p q v))
push_in (r ∣ s) m = m
push_in (many r) m = m
push_in (option r) m = m
push_in comment_text m = m

regroup : {r s : Expression} {κ : Sequence} {w : List Letter} (u v : List Letter) → Match r u → Item (s ∷ κ) v → w ≡ u ++ v → Item ((r ▹ s) ∷ κ) w
regroup u v m (next p q n k d) e = next (u ++ p) q (both u p m n refl) k (e ∙ ap (λ (l : List Letter). u ++ l) d ∙ sym (append_assoc u p q))

regroup' : {r s : Expression} {κ κ' : Sequence} {w : List Letter} → Item (r ∷ κ') w → ((v : List Letter) → Item κ' v → Item (s ∷ κ) v) → Item ((r ▹ s) ∷ κ) w
regroup' (next u v m k e) f = regroup u v m (f v k) e

pub push_out : (r : Expression) {κ : Sequence} {w : List Letter} → Item (push r κ) w → Item (r ∷ κ) w
push_out (one ρ c) m = m
push_out (r ▹ s) m = regroup' (push_out r m) (λ v k. push_out s k)
push_out (r ∣ s) m = m
push_out (many r) m = m
push_out (option r) m = m
push_out comment_text m = m

-- what is left after a letter that has the classes of b, of the expression and then κ, in front of the choice acc
abbrev pub deeper : Letter → Sequence → Choice → Choice
deeper b κ acc = choose (is skip lpar b) ((comment_text ∷ one skip rpar ∷ comment_text ∷ κ) ∷ acc) acc

unfoldable pub derive : Letter → Expression → Sequence → Choice → Choice
derive b (one ρ c) κ acc = choose (is ρ c b) (κ ∷ acc) acc
derive b (r ▹ s) κ acc = derive b r (push s κ) (choose (nullable r) (derive b s κ acc) acc)
derive b (r ∣ s) κ acc = derive b r κ (derive b s κ acc)
derive b (many r) κ acc = derive b r (many r ∷ κ) acc
derive b (option r) κ acc = derive b r κ acc
derive b comment_text κ acc = choose (is skip Comment b) ((comment_text ∷ κ) ∷ deeper b κ acc) (deeper b κ acc)

pub choose_yes : (t : Bool) (x y : Choice) {w : List Letter} → T t → Items x w → Items (choose t x y) w
choose_yes true x y h m = m
choose_yes false x y h m = absurd h

pub choose-keep : (t : Bool) (x y : Choice) {w : List Letter} → Items x w → Items y w → Items (choose t x y) w
choose-keep true x y m n = m
choose-keep false x y m n = n

pub choose_cases : (t : Bool) (x y : Choice) {w : List Letter} → Items (choose t x y) w → (T t × Items x w) ⊎ Items y w
choose_cases true x y m = inl (tt, m)
choose_cases false x y m = inr m

pub derive_keep : (b : Letter) (r : Expression) (κ : Sequence) (acc : Choice) {w : List Letter} → Items acc w → Items (derive b r κ acc) w
unfolding derive
derive_keep b (one ρ c) κ acc m = choose-keep (is ρ c b) _ _ (there m) m
derive_keep b (r ▹ s) κ acc m = derive_keep b r (push s κ) (choose (nullable r) (derive b s κ acc) acc) (choose-keep (nullable r) _ _ (derive_keep b s κ acc m) m)
derive_keep b (r ∣ s) κ acc m = derive_keep b r κ (derive b s κ acc) (derive_keep b s κ acc m)
derive_keep b (many r) κ acc m = derive_keep b r (many r ∷ κ) acc m
derive_keep b (option r) κ acc m = derive_keep b r κ acc m
derive_keep b comment_text κ acc m = let n : Items (deeper b κ acc) _ = choose-keep (is skip lpar b) _ _ (there m) m in choose-keep (is skip Comment b) _ _ (there n) n

-- no text is lost: byte a has no class that b has not
module _ (a b : Letter) (agree : (ρ : Role) (c : Class) → T (is ρ c a) → T (is ρ c b)) where
  pub derive_complete : {r : Expression} {w : List Letter} → Match r w → (u : List Letter) → w ≡ a ∷ u → (κ : Sequence) (acc : Choice) (v x : List Letter) → Item κ v → x ≡ u ++ v → Items (derive b r κ acc) x
  unfolding derive
  derive_complete (char {ρ} {c} h) u e κ acc v x k d =
      choose_yes (is ρ c b) _ _ (agree ρ c (subst (λ (n : Letter). T (is ρ c n)) (head_eq e) h))
      (here (subst (Item κ) (sym (d ∙ ap (λ (l : List Letter). l ++ v) (sym (tail_eq e)))) k))
  derive_complete (both {r} {s} [] q m n f) u e κ acc v x k d =
      derive_keep b r (push s κ) _ (choose_yes (nullable r) _ _ (nullable_complete m refl) (derive_complete n u (sym f ∙ e) κ acc v x k d))
  derive_complete (both {r} {s} (a' ∷ p) q m n f) u e κ acc v x k d =
      derive_complete m p (ap (λ (c : Letter). c ∷ p) (head_eq (sym f ∙ e))) (push s κ) _ (q ++ v) x (push_in s (next q v n k refl))
      (d ∙ ap (λ (l : List Letter). l ++ v) (sym (tail_eq (sym f ∙ e))) ∙ append_assoc p q v)
  derive_complete (left {r} {s} m) u e κ acc v x k d = derive_complete m u e κ (derive b s κ acc) v x k d
  derive_complete (right {r} {s} m) u e κ acc v x k d = derive_keep b r κ _ (derive_complete m u e κ acc v x k d)
  derive_complete none u e κ acc v x k d = absurd (nil≢cons e)
  derive_complete (more [] q m n f) u e κ acc v x k d = derive_complete n u (sym f ∙ e) κ acc v x k d
  derive_complete (more {r} (a' ∷ p) q m n f) u e κ acc v x k d =
      derive_complete m p (ap (λ (c : Letter). c ∷ p) (head_eq (sym f ∙ e))) (many r ∷ κ) acc (q ++ v) x (next q v n k refl)
      (d ∙ ap (λ (l : List Letter). l ++ v) (sym (tail_eq (sym f ∙ e))) ∙ append_assoc p q v)
  derive_complete absent u e κ acc v x k d = absurd (nil≢cons e)
  derive_complete (present m) u e κ acc v x k d = derive_complete m u e κ acc v x k d
  derive_complete (text m) u e κ acc v x k d = go (first (text m) a u e)
    where
      inner : Match (comment_text ▹ one skip rpar ▹ comment_text) u → Items (((comment_text ∷ one skip rpar ∷ comment_text ∷ κ)) ∷ acc) x
      inner (both p q m₁ (both s z m₂ m₃ f) g) =
          here (next p (q ++ v) m₁ (next s (z ++ v) m₂ (next z v m₃ k refl) (ap (λ (l : List Letter). l ++ v) f ∙ append_assoc s z v)) (d ∙ ap (λ (l : List Letter). l ++ v) g ∙ append_assoc p q v))

      go : First a u → Items (choose (is skip Comment b) ((comment_text ∷ κ) ∷ deeper b κ acc) (deeper b κ acc)) x
      go (plain h n) = choose_yes (is skip Comment b) _ _ (agree skip Comment h) (here (next u v n k d))
      go (nest h n) =
          let i : Items (deeper b κ acc) x = choose_yes (is skip lpar b) _ _ (agree skip lpar h) (inner n) in
          choose-keep (is skip Comment b) _ _ (there i) i

-- no text is added: byte a has each class that b has
module _ (a b : Letter) (agree : (ρ : Role) (c : Class) → T (is ρ c b) → T (is ρ c a)) where
  pub derive_sound : (r : Expression) (κ : Sequence) (acc : Choice) (x : List Letter) → Items (derive b r κ acc) x → Item (r ∷ κ) (a ∷ x) ⊎ Items acc x
  unfolding derive
  derive_sound (one ρ c) κ acc x m = go (choose_cases (is ρ c b) _ _ m)
    where
      go : (T (is ρ c b) × Items (κ ∷ acc) x) ⊎ Items acc x → Item (one ρ c ∷ κ) (a ∷ x) ⊎ Items acc x
      go (inl p) = deep p.0 p.1
        where
          deep : T (is ρ c b) → Items (κ ∷ acc) x → Item (one ρ c ∷ κ) (a ∷ x) ⊎ Items acc x
          deep h (here k) = inl (next (a ∷ []) x (char (agree ρ c h)) k refl)
          deep h (there n) = inr n
      go (inr n) = inr n
  derive_sound (r ▹ s) κ acc x m = go (derive_sound r (push s κ) (choose (nullable r) (derive b s κ acc) acc) x m) (derive_sound s κ acc x)
    where
      last : T (nullable r) → Item (s ∷ κ) (a ∷ x) ⊎ Items acc x → Item ((r ▹ s) ∷ κ) (a ∷ x) ⊎ Items acc x
      last t (inl k) = inl (regroup [] (a ∷ x) (nullable_sound r t) k refl)
      last t (inr n) = inr n

      go : Item (r ∷ push s κ) (a ∷ x) ⊎ Items (choose (nullable r) (derive b s κ acc) acc) x → (Items (derive b s κ acc) x → Item (s ∷ κ) (a ∷ x) ⊎ Items acc x) → Item ((r ▹ s) ∷ κ) (a ∷ x) ⊎ Items acc x
      go (inl k) f = inl (regroup' k (λ v l. push_out s l))
      go (inr n) f = deep (choose_cases (nullable r) _ _ n)
        where
          deep : (T (nullable r) × Items (derive b s κ acc) x) ⊎ Items acc x → Item ((r ▹ s) ∷ κ) (a ∷ x) ⊎ Items acc x
          deep (inl p) = last p.0 (f p.1)
          deep (inr q) = inr q
  derive_sound (r ∣ s) κ acc x m = go (derive_sound r κ (derive b s κ acc) x m) (derive_sound s κ acc x)
    where
      alt_left : Item (r ∷ κ) (a ∷ x) → Item ((r ∣ s) ∷ κ) (a ∷ x)
      alt_left (next u v k l e) = next u v (left k) l e

      alt_right : Item (s ∷ κ) (a ∷ x) ⊎ Items acc x → Item ((r ∣ s) ∷ κ) (a ∷ x) ⊎ Items acc x
      alt_right (inl (next u v k l e)) = inl (next u v (right k) l e)
      alt_right (inr n) = inr n

      go : Item (r ∷ κ) (a ∷ x) ⊎ Items (derive b s κ acc) x → (Items (derive b s κ acc) x → Item (s ∷ κ) (a ∷ x) ⊎ Items acc x) → Item ((r ∣ s) ∷ κ) (a ∷ x) ⊎ Items acc x
      go (inl k) f = inl (alt_left k)
      go (inr n) f = alt_right (f n)
  derive_sound (many r) κ acc x m = go (derive_sound r (many r ∷ κ) acc x m)
    where
      go : Item (r ∷ many r ∷ κ) (a ∷ x) ⊎ Items acc x → Item (many r ∷ κ) (a ∷ x) ⊎ Items acc x
      go (inl (next u v k (next p q l n d) e)) =
          inl (next (u ++ p) q (more u p k l refl) n (e ∙ ap (λ (t : List Letter). u ++ t) d ∙ sym (append_assoc u p q)))
      go (inr n) = inr n
  derive_sound (option r) κ acc x m = go (derive_sound r κ acc x m)
    where
      go : Item (r ∷ κ) (a ∷ x) ⊎ Items acc x → Item (option r ∷ κ) (a ∷ x) ⊎ Items acc x
      go (inl (next u v k l e)) = inl (next u v (present k) l e)
      go (inr n) = inr n
  derive_sound comment_text κ acc x m = go (choose_cases (is skip Comment b) _ _ m)
    where
      nested : T (is skip lpar b) → Items ((comment_text ∷ one skip rpar ∷ comment_text ∷ κ) ∷ acc) x → Item (comment_text ∷ κ) (a ∷ x) ⊎ Items acc x
      nested h (here (next u v k (next p q l (next s z n o f) g) e)) =
          inl (next (a ∷ (u ++ (p ++ s))) z (first_nest (agree skip lpar h) (both u (p ++ s) k (both p s l n refl) refl)) o
          (ap (λ (t : List Letter). a ∷ t)
          (e ∙ ap (λ (t : List Letter). u ++ t) (g ∙ ap (λ (t : List Letter). p ++ t) f ∙ sym (append_assoc p s z)) ∙ sym (append_assoc u (p ++ s) z))))
      nested h (there n) = inr n

      rest : (T (is skip lpar b) × Items ((comment_text ∷ one skip rpar ∷ comment_text ∷ κ) ∷ acc) x) ⊎ Items acc x → Item (comment_text ∷ κ) (a ∷ x) ⊎ Items acc x
      rest (inl p) = nested p.0 p.1
      rest (inr n) = inr n

      simple : T (is skip Comment b) → Items ((comment_text ∷ κ) ∷ deeper b κ acc) x → Item (comment_text ∷ κ) (a ∷ x) ⊎ Items acc x
      simple h (here (next u v k l e)) = inl (next (a ∷ u) v (first_plain (agree skip Comment h) k) l (ap (λ (t : List Letter). a ∷ t) e))
      simple h (there n) = rest (choose_cases (is skip lpar b) _ _ n)

      go : (T (is skip Comment b) × Items ((comment_text ∷ κ) ∷ deeper b κ acc) x) ⊎ Items (deeper b κ acc) x → Item (comment_text ∷ κ) (a ∷ x) ⊎ Items acc x
      go (inl p) = simple p.0 p.1
      go (inr n) = rest (choose_cases (is skip lpar b) _ _ n)
