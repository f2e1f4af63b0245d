-- The foremost of refusals: the account collects them in text order and takes the lowest number, the definition lists them by number and takes the
-- first. Both come to the same choice: of each number from 3 to 9 the first place, and of these the lowest number.
-- Assumes nothing.
use Rattle.std.specs.Prelude.{if◌then◌else◌}
use mathlib.Core.Path.{◌≡◌, refl, ap, ◌∙◌}
use mathlib.Core.Bool.{Bool, true, false}
use mathlib.Core.List.{List, [], ◌∷◌, ◌++◌}
use mathlib.Core.Option.{Option, none, some}
use Prim.Native.Nat.{ℕ, zero, suc, ◌+◌, ◌≤◌, ◌<◌}
use native.Mathlib.Omega.{arith}
use borrow.Author.Tests.{lt-ltb, le-ltb, eqb-true, eqb-false}
use lib.Dec.{ltb, eqb}
use lib.IntN.{ℤ}
use Rattle.definition.specs.Words.{those}
use Rattle.definition.specs.Commands.{Number}
use Rattle.definition.specs.declared.Refusal.{Refusal}
use Rattle.definition.specs.declared.Rule.{Rule}
use Rattle.definition.specs.Rules.{number_of, refuse}
use Rattle.definition.specs.Faults.{at_numbers, at_command}
use Rattle.laws.proofs.Lists.Range.{All}
use Rattle.checking.specs.Account.{Blame, blame, when, sooner, foremost}

-- ---- the choice

-- the place, if there is one, with refusal n; or else r
abbrev pub pick : Option ℕ → ℕ → Blame → Blame
pick none n r = r
pick (some p) n r = blame n p

-- of j numbers from k on
unfoldable pub chosen : ℕ → ℕ → (ℕ → Option ℕ) → Blame
chosen zero k f = blame 10 0
chosen (suc j) k f = pick (f k) k (chosen j (suc k) f)

chosen_least : (j k : ℕ) (f : ℕ → Option ℕ) → k + j ≡ 10 → k ≤ (chosen j k f).no
unfolding chosen
chosen_least zero k f e = omega arith
chosen_least (suc j) k f e = go (f k) (chosen_least j (suc k) f (omega arith))
  where
    go : (o : Option ℕ) → suc k ≤ (chosen j (suc k) f).no → k ≤ (pick o k (chosen j (suc k) f)).no
    go none h = omega arith
    go (some p) h = omega arith

-- one more
abbrev besides : Blame → (ℕ → Option ℕ) → ℕ → Option ℕ
besides x f i = if eqb x.no i then some x.place else f i

sooner_chosen : (x : Blame) (j k : ℕ) (f : ℕ → Option ℕ) → k + j ≡ 10 → k ≤ x.no → x.no < 10 → sooner x (chosen j k f) ≡ chosen j k (besides x f)
unfolding chosen
sooner_chosen x zero k f e l h = absurd (omega arith)
sooner_chosen x (suc j) k f e l h = go (eqb x.no k) refl (f k) (λ i. sooner_chosen x j (suc k) f (omega arith) i h) (chosen_least j (suc k) f (omega arith))
  where
    rest : Blame
    rest = chosen j (suc k) f

    own : (o : Option ℕ) → x.no ≡ k → suc k ≤ rest.no → ltb (pick o k rest).no x.no ≡ false
    own none d g = le-ltb rest.no x.no (omega arith)
    own (some q) d g = le-ltb k x.no (omega arith)

    go : (t : Bool) → eqb x.no k ≡ t → (o : Option ℕ) → (suc k ≤ x.no → sooner x rest ≡ chosen j (suc k) (besides x f)) → suc k ≤ rest.no
        → sooner x (pick o k rest) ≡ pick (if t then some x.place else o) k (chosen j (suc k) (besides x f))
    go true d o r g = rw (own o (eqb-true x.no k d) g) (λ i. blame (eqb-true x.no k d i) x.place)
    go false d (some q) r g = rw (lt-ltb k x.no (later d)) refl
      where
        later : eqb x.no k ≡ false → k < x.no
        later d = let n = eqb-false x.no k d in omega arith
    go false d none r g = r (let n = eqb-false x.no k d in omega arith)

-- ---- the account's

unfoldable pub find : ℕ → List Blame → Option ℕ
find k [] = none
find k (x ∷ xs) = let rest = find k xs in if eqb x.no k then some x.place else rest

pub record Numbered (x : Blame) : Type 0 where
  pub least : 3 ≤ x.no
  pub most : x.no < 10

pub foremost_is : (bs : List Blame) → All Numbered bs → foremost bs ≡ chosen 7 3 (λ k. find k bs)
unfolding foremost find All
foremost_is [] h = unfold chosen in refl
foremost_is (x ∷ bs) h = ap (sooner x) (foremost_is bs h.1) ∙ sooner_chosen x 7 3 (λ k. find k bs) refl h.0.least h.0.most

pub all_when : (b : Bool) (n p : ℕ) (r : List Blame) → 3 ≤ n → n < 10 → All Numbered r → All Numbered (when b n p r)
unfolding All
all_when true n p r l m h = (record { least = l; most = m }, h)
all_when false n p r l m h = h

pub find_other : (k n : ℕ) → eqb n k ≡ false → (b : Bool) (p : ℕ) (r : List Blame) → find k (when b n p r) ≡ find k r
unfolding find
find_other k n e true p r = rw e refl
find_other k n e false p r = refl

pub find-own : (n : ℕ) → eqb n n ≡ true → (b : Bool) (p : ℕ) (r : List Blame) → find n (when b n p r) ≡ (if b then some p else find n r)
unfolding find
find-own n e true p r = rw e refl
find-own n e false p r = refl

-- ---- the definition's

abbrev pub head_of : List Refusal → Blame
head_of [] = blame 10 0
head_of (r ∷ rs) = blame (number_of r.rule) r.place

-- along numbers: what each brings, by the test and its place, to what those after it bring
unfoldable pub along : {X : Type 0} → (Bool → ℕ → X → X) → (ℤ → Bool) → List Number → X → X
along f t [] x = x
along f t (z ∷ zs) x = f (t z.what) z.place (along f t zs x)

-- the place of the first number that fails by the test, or else x
abbrev pub first_place : Bool → ℕ → Option ℕ → Option ℕ
first_place b p y = if b then some p else y

abbrev pub found : (ℤ → Bool) → List Number → Option ℕ → Option ℕ
found t zs x = along first_place t zs x

pub head_numbers : (n : Rule) (t : ℤ → Bool) (zs : List Number) (r : List Refusal) → head_of (at_numbers n t zs ++ r) ≡ pick (found t zs none) (number_of n) (head_of r)
unfolding at_numbers those along
head_numbers n t [] r = refl
head_numbers n t (z ∷ zs) r = go (t z.what) (head_numbers n t zs r)
  where
    listed : List Number → List Refusal
    listed ys = mathlib.Core.List.map (λ d. refuse n d.place) ys

    go : (b : Bool) → head_of (listed (those (λ d. t d.what) zs) ++ r) ≡ pick (found t zs none) (number_of n) (head_of r)
        → head_of (listed (if b then z ∷ those (λ d. t d.what) zs else those (λ d. t d.what) zs) ++ r) ≡ pick (if b then some z.place else found t zs none) (number_of n) (head_of r)
    go true h = refl
    go false h = h

pub head_command : (n : Rule) (b : Bool) (p : ℕ) (r : List Refusal) → head_of (at_command n b p ++ r) ≡ pick (if b then some p else none) (number_of n) (head_of r)
head_command n true p r = refl
head_command n false p r = refl

-- ---- one choice and another

pub alike : (x y : Option ℕ) (n : ℕ) (r s : Blame) → x ≡ y → (x ≡ none → r ≡ s) → pick x n r ≡ pick y n s
alike x y n r s e f = go x refl ∙ ap (λ (z : Option ℕ). pick z n s) e
  where
    go : (z : Option ℕ) → x ≡ z → pick z n r ≡ pick z n s
    go none d = f d
    go (some p) d = refl
