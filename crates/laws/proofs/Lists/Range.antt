-- What holds of all of a list; and what it is for the points of a shape to lie within range (Kept.antt proves it of every shape drawn).
-- Assumes nothing.
use mathlib.Core.Path.{◌≡◌}
use mathlib.Core.Bool.{false}
use mathlib.Core.List.{List, [], ◌∷◌, ◌++◌}
use Rattle.definition.specs.Words.{any}
use Rattle.definition.specs.Faults.{beyond, both}
use Rattle.definition.specs.Drawing.{Drawn}

-- all of a list
unfoldable pub All : {A : Type 0} → (A → Type 0) → List A → Type 0
All P [] = Unit {0}
All P (a ∷ l) = P a × All P l

pub all-++ : {A : Type 0} (P : A → Type 0) (a b : List A) → All P a → All P b → All P (a ++ b)
unfolding All
all-++ P [] b x y = y
all-++ P (e ∷ a) b x y = (x.0, all-++ P a b x.1 y)

pub all_to : {A : Type 0} (P R : A → Type 0) → ((a : A) → P a → R a) → (l : List A) → All P l → All R l
unfolding All
all_to P R f [] x = tt
all_to P R f (a ∷ l) x = (f a x.0, all_to P R f l x.1)

pub all_at : {A : Type 0} (P : A → Type 0) (before : List A) (a : A) (after : List A) → All P (before ++ (a ∷ after)) → P a
unfolding All
all_at P [] a after x = x.0
all_at P (b ∷ before) a after x = all_at P before a after x.1

abbrev pub Within : Drawn → Type 0
Within d = any beyond (both d.itself.points) ≡ false
