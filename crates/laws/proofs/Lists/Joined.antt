-- The definitions on joined lists: of transformations, steps, deeds, events, commands and letters.
-- Assumes nothing.
use Rattle.std.specs.Prelude.{if◌then◌else◌}
use mathlib.Core.Path.{◌≡◌, refl, sym, ap, ap₂, ◌∙◌, subst}
use mathlib.Core.Bool.{Bool, true, false, ◌||◌}
use mathlib.Core.List.{List, [], ◌∷◌, ◌++◌, append_assoc, map, flat_map}
use Prim.Native.Nat.{ℕ, suc, ◌+◌, ◌-◌, ◌*◌}
use native.Mathlib.Omega.{arith}
use lib.IntN.{ℤ}
use lib.ListN.{length}
use Rattle.grammar.specs.Notation.{Role, Letter, dec, Role-discrete, head, second, axis, sign, stop, later}
use Rattle.definition.specs.Words.{Placed, at, Point, those}
use Rattle.definition.specs.Commands.{Turn, Command, start, worth, numbers, named, next, turn_at, turns, command_at, commands, ◌plays◌}
use Rattle.definition.specs.Standing.{Standing, outside, after}
use Rattle.definition.specs.declared.Refusal.{Refusal}
use Rattle.definition.specs.Faults.{faults, all_faults}
use Rattle.definition.specs.Turns.{in_order}
use Rattle.definition.specs.Table.{Step, Table}
use Rattle.definition.specs.Drawing.{step_of, retained, Deed, deed_of, deeds, Chain, Event, drawn_step, drawn_body, happens, table_after, story, Drawn}
use Rattle.definition.specs.Drawing.{called, drew, entered, removed, refused}
use Rattle.definition.specs.Counts.{Counts, End, finished, stopped, counted, go_on, ending, shapes_of}
use Rattle.definition.specs.Flat.{said, lines}
use Rattle.definition.specs.Commands.{draw, layer, call, finish, delete, nothing}
-- the table after a list of deeds
unfoldable pub use Rattle.definition.specs.Summary.{table_then}

-- those that pass a test, one by one
abbrev pub kept_if : {A : Type 0} → Bool → A → List A
kept_if b a = if b then a ∷ [] else []

pub those-flat : {A : Type 0} (test : A → Bool) (l : List A) → those test l ≡ flat_map (λ a. kept_if (test a) a) l
unfolding those flat_map
those-flat test [] = refl
those-flat {A} test (a ∷ l) = go (test a) (those-flat test l)
  where
    go : (b : Bool) → those test l ≡ flat_map (λ a. kept_if (test a) a) l → (if b then a ∷ those test l else those test l) ≡ kept_if b a ++ flat_map (λ a. kept_if (test a) a) l
    go true e = ap (λ (z : List A). a ∷ z) e
    go false e = e

pub flat-++ : {A B : Type 0} (f : A → List B) (a b : List A) → flat_map f (a ++ b) ≡ flat_map f a ++ flat_map f b
unfolding flat_map
flat-++ f [] b = refl
flat-++ {B = B} f (x ∷ a) b = ap (λ (l : List B). f x ++ l) (flat-++ f a b) ∙ sym (append_assoc (f x) (flat_map f a) (flat_map f b))

-- RULES 9, "The inner call's list acts before the outer's"
pub in_order-++ : (f : Turn ℤ → Point ℤ → Point ℤ) (a b : List (Turn ℤ)) (p : Point ℤ) → in_order f (a ++ b) p ≡ in_order f b (in_order f a p)
unfolding in_order
in_order-++ f [] b p = refl
in_order-++ f (t ∷ a) b p = in_order-++ f a b (f t p)

pub drawn_body-++ : (f : ℕ → ℕ → List (Turn ℤ) → List Event) (chain : Chain) (net : List (Turn ℤ)) (a b : List (Placed Step))
    → drawn_body f chain net (a ++ b) ≡ drawn_body f chain net a ++ drawn_body f chain net b
unfolding drawn_body
drawn_body-++ f chain net [] b = refl
drawn_body-++ f chain net (s ∷ a) b =
    ap (λ (x : List Event). drawn_step f chain net s.place s.what ++ x) (drawn_body-++ f chain net a b)
    ∙ sym (append_assoc (drawn_step f chain net s.place s.what) (drawn_body f chain net a) (drawn_body f chain net b))

pub story-++ : (t : Table) (a b : List Deed) → story t (a ++ b) ≡ story t a ++ story (table_then t a) b
unfolding story table_then
story-++ t [] b = refl
story-++ t (d ∷ a) b =
    ap (λ (x : List Event). happens t d ++ x) (story-++ (table_after t d) a b)
    ∙ sym (append_assoc (happens t d) (story (table_after t d) a) (story (table_then (table_after t d) a) b))

go_on-go_on : (e : End) (f g : Counts → End) → go_on e (λ c. go_on (f c) g) ≡ go_on (go_on e f) g
unfolding go_on
go_on-go_on (finished c) f g = refl
go_on-go_on (stopped r chain) f g = refl

pub go_on-ap : (e : End) (f g : Counts → End) → ((c : Counts) → f c ≡ g c) → go_on e f ≡ go_on e g
unfolding go_on
go_on-ap (finished c) f g h = h c
go_on-ap (stopped r chain) f g h = refl

-- a drawing that finished goes on from its counts
pub ending-++ : (c : Counts) (a b : List Event) → ending c (a ++ b) ≡ go_on (ending c a) (λ c'. ending c' b)
unfolding ending go_on
ending-++ c [] b = refl
ending-++ c (e ∷ a) b =
    go_on-ap (counted c e) (λ c'. ending c' (a ++ b)) (λ c'. go_on (ending c' a) (λ c''. ending c'' b)) (λ c'. ending-++ c' a b)
    ∙ go_on-go_on (counted c e) (λ c'. ending c' a) (λ c''. ending c'' b)

pub shapes_of-++ : (a b : List Event) → shapes_of (a ++ b) ≡ shapes_of a ++ shapes_of b
unfolding shapes_of
shapes_of-++ [] b = refl
shapes_of-++ (drew d ∷ a) b = ap (λ (x : List Drawn). d ∷ x) (shapes_of-++ a b)
shapes_of-++ (called p chain d ∷ a) b = shapes_of-++ a b
shapes_of-++ (entered d before ∷ a) b = shapes_of-++ a b
shapes_of-++ (removed n before ∷ a) b = shapes_of-++ a b
shapes_of-++ (refused r chain ∷ a) b = shapes_of-++ a b

-- what stands after a list of commands
unfoldable pub standing : Standing → List (Placed Command) → Standing
standing s [] = s
standing s (c ∷ cs) = standing (after c.what s) cs

-- outside definitions nothing stands but the layer
abbrev Bare : Standing → Type 0
Bare s = s.inside ≡ false → s ≡ outside s.layer_set

after-bare : (c : Command) (s : Standing) → Bare s → Bare (after c s)
unfolding after
after-bare (layer k) s h = λ e. ap (after (layer k)) (h e)
after-bare (start n a b) s h = λ e. absurd (let z : ◌≡◌ {A = ℕ} 0 1 = cc in omega arith)
after-bare finish s h = λ e. refl
after-bare (draw k) s h = h
after-bare (call n ts) s h = h
after-bare (delete n) s h = h
after-bare nothing s h = h

standing-bare : (s : Standing) (cs : List (Placed Command)) → Bare s → Bare (standing s cs)
unfolding standing
standing-bare s [] h = h
standing-bare s (c ∷ cs) h = standing-bare (after c.what s) cs (after-bare c.what s h)

pub standing-outside : (l : List ℕ) (cs : List (Placed Command)) → (standing (outside l) cs).inside ≡ false
    → standing (outside l) cs ≡ outside (standing (outside l) cs).layer_set
standing-outside l cs e = standing-bare (outside l) cs (λ h. refl) e

pub all_faults-++ : (s : Standing) (a b : List (Placed Command)) → all_faults s (a ++ b) ≡ all_faults s a ++ all_faults (standing s a) b
unfolding all_faults standing
all_faults-++ s [] b = refl
all_faults-++ s (c ∷ a) b =
    ap (λ (x : List Refusal). faults s c ++ x) (all_faults-++ (after c.what s) a b)
    ∙ sym (append_assoc (faults s c) (all_faults (after c.what s) a) (all_faults (standing (after c.what s) a) b))

-- a body ends before commands that stand outside
pub retained_out : (s : Standing) (b : List (Placed Command)) → s.inside ≡ false → retained s b ≡ []
unfolding retained
retained_out s [] e = refl
retained_out s (c ∷ b) e = rw e

pub retained-++ : (s : Standing) (a b : List (Placed Command)) → (standing s a).inside ≡ false → retained s (a ++ b) ≡ retained s a
unfolding retained standing
retained-++ s [] b e = retained_out s b e
retained-++ s (c ∷ a) b e =
    ap (λ (x : List (Placed Step)). if s.inside then map (at c.place) (step_of s c.what) ++ x else []) (retained-++ (after c.what s) a b e)

deed_of-++ : (s : Standing) (p : ℕ) (c : Command) (a b : List (Placed Command)) → (standing (after c s) a).inside ≡ false
    → deed_of s p c (a ++ b) ≡ deed_of s p c a
unfolding deed_of
deed_of-++ s p (draw k) a b e = refl
deed_of-++ s p (call n ts) a b e = refl
deed_of-++ s p (start n f g) a b e = rw (retained-++ (after (start n f g) s) a b e)
deed_of-++ s p (delete n) a b e = refl
deed_of-++ s p (layer l) a b e = refl
deed_of-++ s p finish a b e = refl
deed_of-++ s p nothing a b e = refl

-- deeds of joined commands, where no definition is open at the seam
pub deeds-++ : (s : Standing) (a b : List (Placed Command)) → (standing s a).inside ≡ false → deeds s (a ++ b) ≡ deeds s a ++ deeds (standing s a) b
unfolding deeds standing
deeds-++ s [] b e = refl
deeds-++ s (c ∷ a) b e =
    ap₂ {C = List Deed} (λ (x y : List Deed). x ++ y) (deed_of-++ s c.place c.what a b e) (deeds-++ (after c.what s) a b e)
    ∙ sym (append_assoc (deed_of s c.place c.what a) (deeds (after c.what s) a) (deeds (standing (after c.what s) a) b))

-- the layer of the last shape
unfoldable pub last_layer : List ℕ → List Drawn → List ℕ
last_layer before [] = before
last_layer before (d ∷ ds) = last_layer d.layer_of ds

pub lines-++ : (before : List ℕ) (a b : List Drawn) → lines before (a ++ b) ≡ lines before a ++ lines (last_layer before a) b
unfolding lines last_layer
lines-++ before [] b = refl
lines-++ before (d ∷ a) b =
    ap (λ (x : List ℕ). said before d ++ x) (lines-++ d.layer_of a b)
    ∙ sym (append_assoc (said before d) (lines d.layer_of a) (lines (last_layer d.layer_of a) b))

-- a command's semicolon parts a text: what stands behind it does not matter to what stands before
module _ (l : Letter) (e : l.role ≡ stop) (v : List Letter) where
  worth-stops : (w : ℕ) (u : List Letter) → worth w (u ++ l ∷ v) ≡ worth w (u ++ l ∷ [])
  unfolding worth dec
  worth-stops w [] = rw e
  worth-stops w (a ∷ u) = ap (λ (x : ℕ). if a plays later then x else w) (worth-stops (10 * w + (a.byte - 48)) u)

  numbers-stops : (n : ℕ) (s : Bool) (u : List Letter) → numbers n s (u ++ l ∷ v) ≡ numbers n s (u ++ l ∷ [])
  unfolding numbers dec
  numbers-stops n s [] = rw e
  numbers-stops n s (a ∷ u) = rw (worth-stops (a.byte - 48) u, numbers-stops (n + 1) (a plays sign) u)

  named-stops : (u : List Letter) → named (u ++ l ∷ v) ≡ named (u ++ l ∷ [])
  unfolding named dec
  named-stops [] = rw e
  named-stops (a ∷ u) = rw (named-stops u)

  next-stops : (ρ : Role) (u : List Letter) → next ρ (u ++ l ∷ v) ≡ next ρ (u ++ l ∷ [])
  unfolding next dec
  next-stops ρ [] = go (dec (Role-discrete l.role ρ)) (dec (Role-discrete l.role stop)) (rw e)
    where
      go : (b c : Bool) → c ≡ true → (if b || c then l else next ρ v) ≡ (if b || c then l else next ρ [])
      go true c h = refl
      go false c h = rw h
  next-stops ρ (a ∷ u) = rw (next-stops ρ u)

  turn_at-stops : (n : ℕ) (a : Letter) (u : List Letter) → turn_at n a (u ++ l ∷ v) ≡ turn_at n a (u ++ l ∷ [])
  unfolding turn_at
  turn_at-stops n a u = rw (numbers-stops (n + 1) false u, next-stops axis u)

  turns-stops : (n : ℕ) (u : List Letter) → turns n (u ++ l ∷ v) ≡ turns n (u ++ l ∷ [])
  unfolding turns dec
  turns-stops n [] = rw e
  turns-stops n (a ∷ u) = rw (turn_at-stops n a u, turns-stops (n + 1) u)

  command_at-stops : (n : ℕ) (a : Letter) (u : List Letter) → command_at n a (u ++ l ∷ v) ≡ command_at n a (u ++ l ∷ [])
  unfolding command_at
  command_at-stops n a u = rw (numbers-stops (n + 1) false u, named-stops u, next-stops second u, turns-stops (n + 1) u)

  -- the commands of a text that goes on behind a semicolon
  pub commands-++ : (n : ℕ) (u : List Letter) → commands n (u ++ l ∷ v) ≡ commands n (u ++ l ∷ []) ++ commands (n + (length u + 1)) v
  unfolding commands dec
  commands-++ n [] = rw e (ap (λ (k : ℕ). commands k v) (omega arith))
  commands-++ n (a ∷ u) = go (a plays head) (commands-++ (n + 1) u)
    where
      Further : ℕ → Type 0
      Further k = commands (n + 1) (u ++ l ∷ v) ≡ commands (n + 1) (u ++ l ∷ []) ++ commands k v

      go : (b : Bool) → Further (n + 1 + (length u + 1))
          → (if b then at n (command_at n a (u ++ l ∷ v)) ∷ commands (n + 1) (u ++ l ∷ v) else commands (n + 1) (u ++ l ∷ v))
          ≡ (if b then at n (command_at n a (u ++ l ∷ [])) ∷ commands (n + 1) (u ++ l ∷ []) else commands (n + 1) (u ++ l ∷ []))
          ++ commands (n + (suc (length u) + 1)) v
      go true h =
          ap₂ {C = List (Placed Command)} (λ (c : Command) (x : List (Placed Command)). at n c ∷ x) (command_at-stops n a u)
          (subst Further (omega arith) h)
      go false h = subst Further (omega arith) h
