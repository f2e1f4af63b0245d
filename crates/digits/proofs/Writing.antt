-- Writes into a room, one after the other: what every function of the pen, and its callers, compose by.
-- Assumes nothing.
use mathlib.Core.Path.{◌≡◌, refl, sym, ap, ◌∙◌, subst}
use mathlib.Core.Logic.{◌≢◌}
use mathlib.Core.List.{List, [], ◌∷◌, ◌++◌, append_assoc, append-nil}
use Prim.Native.Nat.{ℕ, suc, ◌+◌, ◌≤◌, ◌<◌}
use native.Mathlib.Nat.{add-zero, add-suc, suc-add}
use native.Mathlib.Numerals.{add-one}
use native.Mathlib.Omega.{arith}
use lib.ListN.{length, set, get_or, drop, length-append, drop_of_length-le}
use lib.Seq.{set_out, set_comm, sets, length-sets, sets-eq, drop-cons}
use Rattle.digits.specs.Writes.{Writes}

pub sets_append : {A : Type 0} (l : List A) (i : ℕ) (a b : List A) → sets (sets l i a) (i + length a) b ≡ sets l i (a ++ b)
sets_append l i [] b = ap (λ (k : ℕ). sets l k b) (add-zero i)
sets_append l i (x ∷ a) b =
    ap (λ (k : ℕ). sets (sets (set l i x) (suc i) a) k b) (add-suc i (length a) ∙ sym (suc-add i (length a))) ∙ sets_append (set l i x) (suc i) a b

-- past a list's end nothing is stored
sets_out : {A : Type 0} (l : List A) (i : ℕ) (vs : List A) → length l ≤ i → sets l i vs ≡ l
sets_out l i [] h = refl
sets_out {A} l i (x ∷ vs) h = ap (λ (m : List A). sets m (suc i) vs) (set_out l i x h) ∙ sets_out l (suc i) vs (omega (arith, h))

set-behind : {A : Type 0} (l : List A) (i : ℕ) (vs : List A) (j : ℕ) (x : A) → i + length vs ≤ j → sets (set l j x) i vs ≡ set (sets l i vs) j x
set-behind l i [] j x h = refl
set-behind {A} l i (v ∷ vs) j x h =
    let apart : j ≢ i = λ e. omega (arith, e, h) in
    ap (λ (m : List A). sets m (suc i) vs) (set_comm l j i x v apart) ∙ set-behind (set l i v) (suc i) vs j x (omega (arith, h))

-- the last may be stored before the others
pub last-first : {A : Type 0} (l : List A) (i : ℕ) (vs : List A) (j : ℕ) (x : A) → j ≡ i + length vs → sets (set l j x) i vs ≡ sets l i (vs ++ (x ∷ []))
last-first {A} l i vs j x e =
    set-behind l i vs j x (omega (arith, e)) ∙ ap (λ (k : ℕ). set (sets l i vs) k x) e ∙ sets_append l i vs (x ∷ [])

-- the record from what a function stores and gives back
pub written : {old new : List ℕ} {at next : ℕ} {bytes : List ℕ} → new ≡ sets old at bytes → next ≡ at + length bytes → Writes old new at next bytes
written {old} {new} {at} {next} {bytes} l e = record { kept = ap length l ∙ length-sets old at bytes; laid = l; ends = e }

pub nothing : (room : List ℕ) (at : ℕ) → Writes room room at at []
nothing room at = written refl (sym (add-zero at))

-- in a room that ends before them bytes are only counted
pub only_counted : {room : List ℕ} {at next : ℕ} {bytes : List ℕ} → length room ≤ at → next ≡ at + length bytes → Writes room room at next bytes
only_counted {room} {at} {next} {bytes} h e = written (sym (sets_out room at bytes h)) e

-- two in a row are one
pub both : {r₀ r₁ r₂ : List ℕ} {i j k : ℕ} {a b : List ℕ} → Writes r₀ r₁ i j a → Writes r₁ r₂ j k b → Writes r₀ r₂ i k (a ++ b)
both {r₀} {r₁} {r₂} {i} {j} {k} {a} {b} v w =
    written
    (w.laid ∙ ap (λ (l : List ℕ). sets l j b) v.laid ∙ ap (λ (n : ℕ). sets (sets r₀ i a) n b) v.ends ∙ sets_append r₀ i a b)
    (omega (arith, v.ends, w.ends, length-append a b))

pub same_bytes : {old new : List ℕ} {at next : ℕ} {a b : List ℕ} → a ≡ b → Writes old new at next a → Writes old new at next b
same_bytes {old} {new} {at} {next} e w = subst (Writes old new at next) e w

-- what is written settles the room and the next place
pub one_outcome : {old new new' bytes : List ℕ} {at next next' : ℕ} → Writes old new at next bytes → Writes old new' at next' bytes → (new ≡ new') × (next ≡ next')
one_outcome v w = (v.laid ∙ sym w.laid, v.ends ∙ sym w.ends)

-- a room that holds what is written from its start on, begins with it and is else as it was
pub begins : {old new bytes : List ℕ} {next : ℕ} → Writes old new 0 next bytes → length bytes ≤ length old → new ≡ bytes ++ drop (length bytes) old
begins {old} {new} {bytes} w h =
    let e : 0 + length bytes ≡ length bytes = omega arith in w.laid ∙ sets-eq bytes old 0 (omega arith) ∙ ap (λ (k : ℕ). bytes ++ drop k old) e

-- the next place is the number of bytes, whatever room there was: so an empty one measures
pub measures : {old new bytes : List ℕ} {next : ℕ} → Writes old new 0 next bytes → next ≡ length bytes
measures w = omega (arith, w.ends)

-- ---- a loop that writes: what it writes in all, and what of it is left

pub record WrittenSoFar (old new : List ℕ) (start at : ℕ) (all left : List ℕ) : Type 0 where
  pub done : List ℕ
  pub parts : done ++ left ≡ all
  pub writes : Writes old new start at done

pub begun : (room : List ℕ) (start : ℕ) (all : List ℕ) → WrittenSoFar room room start start all all
begun room start all = record { done = []; parts = refl; writes = nothing room start }

pub goes_on : {r₀ r₁ r₂ : List ℕ} {start i j : ℕ} {all left left' : List ℕ} (bytes : List ℕ)
    → WrittenSoFar r₀ r₁ start i all left → left ≡ bytes ++ left' → Writes r₁ r₂ i j bytes → WrittenSoFar r₀ r₂ start j all left'
goes_on {left' = left'} bytes g e w = record {
  done = g.done ++ bytes;
  parts = append_assoc g.done bytes left' ∙ ap (λ (l : List ℕ). g.done ++ l) (sym e) ∙ g.parts;
  writes = both g.writes w;
}

pub over : {old new : List ℕ} {start at : ℕ} {all left : List ℕ} → WrittenSoFar old new start at all left → left ≡ [] → Writes old new start at all
over g e = same_bytes (sym (append-nil g.done) ∙ ap (λ (l : List ℕ). g.done ++ l) (sym e) ∙ g.parts) g.writes

pub reaches : {old new : List ℕ} {start at : ℕ} {all left : List ℕ} → WrittenSoFar old new start at all left → at + length left ≡ start + length all
reaches {left = left} g = let e = ap length g.parts in omega (arith, g.writes.ends, length-append g.done left, e)

-- ---- a run of bytes, one by one

pub next-byte : (l : List ℕ) (i : ℕ) → i < length l → drop i l ≡ (get_or l i 0 ∷ []) ++ drop (i + 1) l
next-byte l i h = rw (add-one) (drop-cons l i 0 h)

pub no_byte : (l : List ℕ) (i : ℕ) → length l ≤ i → drop i l ≡ []
no_byte l i h = drop_of_length-le l h
