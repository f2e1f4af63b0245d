-- What `keep_command` answers, from what `read_command` left in the part of the run after the words used, which is put back.
-- Assumes nothing.
use Rattle.std.specs.Prelude.{Option, Some, None}
use mathlib.Core.Path.{◌≡◌, sym, ap, ◌∙◌, subst}
use mathlib.Core.Bool.{Bool, true, false, ◌&&◌}
use mathlib.Core.List.{List, [], ◌++◌, append-nil}
use Prim.Native.Nat.{ℕ, ◌-◌, ◌≤◌, ◌<◌}
use native.Mathlib.Omega.{arith}
use lib.Dec.{eqb}
use lib.IntN.{ℤ}
use lib.ListN.{length, take, drop, length-drop}
use lib.Seq.{take_all, drop-length}
use lib.ListN.{take-append-drop}
use Rattle.pieces.specs.Pieces.{letter_f, Fit}
use Rattle.pieces.specs.declared.Spot.{Spot}
use Rattle.rules.specs.Letters.{letter_l}
use Rattle.rules.specs.Written.{Written}
use Rattle.commands.specs.declared.Decoded.{Decoded}
use Rattle.commands.specs.Words.{DecodedOne, ReadsCommand}
use Rattle.library.specs.Storing.{Storable, Stores}
use Rattle.keeping.specs.declared.Stored.TheVariants.{More, Last, Tight}
use Rattle.keeping.specs.Growth.{steps, Ready, KeepsBy, KeepsCommand}
use Rattle.keeping.proofs.Onward.{size, keeps_none, keeps-last, keeps_by, keeps-tight, storable, keeps-stored, stored-size}

module _ (words : List ℤ) (used : ℕ) where
  -- the part lent, and the run with it put back
  abbrev pub lent : List ℤ
  lent = take (length words - used) (drop used words)

  abbrev pub back : List ℤ → List ℤ
  back part = take used words ++ (part ++ drop (length words - used) (drop used words))

  lent_is : lent ≡ drop used words
  lent_is = take_all (length words - used) (drop used words) (omega (arith, length-drop used words))

  back_is : (part : List ℤ) → back part ≡ take used words ++ part
  back_is part =
      let e : drop (length words - used) (drop used words) ≡ [] = ap (λ (n : ℕ). drop n (drop used words)) (sym (length-drop used words)) ∙ drop-length (drop used words) in
      ap (λ (l : List ℤ). take used words ++ (part ++ l)) e ∙ ap (λ (l : List ℤ). take used words ++ l) (append-nil part)

module _ {t : List ℕ} {from : Spot} {a b : ℕ} {rows : List ℕ} {words : List ℤ} {live row used : ℕ} {layered : Bool} (g : Ready t from a b rows words live row used layered) (fit : Fit t from) where
  pub answers_none : (r : Option Decoded) (part : List ℤ) → ReadsCommand t from a b (lent words used) r part → r ≡ None
      → KeepsCommand t from a b rows words live row used layered (Last from) rows (back words used part)
  unfolding KeepsBy
  answers_none r part x q =
      let y = subst (λ (r : Option Decoded). ReadsCommand t from a b (lent words used) r part) q x in
      let z = keeps_none g fit y.0 (back words used part) (back_is words used part ∙ ap (λ (l : List ℤ). take used words ++ l) (y.1 ∙ lent_is words used)) in
      record { size = ap length (back_is words used part ∙ ap (λ (l : List ℤ). take used words ++ l) (y.1 ∙ lent_is words used)) ∙ whole; by = z }
    where
      whole : length (take used words ++ drop used words) ≡ length words
      whole = ap length (take-append-drop used words)

  module _ (r : Option Decoded) (part : List ℤ) (x : ReadsCommand t from a b (lent words used) r part) {k p n : ℕ} {to : Spot} (q : r ≡ Some record { kind = k; place = p; end = n; to = to }) where
    account : Written
    account = (subst (λ (r : Option Decoded). ReadsCommand t from a b (lent words used) r part) q x).0

    one : DecodedOne t from a b account (drop used words) k p n to part
    unfolding account
    one = subst (λ (l : List ℤ). DecodedOne t from a b account l k p n to part) (lent_is words used) (subst (λ (r : Option Decoded). ReadsCommand t from a b (lent words used) r part) q x).1

    same : length (back words used part) ≡ length words
    same = size g one (back words used part) (back_is words used part)

    pub answers-last : k ≡ letter_f → KeepsCommand t from a b rows words live row used layered (Last to) rows (back words used part)
    unfolding KeepsBy
    answers-last e = record { size = same; by = keeps-last g one (back words used part) (back_is words used part) e }

    module _ (on : k ≡ letter_f → ⊥) {is : Bool} (step : is ≡ steps k) where
      pub answers_by : is ≡ false → KeepsCommand t from a b rows words live row used layered (More used layered to) rows (back words used part)
      unfolding KeepsBy
      answers_by e = record { size = same; by = keeps_by g one (back words used part) (back_is words used part) on (sym step ∙ e) }

      pub answers-tight : is ≡ true → length (back words used part) - used < n → KeepsCommand t from a b rows words live row used layered Tight rows (back words used part)
      unfolding KeepsBy
      answers-tight e h = record { size = same; by = keeps-tight g one (back words used part) (back_is words used part) on (sym step ∙ e) (omega (arith, h, same)) }

      module _ (e : is ≡ true) (h : n ≤ length (back words used part) - used) {layer idle : Bool} (layer_is : layer ≡ eqb k letter_l) (idle_is : idle ≡ (layered && layer)) where
        pub answers_storable : Storable rows (back words used part) row used n idle
        answers_storable = storable g one (back words used part) (back_is words used part) on (sym step ∙ e) (omega (arith, h, same)) layer layer_is fit idle idle_is

        pub answers-stored : {used'' : ℕ} {rows'' : List ℕ} {words'' : List ℤ} → Stores idle rows (back words used part) row used n rows'' words'' used''
            → KeepsCommand t from a b rows words live row used layered (More used'' layer to) rows'' words''
        unfolding KeepsBy
        answers-stored {used''} {rows''} {words''} s = record {
          size = stored-size g one (back words used part) (back_is words used part) on (sym step ∙ e) (omega (arith, h, same)) layer layer_is used'' rows'' words'' idle s;
          by = keeps-stored g one (back words used part) (back_is words used part) on (sym step ∙ e) (omega (arith, h, same)) layer layer_is used'' rows'' words'' idle idle_is s;
        }
