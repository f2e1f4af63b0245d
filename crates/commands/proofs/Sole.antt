-- Two outcomes that `read_command` may give are one: the command, its words, and where the next begins.
-- Assumes nothing.
use Rattle.std.specs.Prelude.{None, Option, Some}
use mathlib.Core.Path.{◌≡◌, refl, sym, ap, ◌∙◌, subst}
use mathlib.Core.List.{List, nil≢cons, head-eq_of_cons-eq}
use Prim.Native.Nat.{ℕ}
use lib.IntN.{ℤ}
use Rattle.pieces.specs.declared.Spot.{Spot}
use Rattle.rules.specs.Written.{Written}
use Rattle.commands.specs.Words.{DecodedOne, ReadsCommand}
use Rattle.commands.specs.declared.Decoded.{Decoded}

module _ (t : List ℕ) (s : Spot) (a b : ℕ) (ws : List ℤ) where
  same-command : {c d : Written} {x y : Decoded} {ws₁ ws₂ : List ℤ} → DecodedOne t s a b c ws x.kind x.place x.end x.to ws₁ → DecodedOne t s a b d ws y.kind y.place y.end y.to ws₂
      → c ≡ d → (x ≡ y) × (ws₁ ≡ ws₂)
  same-command {c} {y = y} {ws₂ = ws₂} g k e =
      let h : DecodedOne t s a b c ws y.kind y.place y.end y.to ws₂ = subst (λ (w : Written). DecodedOne t s a b w ws y.kind y.place y.end y.to ws₂) (sym e) k in (
        decoded_is (g.tells.kind ∙ sym h.tells.kind) (g.tells.place ∙ sym h.tells.place) (g.tells.count ∙ sym h.tells.count) (g.exact ∙ sym h.exact),
        g.tells.laid ∙ sym h.tells.laid,
      )
    where
      decoded_is : {x y : Decoded} → x.kind ≡ y.kind → x.place ≡ y.place → x.end ≡ y.end → x.to ≡ y.to → x ≡ y
      decoded_is k p n q = λ i. record { kind = k i; place = p i; end = n i; to = q i }

  pub reads_sole : (r o : Option Decoded) {ws₁ ws₂ : List ℤ} → ReadsCommand t s a b ws r ws₁ → ReadsCommand t s a b ws o ws₂ → (r ≡ o) × (ws₁ ≡ ws₂)
  reads_sole (Some d) (Some e) x y = let same = same-command {x = d} {y = e} x.1 y.1 (head-eq_of_cons-eq (sym x.1.is ∙ y.1.is)) in (ap Some same.0, same.1)
  reads_sole None None x y = (refl, x.1 ∙ sym y.1)
  reads_sole None (Some e) x y = absurd (nil≢cons (sym x.0 ∙ y.1.is))
  reads_sole (Some d) None x y = absurd (nil≢cons (sym y.0 ∙ x.1.is))
