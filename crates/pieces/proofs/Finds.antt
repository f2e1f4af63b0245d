-- What the letter that begins a piece tells a reader: which piece it passes, or that none is left (`Finds`); and that what is left of the text falls,
-- so that a loop over pieces ends.
-- Assumes nothing.
use mathlib.Core.Path.{◌≡◌, refl}
use mathlib.Core.Bool.{Bool, true, false}
use mathlib.Core.List.{List, []}
use mathlib.Core.Logic.{◌⊎◌, inl, inr}
use Prim.Native.Nat.{ℕ, ◌-◌, ◌≤◌, ◌<◌}
use native.Mathlib.Omega.{arith}
use borrow.Author.Tests.{eqb-true, eqb-false}
use lib.Dec.{eqb}
use lib.ListN.{length}
use Rattle.grammar.specs.Notation.{skip, lead, stop, head}
use Rattle.grammar.specs.Steps.{number}
use Rattle.pieces.specs.Pieces.{stream, Step, Begins}
use Rattle.pieces.specs.declared.Spot.{Spot}
use Rattle.pieces.specs.declared.Begun.{Begun}
use Rattle.pieces.specs.declared.Piece.{Piece}
use Rattle.pieces.specs.declared.Piece.TheVariants.{First, Second, Number, Word, Stop}
use Rattle.pieces.proofs.Lexing.{led-step}

-- n marks the piece
abbrev pub Marks : Piece → ℕ → Type 0
Marks (First p b) n = n ≡ number head
Marks (Second b) n = number head < n
Marks (Number p σ v) n = n ≡ number lead
Marks (Word b) n = number head < n
Marks Stop n = n ≡ number stop

pub data Finds (t : List ℕ) (s to : Spot) (n : ℕ) : Type 0 where
  none : n ≡ number skip → stream t s ≡ [] → Finds t s to n
  some : (x : Piece) → Marks x n → Step t s x to → Finds t s to n

pub finds : {t : List ℕ} {s : Spot} {m : Begun} → Begins t s m → Finds t s m.to m.mark
unfolding number
finds {t} {s} {m} b = go (eqb n (number skip)) (eqb n (number lead)) (eqb n (number stop)) (eqb n (number head)) refl refl refl refl
  where
    n : ℕ
    n = m.mark

    letter : number head < n → Step t s (Second m.byte) m.to ⊎ Step t s (Word m.byte) m.to → Finds t s m.to n
    letter h (inl st) = some (Second m.byte) h st
    letter h (inr st) = some (Word m.byte) h st

    go : (z l e h : Bool) → eqb n (number skip) ≡ z → eqb n (number lead) ≡ l → eqb n (number stop) ≡ e → eqb n (number head) ≡ h → Finds t s m.to n
    go true l e h ez el ee eh = let k = eqb-true n (number skip) ez in none k (b.none k)
    go false true e h ez el ee eh = let k = eqb-true n (number lead) el in let st = led-step (b.led k) in some _ k st
    go false false true h ez el ee eh = let k = eqb-true n (number stop) ee in some Stop k (b.stop k)
    go false false false true ez el ee eh = let k = eqb-true n (number head) eh in some (First m.at m.byte) k (b.first k)
    go false false false false ez el ee eh =
        let h = b.some (eqb-false n (number skip) ez) in
        let k : number head < n = omega (arith, eqb-false n (number lead) el, eqb-false n (number stop) ee, eqb-false n (number head) eh) in
        letter k (b.letter k)

-- a semicolon, if it is nothing else
pub at_stop : {t : List ℕ} {s : Spot} {m : Begun} → Begins t s m → (m.mark ≡ number skip → ⊥) → (m.mark ≡ number lead → ⊥) → m.mark ≤ number head → (m.mark ≡ number head → ⊥) → Step t s Stop m.to
unfolding number
at_stop b z l h e = b.stop (let k = b.some z in omega arith)

pub step_less : {t : List ℕ} {s to : Spot} {x : Piece} → Step t s x to → length t - to.at < length t - s.at
step_less st = let h = st.ahead in let k = st.fit.within in omega arith

pub mark-less : {t : List ℕ} {s : Spot} {m : Begun} → Begins t s m → (m.mark ≡ number skip → ⊥) → length t - m.to.at < length t - s.at
mark-less {t} {s} {m} b z = go (finds b)
  where
    go : Finds t s m.to m.mark → length t - m.to.at < length t - s.at
    go (none e n) = absurd (z e)
    go (some x k st) = step_less st
