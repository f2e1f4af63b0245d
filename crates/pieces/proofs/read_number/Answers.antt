-- `read_number` meets its contract: Digits holds at each byte, and what is left of the text falls.
use mathlib.Core.Path.{sym, ◌∙◌, subst}
use Prim.Native.Nat.{ℕ}
use Rattle.pieces.proofs.Digits.{Digits, digits-start, digits-next, digits-ended, digits_other, numeral-ended, numeral_other}
use Rattle.pieces.proofs.read_number.Goals as goal

pub loop-i-init : goal.loop-i-init
loop-i-init c = digits-start _ _ _ _ c.digit-v.ensures.1

pub grown-v-requires : goal.grown-v-requires
grown-v-requires c = c.loop-i.invariant.small

pub loop-i-preserved : goal.loop-i-preserved
loop-i-preserved c = digits-next _ _ _ _ _ _ c.loop-i.invariant c.loop-i-test.true (c.type_inv.text c.loop-i.i).fits (sym c.is_digit.ensures ∙ c.if-is_digit.true) _ c.grown-v.ensures

pub returns-else-is_digit : goal.returns-else-is_digit
returns-else-is_digit c =
    let d = subst (λ (u : ℕ). Digits c.args.text.now c.args.first.to.state c.args.first.to.at u c.loop-i.i c.loop-i.v) c.digit-v.ensures.0 c.loop-i.invariant in
    record {
      step = λ s l. digits_other l d c.loop-i-test.true (c.type_inv.text c.loop-i.i).fits (sym c.is_digit.ensures ∙ c.if-is_digit.false);
      value = numeral_other _ _ _ _ _ _ d c.loop-i-test.true (sym c.is_digit.ensures ∙ c.if-is_digit.false);
    }

pub returns-after-loop-i : goal.returns-after-loop-i
returns-after-loop-i c =
    let d = subst (λ (u : ℕ). Digits c.args.text.now c.args.first.to.state c.args.first.to.at u c.loop-i.i c.loop-i.v) c.digit-v.ensures.0 c.loop-i.invariant in
    record {
      step = λ s l. digits-ended l d c.loop-i-test.false;
      value = numeral-ended _ _ _ _ _ _ d c.loop-i-test.false;
    }
