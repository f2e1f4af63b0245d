-- `shift` meets its contract: numbers go up from the last on.
use mathlib.Core.Path.{◌≡◌, refl}
use Prim.Native.Nat.{◌+◌, ◌-◌}
use native.Mathlib.Omega.{arith}
use Rattle.columns.proofs.Putting.{shift_begin, shift_on, shift_over}
use Rattle.columns.proofs.shift.Goals as goal

pub loop-k-init : goal.loop-k-init
loop-k-init c = shift_begin _ _ _ c.requires.0

pub loop-k-preserved : goal.loop-k-preserved
loop-k-preserved c =
    let e : c.loop-k.k - 1 + 1 ≡ c.loop-k.k = omega arith in
    rw e (shift_on c.loop-k.invariant c.loop-k-test.true (omega (arith, c.requires.1, c.requires.2)) refl refl)

pub returns : goal.returns
returns c = shift_over c.loop-k.invariant c.loop-k-test.false
