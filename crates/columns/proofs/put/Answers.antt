-- `put` meets its contract.
use native.Mathlib.Omega.{arith}
use Rattle.columns.proofs.Putting.{put_added, put_replaced, row_low}
use Rattle.columns.proofs.put.Goals as goal

pub shift-requires : goal.shift-requires
shift-requires c = (row_low c.requires.0 c.requires.1 c.if-before-live.true, omega (arith, c.requires.2, c.if-before-live.true), c.requires.3)

pub offset_bounds-column-row : goal.offset_bounds-column-row
offset_bounds-column-row c = omega (arith, c.requires.1, c.requires.2)

pub bounds-column-row : goal.bounds-column-row
bounds-column-row c = omega (arith, c.requires.1, c.requires.2)

pub returns-then-before-live : goal.returns-then-before-live
returns-then-before-live c = put_added _ c.shift.ensures c.if-before-live.true (omega (arith, c.requires.1, c.requires.2, c.requires.3))

pub offset_bounds-column-row-2 : goal.offset_bounds-column-row-2
offset_bounds-column-row-2 c = omega (arith, c.requires.1, c.requires.2)

pub bounds-column-row-2 : goal.bounds-column-row-2
bounds-column-row-2 c = omega (arith, c.requires.1, c.requires.2)

pub returns : goal.returns
returns c = put_replaced _ c.if-before-live.false (omega (arith, c.requires.1, c.requires.2, c.requires.3))
