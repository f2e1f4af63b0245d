-- `enter` meets its contract: the row's numbers are made once, and put into the column.
use native.Mathlib.Omega.{arith}
use Rattle.columns.proofs.Putting.{row_found, it_stands}
use Rattle.columns.proofs.Entering.{row-sound, row_inside, entered_all}
use Rattle.columns.proofs.enter.Goals as goal

pub unwrap-row-requires : goal.unwrap-row-requires
unwrap-row-requires c = it_stands _ _ _ _ c.find.ensures c.requires.more.2

pub start_at-from-requires : goal.start_at-from-requires
start_at-from-requires c = omega (arith, (row_found _ _ _ c.find.ensures c.unwrap-row.ensures).0, c.requires.more.1.few)

pub length_at-many-requires : goal.length_at-many-requires
length_at-many-requires c = omega (arith, (row_found _ _ _ c.find.ensures c.unwrap-row.ensures).0, c.requires.more.1.few)

pub own_of-own-requires : goal.own_of-own-requires
own_of-own-requires c = (row-sound c.requires.stocked.0 (row_found _ _ _ c.find.ensures c.unwrap-row.ensures).0 c.start_at-from.ensures c.length_at-many.ensures, row_inside c.requires.stocked.0 (row_found _ _ _ c.find.ensures c.unwrap-row.ensures).0 c.start_at-from.ensures c.length_at-many.ensures, c.requires.stocked.1, c.requires.stocked.2)

pub put-requires : goal.put-requires
put-requires c = (c.requires.more.0, (row_found _ _ _ c.find.ensures c.unwrap-row.ensures).0, c.requires.more.1.few, c.requires.column_len)

pub returns : goal.returns
returns c = entered_all (row_found _ _ _ c.find.ensures c.unwrap-row.ensures).0 (row_found _ _ _ c.find.ensures c.unwrap-row.ensures).1 c.start_at-from.ensures c.length_at-many.ensures c.own_of-own.ensures c.put.ensures
