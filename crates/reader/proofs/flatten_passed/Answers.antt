-- `flatten_passed` meets its contract: how the measured drawing ends decides (proofs/Promises.antt).
use mathlib.Core.Logic.{inl, inr}
use native.Mathlib.Omega.{arith}
use Rattle.reader.proofs.Promises.{far_below, over-told, stopped-told, written-told}
use Rattle.reader.proofs.flatten_passed.Goals as goal

pub overflow_add-length : goal.overflow_add-length
overflow_add-length c = omega (arith, far_below _ c.requires.passed (c.draw.ensures c.requires.passed) c.in-Ok.is)

pub returns-then-room-length : goal.returns-then-room-length
returns-then-room-length c = over-told _ c.requires.passed (c.draw.ensures c.requires.passed) c.in-Ok.is (inl c.if-room-length.true) c.too_long.ensures

pub returns-then-length-gt-MOST_BYTES : goal.returns-then-length-gt-MOST_BYTES
returns-then-length-gt-MOST_BYTES c = over-told _ c.requires.passed (c.draw.ensures c.requires.passed) c.in-Ok.is (inr c.if-length-gt-MOST_BYTES.true) c.too_long-then-length-gt-MOST_BYTES.ensures

pub returns-in-Err : goal.returns-in-Err
returns-in-Err c = stopped-told _ c.requires.passed (c.draw.ensures c.requires.passed) c.in-Err.is c.refused_by.ensures

pub returns-else-length-gt-MOST_BYTES : goal.returns-else-length-gt-MOST_BYTES
returns-else-length-gt-MOST_BYTES c = written-told _ c.requires.passed (c.draw.ensures c.requires.passed) c.in-Ok.is c.draw.auto.bodies c.requires.is (omega (arith, c.if-room-length.false)) (omega (arith, c.if-length-gt-MOST_BYTES.false)) (c.write_file.ensures c.requires.passed) c.accepted.ensures
