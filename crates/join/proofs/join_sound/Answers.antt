-- `join_sound` meets its contract: the joined text is as long as it is said to be, and fits or does not.
use Rattle.std.specs.Prelude.{Err}
use mathlib.Core.Path.{ap}
use Rattle.join.proofs.Making.{too_large, fits}
use Rattle.join.proofs.join_sound.Goals as goal

pub returns-then-room-length : goal.returns-then-room-length
returns-then-room-length c = let both = too_large c.end_of-end.ensures c.args.second.now c.args.room.now (ap Err c.refused.ensures) c.then-room-length.either in record { value = both.0; room_after = both.1 }

pub returns : goal.returns
returns c = let both = fits c.end_of-end.ensures c.args.second.now c.if-room-length.false c.if-length-gt-MOST_BYTES.false c.write.ensures in record { value = both.0; room_after = both.1 }
