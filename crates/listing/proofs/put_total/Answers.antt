-- `listing::put_total` meets its contract: one write after the other.
use Rattle.definition.specs.Words.{bytes_of}
use Rattle.definition.specs.Listing.{fields}
use Rattle.digits.proofs.Writing.{both}
use Rattle.listing.specs.Account.{total_line}
use Rattle.listing.proofs.put_total.Goals as goal

pub returns-clause-writes : goal.returns-clause-writes
unfolding bytes_of total_line fields
returns-clause-writes c = both c.put_word-first.ensures (both c.put_field-second.ensures.writes (both c.put_field-third.ensures.writes (both c.put_field-last.ensures.writes c.put.ensures)))
