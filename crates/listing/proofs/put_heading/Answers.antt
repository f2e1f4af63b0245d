-- `listing::put_heading` meets its contract: one write after the other.
use Rattle.definition.specs.Words.{bytes_of}
use Rattle.digits.proofs.Writing.{both}
use Rattle.listing.specs.Account.{heading}
use Rattle.listing.proofs.put_heading.Goals as goal

pub returns-clause-writes : goal.returns-clause-writes
unfolding bytes_of heading
returns-clause-writes c = both c.put_word-first.ensures (both c.put_field-second.ensures.writes (both c.put_name_field-third.ensures.writes c.put_kind_field.ensures))
