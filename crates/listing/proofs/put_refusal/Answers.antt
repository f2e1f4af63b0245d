-- `listing::put_refusal` meets its contract: one write after the other.
use Rattle.definition.specs.Words.{bytes_of}
use Rattle.digits.proofs.Writing.{both}
use Rattle.listing.specs.Account.{tabbed, refused_line}
use Rattle.listing.proofs.put_refusal.Goals as goal

pub returns-clause-writes : goal.returns-clause-writes
unfolding bytes_of refused_line tabbed
returns-clause-writes c = both c.put_word-first.ensures (both (both c.put_field-second.ensures.writes (both c.put_field-third.ensures.writes (both c.put_field-fourth.ensures.writes (both c.put_field-fifth.ensures.writes c.put_places-last.ensures.writes)))) c.put.ensures)
