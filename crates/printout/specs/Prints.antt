-- What the list program lays out before it writes: the definition's `Lists`. These words only say where its bytes stand.
-- Assumes nothing.
use Rattle.std.specs.Prelude.{◌≡◌, List, ℕ, ◌≤◌, length, take}
use Rattle.definition.specs.Listing.{Lists}
use Rattle.digits.specs.Writes.{Writes}

-- RULES 13, request 10: it lends as many words as the longest text that it takes has bytes
abbrev pub words_lent : ℕ
words_lent = 32768

-- RULES 13: its room is 32,768 bytes; no listing is longer than four bytes for each of those, fifteen for each of the text's and 1,024 more
abbrev pub room_length : ℕ
room_length = 32768

abbrev pub listing_length : ℕ
listing_length = 623616

-- the bytes stand whole at the start of the room, and r is how many they are
pub record Lays (old new : List ℕ) (r : ℕ) (bytes : List ℕ) : Type 0 where
  pub writes : Writes old new 0 r bytes
  pub fits : r ≤ length new
  pub part : r ≡ length (take r new)
  pub is : take r new ≡ bytes

-- what the list program prints of the text t does
pub record Prints (t old new : List ℕ) (r : ℕ) : Type 0 where
  pub bytes : List ℕ
  pub lists : Lists t bytes
  pub lays : Lays old new r bytes
