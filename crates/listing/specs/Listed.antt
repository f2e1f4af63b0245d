-- What `list` promises: of every text, its answer and its flat file, the definition's listing. It cites the definition; the account is named only for an
-- answer and bytes that are not the text's, on which the definition says nothing.
-- Assumes nothing.
use Rattle.std.specs.Prelude.{◌≡◌, List, ℕ, ◌+◌, ◌*◌, ◌≤◌, length}
use Rattle.definition.specs.declared.Answer.{Answer}
use Rattle.definition.specs.Answer.{Outcome, flat_file, given_back, Answers}
use Rattle.definition.specs.Listing.{listing}
use Rattle.digits.specs.Writes.{Writes}
use Rattle.lines.specs.Followed.{fresh}
use Rattle.warning.specs.Warned.{WarnedAny}
use Rattle.listing.specs.Account.{printed, window_along, account}
use Rattle.listing.specs.declared.Walked.{Walked}

-- ---- within the code

-- the lines of all shapes are printed, and their points are in the window
pub record Walks (f old new : List ℕ) (r : Walked) : Type 0 where
  pub writes : Writes old new 0 r.at (printed (fresh 1 0) f)
  pub window_is : r.window ≡ window_along f
  pub near : r.at ≤ 64 * length f

-- ---- the contracts

-- the account of what is printed, with what is warned of the text where its answer is no refusal
pub record Along (t : List ℕ) (words : ℕ) (a : Answer) (f old new : List ℕ) (r : ℕ) : Type 0 where
  pub warnings : List ℕ
  pub due : length f ≤ 16777216 → a.number ≡ 0 → WarnedAny t words warnings
  pub writes : Writes old new 0 r (account a warnings f)

-- r bytes are printed of the text t with so many words lent, its answer a and its flat file f, into a room that was `old` and is `new`
pub record Listed (t : List ℕ) (words : ℕ) (a : Answer) (f old new : List ℕ) (r : ℕ) : Type 0 where
  pub is : {room : ℕ} {o : Outcome} → Answers t words room o → a ≡ given_back t o → f ≡ flat_file o → Writes old new 0 r (listing t o)
  pub short : {room : ℕ} {o : Outcome} → Answers t words room o → a ≡ given_back t o → f ≡ flat_file o → r ≤ 4 * length f + 15 * length t + 1024
  pub along : Along t words a f old new r
