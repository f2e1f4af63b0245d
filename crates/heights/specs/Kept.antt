-- What is kept beside the rows while bodies are gone through: the height of each finished symbol and the set of its layers, and which symbols are open.
-- A running account, not to be believed.
-- Assumes nothing.
use Rattle.std.specs.Prelude.{◌≡◌, Bool, true, false, List, [], ◌∷◌, ℕ, Some, None, Result, Ok, Err, ◌+◌, ◌≤◌, ◌<◌, ℤ, length, get_or}
use Rattle.definition.specs.Limits.{deepest}
use Rattle.definition.specs.declared.Rule.{Rule}
use Rattle.definition.specs.declared.Rule.TheVariants.{UndefinedSymbol, BeingDrawn, TooDeep}
use Rattle.library.specs.Memory.{most, most_words, symbol_at, body_at}
use Rattle.library.specs.Sound.{Stocked}
use Rattle.library.specs.Rows.{Sorted, Finds}
use Rattle.heights.specs.Calls.{calls_of}
use Rattle.columns.specs.declared.Own.{Own}
use Rattle.columns.specs.Columns.{own_at}
use Rattle.heights.specs.declared.Standing.{Standing}
use Rattle.heights.specs.declared.Seen.{Seen}
use Rattle.heights.specs.declared.Seen.TheVariants.{Unknown, Open, Known}
use Rattle.heights.specs.declared.Looked.{Looked}
use Rattle.heights.specs.declared.Looked.TheVariants.{Stands, Fresh}
use Rattle.heights.specs.Walk.{Graph, graph_in, among, standing, walk, free, through}

abbrev pub seen_at : List Seen → ℕ → Seen
seen_at seen i = get_or seen i Unknown

abbrev pub open? : Seen → Bool
open? Unknown = false
open? Open = true
open? (Known x) = false

-- the row of a live symbol
pub record AtRow (rows : List ℕ) (live n i : ℕ) : Type 0 where
  pub finds : Finds rows live n (Some i)

-- what `look_up` answers, with so many levels left
pub data Looks (rows : List ℕ) (live : ℕ) (seen : List Seen) (n left : ℕ) : Result Looked Rule → Type 0 where
  undefined : Finds rows live n None → Looks rows live seen n left (Err UndefinedSymbol)
  is_open : {i : ℕ} → AtRow rows live n i → seen_at seen i ≡ Open → Looks rows live seen n left (Err BeingDrawn)
  too_tall : {i : ℕ} {x : Standing} → AtRow rows live n i → seen_at seen i ≡ Known x → left < x.height → Looks rows live seen n left (Err TooDeep)
  known : {i : ℕ} {x : Standing} → AtRow rows live n i → seen_at seen i ≡ Known x → x.height ≤ left → Looks rows live seen n left (Ok (Stands x))
  too_deep : {i : ℕ} → AtRow rows live n i → seen_at seen i ≡ Unknown → left ≡ 0 → Looks rows live seen n left (Err TooDeep)
  fresh : {i : ℕ} → AtRow rows live n i → seen_at seen i ≡ Unknown → 0 < left → Looks rows live seen n left (Ok (Fresh i))

-- a symbol stands where so many levels are left, whatever is open
pub record Stood (g : Graph) (left n h s : ℕ) : Type 0 where
  pub is : free g left n ≡ standing h s

abbrev pub NotAt : Graph → ℕ → ℕ → Type 0
NotAt g left n = (h s : ℕ) → Stood g left n h s → ⊥

-- a symbol leads to another: it needs one level more
pub record Leads (g : Graph) (m n : ℕ) : Type 0 where
  pub needs : (left : ℕ) → NotAt g left n → NotAt g (left + 1) m

unfoldable pub Each : (ℕ → Type 0) → List ℕ → Type 0
Each P [] = Unit {0}
Each P (c ∷ cs) = P c × Each P cs

-- what is kept of a symbol is what it gives
abbrev pub Remembered : (rows : List ℕ) (b : List ℤ) (live : ℕ) (own : List Own) → List Seen → Type 0
Remembered rows b live own seen =
    (i : ℕ) → i < live → (x : Standing) → seen_at seen i ≡ Known x → Stood (graph_in rows b live own) deepest (symbol_at rows i) x.height x.layers

-- these symbols are open, and no others
abbrev pub Marked : (rows : List ℕ) (live : ℕ) → List Seen → List ℕ → Type 0
Marked rows live seen o = (i : ℕ) → i < live → among (symbol_at rows i) o ≡ open? (seen_at seen i)

pub record Ready (rows : List ℕ) (b : List ℤ) (live : ℕ) (own : List Own) (seen : List Seen) (left : ℕ) : Type 0 where
  pub sorted : Sorted rows live
  pub stocked : Stocked rows b live
  pub short : length b ≤ most_words
  pub sized : length seen ≡ most
  pub some_left : left ≤ deepest
  pub remembered : Remembered rows b live own seen

-- before a call of a symbol: every open symbol leads to it
pub record Opened (rows : List ℕ) (b : List ℤ) (live : ℕ) (own : List Own) (seen : List Seen) (n : ℕ) (o : List ℕ) : Type 0 where
  pub marked : Marked rows live seen o
  pub leads : (m : ℕ) → among m o ≡ true → Leads (graph_in rows b live own) m n

-- before the body of a row: every open symbol leads to each that it calls
pub record Inside (rows : List ℕ) (b : List ℤ) (live : ℕ) (own : List Own) (seen : List Seen) (row : ℕ) (o : List ℕ) : Type 0 where
  pub here : row < live
  pub marked : Marked rows live seen o
  pub leads : (m : ℕ) → among m o ≡ true → Each (Leads (graph_in rows b live own) m) (calls_of (body_at rows b row))

-- where a symbol stands, the same are open as before, and what is kept is right
pub record Keeps (rows : List ℕ) (b : List ℤ) (live : ℕ) (own : List Own) (seen seen' : List Seen) : Type 0 where
  pub same_open : (i : ℕ) → i < live → open? (seen_at seen' i) ≡ open? (seen_at seen i)
  pub sized : length seen' ≡ most
  pub remembered : Remembered rows b live own seen'

abbrev pub KeepsIf : Result Standing Rule → Type 0 → Type 0
KeepsIf (Err r) K = Unit {0}
KeepsIf (Ok x) K = K

-- the contract of `reply_to`
pub record Replies (rows : List ℕ) (b : List ℤ) (live : ℕ) (own : List Own) (seen : List Seen) (n left : ℕ) (r : Result Standing Rule) (seen' : List Seen) : Type 0 where
  pub reply : (o : List ℕ) → Opened rows b live own seen n o → r ≡ walk (graph_in rows b live own) left o n
  pub keeps : KeepsIf r (Keeps rows b live own seen seen')

-- of `reply_of_body`
pub record BodyReplies (rows : List ℕ) (b : List ℤ) (live : ℕ) (own : List Own) (seen : List Seen) (row left : ℕ) (r : Result Standing Rule) (seen' : List Seen) : Type 0 where
  pub reply : (o : List ℕ) → Inside rows b live own seen row o
      → r ≡ through (walk (graph_in rows b live own) left o) 0 ((own_at own row).layers) (calls_of (body_at rows b row))
  pub keeps : KeepsIf r (Keeps rows b live own seen seen')
