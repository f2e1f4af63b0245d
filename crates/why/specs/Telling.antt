-- What is told of a shape (RULES 20, request 11) by what an engine answers: a refusal's numbers and chain; or, of refusal 17 at the shape that is asked for, its place and chain, and the net
-- transformation that the engine keeps. A running account, not to be believed: the promise is `PromisedWhy` of crates/definition.
-- Assumes nothing.
use Rattle.std.specs.Prelude.{◌≡◌, List, [], ℕ, eqb, ℤ, pos, length, replicate, if◌then◌else◌}
use Rattle.definition.specs.declared.Answer.{Answer}
use Rattle.definition.specs.declared.Why.{Why}
use Rattle.definition.specs.Words.{point}
use Rattle.definition.specs.declared.Rule.TheVariants.{NoSuchShape}
use Rattle.definition.specs.Rules.{refuse}
use Rattle.definition.specs.Why.{refuses, why_told}
use Rattle.reasons.proofs.Told.{Through}
use Rattle.turns.specs.declared.Net.{Net}
use Rattle.turns.specs.Nets.{turned}

-- a refusal
abbrev pub why_of : Answer → Why
why_of r = record {
  number = r.number;
  place = r.place;
  line = r.line;
  column = r.column;
  opened = r.opened;
  chain = r.chain;
  shape = 0;
  a = pos 0;
  b = pos 0;
  c = pos 0;
  d = pos 0;
  tx = pos 0;
  ty = pos 0;
}

-- the shape at which 17 came, under this net transformation
abbrev pub found_by : Answer → Net → Why
found_by r n = record {
  number = 0;
  place = 0;
  line = 0;
  column = 0;
  opened = r.opened;
  chain = r.chain;
  shape = r.place;
  a = (turned n (point (pos 1) (pos 0))).x;
  b = (turned n (point (pos 0) (pos 1))).x;
  c = (turned n (point (pos 1) (pos 0))).y;
  d = (turned n (point (pos 0) (pos 1))).y;
  tx = n.tx;
  ty = n.ty;
}

abbrev pub missing_in : List ℕ → Why
missing_in t = why_told t (refuses (refuse NoSuchShape 0) [])

abbrev pub told_of : List ℕ → Answer → Net → Why
told_of t r n = if eqb r.number 17 then found_by r n else missing_in t

-- what the second run asks: the text is drawn through, and the words are all zero
abbrev pub Drawable : (t : List ℕ) (words : ℕ) → Type 0
Drawable t words = Through t words

abbrev pub Zeroed : List ℤ → Type 0
Zeroed words = words ≡ replicate (length words) (pos 0)
