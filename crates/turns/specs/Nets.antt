-- The net transformation as code keeps it: one of eight turns and mirrors, and then one step. A running account, proved equal to the definition:
-- what it does is what `in_order` of the definition's Turns does (proofs/Nets.antt), and the contracts say so by `Carries`.
-- Assumes nothing.
use Rattle.std.specs.Prelude.{◌≡◌, Bool, true, false, not, List, [], ◌∷◌, ◌++◌, ℕ, ◌+◌, ◌^◌, ◌≤◌, ℤ, neg_ℤ, ◌+ℤ◌, nat_abs, length, drop, if◌then◌else◌}
use Rattle.definition.specs.Words.{Point, point}
use Rattle.definition.specs.Commands.{Turn}
use Rattle.definition.specs.Turns.{act, aim, in_order, off_axes}
use Rattle.turns.specs.Words.{turn_words, turns_words}
use Rattle.turns.specs.declared.Net.{Net}
use Rattle.turns.specs.declared.Pair.{Pair}
use Rattle.turns.specs.declared.Single.{Single}
use Rattle.turns.specs.declared.Listed.{Listed}

abbrev pub as_point : Pair → Point ℤ
as_point p = point p.x p.y

abbrev pub net : Bool → Bool → Bool → ℤ → ℤ → Net
net s x y dx dy = record { swap = s; negx = x; negy = y; tx = dx; ty = dy }

unfoldable pub signed : Bool → ℤ → ℤ
signed true z = neg_ℤ z
signed false z = z

-- x and y change places or not, then each is negated or not
unfoldable pub turned : Net → Point ℤ → Point ℤ
turned n p = point (signed n.negx (if n.swap then p.y else p.x)) (signed n.negy (if n.swap then p.x else p.y))

-- then the step is added
unfoldable pub apply : Net → Point ℤ → Point ℤ
apply n p = point ((turned n p).x +ℤ n.tx) ((turned n p).y +ℤ n.ty)

-- a or b, and not both
abbrev pub differ : Bool → Bool → Bool
differ a b = if a then not b else b

-- first the inner, then the outer
unfoldable pub after : Net → Net → Net
after i o = record {
  swap = differ i.swap o.swap;
  negx = differ o.negx (if o.swap then i.negy else i.negx);
  negy = differ o.negy (if o.swap then i.negx else i.negy);
  tx = (apply o (point i.tx i.ty)).x;
  ty = (apply o (point i.tx i.ty)).y;
}

-- the net transformation does what the list does, to points and to directions
pub record Carries (ts : List (Turn ℤ)) (n : Net) : Type 0 where
  pub acts : (p : Point ℤ) → apply n p ≡ in_order act ts p
  pub aims : (d : Point ℤ) → turned n d ≡ in_order aim ts d

-- its step is at most so long, each way
pub record Near (most : ℕ) (n : Net) : Type 0 where
  pub across : nat_abs n.tx ≤ most
  pub up : nat_abs n.ty ≤ most

-- first the inner, then the outer, before any range is looked at; their steps add up at most
pub record Composed (inner outer both : Net) : Type 0 where
  pub acts : (p : Point ℤ) → apply both p ≡ apply outer (apply inner p)
  pub aims : (d : Point ℤ) → turned both d ≡ turned outer (turned inner d)
  pub near : (a b : ℕ) → Near a inner → Near b outer → Near (a + b) both

-- one transformation, read: what it does, with a step of 32 bits at most; the place after its words
pub record IsSingle (t : Turn ℤ) (past : ℕ) (r : Single) : Type 0 where
  pub carries : Carries (t ∷ []) r.net
  pub near : Near (2 ^ 31) r.net
  pub askew : r.askew ≡ off_axes (t ∷ [])
  pub next : r.next ≡ past

-- a call's list, read: 32 such steps at most
pub record IsListed (ts : List (Turn ℤ)) (r : Listed) : Type 0 where
  pub carries : Carries ts r.net
  pub near : Near (2 ^ 36) r.net
  pub askew : r.askew ≡ off_axes ts

-- the words from this place on begin with those of a transformation
pub record Begins (words : List ℤ) (from : ℕ) : Type 0 where
  pub turn : Turn ℤ
  pub rest : List ℤ
  pub are : drop from words ≡ turn_words turn ++ rest

-- the words from this place up to that one are a call's list, of at most 32 transformations (RULES 12, refusal 9)
pub record Written (words : List ℤ) (from end : ℕ) : Type 0 where
  pub turns : List (Turn ℤ)
  pub rest : List ℤ
  pub are : drop from words ≡ turns_words turns ++ rest
  pub ends : from + length (turns_words turns) ≡ end
  pub few : length turns ≤ 32
