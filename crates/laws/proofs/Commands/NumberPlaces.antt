-- Where the commands of a text and their numbers stand: within the text, and the numbers of one command in ascending places. Refusals 3 to 9 go
-- by place within a number, and every refusal's place has to lie in the text.
-- Assumes nothing.
use Rattle.std.specs.Prelude.{if◌then◌else◌}
use mathlib.Core.Path.{◌≡◌, refl, sym, ap, ◌∙◌, subst}
use mathlib.Core.Bool.{Bool, true, false, ◌||◌}
use mathlib.Core.List.{List, [], ◌∷◌, ◌++◌, flat_map}
use Prim.Native.Nat.{ℕ, zero, suc, ◌+◌, ◌-◌, ◌≤◌, ◌<◌}
use native.Mathlib.Omega.{arith}
use lib.Dec.{T}
use lib.IntN.{ℤ, pos, neg_ℤ, nat_abs}
use lib.ListN.{length, get_or, drop}
use Rattle.grammar.specs.Notation.{Role, Role-discrete, Letter, dec, second, turn, axis, sign, lead, stop, head, 'B', 'C', 'D', 'L', 'P', 'R', 'S', 'T', 'W', 'X'}
use Rattle.grammar.specs.Viable.{bytes, Marked}
use Rattle.grammar.proofs.Items.{dec-sound}
use Rattle.definition.specs.Words.{Placed, at}
use Rattle.definition.specs.Commands.{Number, Turn}
use Rattle.definition.specs.Commands.{Command}
use Rattle.definition.specs.Commands.{◌plays◌, ◌is◌, worth, numbers, nth, paired, next, turn_at, turns, command_at, commands}
use Rattle.definition.specs.Faults.{parts_of, shifts, bearings, both, distances, numbers_of}
use Rattle.laws.proofs.Lists.Range.{All}

-- numbers in ascending places, from `low` on and before `high`. One that is idle may stand anywhere: a number that is left out has its command's
-- or its transformation's place, and a value that breaks no rule
pub data Rising (Idle : ℤ → Type 0) : (low high : ℕ) → List Number → Type 0 where
  done : {low high : ℕ} → Rising Idle low high []
  idle : {low high : ℕ} {d : Number} {ds : List Number} → Idle d.what → Rising Idle low high ds → Rising Idle low high (d ∷ ds)
  stands : {low high : ℕ} {d : Number} {ds : List Number} → low ≤ d.place → d.place < high → Rising Idle (suc d.place) high ds → Rising Idle low high (d ∷ ds)

pub wider : {Idle : ℤ → Type 0} {low high low' high' : ℕ} {ds : List Number} → low' ≤ low → high ≤ high' → Rising Idle low high ds → Rising Idle low' high' ds
wider h k done = done
wider h k (idle z r) = idle z (wider h k r)
wider {low} {high} {low'} {high'} h k (stands {d} a b r) =
    let from : low' ≤ d.place = omega arith in
    let to : d.place < high' = omega arith in
    stands from to (wider (omega arith) k r)

one_behind : {Idle : ℤ → Type 0} {low middle high : ℕ} {a b : List Number} → low ≤ middle → middle ≤ high → Rising Idle low middle a → Rising Idle middle high b → Rising Idle low high (a ++ b)
one_behind h k done s = wider h (omega arith) s
one_behind h k (idle z r) s = idle z (one_behind h k r s)
one_behind {high} h k (stands {d} a b r) s =
    let to : d.place < high = omega arith in
    stands a to (one_behind b k r s)

and_none : {Idle : ℤ → Type 0} {low high : ℕ} {a : List Number} → Rising Idle low high a → Rising Idle low high (a ++ [])
and_none done = done
and_none (idle z r) = idle z (and_none r)
and_none (stands a b r) = stands a b (and_none r)

-- ---- the numbers behind a letter

-- no number is idle
abbrev Never : ℤ → Type 0
Never z = ⊥

-- the place of the next transformation's letter or semicolon, from place n on
unfoldable until : ℕ → List Letter → ℕ
until n [] = n
until n (l ∷ m) = let rest = until (n + 1) m in if l plays turn || l plays stop then n else rest

until-low : (n : ℕ) (m : List Letter) → n ≤ until n m
unfolding until
until-low n [] = omega arith
until-low n (l ∷ m) = go (l plays turn || l plays stop) (until-low (n + 1) m)
  where
    go : (b : Bool) → n + 1 ≤ until (n + 1) m → n ≤ (if b then n else until (n + 1) m)
    go true h = omega arith
    go false h = omega arith

until_high : (n : ℕ) (m : List Letter) → until n m ≤ n + length m
unfolding until
until_high n [] = omega arith
until_high n (l ∷ m) = go (l plays turn || l plays stop) (until_high (n + 1) m)
  where
    go : (b : Bool) → until (n + 1) m ≤ n + 1 + length m → (if b then n else until (n + 1) m) ≤ n + suc (length m)
    go true h = omega arith
    go false h = omega arith

lead_unsigned : (l : Letter) → (l plays lead) ≡ true → (l plays sign) ≡ false
unfolding dec
lead_unsigned l e = ap (λ (ρ : Role). dec (Role-discrete ρ sign)) (dec-sound (Role-discrete l.role lead) (subst T (sym e) tt))

stood : (p : ℕ) (z : ℤ) {low high : ℕ} {ds : List Number} → low ≤ p → p < high → Rising Never (suc p) high ds → Rising Never low high (at p z ∷ ds)
stood p z h k r = stands h k r

numbers_rise : (n : ℕ) (minus : Bool) (m : List Letter) → Rising Never (if minus then n else n + 1) (until (n + 1) m) (numbers (n + 1) minus m)
unfolding numbers until
numbers_rise n minus [] = done
numbers_rise n minus (l ∷ m) = go (l plays turn || l plays stop) (l plays lead) (l plays sign) minus refl (lead_unsigned l) (until-low (n + 1 + 1) m) (numbers_rise (n + 1) (l plays sign) m)
  where
    v : ℤ
    v = pos (worth (l.byte - 48) m)

    go : (b f g minus : Bool) → (l plays lead) ≡ f → ((l plays lead) ≡ true → g ≡ false) → n + 1 + 1 ≤ until (n + 1 + 1) m
        → Rising Never (if g then n + 1 else n + 1 + 1) (until (n + 1 + 1) m) (numbers (n + 1 + 1) g m)
        → Rising Never (if minus then n else n + 1) (if b then n + 1 else until (n + 1 + 1) m)
        (if b then [] else if f then (if minus then at (n + 1 - 1) (neg_ℤ v) else at (n + 1) v) ∷ numbers (n + 1 + 1) g m else numbers (n + 1 + 1) g m)
    go true f g minus e h k r = done
    go false true true minus e h k r = let z : true ≡ false = h e in absurd (subst T z tt)
    go false true false true e h k r = stood (n + 1 - 1) (neg_ℤ v) (omega arith) (omega arith) (wider (omega arith) (omega arith) r)
    go false true false false e h k r = stood (n + 1) v (omega arith) (omega arith) (wider (omega arith) (omega arith) r)
    go false false true true e h k r = wider (omega arith) (omega arith) r
    go false false true false e h k r = wider (omega arith) (omega arith) r
    go false false false true e h k r = wider (omega arith) (omega arith) r
    go false false false false e h k r = wider (omega arith) (omega arith) r

-- ---- numbers picked out of them

module _ (Idle : ℤ → Type 0) {high : ℕ} where
  -- number i, or an idle one if it is left out, before others that stand behind it
  nth_rises : (i : ℕ) (ns : List Number) (d : Number) → Idle d.what → {low : ℕ} {rest : List Number} → Rising Never low high (drop i ns)
      → ((low' : ℕ) → Rising Never low' high (drop (suc i) ns) → Rising Idle low' high rest) → Rising Idle low high (get_or ns i d ∷ rest)
  nth_rises zero [] d z r k = idle z (k _ done)
  nth_rises zero (x ∷ ns) d z (stands a b r) k = stands a b (k (suc x.place) r)
  nth_rises zero (x ∷ ns) d z (idle never _) k = elim never [ ]
  nth_rises (suc i) [] d z r k = idle z (k _ done)
  nth_rises (suc i) (x ∷ ns) d z r k = nth_rises i ns d z r k

  pairs_rise : (ns : List Number) {low : ℕ} → Rising Never low high ns → Rising Idle low high (both (paired ns))
  unfolding paired
  pairs_rise [] r = done
  pairs_rise (x ∷ []) r = done
  pairs_rise (x ∷ y ∷ ns) (stands a b (stands c d r)) = stands a b (stands c d (pairs_rise ns r))
  pairs_rise (x ∷ y ∷ ns) (idle never _) = elim never [ ]
  pairs_rise (x ∷ y ∷ ns) (stands a b (idle never _)) = elim never [ ]

-- what holds of both of two things, or of the first where the test passes, holds of the one that the test picks
pub either_by : {A : Type 0} (P : A → Type 0) (b : Bool) (x y : A) → (b ≡ true → P x) → P y → P (if b then x else y)
either_by P true x y p q = p refl
either_by P false x y p q = q

either : {A : Type 0} (P : A → Type 0) (b : Bool) (x y : A) → P x → P y → P (if b then x else y)
either P b x y p q = either_by P b x y (λ e. p) q

-- the numbers that stand behind place n of a command or a transformation
abbrev behind : ℕ → List Letter → List Number
behind n m = numbers (n + 1) false m

behind_rise : (n : ℕ) (m : List Letter) → Rising Never n (until (n + 1) m) (behind n m)
behind_rise n m = wider (omega arith) (omega arith) (numbers_rise n false m)

module _ (Idle : ℤ → Type 0) (zero-idle : Idle (pos 0)) where
  -- number i behind place n, or z if it is left out, before others
  pick : (n z i : ℕ) (m : List Letter) → Idle (pos z) → {low : ℕ} {rest : List Number} → Rising Never low (until (n + 1) m) (drop i (behind n m))
      → ((low' : ℕ) → Rising Never low' (until (n + 1) m) (drop (suc i) (behind n m)) → Rising Idle low' (until (n + 1) m) rest)
      → Rising Idle low (until (n + 1) m) (nth n (behind n m) (pos z) i ∷ rest)
  pick n z i m h r k = nth_rises Idle i (behind n m) (at n (pos z)) h r k

  -- ---- transformations

  point_rises : (n : ℕ) (m : List Letter) → Rising Idle n (until (n + 1) m) (nth n (behind n m) (pos 0) 0 ∷ nth n (behind n m) (pos 0) 1 ∷ [])
  point_rises n m = pick n 0 0 m zero-idle (behind_rise n m) (λ low r. pick n 0 1 m zero-idle r (λ low' r'. done))

  turn-distances : (n : ℕ) (l : Letter) (m : List Letter) → Rising Idle n (until (n + 1) m) (both (shifts (turn_at n l m)))
  unfolding turn_at shifts
  turn-distances n l m =
      let P : Turn Number → Type 0 = λ t. Rising Idle n (until (n + 1) m) (both (shifts t)) in
      either P (l is 'T') _ _ (point_rises n m) (either P (l is 'R') _ _ done (either P (next axis m is 'X') _ _ done done))

  turn-numbers : (n : ℕ) (l : Letter) (m : List Letter) → Rising Idle n (until (n + 1) m) (both (shifts (turn_at n l m)) ++ both (bearings (turn_at n l m)))
  unfolding turn_at shifts bearings
  turn-numbers n l m =
      let P : Turn Number → Type 0 = λ t. Rising Idle n (until (n + 1) m) (both (shifts t) ++ both (bearings t)) in
      either P (l is 'T') _ _ (point_rises n m) (either P (l is 'R') _ _ (point_rises n m) (either P (next axis m is 'X') _ _ done done))

  module _ (f : Turn Number → List Number) (of_turn : (n : ℕ) (l : Letter) (m : List Letter) → Rising Idle n (until (n + 1) m) (f (turn_at n l m))) where
    turns_rise : (n : ℕ) (m : List Letter) → Rising Idle (until n m) (n + length m) (flat_map f (turns n m))
    unfolding turns until flat_map
    turns_rise n [] = done
    turns_rise n (l ∷ m) = go (l plays turn) (l plays stop) (turns_rise (n + 1) m)
      where
        go : (b c : Bool) → Rising Idle (until (n + 1) m) (n + 1 + length m) (flat_map f (turns (n + 1) m))
            → Rising Idle (if b || c then n else until (n + 1) m) (n + suc (length m)) (flat_map f (if c then [] else if b then turn_at n l m ∷ turns (n + 1) m else turns (n + 1) m))
        go true true r = done
        go false true r = done
        go true false r =
            one_behind (omega (arith, until-low (n + 1) m)) (omega (arith, until_high (n + 1) m)) (of_turn n l m) (wider (omega arith) (omega arith) r)
        go false false r = wider (omega arith) (omega arith) r

  -- ---- commands

  -- sizes, then points, as a box, a flash, a wire and a polygon have them, before others
  box_rises : (n : ℕ) (m : List Letter) {rest : List Number} → ((low : ℕ) → Rising Never low (until (n + 1) m) (drop 4 (behind n m)) → Rising Idle low (until (n + 1) m) rest)
      → Rising Idle n (until (n + 1) m)
      (nth n (behind n m) (pos 0) 0 ∷ nth n (behind n m) (pos 0) 1 ∷ nth n (behind n m) (pos 0) 2 ∷ nth n (behind n m) (pos 0) 3 ∷ rest)
  box_rises n m k =
      pick n 0 0 m zero-idle (behind_rise n m) (λ a r. pick n 0 1 m zero-idle r (λ b r₁. pick n 0 2 m zero-idle r₁ (λ c r₂. pick n 0 3 m zero-idle r₂ k)))

  flash_rises : (n : ℕ) (m : List Letter)
      → Rising Idle n (until (n + 1) m) (nth n (behind n m) (pos 0) 0 ∷ nth n (behind n m) (pos 0) 1 ∷ nth n (behind n m) (pos 0) 2 ∷ [])
  flash_rises n m = pick n 0 0 m zero-idle (behind_rise n m) (λ a r. pick n 0 1 m zero-idle r (λ b r₁. pick n 0 2 m zero-idle r₁ (λ c r₂. done)))

  wire_rises : (n : ℕ) (m : List Letter) → Rising Idle n (until (n + 1) m) (nth n (behind n m) (pos 0) 0 ∷ both (paired (drop 1 (behind n m))))
  wire_rises n m = pick n 0 0 m zero-idle (behind_rise n m) (λ a r. pairs_rise Idle (drop 1 (behind n m)) r)

  polygon_rises : (n : ℕ) (m : List Letter) → Rising Idle n (until (n + 1) m) (both (paired (behind n m)))
  polygon_rises n m = pairs_rise Idle (behind n m) (behind_rise n m)

  -- the list of a shape's numbers as `distances` and `numbers_of` write it
  of_shape : (n : ℕ) (m : List Letter) {ds : List Number} → Rising Idle n (until (n + 1) m) ds → Rising Idle n (n + suc (length m)) ((ds ++ []) ++ [])
  of_shape n m r = wider (omega arith) (omega (arith, until_high (n + 1) m)) (and_none (and_none r))

  pub command-distances : (n : ℕ) (l : Letter) (m : List Letter) → Rising Idle n (n + suc (length m)) (distances (command_at n l m))
  unfolding command_at distances parts_of flat_map
  command-distances n l m =
      let P : Command → Type 0 = λ c. Rising Idle n (n + suc (length m)) (distances c) in
      either P (l is 'P') _ _ (of_shape n m (polygon_rises n m))
      (either P (l is 'B') _ _ (of_shape n m (box_rises n m (λ low r. done)))
      (either P (l is 'R') _ _ (of_shape n m (flash_rises n m))
      (either P (l is 'W') _ _ (of_shape n m (wire_rises n m))
      (either P (l is 'L') _ _ done
      (either P (l is 'C') _ _ (wider (omega (arith, until-low (n + 1) m)) (omega arith) (turns_rise (λ t. both (shifts t)) turn-distances (n + 1) m))
      (either P (l is 'D') _ _ (either P (next second m is 'S') _ _ done (either P (next second m is 'D') _ _ done done)) done))))))

  module _ (one_idle : Idle (pos 1)) where
    direction_rises : (n : ℕ) (m : List Letter) (low : ℕ) → Rising Never low (until (n + 1) m) (drop 4 (behind n m))
        → Rising Idle low (until (n + 1) m) (nth n (behind n m) (pos 1) 4 ∷ nth n (behind n m) (pos 0) 5 ∷ [])
    direction_rises n m low r = pick n 1 4 m one_idle r (λ a r₁. pick n 0 5 m zero-idle r₁ (λ b r₂. done))

    start_rises : (n : ℕ) (m : List Letter) → Rising Idle n (until (n + 1) m) (nth n (behind n m) (pos 0) 0 ∷ nth n (behind n m) (pos 1) 1 ∷ nth n (behind n m) (pos 1) 2 ∷ [])
    start_rises n m = pick n 0 0 m zero-idle (behind_rise n m) (λ a r. pick n 1 1 m one_idle r (λ b r₁. pick n 1 2 m one_idle r₁ (λ c r₂. done)))

    symbol_rises : (n : ℕ) (m : List Letter) → Rising Idle n (until (n + 1) m) (nth n (behind n m) (pos 0) 0 ∷ [])
    symbol_rises n m = pick n 0 0 m zero-idle (behind_rise n m) (λ a r. done)

    pub command-numbers : (n : ℕ) (l : Letter) (m : List Letter) → Rising Idle n (n + suc (length m)) (numbers_of (command_at n l m))
    unfolding command_at numbers_of parts_of flat_map
    command-numbers n l m =
        let P : Command → Type 0 = λ c. Rising Idle n (n + suc (length m)) (numbers_of c) in
        let near : until (n + 1) m ≤ n + suc (length m) = omega (arith, until_high (n + 1) m) in
        either P (l is 'P') _ _ (of_shape n m (and_none (polygon_rises n m)))
        (either P (l is 'B') _ _ (of_shape n m (box_rises n m (direction_rises n m)))
        (either P (l is 'R') _ _ (of_shape n m (flash_rises n m))
        (either P (l is 'W') _ _ (of_shape n m (and_none (wire_rises n m)))
        (either P (l is 'L') _ _ done
        (either P (l is 'C') _ _
        (one_behind (omega (arith, until-low (n + 1) m)) near (symbol_rises n m) (wider (omega arith) (omega arith) (turns_rise (λ t. both (shifts t) ++ both (bearings t)) turn-numbers (n + 1) m)))
        (either P (l is 'D') _ _
        (either P (next second m is 'S') _ _ (wider (omega arith) near (start_rises n m)) (either P (next second m is 'D') _ _ (wider (omega arith) near (symbol_rises n m)) done))
        done))))))

-- the values of numbers that are left out: 1 or 0 among all of a command's numbers, 0 among its distances
abbrev pub Small : ℤ → Type 0
Small z = nat_abs z ≤ 1

abbrev pub Null : ℤ → Type 0
Null z = nat_abs z ≡ 0

-- a command and its numbers stand before the place `high`
pub record Stands (high : ℕ) (c : Placed Command) : Type 0 where
  pub within : c.place < high
  pub numbers_rise : Rising Small c.place high (numbers_of c.what)
  pub distances_rise : Rising Null c.place high (distances c.what)

-- a text has as many letters as bytes
pub as_long : {t : List ℕ} {m : List Letter} → Marked t m → length m ≡ length t
as_long {m = m} k = sym (go m) ∙ ap (λ (x : List ℕ). length x) k.reads
  where
    go : (m : List Letter) → length (bytes m) ≡ length m
    go [] = refl
    go (l ∷ m) = ap suc (go m)

pub commands_stand : (n high : ℕ) (m : List Letter) → n + length m ≤ high → All (Stands high) (commands n m)
unfolding commands All
commands_stand n high [] h = tt
commands_stand n high (l ∷ m) h = go (l plays head) (commands_stand (n + 1) high m (omega arith))
  where
    stand : Stands high (at n (command_at n l m))
    stand =
        record {
          within = omega arith;
          numbers_rise = wider (omega arith) (omega arith) (command-numbers Small (omega arith) (omega arith) n l m);
          distances_rise = wider (omega arith) (omega arith) (command-distances Null (omega arith) n l m);
        }

    go : (b : Bool) → All (Stands high) (commands (n + 1) m) → All (Stands high) (if b then at n (command_at n l m) ∷ commands (n + 1) m else commands (n + 1) m)
    go true x = (stand, x)
    go false x = x
