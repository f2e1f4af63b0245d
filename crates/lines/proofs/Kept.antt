-- Counts stay within the bytes read, and a name within 32 bits: by these laws a loop over a flat file's bytes keeps what `after` asks for.
-- Assumes nothing.
use Rattle.std.specs.Prelude.{Option, Some, None, if◌then◌else◌}
use mathlib.Core.Bool.{Bool, true, false}
use Prim.Native.Nat.{ℕ, ◌+◌, ◌*◌, ◌/◌, ◌≤◌, ◌<◌}
use native.Mathlib.Nat.{mul-le-mul_right}
use native.Mathlib.Omega.{arith}
use lib.Dec.{eqb}
use Rattle.lines.specs.Followed.{line, fresh, letter_at, opened, named, within, line_after, numeral, pushed, ends, numeral_after}
use Rattle.lines.specs.declared.Line.{Line}
use Rattle.lines.specs.declared.Numeral.{Numeral}

pub record Kept (s r : Line) : Type 0 where
  pub few : r.count ≤ s.count + 1
  pub name : r.layer + 256 * r.unit ≤ 4294967296

pub line_kept : (s : Line) (b : ℕ) → b < 256 → s.layer + 256 * s.unit ≤ 4294967296 → Kept s (line_after s b)
unfolding line_after opened named
line_kept s b h k = go (eqb b 10) s.letter
  where
    starts : (layer end : Bool) → Kept s (if layer then line s.count 0 16777216 (letter_at b) else if end then line s.count s.layer s.unit (letter_at b) else line (s.count + 1) s.layer s.unit (letter_at b))
    starts true end = record { few = omega arith; name = omega arith }
    starts false true = record { few = omega arith; name = k }
    starts false false = record { few = omega arith; name = k }

    names : (naming stop : Bool) → Kept s (if naming then (if stop then s else line s.count (s.layer + b * s.unit) (s.unit / 256) s.letter) else s)
    names false stop = record { few = omega arith; name = k }
    names true true = record { few = omega arith; name = k }
    names true false = let m : b * s.unit ≤ 255 * s.unit = mul-le-mul_right s.unit (omega arith) in record { few = omega arith; name = omega arith }

    go : (feed : Bool) (c : Option ℕ) → Kept s (if feed then fresh s.count s.layer else within c s b)
    go true c = record { few = omega arith; name = omega arith }
    go false None = starts (eqb b 76) (eqb b 69)
    go false (Some c) = names (eqb c 76) (eqb b 59)

pub index_kept : (n : Numeral) (b : ℕ) → (numeral_after n b).index ≤ n.index + 1
unfolding numeral_after
index_kept n b = go (eqb b 10) (eqb b 45) (ends b)
  where
    go : (feed minus end : Bool)
        → (if feed then numeral 0 false 0
        else if minus then numeral n.index true n.value
        else if end then numeral (n.index + 1) false 0
        else numeral n.index n.negative (pushed n.value b)).index ≤ n.index + 1
    go true minus end = omega arith
    go false true end = omega arith
    go false false true = omega arith
    go false false false = omega arith
