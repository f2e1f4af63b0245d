-- A point that is a fraction, and a window in half units: whether it lies in it.
-- Assumes nothing.
use Rattle.std.specs.Prelude.{ℕ, pos, ◌*ℤ◌, ◌≤ℤ◌, ℤ}
use Rattle.definition.specs.Words.{Point}
use Rattle.definition.specs.Window.{Window}

-- the point (x / n, y / n) lies in the window, whose numbers are half units
pub record Inside (w : Window) (n : ℕ) (p : Point ℤ) : Type 0 where
  pub from_left : (pos n *ℤ w.left) ≤ℤ (pos 2 *ℤ p.x)
  pub from_bottom : (pos n *ℤ w.bottom) ≤ℤ (pos 2 *ℤ p.y)
  pub to_right : (pos 2 *ℤ p.x) ≤ℤ (pos n *ℤ w.right)
  pub to_top : (pos 2 *ℤ p.y) ≤ℤ (pos n *ℤ w.top)
