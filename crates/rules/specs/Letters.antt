-- The letters and the limits that the account names.
-- Assumes nothing.
use Rattle.std.specs.Prelude.{ℕ}
pub use Rattle.names.specs.Names.{byte_unit, first_unit}

-- first letters of commands; the S and the F of DS and DF are in crates/pieces
abbrev pub letter_b : ℕ
letter_b = 66

abbrev pub letter_c : ℕ
letter_c = 67

abbrev pub letter_d : ℕ
letter_d = 68

abbrev pub letter_l : ℕ
letter_l = 76

abbrev pub letter_p : ℕ
letter_p = 80

abbrev pub letter_r : ℕ
letter_r = 82

abbrev pub letter_w : ℕ
letter_w = 87

-- those of transformations; R is above
abbrev pub letter_t : ℕ
letter_t = 84

abbrev pub letter_m : ℕ
letter_m = 77

-- RULES 12, refusal 7: polygon under 3 points
abbrev pub least_points : ℕ
least_points = 3

-- above the numbers of the refusals that a command can meet: no refusal
abbrev pub no_refusal : ℕ
no_refusal = 10
