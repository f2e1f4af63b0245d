-- The limits of RULES 14, each under one name: how far a number may lie from zero, how long a text and a flat file may be, and how many of a thing
-- there may be. The code has the same as constants.
use Rattle.std.specs.Prelude.{ℕ}

abbrev pub largest : ℕ  -- refusals 3, 6 and 16
largest = 16777215

abbrev pub most_bytes : ℕ  -- 1 and 18
most_bytes = 16777216

abbrev pub most_points : ℕ  -- 9
most_points = 1024

abbrev pub most_turns : ℕ  -- 9
most_turns = 32

abbrev pub most_definitions : ℕ  -- 10
most_definitions = 512

abbrev pub deepest : ℕ  -- 14
deepest = 32

abbrev pub most_calls : ℕ  -- 15
most_calls = 1048576

abbrev pub most_shapes : ℕ  -- 17
most_shapes = 1048576

abbrev pub most_layers : ℕ  -- 19
most_layers = 64
