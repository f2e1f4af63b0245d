-- `draw_text` meets its contract: it lends the tables and the words of one command.
use native.Mathlib.Omega.{arith}
use Rattle.between.proofs.draw_text.Goals as goal

pub draw_commands-requires : goal.draw_commands-requires
draw_commands-requires c = record { most_values_in_bounds = (omega arith, c.requires.0); pausing = c.requires.1 }

pub returns : goal.returns
returns c = record { text_comes = c.draw_commands.ensures.text_comes; text_grows = c.draw_commands.ensures.text_grows }
