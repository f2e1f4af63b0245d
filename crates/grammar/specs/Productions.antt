-- The grammar of section 7.1.1, rule by rule, each as printed and under its printed name; docs/BELIEVE.md has the print beside it. A name has to
-- stand above its use here, so the rules come in the opposite of the printed order. `one ρ c` is a character of class c in the role ρ.
use Rattle.grammar.specs.Notation.{Expression, one, ◌▹◌, ◌∣◌, many, option, comment_text, Digit, Upper, Blank, User, '-', lpar, rpar, semicolon}
use Rattle.grammar.specs.Notation.{'B', 'C', 'D', 'E', 'F', 'L', 'M', 'P', 'R', 'S', 'T', 'W', 'X', 'Y'}
use Rattle.grammar.specs.Notation.{skip, head, second, turn, axis, sign, lead, later, name, stop}

abbrev pub blank : Expression
blank = one skip Blank

abbrev pub sep : Expression  -- RULES 2: "a separator is an upper-case letter or a blank"
sep = one skip Upper ∣ blank

abbrev pub semi : Expression
semi = many blank ▹ one stop semicolon ▹ many blank

abbrev pub user_text : Expression
user_text = many (one skip User)

abbrev pub c : Expression  -- RULES 3: "a layer-name character c is a digit or an upper-case letter"
c = one name Digit ∣ one name Upper

abbrev pub shortname : Expression
shortname = c ▹ option c ▹ option c ▹ option c

abbrev pub integer_d : Expression
integer_d = one lead Digit ▹ many (one later Digit)

abbrev pub integer : Expression
integer = many sep ▹ integer_d

abbrev pub sinteger : Expression
sinteger = many sep ▹ option (one sign '-') ▹ integer_d

abbrev pub point : Expression
point = sinteger ▹ sep ▹ sinteger

abbrev pub path : Expression
path = point ▹ many (sep ▹ point)

abbrev pub transformation : Expression
transformation =
    many (many blank
    ▹ (one turn 'T' ▹ point ∣ one turn 'M' ▹ many blank ▹ one axis 'X' ∣ one turn 'M' ▹ many blank ▹ one axis 'Y' ∣ one turn 'R' ▹ point))

abbrev pub end_command : Expression
end_command = one head 'E'

abbrev pub comment_command : Expression
comment_command = one head lpar ▹ comment_text ▹ one skip rpar

abbrev pub user_extension_command : Expression
user_extension_command = one head Digit ▹ user_text

abbrev pub call_command : Expression
call_command = one head 'C' ▹ integer ▹ transformation

abbrev pub def_delete_command : Expression
def_delete_command = one head 'D' ▹ many blank ▹ one second 'D' ▹ integer

abbrev pub def_finish_command : Expression
def_finish_command = one head 'D' ▹ many blank ▹ one second 'F'

abbrev pub def_start_command : Expression
def_start_command = one head 'D' ▹ many blank ▹ one second 'S' ▹ integer ▹ option (sep ▹ integer ▹ sep ▹ integer)

abbrev pub layer_command : Expression
layer_command = one head 'L' ▹ many blank ▹ shortname

abbrev pub wire_command : Expression
wire_command = one head 'W' ▹ integer ▹ sep ▹ path

abbrev pub round_flash_command : Expression
round_flash_command = one head 'R' ▹ integer ▹ sep ▹ point

abbrev pub box_command : Expression
box_command = one head 'B' ▹ integer ▹ sep ▹ integer ▹ sep ▹ point ▹ option (sep ▹ point)

abbrev pub polygon_command : Expression
polygon_command = one head 'P' ▹ path

abbrev pub prim_command : Expression
prim_command =
    polygon_command ∣ box_command ∣ round_flash_command ∣ wire_command ∣ layer_command ∣ call_command ∣ user_extension_command ∣ comment_command

abbrev pub command : Expression
command =
    prim_command
    ∣ def_delete_command
    ∣ def_start_command ▹ semi ▹ many (many blank ▹ option prim_command ▹ semi) ▹ def_finish_command

abbrev pub cif_file : Expression
cif_file = many (many blank ▹ option command ▹ semi) ▹ end_command ▹ many blank
