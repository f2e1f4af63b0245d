-- The recogniser's tables, made by tools/tables.py. Nothing here is believed: proofs/Fitting.antt tests each entry against the grammar.
-- They stand in specs/ because contracts of functions that are lent the tables name them.
-- Assumes nothing.
use Rattle.std.specs.Prelude.{Bool, true, false, List, [], ◌∷◌, ℕ, ◌*◌}
use Rattle.grammar.specs.Notation.{Role, Letter, skip, sign, later, lead, stop, head, second, turn, axis, name}

-- how many states there are; the first is state 0
abbrev pub state_count : ℕ
state_count = 106

-- how many kinds of bytes there are
abbrev pub kind_count : ℕ
kind_count = 22

-- how many roles there are
abbrev pub role_count : ℕ
role_count = 10

-- an entry of the table is its role's number times this, and then where the byte leads
abbrev pub role_unit : ℕ
role_unit = 256

-- where a byte leads that no text has there
abbrev pub stuck : ℕ
stuck = 255

-- where a byte leads that begins a comment: this and the state after the comment
abbrev pub deep : ℕ
deep = 128

-- the state in which a text may end
abbrev pub accepting : ℕ
accepting = 7

-- the state behind a command's semicolon, outside definitions
abbrev pub outside_state : ℕ
outside_state = 3

-- the state behind a command's semicolon, within a definition
abbrev pub inside_state : ℕ
inside_state = 38

-- the kind of `(`
abbrev pub lpar_kind : ℕ
lpar_kind = 3

-- the kind of `)`
abbrev pub rpar_kind : ℕ
rpar_kind = 4

-- the kind of the bytes that fit nowhere
abbrev pub foreign_kind : ℕ
foreign_kind = 21

-- the kind of S
abbrev pub start_kind : ℕ
start_kind = 15

-- the kind of F
abbrev pub finish_kind : ℕ
finish_kind = 10

-- how many entries the table has
abbrev pub entry_count : ℕ
entry_count = state_count * kind_count

abbrev pub letter : ℕ → Role → Letter
letter a ρ = record { byte = a; role = ρ }

-- the kind of each byte
unfoldable pub kinds : List ℕ
kinds =
    1 ∷ 1 ∷ 1 ∷ 1 ∷ 1 ∷ 1 ∷ 1 ∷ 1 ∷ 1 ∷ 1 ∷ 1 ∷ 1 ∷ 1 ∷ 1 ∷ 1 ∷ 1 ∷ 1 ∷ 1 ∷ 1 ∷ 1 ∷ 1 ∷ 1 ∷ 1 ∷ 1 ∷ 1 ∷ 1 ∷ 1 ∷ 1 ∷ 1 ∷ 1
    ∷ 1 ∷ 1 ∷ 1 ∷ 1 ∷ 1 ∷ 1 ∷ 1 ∷ 1 ∷ 1 ∷ 1 ∷ 3 ∷ 4 ∷ 1 ∷ 1 ∷ 1 ∷ 2 ∷ 1 ∷ 1 ∷ 0 ∷ 0 ∷ 0 ∷ 0 ∷ 0 ∷ 0 ∷ 0 ∷ 0 ∷ 0 ∷ 0 ∷ 1 ∷ 5
    ∷ 1 ∷ 1 ∷ 1 ∷ 1 ∷ 1 ∷ 20 ∷ 6 ∷ 7 ∷ 8 ∷ 9 ∷ 10 ∷ 20 ∷ 20 ∷ 20 ∷ 20 ∷ 20 ∷ 11 ∷ 12 ∷ 20 ∷ 20 ∷ 13 ∷ 20 ∷ 14 ∷ 15 ∷ 16 ∷ 20 ∷ 20 ∷ 17 ∷ 18 ∷ 19
    ∷ 20 ∷ 1 ∷ 1 ∷ 1 ∷ 1 ∷ 1 ∷ 1 ∷ 1 ∷ 1 ∷ 1 ∷ 1 ∷ 1 ∷ 1 ∷ 1 ∷ 1 ∷ 1 ∷ 1 ∷ 1 ∷ 1 ∷ 1 ∷ 1 ∷ 1 ∷ 1 ∷ 1 ∷ 1 ∷ 1 ∷ 1 ∷ 1 ∷ 1 ∷ 1
    ∷ 1 ∷ 1 ∷ 1 ∷ 1 ∷ 1 ∷ 1 ∷ 1 ∷ 1 ∷ 21 ∷ 21 ∷ 21 ∷ 21 ∷ 21 ∷ 21 ∷ 21 ∷ 21 ∷ 21 ∷ 21 ∷ 21 ∷ 21 ∷ 21 ∷ 21 ∷ 21 ∷ 21 ∷ 21 ∷ 21 ∷ 21 ∷ 21 ∷ 21 ∷ 21
    ∷ 21 ∷ 21 ∷ 21 ∷ 21 ∷ 21 ∷ 21 ∷ 21 ∷ 21 ∷ 21 ∷ 21 ∷ 21 ∷ 21 ∷ 21 ∷ 21 ∷ 21 ∷ 21 ∷ 21 ∷ 21 ∷ 21 ∷ 21 ∷ 21 ∷ 21 ∷ 21 ∷ 21 ∷ 21 ∷ 21 ∷ 21 ∷ 21 ∷ 21 ∷ 21
    ∷ 21 ∷ 21 ∷ 21 ∷ 21 ∷ 21 ∷ 21 ∷ 21 ∷ 21 ∷ 21 ∷ 21 ∷ 21 ∷ 21 ∷ 21 ∷ 21 ∷ 21 ∷ 21 ∷ 21 ∷ 21 ∷ 21 ∷ 21 ∷ 21 ∷ 21 ∷ 21 ∷ 21 ∷ 21 ∷ 21 ∷ 21 ∷ 21 ∷ 21 ∷ 21
    ∷ 21 ∷ 21 ∷ 21 ∷ 21 ∷ 21 ∷ 21 ∷ 21 ∷ 21 ∷ 21 ∷ 21 ∷ 21 ∷ 21 ∷ 21 ∷ 21 ∷ 21 ∷ 21 ∷ 21 ∷ 21 ∷ 21 ∷ 21 ∷ 21 ∷ 21 ∷ 21 ∷ 21 ∷ 21 ∷ 21 ∷ 21 ∷ 21 ∷ 21 ∷ 21
    ∷ 21 ∷ 21 ∷ 21 ∷ 21 ∷ 21 ∷ 21 ∷ 21 ∷ 21 ∷ 21 ∷ 21 ∷ 21 ∷ 21 ∷ 21 ∷ 21 ∷ 21 ∷ 21 ∷ []

-- a byte of each kind
unfoldable pub samples : List ℕ
samples =
    48 ∷ 32 ∷ 45 ∷ 40 ∷ 41 ∷ 59 ∷ 66 ∷ 67 ∷ 68 ∷ 69 ∷ 70 ∷ 76 ∷ 77 ∷ 80 ∷ 82 ∷ 83 ∷ 84 ∷ 87 ∷ 88 ∷ 89 ∷ 65 ∷ 128 ∷ []

-- the roles, by their numbers
abbrev pub roles : List Role
roles = skip ∷ sign ∷ later ∷ lead ∷ stop ∷ head ∷ second ∷ turn ∷ axis ∷ name ∷ []

-- each state but the first: an earlier state, and a letter that leads from there
unfoldable pub tree : List (ℕ × Letter)
tree =
    (0, letter 48 head) ∷ (0, letter 32 skip) ∷ (0, letter 59 stop) ∷ (0, letter 66 head) ∷ (0, letter 67 head)
    ∷ (0, letter 68 head) ∷ (0, letter 69 head) ∷ (0, letter 76 head) ∷ (0, letter 80 head) ∷ (0, letter 82 head)
    ∷ (0, letter 87 head) ∷ (1, letter 32 skip) ∷ (3, letter 32 skip) ∷ (4, letter 48 lead) ∷ (5, letter 48 lead)
    ∷ (6, letter 68 second) ∷ (6, letter 83 second) ∷ (8, letter 48 name) ∷ (9, letter 48 lead) ∷ (9, letter 45 sign)
    ∷ (10, letter 48 lead) ∷ (11, letter 48 lead) ∷ (14, letter 32 skip) ∷ (15, letter 32 skip) ∷ (15, letter 77 turn)
    ∷ (15, letter 82 turn) ∷ (16, letter 48 lead) ∷ (17, letter 48 lead) ∷ (18, letter 48 name) ∷ (18, letter 32 skip)
    ∷ (19, letter 32 skip) ∷ (21, letter 32 skip) ∷ (23, letter 48 lead) ∷ (25, letter 88 axis) ∷ (26, letter 48 lead)
    ∷ (26, letter 45 sign) ∷ (28, letter 32 skip) ∷ (28, letter 59 stop) ∷ (28, letter 66 skip) ∷ (29, letter 48 name)
    ∷ (31, letter 48 lead) ∷ (31, letter 45 sign) ∷ (32, letter 48 lead) ∷ (32, letter 45 sign) ∷ (33, letter 32 skip)
    ∷ (35, letter 32 skip) ∷ (37, letter 48 lead) ∷ (38, letter 48 head) ∷ (38, letter 32 skip) ∷ (38, letter 66 head)
    ∷ (38, letter 67 head) ∷ (38, letter 68 head) ∷ (38, letter 76 head) ∷ (38, letter 80 head) ∷ (38, letter 82 head)
    ∷ (38, letter 87 head) ∷ (41, letter 32 skip) ∷ (43, letter 32 skip) ∷ (45, letter 48 lead) ∷ (45, letter 45 sign)
    ∷ (46, letter 45 sign) ∷ (47, letter 32 skip) ∷ (48, letter 32 skip) ∷ (50, letter 48 lead) ∷ (51, letter 48 lead)
    ∷ (53, letter 48 name) ∷ (54, letter 48 lead) ∷ (54, letter 45 sign) ∷ (55, letter 48 lead) ∷ (56, letter 48 lead)
    ∷ (58, letter 45 sign) ∷ (59, letter 32 skip) ∷ (62, letter 48 lead) ∷ (64, letter 32 skip) ∷ (65, letter 32 skip)
    ∷ (65, letter 77 turn) ∷ (65, letter 82 turn) ∷ (66, letter 48 name) ∷ (66, letter 32 skip) ∷ (67, letter 32 skip)
    ∷ (69, letter 32 skip) ∷ (72, letter 48 lead) ∷ (72, letter 45 sign) ∷ (74, letter 48 lead) ∷ (76, letter 88 axis)
    ∷ (77, letter 48 lead) ∷ (77, letter 45 sign) ∷ (78, letter 48 name) ∷ (80, letter 48 lead) ∷ (80, letter 45 sign)
    ∷ (81, letter 48 lead) ∷ (81, letter 45 sign) ∷ (82, letter 32 skip) ∷ (84, letter 32 skip) ∷ (86, letter 32 skip)
    ∷ (89, letter 32 skip) ∷ (91, letter 32 skip) ∷ (94, letter 48 lead) ∷ (94, letter 45 sign) ∷ (95, letter 45 sign)
    ∷ (97, letter 45 sign) ∷ (98, letter 32 skip) ∷ (102, letter 48 lead) ∷ (102, letter 45 sign) ∷ (103, letter 32 skip) ∷ []

-- the entry for each state and kind: 256 times the number of the byte's role, and where it leads
unfoldable pub table : List ℕ
table =
    1281 ∷ 2 ∷ 255 ∷ 1438 ∷ 255 ∷ 1027 ∷ 1284 ∷ 1285 ∷ 1286 ∷ 1287 ∷ 255 ∷ 1288 ∷ 255 ∷ 1289 ∷ 1290 ∷ 255 ∷ 255 ∷ 1291 ∷ 255 ∷ 255 ∷ 255 ∷ 255 ∷ 1 ∷ 12 ∷ 1 ∷ 1 ∷ 1 ∷ 1027 ∷ 1 ∷ 1
    ∷ 1 ∷ 1 ∷ 1 ∷ 1 ∷ 1 ∷ 1 ∷ 1 ∷ 1 ∷ 1 ∷ 1 ∷ 1 ∷ 1 ∷ 1 ∷ 255 ∷ 1281 ∷ 2 ∷ 255 ∷ 1438 ∷ 255 ∷ 1027 ∷ 1284 ∷ 1285 ∷ 1286 ∷ 255 ∷ 255 ∷ 1288 ∷ 255 ∷ 1289 ∷ 1290 ∷ 255
    ∷ 255 ∷ 1291 ∷ 255 ∷ 255 ∷ 255 ∷ 255 ∷ 1281 ∷ 13 ∷ 255 ∷ 1438 ∷ 255 ∷ 1027 ∷ 1284 ∷ 1285 ∷ 1286 ∷ 1287 ∷ 255 ∷ 1288 ∷ 255 ∷ 1289 ∷ 1290 ∷ 255 ∷ 255 ∷ 1291 ∷ 255 ∷ 255 ∷ 255 ∷ 255 ∷ 782 ∷ 4
    ∷ 255 ∷ 255 ∷ 255 ∷ 255 ∷ 4 ∷ 4 ∷ 4 ∷ 4 ∷ 4 ∷ 4 ∷ 4 ∷ 4 ∷ 4 ∷ 4 ∷ 4 ∷ 4 ∷ 4 ∷ 4 ∷ 4 ∷ 255 ∷ 783 ∷ 5 ∷ 255 ∷ 255 ∷ 255 ∷ 255 ∷ 5 ∷ 5 ∷ 5 ∷ 5
    ∷ 5 ∷ 5 ∷ 5 ∷ 5 ∷ 5 ∷ 5 ∷ 5 ∷ 5 ∷ 5 ∷ 5 ∷ 5 ∷ 255 ∷ 255 ∷ 6 ∷ 255 ∷ 255 ∷ 255 ∷ 255 ∷ 255 ∷ 255 ∷ 1552 ∷ 255 ∷ 255 ∷ 255 ∷ 255 ∷ 255 ∷ 255 ∷ 1553 ∷ 255 ∷ 255
    ∷ 255 ∷ 255 ∷ 255 ∷ 255 ∷ 255 ∷ 7 ∷ 255 ∷ 255 ∷ 255 ∷ 255 ∷ 255 ∷ 255 ∷ 255 ∷ 255 ∷ 255 ∷ 255 ∷ 255 ∷ 255 ∷ 255 ∷ 255 ∷ 255 ∷ 255 ∷ 255 ∷ 255 ∷ 255 ∷ 255 ∷ 2322 ∷ 8 ∷ 255 ∷ 255
    ∷ 255 ∷ 255 ∷ 2322 ∷ 2322 ∷ 2322 ∷ 2322 ∷ 2322 ∷ 2322 ∷ 2322 ∷ 2322 ∷ 2322 ∷ 2322 ∷ 2322 ∷ 2322 ∷ 2322 ∷ 2322 ∷ 2322 ∷ 255 ∷ 787 ∷ 9 ∷ 276 ∷ 255 ∷ 255 ∷ 255 ∷ 9 ∷ 9 ∷ 9 ∷ 9 ∷ 9 ∷ 9
    ∷ 9 ∷ 9 ∷ 9 ∷ 9 ∷ 9 ∷ 9 ∷ 9 ∷ 9 ∷ 9 ∷ 255 ∷ 789 ∷ 10 ∷ 255 ∷ 255 ∷ 255 ∷ 255 ∷ 10 ∷ 10 ∷ 10 ∷ 10 ∷ 10 ∷ 10 ∷ 10 ∷ 10 ∷ 10 ∷ 10 ∷ 10 ∷ 10 ∷ 10 ∷ 10
    ∷ 10 ∷ 255 ∷ 790 ∷ 11 ∷ 255 ∷ 255 ∷ 255 ∷ 255 ∷ 11 ∷ 11 ∷ 11 ∷ 11 ∷ 11 ∷ 11 ∷ 11 ∷ 11 ∷ 11 ∷ 11 ∷ 11 ∷ 11 ∷ 11 ∷ 11 ∷ 11 ∷ 255 ∷ 1 ∷ 12 ∷ 1 ∷ 1 ∷ 1 ∷ 1027
    ∷ 1 ∷ 1 ∷ 1 ∷ 1 ∷ 1 ∷ 1 ∷ 1 ∷ 1 ∷ 1 ∷ 1 ∷ 1 ∷ 1 ∷ 1 ∷ 1 ∷ 1 ∷ 255 ∷ 1281 ∷ 13 ∷ 255 ∷ 1438 ∷ 255 ∷ 1027 ∷ 1284 ∷ 1285 ∷ 1286 ∷ 1287 ∷ 255 ∷ 1288 ∷ 255 ∷ 1289
    ∷ 1290 ∷ 255 ∷ 255 ∷ 1291 ∷ 255 ∷ 255 ∷ 255 ∷ 255 ∷ 526 ∷ 23 ∷ 255 ∷ 255 ∷ 255 ∷ 255 ∷ 23 ∷ 23 ∷ 23 ∷ 23 ∷ 23 ∷ 23 ∷ 23 ∷ 23 ∷ 23 ∷ 23 ∷ 23 ∷ 23 ∷ 23 ∷ 23 ∷ 23 ∷ 255
    ∷ 527 ∷ 24 ∷ 255 ∷ 255 ∷ 255 ∷ 1027 ∷ 255 ∷ 255 ∷ 255 ∷ 255 ∷ 255 ∷ 255 ∷ 1817 ∷ 255 ∷ 1818 ∷ 255 ∷ 1818 ∷ 255 ∷ 255 ∷ 255 ∷ 255 ∷ 255 ∷ 795 ∷ 16 ∷ 255 ∷ 255 ∷ 255 ∷ 255 ∷ 16 ∷ 16
    ∷ 16 ∷ 16 ∷ 16 ∷ 16 ∷ 16 ∷ 16 ∷ 16 ∷ 16 ∷ 16 ∷ 16 ∷ 16 ∷ 16 ∷ 16 ∷ 255 ∷ 796 ∷ 17 ∷ 255 ∷ 255 ∷ 255 ∷ 255 ∷ 17 ∷ 17 ∷ 17 ∷ 17 ∷ 17 ∷ 17 ∷ 17 ∷ 17 ∷ 17 ∷ 17
    ∷ 17 ∷ 17 ∷ 17 ∷ 17 ∷ 17 ∷ 255 ∷ 2333 ∷ 30 ∷ 255 ∷ 255 ∷ 255 ∷ 1027 ∷ 2333 ∷ 2333 ∷ 2333 ∷ 2333 ∷ 2333 ∷ 2333 ∷ 2333 ∷ 2333 ∷ 2333 ∷ 2333 ∷ 2333 ∷ 2333 ∷ 2333 ∷ 2333 ∷ 2333 ∷ 255 ∷ 531 ∷ 31
    ∷ 255 ∷ 255 ∷ 255 ∷ 255 ∷ 31 ∷ 31 ∷ 31 ∷ 31 ∷ 31 ∷ 31 ∷ 31 ∷ 31 ∷ 31 ∷ 31 ∷ 31 ∷ 31 ∷ 31 ∷ 31 ∷ 31 ∷ 255 ∷ 787 ∷ 255 ∷ 255 ∷ 255 ∷ 255 ∷ 255 ∷ 255 ∷ 255 ∷ 255 ∷ 255
    ∷ 255 ∷ 255 ∷ 255 ∷ 255 ∷ 255 ∷ 255 ∷ 255 ∷ 255 ∷ 255 ∷ 255 ∷ 255 ∷ 255 ∷ 533 ∷ 32 ∷ 255 ∷ 255 ∷ 255 ∷ 255 ∷ 32 ∷ 32 ∷ 32 ∷ 32 ∷ 32 ∷ 32 ∷ 32 ∷ 32 ∷ 32 ∷ 32 ∷ 32 ∷ 32
    ∷ 32 ∷ 32 ∷ 32 ∷ 255 ∷ 534 ∷ 9 ∷ 255 ∷ 255 ∷ 255 ∷ 255 ∷ 9 ∷ 9 ∷ 9 ∷ 9 ∷ 9 ∷ 9 ∷ 9 ∷ 9 ∷ 9 ∷ 9 ∷ 9 ∷ 9 ∷ 9 ∷ 9 ∷ 9 ∷ 255 ∷ 801 ∷ 23 ∷ 255 ∷ 255
    ∷ 255 ∷ 255 ∷ 23 ∷ 23 ∷ 23 ∷ 23 ∷ 23 ∷ 23 ∷ 23 ∷ 23 ∷ 23 ∷ 23 ∷ 23 ∷ 23 ∷ 23 ∷ 23 ∷ 23 ∷ 255 ∷ 255 ∷ 24 ∷ 255 ∷ 255 ∷ 255 ∷ 1027 ∷ 255 ∷ 255 ∷ 255 ∷ 255 ∷ 255 ∷ 255
    ∷ 1817 ∷ 255 ∷ 1818 ∷ 255 ∷ 1818 ∷ 255 ∷ 255 ∷ 255 ∷ 255 ∷ 255 ∷ 255 ∷ 25 ∷ 255 ∷ 255 ∷ 255 ∷ 255 ∷ 255 ∷ 255 ∷ 255 ∷ 255 ∷ 255 ∷ 255 ∷ 255 ∷ 255 ∷ 255 ∷ 255 ∷ 255 ∷ 255 ∷ 2082 ∷ 2082
    ∷ 255 ∷ 255 ∷ 803 ∷ 26 ∷ 292 ∷ 255 ∷ 255 ∷ 255 ∷ 26 ∷ 26 ∷ 26 ∷ 26 ∷ 26 ∷ 26 ∷ 26 ∷ 26 ∷ 26 ∷ 26 ∷ 26 ∷ 26 ∷ 26 ∷ 26 ∷ 26 ∷ 255 ∷ 539 ∷ 30 ∷ 255 ∷ 255 ∷ 255 ∷ 1027
    ∷ 255 ∷ 255 ∷ 255 ∷ 255 ∷ 255 ∷ 255 ∷ 255 ∷ 255 ∷ 255 ∷ 255 ∷ 255 ∷ 255 ∷ 255 ∷ 255 ∷ 255 ∷ 255 ∷ 540 ∷ 37 ∷ 255 ∷ 255 ∷ 255 ∷ 1062 ∷ 39 ∷ 39 ∷ 39 ∷ 39 ∷ 39 ∷ 39 ∷ 39 ∷ 39
    ∷ 39 ∷ 39 ∷ 39 ∷ 39 ∷ 39 ∷ 39 ∷ 39 ∷ 255 ∷ 2344 ∷ 30 ∷ 255 ∷ 255 ∷ 255 ∷ 1027 ∷ 2344 ∷ 2344 ∷ 2344 ∷ 2344 ∷ 2344 ∷ 2344 ∷ 2344 ∷ 2344 ∷ 2344 ∷ 2344 ∷ 2344 ∷ 2344 ∷ 2344 ∷ 2344 ∷ 2344 ∷ 255
    ∷ 255 ∷ 30 ∷ 255 ∷ 255 ∷ 255 ∷ 1027 ∷ 255 ∷ 255 ∷ 255 ∷ 255 ∷ 255 ∷ 255 ∷ 255 ∷ 255 ∷ 255 ∷ 255 ∷ 255 ∷ 255 ∷ 255 ∷ 255 ∷ 255 ∷ 255 ∷ 809 ∷ 31 ∷ 298 ∷ 255 ∷ 255 ∷ 255 ∷ 31 ∷ 31
    ∷ 31 ∷ 31 ∷ 31 ∷ 31 ∷ 31 ∷ 31 ∷ 31 ∷ 31 ∷ 31 ∷ 31 ∷ 31 ∷ 31 ∷ 31 ∷ 255 ∷ 811 ∷ 32 ∷ 300 ∷ 255 ∷ 255 ∷ 255 ∷ 32 ∷ 32 ∷ 32 ∷ 32 ∷ 32 ∷ 32 ∷ 32 ∷ 32 ∷ 32 ∷ 32
    ∷ 32 ∷ 32 ∷ 32 ∷ 32 ∷ 32 ∷ 255 ∷ 545 ∷ 45 ∷ 255 ∷ 255 ∷ 255 ∷ 255 ∷ 45 ∷ 45 ∷ 45 ∷ 45 ∷ 45 ∷ 45 ∷ 45 ∷ 45 ∷ 45 ∷ 45 ∷ 45 ∷ 45 ∷ 45 ∷ 45 ∷ 45 ∷ 255 ∷ 255 ∷ 24
    ∷ 255 ∷ 255 ∷ 255 ∷ 1027 ∷ 255 ∷ 255 ∷ 255 ∷ 255 ∷ 255 ∷ 255 ∷ 1817 ∷ 255 ∷ 1818 ∷ 255 ∷ 1818 ∷ 255 ∷ 255 ∷ 255 ∷ 255 ∷ 255 ∷ 547 ∷ 46 ∷ 255 ∷ 255 ∷ 255 ∷ 255 ∷ 46 ∷ 46 ∷ 46 ∷ 46
    ∷ 46 ∷ 46 ∷ 46 ∷ 46 ∷ 46 ∷ 46 ∷ 46 ∷ 46 ∷ 46 ∷ 46 ∷ 46 ∷ 255 ∷ 803 ∷ 255 ∷ 255 ∷ 255 ∷ 255 ∷ 255 ∷ 255 ∷ 255 ∷ 255 ∷ 255 ∷ 255 ∷ 255 ∷ 255 ∷ 255 ∷ 255 ∷ 255 ∷ 255 ∷ 255
    ∷ 255 ∷ 255 ∷ 255 ∷ 255 ∷ 815 ∷ 37 ∷ 255 ∷ 255 ∷ 255 ∷ 1062 ∷ 39 ∷ 39 ∷ 39 ∷ 39 ∷ 39 ∷ 39 ∷ 39 ∷ 39 ∷ 39 ∷ 39 ∷ 39 ∷ 39 ∷ 39 ∷ 39 ∷ 39 ∷ 255 ∷ 1328 ∷ 49 ∷ 255 ∷ 1487
    ∷ 255 ∷ 1062 ∷ 1330 ∷ 1331 ∷ 1332 ∷ 255 ∷ 255 ∷ 1333 ∷ 255 ∷ 1334 ∷ 1335 ∷ 255 ∷ 255 ∷ 1336 ∷ 255 ∷ 255 ∷ 255 ∷ 255 ∷ 815 ∷ 39 ∷ 255 ∷ 255 ∷ 255 ∷ 255 ∷ 39 ∷ 39 ∷ 39 ∷ 39 ∷ 39 ∷ 39
    ∷ 39 ∷ 39 ∷ 39 ∷ 39 ∷ 39 ∷ 39 ∷ 39 ∷ 39 ∷ 39 ∷ 255 ∷ 2334 ∷ 30 ∷ 255 ∷ 255 ∷ 255 ∷ 1027 ∷ 2334 ∷ 2334 ∷ 2334 ∷ 2334 ∷ 2334 ∷ 2334 ∷ 2334 ∷ 2334 ∷ 2334 ∷ 2334 ∷ 2334 ∷ 2334 ∷ 2334 ∷ 2334
    ∷ 2334 ∷ 255 ∷ 553 ∷ 57 ∷ 255 ∷ 255 ∷ 255 ∷ 1027 ∷ 9 ∷ 9 ∷ 9 ∷ 9 ∷ 9 ∷ 9 ∷ 9 ∷ 9 ∷ 9 ∷ 9 ∷ 9 ∷ 9 ∷ 9 ∷ 9 ∷ 9 ∷ 255 ∷ 809 ∷ 255 ∷ 255 ∷ 255 ∷ 255 ∷ 255
    ∷ 255 ∷ 255 ∷ 255 ∷ 255 ∷ 255 ∷ 255 ∷ 255 ∷ 255 ∷ 255 ∷ 255 ∷ 255 ∷ 255 ∷ 255 ∷ 255 ∷ 255 ∷ 255 ∷ 555 ∷ 58 ∷ 255 ∷ 255 ∷ 255 ∷ 255 ∷ 58 ∷ 58 ∷ 58 ∷ 58 ∷ 58 ∷ 58 ∷ 58 ∷ 58
    ∷ 58 ∷ 58 ∷ 58 ∷ 58 ∷ 58 ∷ 58 ∷ 58 ∷ 255 ∷ 811 ∷ 255 ∷ 255 ∷ 255 ∷ 255 ∷ 255 ∷ 255 ∷ 255 ∷ 255 ∷ 255 ∷ 255 ∷ 255 ∷ 255 ∷ 255 ∷ 255 ∷ 255 ∷ 255 ∷ 255 ∷ 255 ∷ 255 ∷ 255 ∷ 255
    ∷ 827 ∷ 45 ∷ 316 ∷ 255 ∷ 255 ∷ 255 ∷ 45 ∷ 45 ∷ 45 ∷ 45 ∷ 45 ∷ 45 ∷ 45 ∷ 45 ∷ 45 ∷ 45 ∷ 45 ∷ 45 ∷ 45 ∷ 45 ∷ 45 ∷ 255 ∷ 783 ∷ 46 ∷ 317 ∷ 255 ∷ 255 ∷ 255 ∷ 46 ∷ 46
    ∷ 46 ∷ 46 ∷ 46 ∷ 46 ∷ 46 ∷ 46 ∷ 46 ∷ 46 ∷ 46 ∷ 46 ∷ 46 ∷ 46 ∷ 46 ∷ 255 ∷ 559 ∷ 62 ∷ 255 ∷ 255 ∷ 255 ∷ 255 ∷ 62 ∷ 62 ∷ 62 ∷ 62 ∷ 62 ∷ 62 ∷ 62 ∷ 62 ∷ 62 ∷ 62
    ∷ 62 ∷ 62 ∷ 62 ∷ 62 ∷ 62 ∷ 255 ∷ 48 ∷ 63 ∷ 48 ∷ 48 ∷ 48 ∷ 1062 ∷ 48 ∷ 48 ∷ 48 ∷ 48 ∷ 48 ∷ 48 ∷ 48 ∷ 48 ∷ 48 ∷ 48 ∷ 48 ∷ 48 ∷ 48 ∷ 48 ∷ 48 ∷ 255 ∷ 1328 ∷ 49
    ∷ 255 ∷ 1487 ∷ 255 ∷ 1062 ∷ 1330 ∷ 1331 ∷ 1332 ∷ 255 ∷ 255 ∷ 1333 ∷ 255 ∷ 1334 ∷ 1335 ∷ 255 ∷ 255 ∷ 1336 ∷ 255 ∷ 255 ∷ 255 ∷ 255 ∷ 832 ∷ 50 ∷ 255 ∷ 255 ∷ 255 ∷ 255 ∷ 50 ∷ 50 ∷ 50 ∷ 50
    ∷ 50 ∷ 50 ∷ 50 ∷ 50 ∷ 50 ∷ 50 ∷ 50 ∷ 50 ∷ 50 ∷ 50 ∷ 50 ∷ 255 ∷ 833 ∷ 51 ∷ 255 ∷ 255 ∷ 255 ∷ 255 ∷ 51 ∷ 51 ∷ 51 ∷ 51 ∷ 51 ∷ 51 ∷ 51 ∷ 51 ∷ 51 ∷ 51 ∷ 51 ∷ 51
    ∷ 51 ∷ 51 ∷ 51 ∷ 255 ∷ 255 ∷ 52 ∷ 255 ∷ 255 ∷ 255 ∷ 255 ∷ 255 ∷ 255 ∷ 255 ∷ 255 ∷ 1566 ∷ 255 ∷ 255 ∷ 255 ∷ 255 ∷ 255 ∷ 255 ∷ 255 ∷ 255 ∷ 255 ∷ 255 ∷ 255 ∷ 2370 ∷ 53 ∷ 255 ∷ 255
    ∷ 255 ∷ 255 ∷ 2370 ∷ 2370 ∷ 2370 ∷ 2370 ∷ 2370 ∷ 2370 ∷ 2370 ∷ 2370 ∷ 2370 ∷ 2370 ∷ 2370 ∷ 2370 ∷ 2370 ∷ 2370 ∷ 2370 ∷ 255 ∷ 835 ∷ 54 ∷ 324 ∷ 255 ∷ 255 ∷ 255 ∷ 54 ∷ 54 ∷ 54 ∷ 54 ∷ 54 ∷ 54
    ∷ 54 ∷ 54 ∷ 54 ∷ 54 ∷ 54 ∷ 54 ∷ 54 ∷ 54 ∷ 54 ∷ 255 ∷ 837 ∷ 55 ∷ 255 ∷ 255 ∷ 255 ∷ 255 ∷ 55 ∷ 55 ∷ 55 ∷ 55 ∷ 55 ∷ 55 ∷ 55 ∷ 55 ∷ 55 ∷ 55 ∷ 55 ∷ 55 ∷ 55 ∷ 55
    ∷ 55 ∷ 255 ∷ 838 ∷ 56 ∷ 255 ∷ 255 ∷ 255 ∷ 255 ∷ 56 ∷ 56 ∷ 56 ∷ 56 ∷ 56 ∷ 56 ∷ 56 ∷ 56 ∷ 56 ∷ 56 ∷ 56 ∷ 56 ∷ 56 ∷ 56 ∷ 56 ∷ 255 ∷ 787 ∷ 57 ∷ 276 ∷ 255 ∷ 255 ∷ 1027
    ∷ 9 ∷ 9 ∷ 9 ∷ 9 ∷ 9 ∷ 9 ∷ 9 ∷ 9 ∷ 9 ∷ 9 ∷ 9 ∷ 9 ∷ 9 ∷ 9 ∷ 9 ∷ 255 ∷ 795 ∷ 58 ∷ 327 ∷ 255 ∷ 255 ∷ 255 ∷ 58 ∷ 58 ∷ 58 ∷ 58 ∷ 58 ∷ 58 ∷ 58 ∷ 58
    ∷ 58 ∷ 58 ∷ 58 ∷ 58 ∷ 58 ∷ 58 ∷ 58 ∷ 255 ∷ 571 ∷ 72 ∷ 255 ∷ 255 ∷ 255 ∷ 255 ∷ 72 ∷ 72 ∷ 72 ∷ 72 ∷ 72 ∷ 72 ∷ 72 ∷ 72 ∷ 72 ∷ 72 ∷ 72 ∷ 72 ∷ 72 ∷ 72 ∷ 72 ∷ 255
    ∷ 827 ∷ 255 ∷ 255 ∷ 255 ∷ 255 ∷ 255 ∷ 255 ∷ 255 ∷ 255 ∷ 255 ∷ 255 ∷ 255 ∷ 255 ∷ 255 ∷ 255 ∷ 255 ∷ 255 ∷ 255 ∷ 255 ∷ 255 ∷ 255 ∷ 255 ∷ 783 ∷ 255 ∷ 255 ∷ 255 ∷ 255 ∷ 255 ∷ 255 ∷ 255
    ∷ 255 ∷ 255 ∷ 255 ∷ 255 ∷ 255 ∷ 255 ∷ 255 ∷ 255 ∷ 255 ∷ 255 ∷ 255 ∷ 255 ∷ 255 ∷ 255 ∷ 841 ∷ 62 ∷ 255 ∷ 255 ∷ 255 ∷ 255 ∷ 62 ∷ 62 ∷ 62 ∷ 62 ∷ 62 ∷ 62 ∷ 62 ∷ 62 ∷ 62 ∷ 62
    ∷ 62 ∷ 62 ∷ 62 ∷ 62 ∷ 62 ∷ 255 ∷ 48 ∷ 63 ∷ 48 ∷ 48 ∷ 48 ∷ 1062 ∷ 48 ∷ 48 ∷ 48 ∷ 48 ∷ 48 ∷ 48 ∷ 48 ∷ 48 ∷ 48 ∷ 48 ∷ 48 ∷ 48 ∷ 48 ∷ 48 ∷ 48 ∷ 255 ∷ 576 ∷ 74
    ∷ 255 ∷ 255 ∷ 255 ∷ 255 ∷ 74 ∷ 74 ∷ 74 ∷ 74 ∷ 74 ∷ 74 ∷ 74 ∷ 74 ∷ 74 ∷ 74 ∷ 74 ∷ 74 ∷ 74 ∷ 74 ∷ 74 ∷ 255 ∷ 577 ∷ 75 ∷ 255 ∷ 255 ∷ 255 ∷ 1062 ∷ 255 ∷ 255 ∷ 255 ∷ 255
    ∷ 255 ∷ 255 ∷ 1868 ∷ 255 ∷ 1869 ∷ 255 ∷ 1869 ∷ 255 ∷ 255 ∷ 255 ∷ 255 ∷ 255 ∷ 2382 ∷ 79 ∷ 255 ∷ 255 ∷ 255 ∷ 1062 ∷ 2382 ∷ 2382 ∷ 2382 ∷ 2382 ∷ 2382 ∷ 2382 ∷ 2382 ∷ 2382 ∷ 2382 ∷ 2382 ∷ 2382 ∷ 2382
    ∷ 2382 ∷ 2382 ∷ 2382 ∷ 255 ∷ 579 ∷ 80 ∷ 255 ∷ 255 ∷ 255 ∷ 255 ∷ 80 ∷ 80 ∷ 80 ∷ 80 ∷ 80 ∷ 80 ∷ 80 ∷ 80 ∷ 80 ∷ 80 ∷ 80 ∷ 80 ∷ 80 ∷ 80 ∷ 80 ∷ 255 ∷ 835 ∷ 255 ∷ 255 ∷ 255
    ∷ 255 ∷ 255 ∷ 255 ∷ 255 ∷ 255 ∷ 255 ∷ 255 ∷ 255 ∷ 255 ∷ 255 ∷ 255 ∷ 255 ∷ 255 ∷ 255 ∷ 255 ∷ 255 ∷ 255 ∷ 255 ∷ 581 ∷ 81 ∷ 255 ∷ 255 ∷ 255 ∷ 255 ∷ 81 ∷ 81 ∷ 81 ∷ 81 ∷ 81 ∷ 81
    ∷ 81 ∷ 81 ∷ 81 ∷ 81 ∷ 81 ∷ 81 ∷ 81 ∷ 81 ∷ 81 ∷ 255 ∷ 582 ∷ 54 ∷ 255 ∷ 255 ∷ 255 ∷ 255 ∷ 54 ∷ 54 ∷ 54 ∷ 54 ∷ 54 ∷ 54 ∷ 54 ∷ 54 ∷ 54 ∷ 54 ∷ 54 ∷ 54 ∷ 54 ∷ 54
    ∷ 54 ∷ 255 ∷ 795 ∷ 255 ∷ 255 ∷ 255 ∷ 255 ∷ 255 ∷ 255 ∷ 255 ∷ 255 ∷ 255 ∷ 255 ∷ 255 ∷ 255 ∷ 255 ∷ 255 ∷ 255 ∷ 255 ∷ 255 ∷ 255 ∷ 255 ∷ 255 ∷ 255 ∷ 850 ∷ 72 ∷ 339 ∷ 255 ∷ 255 ∷ 255
    ∷ 72 ∷ 72 ∷ 72 ∷ 72 ∷ 72 ∷ 72 ∷ 72 ∷ 72 ∷ 72 ∷ 72 ∷ 72 ∷ 72 ∷ 72 ∷ 72 ∷ 72 ∷ 255 ∷ 585 ∷ 79 ∷ 255 ∷ 255 ∷ 255 ∷ 1062 ∷ 255 ∷ 255 ∷ 255 ∷ 255 ∷ 255 ∷ 255 ∷ 255 ∷ 255
    ∷ 255 ∷ 255 ∷ 255 ∷ 255 ∷ 255 ∷ 255 ∷ 255 ∷ 255 ∷ 852 ∷ 74 ∷ 255 ∷ 255 ∷ 255 ∷ 255 ∷ 74 ∷ 74 ∷ 74 ∷ 74 ∷ 74 ∷ 74 ∷ 74 ∷ 74 ∷ 74 ∷ 74 ∷ 74 ∷ 74 ∷ 74 ∷ 74 ∷ 74 ∷ 255
    ∷ 255 ∷ 75 ∷ 255 ∷ 255 ∷ 255 ∷ 1062 ∷ 255 ∷ 255 ∷ 255 ∷ 255 ∷ 255 ∷ 255 ∷ 1868 ∷ 255 ∷ 1869 ∷ 255 ∷ 1869 ∷ 255 ∷ 255 ∷ 255 ∷ 255 ∷ 255 ∷ 255 ∷ 76 ∷ 255 ∷ 255 ∷ 255 ∷ 255 ∷ 255 ∷ 255
    ∷ 255 ∷ 255 ∷ 255 ∷ 255 ∷ 255 ∷ 255 ∷ 255 ∷ 255 ∷ 255 ∷ 255 ∷ 2133 ∷ 2133 ∷ 255 ∷ 255 ∷ 854 ∷ 77 ∷ 343 ∷ 255 ∷ 255 ∷ 255 ∷ 77 ∷ 77 ∷ 77 ∷ 77 ∷ 77 ∷ 77 ∷ 77 ∷ 77 ∷ 77 ∷ 77
    ∷ 77 ∷ 77 ∷ 77 ∷ 77 ∷ 77 ∷ 255 ∷ 2392 ∷ 79 ∷ 255 ∷ 255 ∷ 255 ∷ 1062 ∷ 2392 ∷ 2392 ∷ 2392 ∷ 2392 ∷ 2392 ∷ 2392 ∷ 2392 ∷ 2392 ∷ 2392 ∷ 2392 ∷ 2392 ∷ 2392 ∷ 2392 ∷ 2392 ∷ 2392 ∷ 255 ∷ 255 ∷ 79
    ∷ 255 ∷ 255 ∷ 255 ∷ 1062 ∷ 255 ∷ 255 ∷ 255 ∷ 255 ∷ 255 ∷ 255 ∷ 255 ∷ 255 ∷ 255 ∷ 255 ∷ 255 ∷ 255 ∷ 255 ∷ 255 ∷ 255 ∷ 255 ∷ 857 ∷ 80 ∷ 346 ∷ 255 ∷ 255 ∷ 255 ∷ 80 ∷ 80 ∷ 80 ∷ 80
    ∷ 80 ∷ 80 ∷ 80 ∷ 80 ∷ 80 ∷ 80 ∷ 80 ∷ 80 ∷ 80 ∷ 80 ∷ 80 ∷ 255 ∷ 859 ∷ 81 ∷ 348 ∷ 255 ∷ 255 ∷ 255 ∷ 81 ∷ 81 ∷ 81 ∷ 81 ∷ 81 ∷ 81 ∷ 81 ∷ 81 ∷ 81 ∷ 81 ∷ 81 ∷ 81
    ∷ 81 ∷ 81 ∷ 81 ∷ 255 ∷ 594 ∷ 93 ∷ 255 ∷ 255 ∷ 255 ∷ 1027 ∷ 32 ∷ 32 ∷ 32 ∷ 32 ∷ 32 ∷ 32 ∷ 32 ∷ 32 ∷ 32 ∷ 32 ∷ 32 ∷ 32 ∷ 32 ∷ 32 ∷ 32 ∷ 255 ∷ 850 ∷ 255 ∷ 255 ∷ 255
    ∷ 255 ∷ 255 ∷ 255 ∷ 255 ∷ 255 ∷ 255 ∷ 255 ∷ 255 ∷ 255 ∷ 255 ∷ 255 ∷ 255 ∷ 255 ∷ 255 ∷ 255 ∷ 255 ∷ 255 ∷ 255 ∷ 596 ∷ 94 ∷ 255 ∷ 255 ∷ 255 ∷ 255 ∷ 94 ∷ 94 ∷ 94 ∷ 94 ∷ 94 ∷ 94
    ∷ 94 ∷ 94 ∷ 94 ∷ 94 ∷ 94 ∷ 94 ∷ 94 ∷ 94 ∷ 94 ∷ 255 ∷ 255 ∷ 75 ∷ 255 ∷ 255 ∷ 255 ∷ 1062 ∷ 255 ∷ 255 ∷ 255 ∷ 255 ∷ 255 ∷ 255 ∷ 1868 ∷ 255 ∷ 1869 ∷ 255 ∷ 1869 ∷ 255 ∷ 255 ∷ 255
    ∷ 255 ∷ 255 ∷ 598 ∷ 95 ∷ 255 ∷ 255 ∷ 255 ∷ 255 ∷ 95 ∷ 95 ∷ 95 ∷ 95 ∷ 95 ∷ 95 ∷ 95 ∷ 95 ∷ 95 ∷ 95 ∷ 95 ∷ 95 ∷ 95 ∷ 95 ∷ 95 ∷ 255 ∷ 854 ∷ 255 ∷ 255 ∷ 255 ∷ 255 ∷ 255
    ∷ 255 ∷ 255 ∷ 255 ∷ 255 ∷ 255 ∷ 255 ∷ 255 ∷ 255 ∷ 255 ∷ 255 ∷ 255 ∷ 255 ∷ 255 ∷ 255 ∷ 255 ∷ 255 ∷ 2383 ∷ 79 ∷ 255 ∷ 255 ∷ 255 ∷ 1062 ∷ 2383 ∷ 2383 ∷ 2383 ∷ 2383 ∷ 2383 ∷ 2383 ∷ 2383 ∷ 2383
    ∷ 2383 ∷ 2383 ∷ 2383 ∷ 2383 ∷ 2383 ∷ 2383 ∷ 2383 ∷ 255 ∷ 601 ∷ 96 ∷ 255 ∷ 255 ∷ 255 ∷ 1062 ∷ 54 ∷ 54 ∷ 54 ∷ 54 ∷ 54 ∷ 54 ∷ 54 ∷ 54 ∷ 54 ∷ 54 ∷ 54 ∷ 54 ∷ 54 ∷ 54 ∷ 54 ∷ 255
    ∷ 857 ∷ 255 ∷ 255 ∷ 255 ∷ 255 ∷ 255 ∷ 255 ∷ 255 ∷ 255 ∷ 255 ∷ 255 ∷ 255 ∷ 255 ∷ 255 ∷ 255 ∷ 255 ∷ 255 ∷ 255 ∷ 255 ∷ 255 ∷ 255 ∷ 255 ∷ 603 ∷ 97 ∷ 255 ∷ 255 ∷ 255 ∷ 255 ∷ 97 ∷ 97
    ∷ 97 ∷ 97 ∷ 97 ∷ 97 ∷ 97 ∷ 97 ∷ 97 ∷ 97 ∷ 97 ∷ 97 ∷ 97 ∷ 97 ∷ 97 ∷ 255 ∷ 859 ∷ 255 ∷ 255 ∷ 255 ∷ 255 ∷ 255 ∷ 255 ∷ 255 ∷ 255 ∷ 255 ∷ 255 ∷ 255 ∷ 255 ∷ 255 ∷ 255 ∷ 255
    ∷ 255 ∷ 255 ∷ 255 ∷ 255 ∷ 255 ∷ 255 ∷ 811 ∷ 93 ∷ 300 ∷ 255 ∷ 255 ∷ 1027 ∷ 32 ∷ 32 ∷ 32 ∷ 32 ∷ 32 ∷ 32 ∷ 32 ∷ 32 ∷ 32 ∷ 32 ∷ 32 ∷ 32 ∷ 32 ∷ 32 ∷ 32 ∷ 255 ∷ 866 ∷ 94
    ∷ 355 ∷ 255 ∷ 255 ∷ 255 ∷ 94 ∷ 94 ∷ 94 ∷ 94 ∷ 94 ∷ 94 ∷ 94 ∷ 94 ∷ 94 ∷ 94 ∷ 94 ∷ 94 ∷ 94 ∷ 94 ∷ 94 ∷ 255 ∷ 833 ∷ 95 ∷ 356 ∷ 255 ∷ 255 ∷ 255 ∷ 95 ∷ 95 ∷ 95 ∷ 95
    ∷ 95 ∷ 95 ∷ 95 ∷ 95 ∷ 95 ∷ 95 ∷ 95 ∷ 95 ∷ 95 ∷ 95 ∷ 95 ∷ 255 ∷ 835 ∷ 96 ∷ 324 ∷ 255 ∷ 255 ∷ 1062 ∷ 54 ∷ 54 ∷ 54 ∷ 54 ∷ 54 ∷ 54 ∷ 54 ∷ 54 ∷ 54 ∷ 54 ∷ 54 ∷ 54
    ∷ 54 ∷ 54 ∷ 54 ∷ 255 ∷ 841 ∷ 97 ∷ 357 ∷ 255 ∷ 255 ∷ 255 ∷ 97 ∷ 97 ∷ 97 ∷ 97 ∷ 97 ∷ 97 ∷ 97 ∷ 97 ∷ 97 ∷ 97 ∷ 97 ∷ 97 ∷ 97 ∷ 97 ∷ 97 ∷ 255 ∷ 610 ∷ 102 ∷ 255 ∷ 255
    ∷ 255 ∷ 255 ∷ 102 ∷ 102 ∷ 102 ∷ 102 ∷ 102 ∷ 102 ∷ 102 ∷ 102 ∷ 102 ∷ 102 ∷ 102 ∷ 102 ∷ 102 ∷ 102 ∷ 102 ∷ 255 ∷ 866 ∷ 255 ∷ 255 ∷ 255 ∷ 255 ∷ 255 ∷ 255 ∷ 255 ∷ 255 ∷ 255 ∷ 255 ∷ 255
    ∷ 255 ∷ 255 ∷ 255 ∷ 255 ∷ 255 ∷ 255 ∷ 255 ∷ 255 ∷ 255 ∷ 255 ∷ 833 ∷ 255 ∷ 255 ∷ 255 ∷ 255 ∷ 255 ∷ 255 ∷ 255 ∷ 255 ∷ 255 ∷ 255 ∷ 255 ∷ 255 ∷ 255 ∷ 255 ∷ 255 ∷ 255 ∷ 255 ∷ 255 ∷ 255
    ∷ 255 ∷ 255 ∷ 841 ∷ 255 ∷ 255 ∷ 255 ∷ 255 ∷ 255 ∷ 255 ∷ 255 ∷ 255 ∷ 255 ∷ 255 ∷ 255 ∷ 255 ∷ 255 ∷ 255 ∷ 255 ∷ 255 ∷ 255 ∷ 255 ∷ 255 ∷ 255 ∷ 255 ∷ 871 ∷ 102 ∷ 360 ∷ 255 ∷ 255 ∷ 255
    ∷ 102 ∷ 102 ∷ 102 ∷ 102 ∷ 102 ∷ 102 ∷ 102 ∷ 102 ∷ 102 ∷ 102 ∷ 102 ∷ 102 ∷ 102 ∷ 102 ∷ 102 ∷ 255 ∷ 615 ∷ 105 ∷ 255 ∷ 255 ∷ 255 ∷ 1062 ∷ 81 ∷ 81 ∷ 81 ∷ 81 ∷ 81 ∷ 81 ∷ 81 ∷ 81
    ∷ 81 ∷ 81 ∷ 81 ∷ 81 ∷ 81 ∷ 81 ∷ 81 ∷ 255 ∷ 871 ∷ 255 ∷ 255 ∷ 255 ∷ 255 ∷ 255 ∷ 255 ∷ 255 ∷ 255 ∷ 255 ∷ 255 ∷ 255 ∷ 255 ∷ 255 ∷ 255 ∷ 255 ∷ 255 ∷ 255 ∷ 255 ∷ 255 ∷ 255 ∷ 255
    ∷ 859 ∷ 105 ∷ 348 ∷ 255 ∷ 255 ∷ 1062 ∷ 81 ∷ 81 ∷ 81 ∷ 81 ∷ 81 ∷ 81 ∷ 81 ∷ 81 ∷ 81 ∷ 81 ∷ 81 ∷ 81 ∷ 81 ∷ 81 ∷ 81 ∷ 255 ∷ []

-- a text that completes each state
unfoldable pub ends : List (List Letter)
ends =
    (letter 69 head ∷ []) ∷ (letter 59 stop ∷ letter 69 head ∷ [])
    ∷ (letter 59 stop ∷ letter 69 head ∷ []) ∷ (letter 69 head ∷ [])
    ∷ (letter 48 lead ∷ letter 32 skip ∷ letter 48 lead ∷ letter 32 skip ∷ letter 48 lead ∷ letter 32 skip ∷ letter 48 lead ∷ letter 59 stop ∷ letter 69 head ∷ []) ∷ (letter 48 lead ∷ letter 59 stop ∷ letter 69 head ∷ [])
    ∷ (letter 68 second ∷ letter 48 lead ∷ letter 59 stop ∷ letter 69 head ∷ []) ∷ []
    ∷ (letter 48 name ∷ letter 59 stop ∷ letter 69 head ∷ []) ∷ (letter 48 lead ∷ letter 32 skip ∷ letter 48 lead ∷ letter 59 stop ∷ letter 69 head ∷ [])
    ∷ (letter 48 lead ∷ letter 32 skip ∷ letter 48 lead ∷ letter 32 skip ∷ letter 48 lead ∷ letter 59 stop ∷ letter 69 head ∷ []) ∷ (letter 48 lead ∷ letter 32 skip ∷ letter 48 lead ∷ letter 32 skip ∷ letter 48 lead ∷ letter 59 stop ∷ letter 69 head ∷ [])
    ∷ (letter 59 stop ∷ letter 69 head ∷ []) ∷ (letter 69 head ∷ [])
    ∷ (letter 32 skip ∷ letter 48 lead ∷ letter 32 skip ∷ letter 48 lead ∷ letter 32 skip ∷ letter 48 lead ∷ letter 59 stop ∷ letter 69 head ∷ []) ∷ (letter 59 stop ∷ letter 69 head ∷ [])
    ∷ (letter 48 lead ∷ letter 59 stop ∷ letter 69 head ∷ []) ∷ (letter 48 lead ∷ letter 59 stop ∷ letter 68 head ∷ letter 70 second ∷ letter 59 stop ∷ letter 69 head ∷ [])
    ∷ (letter 59 stop ∷ letter 69 head ∷ []) ∷ (letter 32 skip ∷ letter 48 lead ∷ letter 59 stop ∷ letter 69 head ∷ [])
    ∷ (letter 48 lead ∷ letter 32 skip ∷ letter 48 lead ∷ letter 59 stop ∷ letter 69 head ∷ []) ∷ (letter 32 skip ∷ letter 48 lead ∷ letter 32 skip ∷ letter 48 lead ∷ letter 59 stop ∷ letter 69 head ∷ [])
    ∷ (letter 32 skip ∷ letter 48 lead ∷ letter 32 skip ∷ letter 48 lead ∷ letter 59 stop ∷ letter 69 head ∷ []) ∷ (letter 48 lead ∷ letter 32 skip ∷ letter 48 lead ∷ letter 32 skip ∷ letter 48 lead ∷ letter 59 stop ∷ letter 69 head ∷ [])
    ∷ (letter 59 stop ∷ letter 69 head ∷ []) ∷ (letter 88 axis ∷ letter 59 stop ∷ letter 69 head ∷ [])
    ∷ (letter 48 lead ∷ letter 32 skip ∷ letter 48 lead ∷ letter 59 stop ∷ letter 69 head ∷ []) ∷ (letter 59 stop ∷ letter 69 head ∷ [])
    ∷ (letter 59 stop ∷ letter 68 head ∷ letter 70 second ∷ letter 59 stop ∷ letter 69 head ∷ []) ∷ (letter 59 stop ∷ letter 69 head ∷ [])
    ∷ (letter 59 stop ∷ letter 69 head ∷ []) ∷ (letter 48 lead ∷ letter 59 stop ∷ letter 69 head ∷ [])
    ∷ (letter 48 lead ∷ letter 32 skip ∷ letter 48 lead ∷ letter 59 stop ∷ letter 69 head ∷ []) ∷ (letter 32 skip ∷ letter 48 lead ∷ letter 32 skip ∷ letter 48 lead ∷ letter 59 stop ∷ letter 69 head ∷ [])
    ∷ (letter 59 stop ∷ letter 69 head ∷ []) ∷ (letter 32 skip ∷ letter 48 lead ∷ letter 59 stop ∷ letter 69 head ∷ [])
    ∷ (letter 48 lead ∷ letter 32 skip ∷ letter 48 lead ∷ letter 59 stop ∷ letter 69 head ∷ []) ∷ (letter 59 stop ∷ letter 68 head ∷ letter 70 second ∷ letter 59 stop ∷ letter 69 head ∷ [])
    ∷ (letter 68 head ∷ letter 70 second ∷ letter 59 stop ∷ letter 69 head ∷ []) ∷ (letter 48 lead ∷ letter 32 skip ∷ letter 48 lead ∷ letter 59 stop ∷ letter 68 head ∷ letter 70 second ∷ letter 59 stop ∷ letter 69 head ∷ [])
    ∷ (letter 59 stop ∷ letter 69 head ∷ []) ∷ (letter 59 stop ∷ letter 69 head ∷ [])
    ∷ (letter 48 lead ∷ letter 59 stop ∷ letter 69 head ∷ []) ∷ (letter 32 skip ∷ letter 48 lead ∷ letter 59 stop ∷ letter 69 head ∷ [])
    ∷ (letter 48 lead ∷ letter 32 skip ∷ letter 48 lead ∷ letter 59 stop ∷ letter 69 head ∷ []) ∷ (letter 48 lead ∷ letter 32 skip ∷ letter 48 lead ∷ letter 59 stop ∷ letter 69 head ∷ [])
    ∷ (letter 48 lead ∷ letter 59 stop ∷ letter 69 head ∷ []) ∷ (letter 32 skip ∷ letter 48 lead ∷ letter 59 stop ∷ letter 68 head ∷ letter 70 second ∷ letter 59 stop ∷ letter 69 head ∷ [])
    ∷ (letter 59 stop ∷ letter 68 head ∷ letter 70 second ∷ letter 59 stop ∷ letter 69 head ∷ []) ∷ (letter 68 head ∷ letter 70 second ∷ letter 59 stop ∷ letter 69 head ∷ [])
    ∷ (letter 48 lead ∷ letter 32 skip ∷ letter 48 lead ∷ letter 32 skip ∷ letter 48 lead ∷ letter 32 skip ∷ letter 48 lead ∷ letter 59 stop ∷ letter 68 head ∷ letter 70 second ∷ letter 59 stop ∷ letter 69 head ∷ []) ∷ (letter 48 lead ∷ letter 59 stop ∷ letter 68 head ∷ letter 70 second ∷ letter 59 stop ∷ letter 69 head ∷ [])
    ∷ (letter 70 second ∷ letter 59 stop ∷ letter 69 head ∷ []) ∷ (letter 48 name ∷ letter 59 stop ∷ letter 68 head ∷ letter 70 second ∷ letter 59 stop ∷ letter 69 head ∷ [])
    ∷ (letter 48 lead ∷ letter 32 skip ∷ letter 48 lead ∷ letter 59 stop ∷ letter 68 head ∷ letter 70 second ∷ letter 59 stop ∷ letter 69 head ∷ []) ∷ (letter 48 lead ∷ letter 32 skip ∷ letter 48 lead ∷ letter 32 skip ∷ letter 48 lead ∷ letter 59 stop ∷ letter 68 head ∷ letter 70 second ∷ letter 59 stop ∷ letter 69 head ∷ [])
    ∷ (letter 48 lead ∷ letter 32 skip ∷ letter 48 lead ∷ letter 32 skip ∷ letter 48 lead ∷ letter 59 stop ∷ letter 68 head ∷ letter 70 second ∷ letter 59 stop ∷ letter 69 head ∷ []) ∷ (letter 59 stop ∷ letter 69 head ∷ [])
    ∷ (letter 48 lead ∷ letter 59 stop ∷ letter 69 head ∷ []) ∷ (letter 32 skip ∷ letter 48 lead ∷ letter 59 stop ∷ letter 69 head ∷ [])
    ∷ (letter 48 lead ∷ letter 32 skip ∷ letter 48 lead ∷ letter 59 stop ∷ letter 69 head ∷ []) ∷ (letter 48 lead ∷ letter 59 stop ∷ letter 69 head ∷ [])
    ∷ (letter 48 lead ∷ letter 59 stop ∷ letter 68 head ∷ letter 70 second ∷ letter 59 stop ∷ letter 69 head ∷ []) ∷ (letter 59 stop ∷ letter 68 head ∷ letter 70 second ∷ letter 59 stop ∷ letter 69 head ∷ [])
    ∷ (letter 32 skip ∷ letter 48 lead ∷ letter 32 skip ∷ letter 48 lead ∷ letter 32 skip ∷ letter 48 lead ∷ letter 59 stop ∷ letter 68 head ∷ letter 70 second ∷ letter 59 stop ∷ letter 69 head ∷ []) ∷ (letter 59 stop ∷ letter 68 head ∷ letter 70 second ∷ letter 59 stop ∷ letter 69 head ∷ [])
    ∷ (letter 59 stop ∷ letter 68 head ∷ letter 70 second ∷ letter 59 stop ∷ letter 69 head ∷ []) ∷ (letter 32 skip ∷ letter 48 lead ∷ letter 59 stop ∷ letter 68 head ∷ letter 70 second ∷ letter 59 stop ∷ letter 69 head ∷ [])
    ∷ (letter 48 lead ∷ letter 32 skip ∷ letter 48 lead ∷ letter 59 stop ∷ letter 68 head ∷ letter 70 second ∷ letter 59 stop ∷ letter 69 head ∷ []) ∷ (letter 32 skip ∷ letter 48 lead ∷ letter 32 skip ∷ letter 48 lead ∷ letter 59 stop ∷ letter 68 head ∷ letter 70 second ∷ letter 59 stop ∷ letter 69 head ∷ [])
    ∷ (letter 32 skip ∷ letter 48 lead ∷ letter 32 skip ∷ letter 48 lead ∷ letter 59 stop ∷ letter 68 head ∷ letter 70 second ∷ letter 59 stop ∷ letter 69 head ∷ []) ∷ (letter 48 lead ∷ letter 59 stop ∷ letter 69 head ∷ [])
    ∷ (letter 48 lead ∷ letter 59 stop ∷ letter 69 head ∷ []) ∷ (letter 59 stop ∷ letter 68 head ∷ letter 70 second ∷ letter 59 stop ∷ letter 69 head ∷ [])
    ∷ (letter 48 lead ∷ letter 32 skip ∷ letter 48 lead ∷ letter 32 skip ∷ letter 48 lead ∷ letter 59 stop ∷ letter 68 head ∷ letter 70 second ∷ letter 59 stop ∷ letter 69 head ∷ []) ∷ (letter 59 stop ∷ letter 68 head ∷ letter 70 second ∷ letter 59 stop ∷ letter 69 head ∷ [])
    ∷ (letter 88 axis ∷ letter 59 stop ∷ letter 68 head ∷ letter 70 second ∷ letter 59 stop ∷ letter 69 head ∷ []) ∷ (letter 48 lead ∷ letter 32 skip ∷ letter 48 lead ∷ letter 59 stop ∷ letter 68 head ∷ letter 70 second ∷ letter 59 stop ∷ letter 69 head ∷ [])
    ∷ (letter 59 stop ∷ letter 68 head ∷ letter 70 second ∷ letter 59 stop ∷ letter 69 head ∷ []) ∷ (letter 59 stop ∷ letter 68 head ∷ letter 70 second ∷ letter 59 stop ∷ letter 69 head ∷ [])
    ∷ (letter 48 lead ∷ letter 59 stop ∷ letter 68 head ∷ letter 70 second ∷ letter 59 stop ∷ letter 69 head ∷ []) ∷ (letter 48 lead ∷ letter 32 skip ∷ letter 48 lead ∷ letter 59 stop ∷ letter 68 head ∷ letter 70 second ∷ letter 59 stop ∷ letter 69 head ∷ [])
    ∷ (letter 59 stop ∷ letter 69 head ∷ []) ∷ (letter 48 lead ∷ letter 59 stop ∷ letter 69 head ∷ [])
    ∷ (letter 32 skip ∷ letter 48 lead ∷ letter 32 skip ∷ letter 48 lead ∷ letter 59 stop ∷ letter 68 head ∷ letter 70 second ∷ letter 59 stop ∷ letter 69 head ∷ []) ∷ (letter 59 stop ∷ letter 68 head ∷ letter 70 second ∷ letter 59 stop ∷ letter 69 head ∷ [])
    ∷ (letter 32 skip ∷ letter 48 lead ∷ letter 59 stop ∷ letter 68 head ∷ letter 70 second ∷ letter 59 stop ∷ letter 69 head ∷ []) ∷ (letter 48 lead ∷ letter 32 skip ∷ letter 48 lead ∷ letter 59 stop ∷ letter 68 head ∷ letter 70 second ∷ letter 59 stop ∷ letter 69 head ∷ [])
    ∷ (letter 59 stop ∷ letter 68 head ∷ letter 70 second ∷ letter 59 stop ∷ letter 69 head ∷ []) ∷ (letter 59 stop ∷ letter 68 head ∷ letter 70 second ∷ letter 59 stop ∷ letter 69 head ∷ [])
    ∷ (letter 48 lead ∷ letter 59 stop ∷ letter 68 head ∷ letter 70 second ∷ letter 59 stop ∷ letter 69 head ∷ []) ∷ (letter 32 skip ∷ letter 48 lead ∷ letter 59 stop ∷ letter 68 head ∷ letter 70 second ∷ letter 59 stop ∷ letter 69 head ∷ [])
    ∷ (letter 48 lead ∷ letter 32 skip ∷ letter 48 lead ∷ letter 59 stop ∷ letter 68 head ∷ letter 70 second ∷ letter 59 stop ∷ letter 69 head ∷ []) ∷ (letter 59 stop ∷ letter 69 head ∷ [])
    ∷ (letter 48 lead ∷ letter 32 skip ∷ letter 48 lead ∷ letter 59 stop ∷ letter 68 head ∷ letter 70 second ∷ letter 59 stop ∷ letter 69 head ∷ []) ∷ (letter 48 lead ∷ letter 59 stop ∷ letter 68 head ∷ letter 70 second ∷ letter 59 stop ∷ letter 69 head ∷ [])
    ∷ (letter 59 stop ∷ letter 68 head ∷ letter 70 second ∷ letter 59 stop ∷ letter 69 head ∷ []) ∷ (letter 48 lead ∷ letter 59 stop ∷ letter 68 head ∷ letter 70 second ∷ letter 59 stop ∷ letter 69 head ∷ [])
    ∷ (letter 32 skip ∷ letter 48 lead ∷ letter 59 stop ∷ letter 68 head ∷ letter 70 second ∷ letter 59 stop ∷ letter 69 head ∷ []) ∷ (letter 48 lead ∷ letter 32 skip ∷ letter 48 lead ∷ letter 59 stop ∷ letter 68 head ∷ letter 70 second ∷ letter 59 stop ∷ letter 69 head ∷ [])
    ∷ (letter 48 lead ∷ letter 59 stop ∷ letter 68 head ∷ letter 70 second ∷ letter 59 stop ∷ letter 69 head ∷ []) ∷ (letter 48 lead ∷ letter 59 stop ∷ letter 68 head ∷ letter 70 second ∷ letter 59 stop ∷ letter 69 head ∷ [])
    ∷ (letter 48 lead ∷ letter 59 stop ∷ letter 68 head ∷ letter 70 second ∷ letter 59 stop ∷ letter 69 head ∷ []) ∷ (letter 59 stop ∷ letter 68 head ∷ letter 70 second ∷ letter 59 stop ∷ letter 69 head ∷ [])
    ∷ (letter 48 lead ∷ letter 59 stop ∷ letter 68 head ∷ letter 70 second ∷ letter 59 stop ∷ letter 69 head ∷ []) ∷ (letter 59 stop ∷ letter 68 head ∷ letter 70 second ∷ letter 59 stop ∷ letter 69 head ∷ []) ∷ []

-- whether each state lies within a definition
unfoldable pub insides : List Bool
insides =
    false ∷ false ∷ false ∷ false ∷ false ∷ false ∷ false ∷ false ∷ false ∷ false ∷ false ∷ false ∷ false ∷ false ∷ false ∷ false ∷ false ∷ true ∷ false ∷ false
    ∷ false ∷ false ∷ false ∷ false ∷ false ∷ false ∷ false ∷ false ∷ true ∷ false ∷ false ∷ false ∷ false ∷ false ∷ false ∷ false ∷ false ∷ true ∷ true ∷ true
    ∷ false ∷ false ∷ false ∷ false ∷ false ∷ false ∷ false ∷ true ∷ true ∷ true ∷ true ∷ true ∷ true ∷ true ∷ true ∷ true ∷ true ∷ false ∷ false ∷ false
    ∷ false ∷ false ∷ true ∷ true ∷ true ∷ true ∷ true ∷ true ∷ true ∷ true ∷ true ∷ false ∷ false ∷ true ∷ true ∷ true ∷ true ∷ true ∷ true ∷ true
    ∷ true ∷ true ∷ false ∷ false ∷ true ∷ true ∷ true ∷ true ∷ true ∷ true ∷ true ∷ true ∷ true ∷ false ∷ true ∷ true ∷ true ∷ true ∷ true ∷ true
    ∷ true ∷ true ∷ true ∷ true ∷ true ∷ true ∷ []
