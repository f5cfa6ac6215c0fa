-- Positions to try (MANUAL): E, W, D and FA as bytes, and a way to write a position so that its boards can be seen. Rests on Rules.
use Rattle.std.specs.Prelude.{List, [], ◌∷◌, ◌++◌, ℕ, ◌+◌, ◌-◌, ◌/◌, ◌%◌, ◌^◌}
use Rattle.rules.specs.Rules.{Player, Position, answers}

-- Bytes written as one number, the first its most significant: so many of them, and a record's 21.
abbrev pub bytes_of : ℕ → ℕ → List ℕ
bytes_of n x = answers (λ k. x / 256 ^ (n - (k + 1)) % 256) 0 n

abbrev pub record21 : ℕ → List ℕ
record21 = bytes_of 21

abbrev pub E : List ℕ
E = record21 0x780000000000000000000000000000000000000000

abbrev pub W : List ℕ
W = record21 0x12A000A80028051500054000000000000000000000

abbrev pub D : List ℕ
D = record21 0x7AB400AC0054001500054000A8002A000A80054000

-- E's bytes with FA as the first: X has a cell, O is to move, and the choice is free, which can't be.
abbrev pub FA : List ℕ
FA = record21 0xFA0000000000000000000000000000000000000000

-- Nine codes written as a number of nine digits, three to a row: 0 empty, 1 X, 2 O (among board states, 3 drawn).
abbrev pub nine : ℕ → List ℕ
nine n = answers (λ c. n / 10 ^ (8 - c) % 10) 0 9

abbrev pub cells_of : List ℕ → List ℕ
cells_of [] = []
cells_of (n ∷ ns) = nine n ++ cells_of ns

-- A position by its side to move, its target, and its nine boards from 0 to 8.
abbrev pub position : Player → ℕ → List ℕ → Position
position side target boards = record { side = side; target = target; cells = cells_of boards }
