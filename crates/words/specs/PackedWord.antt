-- The packed word of a node (MANUAL, Pool). Definitions only; Packed has what of it is read back. Rests on the plain machine's nodes and the numbers of a verdict.
use Rattle.std.specs.Prelude.{List, [], ◌∷◌, Bool, not, cond, ℕ, ◌+◌, ◌*◌, ◌/◌, ◌%◌, ◌<◌}
use Rattle.machine.specs.Game.{Game}
use Rattle.machine.specs.Tree.{Node}
use Rattle.machine.specs.Machine.{Verdict, True, False, Unknown}
use Rattle.prove.specs.Numbers.{verdict_number}

-- Most significant first: value 2 bits, flags expanded, and, free, move 8 bits, remembered move 8 bits, 11 zeros
abbrev pub pack : ℕ → ℕ → ℕ → ℕ → ℕ → ℕ → ℕ
pack value expanded and free move remembered = (((((value * 2 + expanded) * 2 + and) * 2 + free) * 256 + move) * 256 + remembered) * 2048

abbrev pub value_in : ℕ → ℕ
value_in x = x / 1073741824

abbrev pub expanded_in : ℕ → ℕ
expanded_in x = x / 536870912 % 2

abbrev pub and_in : ℕ → ℕ
and_in x = x / 268435456 % 2

abbrev pub free_in : ℕ → ℕ
free_in x = x / 134217728 % 2

abbrev pub move_in : ℕ → ℕ
move_in x = x / 524288 % 256

abbrev pub remembered_in : ℕ → ℕ
remembered_in x = x / 2048 % 256

-- The same word with another remembered move
abbrev pub with_remembered : ℕ → ℕ → ℕ
with_remembered x move = x / 524288 * 524288 + move * 2048

abbrev pub bit : Bool → ℕ
bit b = cond b 1 0

-- What a packed word keeps of a position: what evaluation gave, for the root's side, and whether the other side is to move
pub record View (Pos : Type 0) : Type 0 where
  pub value : Pos → Verdict
  pub and : Pos → Bool

-- Evaluation of a position with these legal moves whose value, if it is finished, is this
unfoldable pub evaluated : Bool → List ℕ → Verdict
evaluated final [] = cond final True False
evaluated final (m ∷ ms) = Unknown

abbrev pub view : (G : Game) → View G.Pos
view G = record { value = λ p. evaluated (G.final p) (G.moves p); and = λ p. not (G.mine p) }

-- The packed word of a live node; and of a freed one
unfoldable pub packed : {Pos : Type 0} → View Pos → Node Pos → ℕ
packed K n = pack (verdict_number (K.value n.pos)) (bit n.expanded) (bit (K.and n.pos)) 0 n.move n.remembered

abbrev pub freed : ℕ
freed = pack 0 0 0 1 0 0

-- The moves that it keeps are bytes
abbrev pub Bytes : {Pos : Type 0} → Node Pos → Type 0
Bytes n = (n.move < 256) × (n.remembered < 256)
