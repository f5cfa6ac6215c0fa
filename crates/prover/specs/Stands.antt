-- The plain machine's state as a search's code keeps it: the tree in the pool's words, the nodes of the line on the path, their positions in places of 24
-- words, the counts. Rests on plain, words and game.
use Rattle.std.specs.Prelude.{◌≡◌, List, [], ◌∷◌, ℕ, zero, suc, ◌+◌, ◌*◌, ◌≤◌, ◌<◌, length, get_or}
use Rattle.std.proofs.Common.{arith}
use Rattle.rules.specs.Rules.{Player, Position, count}
use Rattle.machine.specs.Tree.{Node}
use Rattle.machine.specs.Machine.{Ancestor, State}
use Rattle.machine.specs.Rounds.{StateOk}
use Rattle.plain.specs.Plain.{game}
use Rattle.game.specs.Words as game-words
use Rattle.words.specs.Packed.{view}
use Rattle.words.specs.Words.{capacity}
use Rattle.words.specs.Pool as pool_words
use Rattle.positions.specs.Plies.{ply_kept}
use Rattle.prover.specs.declared.Prover.{Prover}

-- The position of the node at place d, and of each node above it at its place
abbrev pub Positions : List ℕ → ℕ → List (Ancestor Position) → Node Position → Type 0
Positions ps zero [] n = game-words.Holds n.pos ps 0
Positions ps zero (a ∷ up) n = ⊥
Positions ps (suc e) [] n = ⊥
Positions ps (suc e) (a ∷ up) n = game-words.Holds n.pos ps (suc e * 24) × Positions ps e up a.node

-- The pool's words w, the path and the positions ps hold the state s
pub record Stands (rule : ℕ) (root : Player) (w path ps : List ℕ) (x : Prover) (s : State Position) : Type 0 where
  pub tree : pool_words.Holds (view (game rule root)) w path x.depth x.pool.vacant.head.0 x.pool.vacant.used x.pool.allocated x.pool.freed s
  pub positions : Positions ps x.depth s.above s.node
  pub proved_is : x.proved ≡ s.counts.proved
  pub disproved_is : x.disproved ≡ s.counts.disproved
  pub expanded_is : x.expanded ≡ s.counts.expanded
  pub path_long : length path ≡ 82
  pub positions_long : length ps ≡ 1968

-- Some state of a search from a position stands there, under a rule and for a root's side
pub record Searching (w path ps : List ℕ) (x : Prover) : Type 0 where
  pub rule : ℕ
  pub side : Player
  pub start : Position
  pub at : State Position
  pub stands : Stands rule side w path ps x at
  pub ok : StateOk (game rule side) start (capacity w) at
  pub few : count 0 start.cells ≤ 81

-- the position of the current node
pub here : (ps : List ℕ) (d : ℕ) (up : List (Ancestor Position)) (n : Node Position) → Positions ps d up n → game-words.Holds n.pos ps (d * 24)
here ps zero [] n h = h
here ps zero (a ∷ up) n h = absurd h
here ps (suc e) [] n h = absurd h
here ps (suc e) (a ∷ up) n h = h.0

-- a node with the same position may stand for the current one
pub positions_same : (ps : List ℕ) (d : ℕ) (up : List (Ancestor Position)) (n m : Node Position) → n.pos ≡ m.pos → Positions ps d up n → Positions ps d up m
positions_same ps zero [] n m e h = rw e at h
positions_same ps zero (a ∷ up) n m e h = absurd h
positions_same ps (suc d) [] n m e h = absurd h
positions_same ps (suc d) (a ∷ up) n m e h = (rw e at h.0, h.1)

-- positions that agree up to place d are the same line
pub positions_kept : (ps qs : List ℕ) (d k : ℕ) (up : List (Ancestor Position)) (n : Node Position) → length qs ≡ length ps → d * 24 + 24 ≤ k → ((i : ℕ) → i < k → get_or qs i 0 ≡ get_or ps i 0)
    → Positions ps d up n → Positions qs d up n
positions_kept ps qs zero k [] n long l a h = ply_kept n.pos ps qs 0 k long l a h
positions_kept ps qs zero k (b ∷ up) n long l a h = absurd h
positions_kept ps qs (suc e) k [] n long l a h = absurd h
positions_kept ps qs (suc e) k (b ∷ up) n long l a h = (ply_kept n.pos ps qs (suc e) k long l a h.0, positions_kept ps qs e k up b.node long (omega arith) a h.1)
