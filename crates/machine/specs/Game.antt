-- A game as the search sees it, the value of a position for the root's side, and N, the number of legal move sequences. Rests on nothing.
use mathlib.Core.List.{List, [], ◌∷◌, map, foldr, Memᴰ}
use Rattle.std.specs.Prelude.{Bool, true, false, ◌||◌, ◌&&◌, cond, ℕ, zero, suc, ◌+◌}

pub record Game : Type 1 where
  pub Pos : Type 0
  pub moves : Pos → List ℕ  -- the legal moves in move order; a finished position has none
  pub play : Pos → ℕ → Pos
  pub mine : Pos → Bool  -- the root's side is to move
  pub final : Pos → Bool  -- the value of a finished position for the root's side: the draw rule is here alone
  pub left : Pos → ℕ  -- a number that falls at each legal move

-- Worked out backwards: f of a position and of what comes out after each of its legal moves, k moves deep
unfoldable pub backward : (G : Game) {A : Type 0} → (G.Pos → List A → A) → ℕ → G.Pos → A
backward G f zero p = f p []
backward G f (suc k) p = f p (map (λ m. backward G f k (G.play p m)) (G.moves p))

-- MANUAL, Draw rules and value: a finished position has its own value; otherwise the root's side needs one move to true, the other side one to false
unfoldable pub value_from : (G : Game) → G.Pos → List Bool → Bool
value_from G p [] = G.final p
value_from G p (v ∷ vs) = cond (G.mine p) (foldr ◌||◌ false (v ∷ vs)) (foldr ◌&&◌ true (v ∷ vs))

unfoldable pub value : (G : Game) → G.Pos → Bool  -- play is over when nothing is left
value G p = backward G (value_from G) (G.left p) p

-- A legal move sequence: a list of moves, each legal after those before it
abbrev pub Legal : (G : Game) → G.Pos → List ℕ → Type 0
Legal G p [] = Unit {0}
Legal G p (m ∷ ms) = Memᴰ m (G.moves p) × Legal G (G.play p m) ms

-- N of the third condition: the empty sequence, and those that begin with each legal move (Sequences.antt: it is their number)
unfoldable pub sequences : (G : Game) → G.Pos → ℕ
sequences G p = backward G (λ q ns. suc (foldr ◌+◌ 0 ns)) (G.left p) p

-- Nothing stands twice in a list
abbrev pub Distinct : {A : Type 0} → List A → Type 0
Distinct [] = Unit {0}
Distinct (x ∷ xs) = (Memᴰ x xs → ⊥) × Distinct xs
