-- The root of a state: its position, and where it stands in the pool. Rests on the machine's Above and on words' Line.
use Rattle.std.specs.Prelude.{◌≡◌, List, [], ◌∷◌, ℕ, zero, suc, get_or}
use Rattle.machine.specs.Game.{Game}
use Rattle.machine.specs.Tree.{Node}
use Rattle.machine.specs.Machine.{Ancestor, root_of}
use Rattle.machine.specs.Place.{Above}
use Rattle.words.specs.Packed.{View}
use Rattle.words.specs.Trees.{Held}
use Rattle.words.specs.Pool.{Line}

pub root_place : (G : Game) (r : G.Pos) (up : List (Ancestor G.Pos)) (n : Node G.Pos) → Above G r up n → (root_of up n).pos ≡ r
unfolding root_of
root_place G r [] n a = a
root_place G r (b ∷ up) n a = root_place G r up b.node a.1

pub root_held : {Pos : Type 0} (K : View Pos) (w path : List ℕ) (d : ℕ) (up : List (Ancestor Pos)) (n : Node Pos) → Held K w n (get_or path d 0) → Line K w path d up → Held K w (root_of up n) (get_or path 0 0)
unfolding root_of
root_held K w path zero [] n h l = h
root_held K w path zero (a ∷ up) n h l = absurd l
root_held K w path (suc e) [] n h l = absurd l
root_held K w path (suc e) (a ∷ up) n h l = root_held K w path e up a.node l.0 l.5
