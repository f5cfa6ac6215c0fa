-- Step 3 at a leaf that stands in the pool: what is asked for, and what the number of free nodes says. Rests on ChildCount and on prover's states in words.
use Rattle.std.specs.Prelude.{◌≡◌, refl, Bool, false, List, ℕ, ◌*◌, ◌-◌, ◌≤◌, ltb, length}
use Rattle.std.proofs.Common.{sym, ◌∙◌, arith, le-ltb}
use Rattle.rules.specs.Rules.{Player, Position, game_state, legal_moves}
use Rattle.rules.specs.Record.{side_bit}
use Rattle.rules.proofs.LegalMoves.{moves_few}
use Rattle.machine.specs.Tree.{size}
use Rattle.machine.specs.Machine.{State, live, children}
use Rattle.machine.proofs.Rounds.{children_ok}
use Rattle.plain.specs.Plain.{game}
use Rattle.plain.proofs.Laws.{lawful}
use Rattle.words.specs.Words.{capacity}
use Rattle.prover.specs.declared.Prover.{Prover}
use Rattle.prover.specs.Stands.{Stands, here}
use Rattle.room.specs.ChildCount.{Countable}

-- A leaf of the tree stands there, with its game in play
pub record AtLeaf (w path ps : List ℕ) (x : Prover) (rule attacker : ℕ) : Type 0 where
  pub side : Player
  pub attacker_is : attacker ≡ side_bit side
  pub at : State Position
  pub stands : Stands rule side w path ps x at
  pub playing : game_state at.node.pos ≡ 0

-- Whether fewer nodes are free than step 4 makes children of it
abbrev pub Short : List ℕ → List ℕ → List ℕ → Prover → ℕ → ℕ → Bool → Type 0
Short w path ps x rule attacker b =
    (g : AtLeaf w path ps x rule attacker) → b ≡ ltb (capacity w - live g.at.counts) (size (children (game rule g.side) g.at.node.pos))

module _ {w path ps : List ℕ} {x : Prover} {rule attacker : ℕ} (g : AtLeaf w path ps x rule attacker) where
  abbrev pub to_count : (base : ℕ) → base ≡ x.depth * 24 → Countable ps base attacker
  to_count base e = record { position = g.at.node.pos; side = g.side; holds = rw e (here _ _ _ _ g.stands.positions); playing = g.playing; attacker_is = g.attacker_is }

  abbrev needed : ℕ
  needed = size (children (game rule g.side) g.at.node.pos)

  module _ (free cap : ℕ) (ef : free ≡ cap - (x.pool.allocated - x.pool.freed)) (ec : cap ≡ capacity w) where
    pub short_by : (made : ℕ) → made ≡ needed → ltb free made ≡ ltb (capacity w - live g.at.counts) needed
    unfolding live
    short_by made em = rw (ef, ec, em, g.stands.tree.allocated_is, g.stands.tree.freed_is)

    -- no more children than legal moves are made, and of these there are at most 81
    pub enough_for_moves : length (legal_moves g.at.node.pos) ≤ free → false ≡ ltb (capacity w - live g.at.counts) needed
    enough_for_moves l =
        sym (le-ltb free needed (omega (arith, l, (children_ok (game rule g.side) (lawful rule g.side) g.at.node.pos).most))) ∙ short_by needed refl

    pub enough_for_all : 81 ≤ free → false ≡ ltb (capacity w - live g.at.counts) needed
    enough_for_all l = enough_for_moves (omega (arith, l, moves_few g.at.node.pos))
