-- The children on the boards that the target leaves: one board, or all that are not done. Rests on Boards.
use Rattle.std.specs.Prelude.{◌≡◌, refl, List, [], ◌⊎◌, Bool, true, false, ◌||◌, ℕ, ◌+◌, ◌*◌, ◌≤◌, ◌<◌, eqb}
use Rattle.std.proofs.Common.{ap, ◌∙◌, inl, inr, arith, eqb-true}
use Rattle.rules.specs.Rules.{board_of, leads, move_error}
use Rattle.rules.proofs.Boards.{code_states}
use Rattle.rules.proofs.Legal.{legal}
use Rattle.game.specs.Masks.{has_bit}
use Rattle.game.specs.Words.{Holds}
use Rattle.game.specs.Cursor.{moves_from, moves_end}
use Rattle.children.specs.Skips.{Playing}
use Rattle.children.specs.Children.{playing, done_passed, target_passed}
use Rattle.expand.specs.declared.Made.{Made}
use Rattle.expand.specs.declared.Parent.{Parent}
use Rattle.expand.specs.Progress.{Leaf, Progress, progress_on, progress_ended}
use Rattle.expand.specs.Boards.{ParentOf, Playable}

-- What making a leaf's children asks for: none is made, and the leaf has a legal move
pub record Unmade (w ps : List ℕ) (p : Parent) (m : Made) : Type 0 where
  pub leaf : Leaf
  pub of_leaf : ParentOf leaf p
  pub stands : Holds leaf.node.pos ps p.base
  pub move : ℕ
  pub legal : move_error leaf.node.pos move ≡ 0
  pub going : m.ended ≡ false
  pub progress : Progress leaf w m (moves_from leaf.node.pos 0)

led_cases : (t b : ℕ) → leads t b ≡ true → (t ≡ 15) ⊎ (t ≡ b)
led_cases t b e = go (eqb t 15) refl e
  where
    go : (a : Bool) → eqb t 15 ≡ a → (a || eqb t b) ≡ true → (t ≡ 15) ⊎ (t ≡ b)
    go true q h = inl (eqb-true t 15 q)
    go false q h = inr (eqb-true t b h)

module _ (w ps : List ℕ) (p : Parent) (m : Made) (g : Unmade w ps p m) where
  -- The target leaves the choice free, or names the board of every legal move
  target_is : (p.outer.target ≡ 15) ⊎ (p.outer.target ≡ board_of g.move)
  target_is = led_cases p.outer.target (board_of g.move) (rw g.of_leaf.outer.target_is (legal g.leaf.node.pos g.move g.legal).led)

  -- and no leaf has another
  pub no_other : 9 ≤ p.outer.target → (p.outer.target ≡ 15 → ⊥) → ⊥
  no_other n z = go target_is
    where
      go : (p.outer.target ≡ 15) ⊎ (p.outer.target ≡ board_of g.move) → ⊥
      go (inl e) = z e
      go (inr e) = absurd (omega (arith, (legal g.leaf.node.pos g.move g.legal).board_in))

  -- One board
  module _ (l : p.outer.target < 9) where
    pub there : Playing g.leaf.node.pos p.outer.target
    there = go target_is
      where
        go : (p.outer.target ≡ 15) ⊎ (p.outer.target ≡ board_of g.move) → Playing g.leaf.node.pos p.outer.target
        go (inl e) = absurd (omega arith)
        go (inr e) =
            let k = legal g.leaf.node.pos g.move g.legal in
            rw e (record { is_in_play = code_states g.leaf.node.pos.cells (board_of g.move) k.board_in ∙ k.board_open; led = k.led })

    unfoldable pub target_asks : Playable w ps p p.outer.target m
    target_asks = record {
      leaf = g.leaf;
      of_leaf = g.of_leaf;
      stands = g.stands;
      in_range = l;
      playing = there;
      going = g.going;
      progress = progress_on (target_passed g.of_leaf.outer l).0 g.progress;
    }

    pub target_done : (v : List ℕ) (r : Made) → Progress g.leaf v r (moves_from g.leaf.node.pos (p.outer.target * 9 + 9)) → Progress g.leaf v r []
    target_done v r h = progress_on (target_passed g.of_leaf.outer l).1 h

  -- All boards, one after the other
  module _ (n : 9 ≤ p.outer.target) where
    pub free_choice : (b : ℕ) → leads p.outer.target b ≡ true
    free_choice b = go target_is
      where
        go : (p.outer.target ≡ 15) ⊎ (p.outer.target ≡ board_of g.move) → leads p.outer.target b ≡ true
        go (inl e) = rw e
        go (inr e) = absurd (omega (arith, (legal g.leaf.node.pos g.move g.legal).board_in))

    module _ (b : ℕ) (w₁ : List ℕ) (m₁ : Made) (h : Progress g.leaf w₁ m₁ (moves_from g.leaf.node.pos (b * 9))) where
      one_board : b * 9 + 9 ≡ (b + 1) * 9
      one_board = omega arith

      pub board_passed : b < 9 → has_bit p.outer.done b ≡ true → Progress g.leaf w₁ m₁ (moves_from g.leaf.node.pos ((b + 1) * 9))
      board_passed lb e = progress_on (done_passed g.of_leaf.outer b lb e ∙ ap (moves_from g.leaf.node.pos) one_board) h

      pub free_done : b ≤ 9 → (9 ≤ b) ⊎ (m₁.ended ≡ true) → Progress g.leaf w₁ m₁ []
      free_done lb (inl z) = progress_on (moves_end g.leaf.node.pos (b * 9) (omega arith)) h
      free_done lb (inr e) = progress_ended e [] h

      unfoldable pub free_asks : b < 9 → has_bit p.outer.done b ≡ false → m₁.ended ≡ false → Playable w₁ ps p b m₁
      free_asks lb e f = record {
        leaf = g.leaf;
        of_leaf = g.of_leaf;
        stands = g.stands;
        in_range = lb;
        playing = playing g.of_leaf.outer b lb e (free_choice b);
        going = f;
        progress = h;
      }

      pub board_step : (v : List ℕ) (r : Made) → Progress g.leaf v r (moves_from g.leaf.node.pos (b * 9 + 9)) → Progress g.leaf v r (moves_from g.leaf.node.pos ((b + 1) * 9))
      board_step v r k = progress_on (ap (moves_from g.leaf.node.pos) one_board) k
