-- The children on one board, cell by cell: what the loops over nine cells ask for, and what holds at each cell. Rests on Progress and on the game's part in children.
use Rattle.std.specs.Prelude.{◌≡◌, List, ◌∷◌, ◌⊎◌, Bool, true, false, not, ℕ, ◌+◌, ◌*◌, ◌≤◌, ◌<◌}
use Rattle.std.proofs.Math.Path.{refl, ap}
use Rattle.std.proofs.Common.{sym, ◌∙◌, inl, inr, arith, eq-eqb}
use Rattle.std.proofs.Math.Dec.{eqb}
use Rattle.std.proofs.lemmas.Bool.{not-true}
use Rattle.rules.proofs.Roundtrip.{side_back}
use Rattle.rules.specs.Rules.{Player, Position, mark, code, board, board_states, game_state, board_of, move_of, move_error, play}
use Rattle.rules.specs.Record.{side_bit, player_of}
use Rattle.game.specs.Masks.{mask, mask_of, nonzero, has_bit}
use Rattle.game.specs.Words.{Holds}
use Rattle.game.specs.Cursor.{moves_from}
use Rattle.machine.specs.Machine.{Verdict, Unknown}
use Rattle.plain.specs.Plain.{game}
use Rattle.words.specs.Packed.{view}
use Rattle.children.specs.Scalars.{OuterOf, CellsOf, ChildOf}
use Rattle.children.specs.Skips.{Playing, board_test, cell_skip, cell_hit}
use Rattle.children.specs.After.{MayEnd}
use Rattle.children.specs.Leaves.{leaf_bounds}
use Rattle.children.specs.Children.{child_of, and_after, open_value}
use Rattle.expand.specs.declared.Made.{Made}
use Rattle.expand.specs.declared.Parent.{Parent}
use Rattle.expand.specs.Progress.{Leaf, game_at, Progress, progress_on, progress_ended, Addable, Adds}

-- What the code reads of the leaf's position, and what it hands on to all children
pub record ParentOf (l : Leaf) (p : Parent) : Type 0 where
  pub outer : OuterOf l.node.pos p.outer
  pub unfinished : game_state l.node.pos ≡ 0
  pub rule_is : p.rule ≡ l.rule
  pub root_is : p.attacker ≡ side_bit l.root
  pub and_is : p.and ≡ not ((view (game_at l)).and l.node.pos)

-- A board on which the mover may play, and its cells
pub record BoardOf (l : Leaf) (b mine taken : ℕ) : Type 0 where
  pub in_range : b < 9
  pub cells : CellsOf l.node.pos b mine taken
  pub playing : Playing l.node.pos b

-- All before cell c of board b are made
abbrev pub AtCell : Leaf → List ℕ → Made → ℕ → ℕ → Type 0
AtCell l w m b c = Progress l w m (moves_from l.node.pos (b * 9 + c))

module _ (l : Leaf) (p : Parent) (b mine taken c : ℕ) (k : ParentOf l p) (d : BoardOf l b mine taken) (lc : c < 9) where
  pub one_on : b * 9 + c + 1 ≡ b * 9 + (c + 1)
  one_on = omega arith

  -- A taken cell is passed over
  pub cell_passed : (w : List ℕ) (m : Made) → has_bit taken c ≡ true → AtCell l w m b c → AtCell l w m b (c + 1)
  cell_passed w m e h =
      progress_on (cell_skip l.node.pos taken b c k.outer.held.whole d.cells.taken_is d.in_range lc e ∙ ap (moves_from l.node.pos) one_on) h

  -- The child by an empty one
  module _ (e : has_bit taken c ≡ false) where
    pub cell_child : ChildOf l.node.pos p.outer mine taken b c
    cell_child = child_of k.outer k.unfinished d.cells d.playing d.in_range c lc e

    unfoldable pub cell_addable : (w : List ℕ) (m : Made) (x : ℕ) (v : Verdict) (and : Bool) → m.ended ≡ false → x ≡ move_of b c
        → v ≡ (view (game_at l)).value (play l.node.pos (move_of b c)) → and ≡ p.and → AtCell l w m b c → Addable w m x v and
    cell_addable w m x v and n ex ev ea h = record {
      leaf = l;
      rest = moves_from l.node.pos (b * 9 + (c + 1));
      progress =
          progress_on
          (cell_hit l.node.pos taken b c k.outer.held.whole d.cells.taken_is d.in_range lc d.playing e
          ∙ ap (λ (i : ℕ). move_of b c ∷ moves_from l.node.pos i) one_on
          ∙ ap (λ (y : ℕ). y ∷ moves_from l.node.pos (b * 9 + (c + 1))) (sym ex)) h;
      going = n;
      byte = omega (arith, d.in_range);
      value_is = ev ∙ ap (λ (y : ℕ). (view (game_at l)).value (play l.node.pos y)) (sym ex);
      and_is = ea ∙ k.and_is ∙ sym (and_after l.rule l.root l.node.pos (move_of b c) cell_child.legal) ∙ ap (λ (y : ℕ). (view (game_at l)).and (play l.node.pos y)) (sym ex);
    }

-- What the loop over a board asks for on which no move can end the game
pub record OpenBoard (w : List ℕ) (taken b : ℕ) (and : Bool) (m : Made) : Type 0 where
  pub leaf : Leaf
  pub parent : Parent
  pub mine : ℕ
  pub of_leaf : ParentOf leaf parent
  pub board : BoardOf leaf b mine taken
  pub and_is : and ≡ parent.and
  pub stays : (x : ℕ) → board_of x ≡ b → move_error leaf.node.pos x ≡ 0 → game_state (play leaf.node.pos x) ≡ 0
  pub going : m.ended ≡ false
  pub progress : Progress leaf w m (moves_from leaf.node.pos (b * 9))

-- All before cell c are made, and none of them has ended the making
pub record Opening (l : Leaf) (b c : ℕ) (w : List ℕ) (m : Made) : Type 0 where
  pub within : c ≤ 9
  pub going : m.ended ≡ false
  pub progress : AtCell l w m b c

pub opening_start : (w : List ℕ) (taken b : ℕ) (and : Bool) (m : Made) (g : OpenBoard w taken b and m) → Opening g.leaf b 0 w m
opening_start w taken b and m g = record { within = omega arith; going = g.going; progress = progress_on (ap (moves_from g.leaf.node.pos) (omega arith)) g.progress }

module _ (w : List ℕ) (taken b : ℕ) (and : Bool) (m : Made) (g : OpenBoard w taken b and m) (c x : ℕ) (lc : c < 9) (e : has_bit taken c ≡ false) (ex : x ≡ move_of b c)
    (w₁ : List ℕ) (m₁ : Made) (h : Opening g.leaf b c w₁ m₁) where
  -- The child by an empty cell is open
  pub open_child : Unknown ≡ (view (game_at g.leaf)).value (play g.leaf.node.pos (move_of b c))
  open_child =
      let k = cell_child g.leaf g.parent b g.mine taken c g.of_leaf g.board lc e in
      open_value g.leaf.rule g.leaf.root g.leaf.node.pos (move_of b c) k.legal (g.stays (move_of b c) (omega arith) k.legal)

  unfoldable pub opening_asks : Addable w₁ m₁ x Unknown and
  opening_asks = cell_addable g.leaf g.parent b g.mine taken c g.of_leaf g.board lc e w₁ m₁ x Unknown and h.going ex open_child g.and_is h.progress

  pub opening_step : (w₂ : List ℕ) (m₂ : Made) → Adds w₁ m₁ x Unknown and w₂ m₂ → Opening g.leaf b (c + 1) w₂ m₂
  unfolding opening_asks cell_addable
  opening_step w₂ m₂ adds =
      let a = adds opening_asks in
      let n = leaf_bounds Unknown and 1 1 (record { phi_is = refl; delta_is = refl }) g.leaf.rule g.leaf.root (play g.leaf.node.pos x) x opening_asks.value_is opening_asks.and_is in
      record { within = omega arith; going = a.ended_is ∙ ap (λ (d : ℕ). eqb d 0) (sym n.delta_is); progress = a.progress }

module _ (w : List ℕ) (taken b : ℕ) (and : Bool) (m : Made) (g : OpenBoard w taken b and m) (c : ℕ) (w₁ : List ℕ) (m₁ : Made) (h : Opening g.leaf b c w₁ m₁) where
  pub opening_passed : c < 9 → has_bit taken c ≡ true → Opening g.leaf b (c + 1) w₁ m₁
  opening_passed lc e = record {
    within = omega arith;
    going = h.going;
    progress = cell_passed g.leaf g.parent b g.mine taken c g.of_leaf g.board lc w₁ m₁ e h.progress;
  }

  pub opening_done : 9 ≤ c → Progress g.leaf w₁ m₁ (moves_from g.leaf.node.pos (b * 9 + 9))
  opening_done n = progress_on (ap (moves_from g.leaf.node.pos) (omega (arith, h.within))) h.progress

-- What the loop over a board asks for on which a move may end the game
pub record EndingBoard (w : List ℕ) (p : Parent) (mine taken b : ℕ) (m : Made) : Type 0 where
  pub leaf : Leaf
  pub of_leaf : ParentOf leaf p
  pub board : BoardOf leaf b mine taken
  pub progress : Progress leaf w m (moves_from leaf.node.pos (b * 9))

module _ (w : List ℕ) (p : Parent) (mine taken b : ℕ) (m : Made) (g : EndingBoard w p mine taken b m) where
  pub ending_start : AtCell g.leaf w m b 0
  ending_start = progress_on (ap (moves_from g.leaf.node.pos) (omega arith)) g.progress

  module _ (c : ℕ) (w₁ : List ℕ) (m₁ : Made) (h : AtCell g.leaf w₁ m₁ b c) where
    pub ending_passed : c < 9 → has_bit taken c ≡ true → AtCell g.leaf w₁ m₁ b (c + 1)
    ending_passed lc e = cell_passed g.leaf p b mine taken c g.of_leaf g.board lc w₁ m₁ e h

    -- At the last cell, or once the making has ended
    pub ending_done : c ≤ 9 → (9 ≤ c) ⊎ (m₁.ended ≡ true) → Progress g.leaf w₁ m₁ (moves_from g.leaf.node.pos (b * 9 + 9))
    ending_done n (inl z) = progress_on (ap (moves_from g.leaf.node.pos) (omega arith)) h
    ending_done n (inr e) = progress_ended e (moves_from g.leaf.node.pos (b * 9 + 9)) h

    module _ (x : ℕ) (v : Verdict) (lc : c < 9) (e : has_bit taken c ≡ false) (n : m₁.ended ≡ false) (ex : x ≡ move_of b c)
        (ev : (q : Position) → ChildOf q p.outer mine taken b c → v ≡ (view (game p.rule (player_of p.attacker))).value (play q (move_of b c))) where
      -- The child's evaluation is the game's
      pub valued : v ≡ (view (game_at g.leaf)).value (play g.leaf.node.pos (move_of b c))
      valued =
          let q = play g.leaf.node.pos (move_of b c) in
          ev g.leaf.node.pos (cell_child g.leaf p b mine taken c g.of_leaf g.board lc e)
          ∙ ap (λ (r : ℕ). (view (game r (player_of p.attacker))).value q) g.of_leaf.rule_is
          ∙ ap (λ (s : Player). (view (game g.leaf.rule s)).value q) (ap player_of g.of_leaf.root_is ∙ side_back g.leaf.root)

      unfoldable pub ending_asks : Addable w₁ m₁ x v p.and
      ending_asks = cell_addable g.leaf p b mine taken c g.of_leaf g.board lc e w₁ m₁ x v p.and n ex valued refl h

      pub ending_step : (w₂ : List ℕ) (m₂ : Made) → Adds w₁ m₁ x v p.and w₂ m₂ → AtCell g.leaf w₂ m₂ b (c + 1)
      unfolding ending_asks cell_addable
      ending_step w₂ m₂ adds = (adds ending_asks).progress

-- What the children on one board ask for: the position of the leaf stands in the words of positions, and the mover may play there
pub record Playable (w ps : List ℕ) (p : Parent) (b : ℕ) (m : Made) : Type 0 where
  pub leaf : Leaf
  pub of_leaf : ParentOf leaf p
  pub stands : Holds leaf.node.pos ps p.base
  pub in_range : b < 9
  pub playing : Playing leaf.node.pos b
  pub going : m.ended ≡ false
  pub progress : Progress leaf w m (moves_from leaf.node.pos (b * 9))

module _ (w ps : List ℕ) (p : Parent) (b : ℕ) (m : Made) (g : Playable w ps p b m) where
  -- The board is not among those that are done
  pub not_done : has_bit p.outer.done b ≡ false
  not_done = not-true (has_bit p.outer.done b) (sym (board_test g.leaf.node.pos p.outer.done b g.of_leaf.outer.done_is g.in_range) ∙ eq-eqb (code (board_states g.leaf.node.pos.cells) b) 0 g.playing.is_in_play)

  module _ (taken : ℕ) (et : (q : Position) → Holds q ps p.base → taken ≡ mask_of nonzero (board q.cells b)) where
    -- The side's own cells there matter for their number alone where no move can end the game
    unfoldable pub asks_open : (r : Bool) → MayEnd p.outer b r → r ≡ false → OpenBoard w taken b p.and m
    asks_open r e f = record {
      leaf = g.leaf;
      parent = p;
      mine = mask (mark g.leaf.node.pos.side) (board g.leaf.node.pos.cells b);
      of_leaf = g.of_leaf;
      board = record { in_range = g.in_range; cells = record { mine_is = refl; taken_is = et g.leaf.node.pos g.stands }; playing = g.playing };
      and_is = refl;
      stays = λ x z l. e.stays f g.leaf.node.pos g.of_leaf.outer x z l;
      going = g.going;
      progress = g.progress;
    }

    unfoldable pub asks_ending : (mine : ℕ) → ((q : Position) → Holds q ps p.base → p.outer.side ≡ side_bit q.side → mine ≡ mask (mark q.side) (board q.cells b)) → EndingBoard w p mine taken b m
    asks_ending mine em = record {
      leaf = g.leaf;
      of_leaf = g.of_leaf;
      board = record {
        in_range = g.in_range;
        cells = record { mine_is = em g.leaf.node.pos g.stands g.of_leaf.outer.side_is; taken_is = et g.leaf.node.pos g.stands };
        playing = g.playing;
      };
      progress = g.progress;
    }
