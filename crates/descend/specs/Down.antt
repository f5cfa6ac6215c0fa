-- One child down: from what stands at an unsolved expanded node to what stands at the child that step 2 takes. Rests on Promises, words and the laws of the machine.
use Rattle.std.specs.Prelude.{◌≡◌, refl, true, false, ℕ, suc, ◌+◌, ◌*◌, ◌≤◌, ◌<◌, length, get_or, set}
use Rattle.std.proofs.Common.{ap, sym, ◌∙◌, subst, length-set, get_or-set_same, get_or-set_other}
use mathlib.Core.List.{List, ◌∷◌, Memᴰ}
use native.Mathlib.Omega.{arith}
use Rattle.rules.specs.Rules.{Position, legal_moves, play, move_error}
use Rattle.rules.proofs.LegalMoves.{in_legal}
use Rattle.machine.specs.Game.{Game}
use Rattle.machine.specs.Tree.{Node, Children, none, child}
use Rattle.machine.specs.Machine.{State, state, Policy, first_with, choice, remember, down}
use Rattle.machine.proofs.Value.{Lawful}
use Rattle.machine.proofs.Numbers.{inner_of}
use Rattle.machine.specs.Place.{pool_max, sizes, sizes_of, UnsolvedAt}
use Rattle.machine.proofs.Place.{Choosable, by_moves_at}
use Rattle.machine.specs.Descent.{height}
use Rattle.machine.proofs.Descent.{choosable}
use Rattle.machine.proofs.Standard.{listed_open}
use Rattle.plain.specs.Plain.{game, policy_of}
use Rattle.plain.proofs.Laws.{lawful, policy_takes}
use Rattle.game.specs.Words as game-words
use Rattle.game.specs.Moves.{Movable}
use Rattle.words.specs.Packed as packing
use Rattle.words.specs.Packed.{view, expanded_in, move_in, remembered_in, with_remembered}
use Rattle.words.proofs.Packed.{packed_read, packed_remembered, expanded_yes, expanded_no}
use Rattle.words.specs.Words.{PHI, PACKED, FIRST, word, set_word, Slot, Agree, Stored}
use Rattle.words.proofs.Words.{stored, only_beyond}
use Rattle.words.specs.Trees.{Part}
use Rattle.words.specs.Walks.{Chosen}
use Rattle.words.proofs.Walks.{chosen_down}
use Rattle.words.specs.Freeing.{plies}
use Rattle.words.proofs.States.{child_kept, holds_taken}
use Rattle.positions.specs.Plies.{Pushed}
use Rattle.prover.specs.Stands.{Stands, here, positions_same, positions_kept}
use Rattle.stay.specs.declared.Stay.{Stay}
use Rattle.stay.specs.Margin.{stay_of}
use Rattle.descend.specs.declared.Current.{Current}
use Rattle.descend.specs.Promises.{Listing, Choosing, Chooses, at_depth, Unsolved, WentDown}

-- What the code has read at the node with number i, at place d of the path, before it chooses
pub record Read (w path : List ℕ) (d i first phi packed : ℕ) : Type 0 where
  pub id_is : i ≡ get_or path d 0
  pub packed_is : packed ≡ word w i PACKED
  pub flag : expanded_in packed ≡ 1
  pub first_is : first ≡ word w i FIRST
  pub phi_is : phi ≡ word w i PHI

-- And at the child with number i that it chose
pub record ReadChild (y : Stay) (w : List ℕ) (first phi remembered i packed move : ℕ) : Type 0 where
  pub chooses : Chooses y w first phi remembered i
  pub packed_is : packed ≡ word w i PACKED
  pub move_is : move ≡ move_in packed

module _ {w path ps : List ℕ} {d : ℕ} (g : Unsolved w path ps d) where
  abbrev G : Game
  G = game g.rule g.side

  abbrev s : State Position
  s = g.at

  L : Lawful G
  L = lawful g.rule g.side

  pub few : (sizes_of G s).nodes ≤ pool_max
  unfolding sizes
  few = omega arith

  -- The packed word says whether the node is expanded
  pub expanded : expanded_in (word w (get_or path d 0) PACKED) ≡ 1 → s.node.expanded ≡ true
  expanded e = let h = g.stands.tree.tree.node in expanded_yes (view G) s.node h.byte (ap expanded_in (sym h.packed_is) ∙ e)

  pub not_expanded : (expanded_in (word w (get_or path d 0) PACKED) ≡ 1 → ⊥) → s.node.expanded ≡ false
  not_expanded e = let h = g.stands.tree.tree.node in expanded_no (view G) s.node h.byte (λ q. e (ap expanded_in h.packed_is ∙ q))

  module _ {i first phi packed : ℕ} (n : Read w path d i first phi packed) where
    packed_here : packed ≡ word w (get_or path d 0) PACKED
    packed_here = n.packed_is ∙ ap (λ (j : ℕ). word w j PACKED) n.id_is

    open_here : s.node.expanded ≡ true
    open_here = expanded (ap expanded_in (sym packed_here) ∙ n.flag)

    phi_here : phi ≡ s.node.phi
    phi_here = n.phi_is ∙ ap (λ (j : ℕ). word w j PHI) n.id_is ∙ g.stands.tree.tree.node.phi_is

    first_here : first ≡ word w (get_or path d 0) FIRST
    first_here = n.first_is ∙ ap (λ (j : ℕ). word w j FIRST) n.id_is

    remembered_here : s.node.remembered ≡ remembered_in packed
    remembered_here = let h = g.stands.tree.tree.node in sym (ap remembered_in (packed_here ∙ h.packed_is) ∙ (packed_read (view G) s.node h.byte).remembered_is)

    can : Choosable s.node s.below
    can = choosable G g.start s g.unsolved few open_here

    there : UnsolvedAt s.below (first_with phi s.below)
    there = rw phi_here (listed_open s.node s.below can)

    listing : Listing (view G) w first phi (remembered_in packed) s.node s.below
    listing = record {
      part = rw first_here g.stands.tree.tree.below;
      few = omega arith;
      phi_is = sym phi_here;
      remembered_is = remembered_here;
      small = rw phi_here can.phi_small;
      there = there;
    }

    -- What choosing asks for
    pub choosing : Choosing w first phi (remembered_in packed)
    choosing = record { view = view G; node = s.node; list = s.below; listing = listing }

    -- The path has a place below
    pub shallow : d < 81
    unfolding height
    shallow = go s.below there g.stands.tree.tree.low
      where
        go : (ks : Children Position) → UnsolvedAt ks (first_with phi ks) → height ks + d < plies → d < 81
        go none o l = absurd o
        go (child m b ks) o l = omega arith

    -- The child that step 2 takes, by its place
    chosen : (y : Stay) {j : ℕ} → Chooses y w first phi (remembered_in packed) j → Chosen (view G) w first s.below (choice (stay_of y) s.node s.below) j
    chosen y f = f (view G) s.node s.below listing

    pub child_slot : (y : Stay) {j : ℕ} → Chooses y w first phi (remembered_in packed) j → Slot w j
    child_slot y f = (chosen y f).part.0.slot

    module _ {y : Stay} {j inner move : ℕ} (k : ReadChild y w first phi (remembered_in packed) j inner move) where
      abbrev P : Policy G
      P = policy_of g.rule g.side (stay_of y)

      abbrev c : Chosen (view G) w first s.below (choice (stay_of y) s.node s.below) j
      c = chosen y k.chooses

      -- The node, with the move taken remembered
      abbrev noted : Node Position
      noted = remember s.node c.node.move

      -- The child's move is legal and leads to its position
      move_here : move ≡ c.node.move
      move_here = let h = c.part.0 in k.move_is ∙ ap move_in (k.packed_is ∙ h.packed_is) ∙ (packed_read (view G) c.node h.byte).move_is

      by_move : Memᴰ c.node.move (legal_moves s.node.pos) × (c.node.pos ≡ play s.node.pos c.node.move)
      by_move =
          let u = g.unsolved in
          by_moves_at G s.node.pos c.before c.after c.node c.below (rw c.whole (inner_of G s.node s.below u.ok u.phi_pos u.delta_pos open_here).by_moves)

      legal : move_error s.node.pos move ≡ 0
      legal = rw move_here (in_legal s.node.pos c.node.move by_move.0)

      position : game-words.Holds s.node.pos ps (d * 24)
      position = here ps d s.above s.node g.stands.positions

      -- What push asks for
      pub movable : Movable ps (d * 24) move
      movable = (s.node.pos, position, legal)

      -- The words with the move remembered, the path and the positions with the child on them
      module _ (v : List ℕ) {path' ps' : List ℕ} {place : ℕ} (remembers : v ≡ set_word w i PACKED (with_remembered packed move)) (on_path : path' ≡ set path place j) (next : place ≡ suc d)
          (pushed : Pushed d move ps ps') where
        down_is : down G P s ≡ state s.counts (record { node = noted; before = c.before; after = c.after } ∷ s.above) c.node c.below
        unfolding down
        down_is = rw (policy_takes g.rule g.side (stay_of y) s.node s.below) (chosen_down (view G) w first s.below _ j c s.counts s.above s.node)

        -- The packed word is the node's
        stored_here : Stored w v (get_or path d 0) PACKED (packing.packed (view G) noted)
        stored_here =
            let h = g.stands.tree.tree.node in
            let e : with_remembered packed move ≡ packing.packed (view G) noted =
            ap (λ (x : ℕ). with_remembered x move) (packed_here ∙ h.packed_is) ∙ ap (with_remembered (packing.packed (view G) s.node)) move_here
            ∙ sym (packed_remembered (view G) s.node h.byte c.node.move) in
            stored w v (get_or path d 0) PACKED _ h.slot (omega arith)
            (remembers ∙ ap (λ (x : ℕ). set_word w x PACKED (with_remembered packed move)) n.id_is ∙ ap (set_word w (get_or path d 0) PACKED) e)

        kept : Agree w v j
        kept = child_kept (view G) w path _ _ _ _ s.counts d s.above s.node s.below g.stands.tree c.node.move c.part.0.byte.0 v stored_here j
            c.before c.node c.below c.after (subst (λ (f : ℕ). Part (view G) w c.before f j) first_here c.passed) c.part c.whole

        at_child : get_or path' (suc d) 0 ≡ j
        at_child = rw (on_path, next) (get_or-set_same path (suc d) j 0 (omega (arith, shallow)))

        above_kept : (a : ℕ) → a ≤ d → get_or path' a 0 ≡ get_or path a 0
        above_kept a l = rw on_path (get_or-set_other path place a j 0 (λ e. omega arith))

        position_there : game-words.Holds c.node.pos ps' (suc d * 24)
        position_there =
            let e : d * 24 + 24 ≡ suc d * 24 = omega arith in
            rw (by_move.1, ← move_here, ← e) (pushed.holds s.node.pos position legal)

        stands_there : Stands g.rule g.side v path' ps' (at_depth g.prover (suc d)) (down G P s)
        stands_there = rw down_is record {
          tree = holds_taken (view G) w path _ _ _ _ s.counts d s.above s.node s.below g.stands.tree c.node.move c.part.0.byte.0 v stored_here path' j
              c.before c.node c.below c.after above_kept at_child
              (subst (λ (f : ℕ). Part (view G) w c.before f j) first_here c.passed) c.part c.whole;
          positions = (
            position_there,
            positions_same ps' d s.above s.node noted refl (positions_kept ps ps' d (d * 24 + 24) s.above s.node pushed.long (omega arith) pushed.below g.stands.positions),
          );
          proved_is = g.stands.proved_is;
          disproved_is = g.stands.disproved_is;
          expanded_is = g.stands.expanded_is;
          path_long = ap length on_path ∙ simp length-set g.stands.path_long;
          positions_long = pushed.long ∙ g.stands.positions_long;
        }

        pub went_down : {r : Current} → r.id.0 ≡ j → r.packed ≡ inner → WentDown y w path ps d g v path' ps' r
        went_down e q = record {
          stands = stands_there;
          id_is = e ∙ sym at_child;
          packed_is = q ∙ k.packed_is ∙ sym (kept PACKED (omega arith)) ∙ ap (λ (a : ℕ). word v a PACKED) (sym e);
          long = stored_here.only.long;
          past = only_beyond g.stands.tree.tree.node.slot stored_here.only;
        }
