-- How expand does step 4 from start to end: no child is made, all are made, they are the leaf's own. Rests on Targets and Expandable.
use Rattle.std.specs.Prelude.{◌≡◌, Bool, not, ℕ, ◌+◌, ◌*◌, min, eqb, get_or}
use Rattle.std.proofs.Math.Path.{refl, ap, sym}
use Rattle.std.proofs.Common.{◌∙◌, subst, arith, eq-eqb}
use mathlib.Core.List.{List, []}
use Rattle.std.proofs.Math.Bool.{true, false}
use Rattle.rules.specs.Rules.{Position, game_state, legal_moves}
use Rattle.rules.proofs.Legal.{legal}
use Rattle.rules.proofs.LegalMoves.{in_legal}
use Rattle.game.specs.Words.{Holds}
use Rattle.game.specs.Cursor.{moves_from, moves_all}
use Rattle.machine.specs.Game.{Game}
use Rattle.machine.specs.Tree.{Node, u32_max, Children, none, size, least_delta, sum_phi}
use Rattle.machine.specs.Machine.{live, make, children, opened, expand}
use Rattle.plain.specs.Plain.{game}
use Rattle.words.specs.Packed.{View, bit, and_in, expanded_in, view}
use Rattle.words.proofs.Packed.{packed_read}
use Rattle.words.specs.Words.{NONE, PACKED, FIRST, word, set_word, Slot, Stored}
use Rattle.words.proofs.Words.{beyond_trans, stored, slot_long, only_trans, only_beyond}
use Rattle.words.specs.Pool.{Holding}
use Rattle.words.proofs.Store.{holding_opened}
use Rattle.words.proofs.States.{holds_expanded}
use Rattle.prover.specs.declared.Prover.{Prover}
use Rattle.prover.specs.declared.Ascent.{Ascent}
use Rattle.prover.specs.Stands.{Stands, here, positions_same}
use Rattle.children.specs.Scalars.{OuterOf}
use Rattle.expand.specs.declared.Made.{Made}
use Rattle.expand.specs.declared.Parent.{Parent}
use Rattle.expand.specs.Progress.{Leaf, to_come, Progress}
use Rattle.expand.specs.Targets.{Unmade}
use Rattle.expand.specs.Expandable.{Expandable, Expansion, NoneMade, counted, attached}

-- A flag read from its bit
flag_of : (b : Bool) → eqb (bit b) 1 ≡ b
flag_of true = refl
flag_of false = refl

module _ (w path ps : List ℕ) (x : Prover) (rule root : ℕ) (g : Expandable w path ps x rule root) where
  abbrev G : Game
  G = game rule g.side

  abbrev K : View Position
  K = view G

  abbrev n : Node Position
  n = g.at.node

  abbrev p : Position
  p = n.pos

  abbrev id : ℕ
  id = get_or path x.depth 0

  abbrev pub leaf_at : Leaf
  leaf_at = record { rule = rule; root = g.side; path = path; depth = x.depth; above = g.at.above; node = g.at.node; words = w }

  -- The leaf's position, whose game is in play
  leaf_stands : Holds p ps (x.depth * 24)
  leaf_stands = here ps x.depth g.at.above n g.stands.positions

  pub leaf_stands_at : (b : ℕ) → b ≡ x.depth * 24 → Holds p ps b
  leaf_stands_at b e = subst (λ (k : ℕ). Holds p ps k) (sym e) leaf_stands

  pub unfinished : game_state p ≡ 0
  unfinished = (legal p g.move (in_legal p g.move g.legal)).unfinished

  all_moves : legal_moves p ≡ moves_from p 0
  all_moves = moves_all p (eq-eqb (game_state p) 0 unfinished)

  -- Its own flag
  pub and_read : (k : ℕ) → k ≡ word w id PACKED → eqb (and_in k) 1 ≡ K.and p
  and_read k e =
      let h = g.stands.tree.tree.node in
      ap (λ (i : ℕ). eqb (and_in i) 1) (e ∙ h.packed_is) ∙ ap (λ (i : ℕ). eqb i 1) (packed_read K n h.byte).and_is ∙ flag_of (K.and p)

  -- No child is made
  module _ (m : Made) (z : NoneMade x.pool.vacant m) where
    abbrev Bare : Children Position → ℕ → ℕ → ℕ → Type 0
    Bare ks head used last = Holding K w path x.depth head used g.at.above n ks none last

    held : Bare none m.siblings.vacant.head.0 m.siblings.vacant.used m.siblings.last.0
    held =
        subst (λ (ks : Children Position). Bare ks m.siblings.vacant.head.0 m.siblings.vacant.used m.siblings.last.0) g.bare
        (subst (λ (i : ℕ). Bare g.at.below i m.siblings.vacant.used m.siblings.last.0) (sym z.head_is)
        (subst (λ (i : ℕ). Bare g.at.below x.pool.vacant.head.0 i m.siblings.last.0) (sym z.used_is)
        (subst (λ (i : ℕ). Bare g.at.below x.pool.vacant.head.0 x.pool.vacant.used i) (sym z.last_is) g.stands.tree.tree)))

    pub none_made : Progress leaf_at w m (moves_from p 0)
    unfolding size least_delta sum_phi live children
    none_made = record {
      made = none;
      held = held;
      phi_is = z.phi_is;
      delta_is = z.delta_is;
      made_is = z.made_is;
      whole = ap (λ (ms : List ℕ). make G p ms none) (ap (λ (t : Bool). to_come t (moves_from p 0)) z.ended_is ∙ sym all_moves);
      room = omega (arith, g.room, held.full, held.fits, g.stands.tree.balance, ap (size {Pos = Position}) g.bare);
      deep = omega (arith, g.deep);
      long = refl;
      past = λ j l. refl;
    }

    -- k is the leaf's packed word
    unfoldable pub unmade : (q : Parent) (k : ℕ) → OuterOf p q.outer → q.base ≡ x.depth * 24 → q.rule ≡ rule → q.attacker ≡ root → q.and ≡ not (eqb (and_in k) 1) → k ≡ word w id PACKED
        → Unmade w ps q m
    unmade q k r eb er es ea ek = record {
      leaf = leaf_at;
      of_leaf = record { outer = r; unfinished = unfinished; rule_is = er; root_is = es ∙ g.root_is; and_is = ea ∙ ap not (and_read k ek) };
      stands = leaf_stands_at q.base eb;
      move = g.move;
      legal = in_legal p g.move g.legal;
      going = z.ended_is;
      progress = none_made;
    }

  -- All are made
  module _ (w₁ : List ℕ) (m : Made) (h : Progress leaf_at w₁ m []) where
    all_made : h.made ≡ children G p
    unfolding make
    all_made = go m.ended h.whole
      where
        go : (t : Bool) → make G p (to_come t []) h.made ≡ children G p → h.made ≡ children G p
        go true e = e
        go false e = e

    pub leaf_slot : Slot w₁ id
    leaf_slot = h.held.node.slot

    pub leaf_shut : expanded_in (word w₁ id PACKED) ≡ 0
    leaf_shut = ap expanded_in h.held.node.packed_is ∙ (packed_read K n h.held.node.byte).expanded_is ∙ ap bit g.shut

    -- They are the leaf's own
    module _ (v : List ℕ) (e : v ≡ attached w₁ id m.siblings.last.0) where
      abbrev w₂ : List ℕ
      w₂ = set_word w₁ id PACKED (word w₁ id PACKED + 536870912)

      marked : Stored w₁ w₂ id PACKED (word w₁ id PACKED + 536870912)
      marked = stored w₁ w₂ id PACKED (word w₁ id PACKED + 536870912) leaf_slot (omega arith) refl

      linked : Stored w₂ v id FIRST m.siblings.last.0
      linked = stored w₂ v id FIRST m.siblings.last.0 (slot_long marked.only.long leaf_slot) (omega arith) e

      tree_then : Holding K v path x.depth m.siblings.vacant.head.0 m.siblings.vacant.used g.at.above (opened G n) (children G p) none NONE
      tree_then =
          subst (λ (ks : Children Position). Holding K v path x.depth m.siblings.vacant.head.0 m.siblings.vacant.used g.at.above (opened G n) ks none NONE) all_made
          (holding_opened G K w₁ path x.depth m.siblings.vacant.head.0 m.siblings.vacant.used g.at.above n h.made m.siblings.last.0 h.held g.shut w₂ v marked linked)

      stands_then : Stands rule g.side v path ps (counted x m) (expand G g.at)
      unfolding expand opened
      stands_then = record {
        tree =
            holds_expanded G K w path x.depth x.pool.vacant.head.0 x.pool.vacant.used x.pool.allocated x.pool.freed g.at g.stands.tree g.bare v m.siblings.vacant.head.0 m.siblings.vacant.used
            (x.pool.allocated + m.siblings.made) tree_then (ap (λ (k : ℕ). x.pool.allocated + k) (h.made_is ∙ ap (size {Pos = Position}) all_made));
        positions = positions_same ps x.depth g.at.above n (opened G n) refl g.stands.positions;
        proved_is = g.stands.proved_is;
        disproved_is = g.stands.disproved_is;
        expanded_is = omega (arith, g.stands.expanded_is);
        path_long = g.stands.path_long;
        positions_long = g.stands.positions_long;
      }

      pub expansion : (r : Ascent) → r.prover ≡ counted x m → r.bounds.phi ≡ m.phi → r.bounds.delta ≡ m.delta → Expansion rule g.side g.at w path ps v r
      expansion r ex ep ed = record {
        stands = subst (λ (y : Prover). Stands rule g.side v path ps y (expand G g.at)) (sym ex) stands_then;
        phi_is = ep ∙ h.phi_is ∙ ap (least_delta {Pos = Position}) all_made;
        delta_is = ed ∙ h.delta_is ∙ ap (λ (ks : Children Position). min (sum_phi ks) u32_max) all_made;
        past = beyond_trans w w₁ v h.long h.past (only_beyond leaf_slot (only_trans marked.only linked.only));
      }
