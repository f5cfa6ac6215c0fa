-- A node stored anew, and one node up, in what holds a state of the search. Rests on words and prover's Stands.
use Rattle.std.specs.Prelude.{◌≡◌, List, Bool, not, cond, ◌||◌, ℕ, ◌+◌, ◌≤◌, ◌<◌, min, get_or}
use Rattle.std.proofs.Math.Path.{refl, ap, sym}
use Rattle.std.proofs.Common.{◌∙◌, arith, ne_eqb}
use Rattle.std.proofs.Math.Bool.{true, false}
use Rattle.std.proofs.Math.Dec.{eqb}
use Rattle.rules.specs.Rules.{Position}
use Rattle.machine.specs.Game.{Game}
use Rattle.machine.specs.Tree.{Node, u32_max, none, size, least_delta, sum_phi, solved, proof_of, disproof_of}
use Rattle.machine.specs.Machine.{State, renumber, store}
use Rattle.machine.proofs.Numbers.{open_of}
use Rattle.plain.specs.Plain.{game}
use Rattle.words.specs.Packed.{View, view, bit, packed, and_in, Bytes}
use Rattle.words.proofs.Packed.{packed_read}
use Rattle.words.specs.Words.{NONE, PHI, DELTA, PACKED, FIRST, word, set_word, Beyond}
use Rattle.words.proofs.Words.{beyond_trans, only_beyond}
use Rattle.words.specs.Words as words
use Rattle.words.proofs.Words as laws
use Rattle.words.specs.Freeing.{Freeable}
use Rattle.words.specs.Pool.{Holding}
use Rattle.words.specs.Pool.{Holds}
use Rattle.words.proofs.Current.{loose_freeable, loose_freed}
use Rattle.words.proofs.Store.{Renumbered, renumbered, holding_renumbered, holding_cut}
use Rattle.words.proofs.States.{holds_stored}
use Rattle.node_pool.specs.declared.NodeID.{NodeID}
use Rattle.node_pool.specs.declared.Pool.{Pool}
use Rattle.node_pool.specs.Promises.{FreedAll}
use Rattle.prover.specs.declared.Prover.{Prover}
use Rattle.prover.specs.Stands.{Positions, positions_same}
use Rattle.climb.specs.Asks.{zeros, Counted, Ascending, Stored}

-- The flag and says that the other side is to move
flag_is : (b : Bool) → eqb (bit (not b)) 1 ≡ not b
flag_is true = refl
flag_is false = refl

pub by_flag : (G : Game) (n : Node G.Pos) (x : ℕ) (and : Bool) → Bytes n → x ≡ packed (view G) n → and ≡ eqb (and_in x) 1 → (phi delta : ℕ) → phi ≡ n.phi → delta ≡ n.delta
    → (cond and delta phi ≡ proof_of G n) × (cond and phi delta ≡ disproof_of G n)
unfolding proof_of disproof_of
by_flag G n x and byte e f phi delta p d =
    let q : and ≡ not (G.mine n.pos) = f ∙ ap (λ (y : ℕ). eqb (and_in y) 1) e ∙ ap (λ (y : ℕ). eqb y 1) (packed_read (view G) n byte).and_is ∙ flag_is (G.mine n.pos) in
    rw (q, p, d) (go (G.mine n.pos))
  where
    go : (b : Bool) → (cond (not b) n.delta n.phi ≡ cond b n.phi n.delta) × (cond (not b) n.phi n.delta ≡ cond b n.delta n.phi)
    go true = (refl, refl)
    go false = (refl, refl)

-- An unsolved node is not counted
uncounted : (G : Game) (n : Node G.Pos) → solved n ≡ false → (zeros (proof_of G n) ≡ 0) × (zeros (disproof_of G n) ≡ 0)
unfolding proof_of disproof_of
uncounted G n e = let o = open_of n e in go (G.mine n.pos) (ne_eqb n.phi 0 (λ z. omega (arith, o.0))) (ne_eqb n.delta 0 (λ z. omega (arith, o.1)))
  where
    go : (b : Bool) → eqb n.phi 0 ≡ false → eqb n.delta 0 ≡ false → (zeros (cond b n.phi n.delta) ≡ 0) × (zeros (cond b n.delta n.phi) ≡ 0)
    go true p d = (rw p, rw d)
    go false p d = (rw d, rw p)

-- Step 5 at the current node: its numbers are stored
module _ (w path : List ℕ) (x : Prover) (phi delta : ℕ) (g : Ascending w path x phi delta) (v₁ : List ℕ) (set : v₁ ≡ set_word (set_word w (get_or path x.depth 0) PHI phi) (get_or path x.depth 0) DELTA delta) where
  abbrev G : Game
  G = game g.rule g.side

  abbrev K : View Position
  K = view (game g.rule g.side)

  abbrev s : State Position
  s = g.going.at

  abbrev n : Node Position
  n = renumber G s.node s.below

  abbrev i : ℕ
  i = get_or path x.depth 0

  again : Renumbered w v₁ i (least_delta s.below) (min (sum_phi s.below) u32_max)
  again = rw (g.going.phi_is, g.going.delta_is) at (renumbered w v₁ i phi delta g.going.stands.tree.tree.node.slot set)

  holding : Holding K v₁ path x.depth x.pool.vacant.head.0 x.pool.vacant.used s.above n s.below none NONE
  holding = holding_renumbered G K w path x.depth x.pool.vacant.head.0 x.pool.vacant.used s.above s.node s.below g.going.stands.tree.tree v₁ again

  line : Positions g.ps x.depth s.above n
  unfolding renumber
  line = positions_same g.ps x.depth s.above s.node n refl g.going.stands.positions

  past : Beyond w v₁
  past = only_beyond g.going.stands.tree.tree.node.slot again.only

  held_stored : (b : Bool) → solved n ≡ b → (v : List ℕ) (head freed : ℕ) → Holding K v path x.depth head x.pool.vacant.used s.above n (cond b none s.below) none NONE → freed ≡ x.pool.freed + cond b (size s.below) 0
      → Holds K v path x.depth head x.pool.vacant.used x.pool.allocated freed (store G s.counts s.above s.node s.below)
  held_stored = holds_stored G K w path x.depth x.pool.vacant.head.0 x.pool.vacant.used x.pool.allocated x.pool.freed s.counts s.above s.node s.below g.going.stands.tree

  solved_is : (b : Bool) → b ≡ (eqb phi 0 || eqb delta 0) → solved n ≡ b
  unfolding solved renumber
  solved_is b e = ap (λ (y : ℕ). eqb y 0 || eqb (min (sum_phi s.below) u32_max) 0) (sym g.going.phi_is) ∙ ap (λ (y : ℕ). eqb phi 0 || eqb y 0) (sym g.going.delta_is) ∙ sym e

  -- It is not solved: that is all
  pub unsolved_stored : (b : Bool) → b ≡ (eqb phi 0 || eqb delta 0) → b ≡ false → Stored w path x phi delta g v₁ x
  unfolding store
  unsolved_stored b t f =
      let h = g.going.stands in
      let e = solved_is b t ∙ f in
      let z = uncounted G n e in
      record {
        stands = record {
          tree = held_stored false e v₁ x.pool.vacant.head.0 x.pool.freed holding (omega arith);
          positions = line;
          proved_is = omega (arith, h.proved_is, z.0);
          disproved_is = omega (arith, h.disproved_is, z.1);
          expanded_is = h.expanded_is;
          path_long = h.path_long;
          positions_long = h.positions_long;
        };
        past = past;
      }

  -- It may be counted
  pub countable : (x.proved < x.expanded) × (x.disproved < x.expanded)
  countable = let h = g.going.stands in (omega (arith, h.proved_is, h.expanded_is, g.going.proved_room), omega (arith, h.disproved_is, h.expanded_is, g.going.disproved_room))

  -- It is solved: its children are cut off
  module _ (first : NodeID) (first_is : first.0 ≡ word v₁ i FIRST) (end : ℕ) (end_is : end ≡ NONE) (v₂ : List ℕ) (cut : v₂ ≡ set_word v₁ i FIRST end) where
    cut_off : words.Stored v₁ v₂ i FIRST NONE
    cut_off = rw end_is at (laws.stored v₁ v₂ i FIRST end holding.node.slot (omega arith) cut)

    bare : Holding K v₂ path x.depth x.pool.vacant.head.0 x.pool.vacant.used s.above n none s.below first.0
    bare =
        rw (first_is ∙ again.beside FIRST (omega arith))
        (holding_cut G K w path x.depth x.pool.vacant.head.0 x.pool.vacant.used s.above s.node s.below g.going.stands.tree.tree v₁ again v₂ cut_off)

    owed : x.pool.freed + size s.below ≤ x.pool.allocated
    owed = let t = g.going.stands.tree in omega (arith, t.balance, t.allocated_is, t.freed_is)

    pub freeable : Freeable Position v₂ first.0 x.pool.vacant.head.0 x.pool.freed x.pool.allocated
    freeable = loose_freeable K v₂ path x.depth x.pool.vacant.head.0 x.pool.vacant.used s.above n none s.below first.0 bare x.pool.freed x.pool.allocated owed

    -- They are freed, and it is counted
    pub solved_stored : (b : Bool) → b ≡ (eqb phi 0 || eqb delta 0) → b ≡ true → (bits : ℕ) → bits ≡ word v₁ i PACKED → (and : Bool) → and ≡ eqb (and_in bits) 1
        → (v : List ℕ) (pool : Pool) → FreedAll v₂ first x.pool freeable v pool → (r : Prover) → Counted x pool and phi delta r → Stored w path x phi delta g v r
    unfolding store renumber freeable loose_freeable
    solved_stored b t f bits bits_are and and_is v pool all r c =
        let h = g.going.stands in
        let e = solved_is b t ∙ f in
        let flag = by_flag G n bits and holding.node.byte (bits_are ∙ holding.node.packed_is) and_is phi delta g.going.phi_is g.going.delta_is in
        let empty = loose_freed K v₂ path x.depth x.pool.vacant.head.0 x.pool.vacant.used s.above n none s.below first.0 bare x.pool.freed x.pool.allocated owed v pool.vacant.head.0 pool.freed all.freed in
        record {
          stands = record {
            tree = rw (c.depth_is, c.pool_is, all.used_is, all.allocated_is) (held_stored true e v pool.vacant.head.0 pool.freed empty all.freed.all);
            positions = rw c.depth_is line;
            proved_is = omega (arith, h.proved_is, c.proved_is, ap zeros flag.0);
            disproved_is = omega (arith, h.disproved_is, c.disproved_is, ap zeros flag.1);
            expanded_is = c.expanded_is ∙ h.expanded_is;
            path_long = h.path_long;
            positions_long = h.positions_long;
          };
          past = beyond_trans w v₁ v again.only.long past (beyond_trans v₁ v₂ v cut_off.only.long (only_beyond holding.node.slot cut_off.only) all.freed.past);
        }
