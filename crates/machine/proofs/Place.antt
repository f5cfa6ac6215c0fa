-- Laws of specs/Place.antt. The machine's tree seen from a node, what is asked of a policy, and one move down. Rests on Machine and Numbers.
use Rattle.std.specs.Prelude.{◌≡◌, Bool, true, false, cond, ℕ, zero, suc, ◌+◌, ◌≤◌, ◌<◌, min, length}
use Rattle.std.proofs.Math.Path.{refl, ap, sym}
use Rattle.std.proofs.Common.{◌∙◌, subst}
use Rattle.std.proofs.Math.Logic.{inl, inr}
use mathlib.Core.List.{List, [], ◌∷◌, Memᴰ}
use native.Mathlib.Omega.{arith}
use Rattle.machine.specs.Game.{Game}
use Rattle.machine.specs.Tree.{INFINITY, u32_max, Node, solved, Children, none, child, size, least_delta, sum_phi, append}
use Rattle.machine.specs.Machine.{Counts, Ancestor, State, Policy, remember, into, children}
use Rattle.machine.specs.Value.{extra}
use Rattle.machine.proofs.Value.{Lawful}
use Rattle.machine.specs.Numbers.{HasMove, ByMoves, NoMoveTwice, Inner, Good, tally}
use Rattle.machine.proofs.Numbers.{unsolved}
use Rattle.machine.specs.Place.{pool_max, Alike, Same, Above, room_at, inner_at, tally_above, size_above, sizes, sizes_of, AtUnsolved, UnsolvedAt}

module _ {Pos : Type 0} where
  pub append_child : (a : Children Pos) (n : Node Pos) (b ks : Children Pos) → append (append a (child n b none)) ks ≡ append a (child n b ks)
  unfolding append
  append_child none n b ks = refl
  append_child (child x y a) n b ks = ap (child x y) (append_child a n b ks)

  pub size_append : (a r : Children Pos) → size (append a r) ≡ size a + size r
  unfolding size append
  size_append none r = omega arith
  size_append (child x y a) r = omega (arith, size_append a r)

module _ {Pos : Type 0} (c : Children Pos) (n n' : Node Pos) (b b' : Children Pos) where
  least_swap : (a : Children Pos) → n.delta ≡ n'.delta → least_delta (append a (child n b c)) ≡ least_delta (append a (child n' b' c))
  unfolding least_delta append
  least_swap none e = rw e
  least_swap (child x y a) e = ap (min x.delta) (least_swap a e)

  sum_swap : (a : Children Pos) → n.phi ≡ n'.phi → sum_phi (append a (child n b c)) ≡ sum_phi (append a (child n' b' c))
  unfolding sum_phi append
  sum_swap none e = rw e
  sum_swap (child x y a) e = ap (x.phi +◌) (sum_swap a e)

  pub has_move_swap : (m : ℕ) (a : Children Pos) → n.move ≡ n'.move → HasMove m (append a (child n b c)) → HasMove m (append a (child n' b' c))
  unfolding append
  has_move_swap m none e (inl q) = inl (q ∙ e)
  has_move_swap m none e (inr q) = inr q
  has_move_swap m (child x y a) e (inl q) = inl q
  has_move_swap m (child x y a) e (inr q) = inr (has_move_swap m a e q)

pub no_move_twice_swap : {Pos : Type 0} (c : Children Pos) (n n' : Node Pos) (b b' a : Children Pos) → n.move ≡ n'.move
    → NoMoveTwice (append a (child n b c)) → NoMoveTwice (append a (child n' b' c))
unfolding append
no_move_twice_swap c n n' b b' none e h = (subst (λ (m : ℕ). HasMove m c → ⊥) e h.0, h.1)
no_move_twice_swap c n n' b b' (child x y a) e h = (λ i. h.0 (has_move_swap c n' n b' b x.move a (sym e) i), no_move_twice_swap c n n' b b' a e h.1)

module _ (G : Game) where
  pub good_append : (a r : Children G.Pos) → Good G a → Good G r → Good G (append a r)
  unfolding append
  good_append none r g h = h
  good_append (child x y a) r g h = (g.0, g.1, good_append a r g.2 h)

  pub by_moves_at : (p : G.Pos) (a c : Children G.Pos) (n : Node G.Pos) (b : Children G.Pos) → ByMoves G p (append a (child n b c))
      → Memᴰ n.move (G.moves p) × (n.pos ≡ G.play p n.move)
  unfolding append
  by_moves_at p none c n b i = (i.0, i.1)
  by_moves_at p (child x y a) c n b i = by_moves_at p a c n b i.2

  module _ (c : Children G.Pos) (n n' : Node G.Pos) (b b' : Children G.Pos) where
    pub by_moves_swap : (p : G.Pos) (a : Children G.Pos) → Alike n n' → ByMoves G p (append a (child n b c)) → ByMoves G p (append a (child n' b' c))
    unfolding append
    by_moves_swap p none e i = (subst (λ (m : ℕ). Memᴰ m (G.moves p)) e.move i.0, sym e.pos ∙ i.1 ∙ ap (G.play p) e.move, i.2)
    by_moves_swap p (child x y a) e i = (i.0, i.1, by_moves_swap p a e i.2)

    pub inner_swap : (N : Node G.Pos) (a : Children G.Pos) → Same n n' → Inner G N (append a (child n b c)) → Inner G N (append a (child n' b' c))
    inner_swap N a e i = record {
      opened = i.opened;
      phi_pos = i.phi_pos;
      delta_pos = i.delta_pos;
      phi_is = i.phi_is ∙ least_swap c n n' b b' a e.delta;
      delta_is = i.delta_is ∙ ap (λ (x : ℕ). min x u32_max) (sum_swap c n n' b b' a e.phi);
      by_moves = by_moves_swap N.pos a e.alike i.by_moves;
      all_moves = λ m h. has_move_swap c n n' b b' m a e.alike.move (i.all_moves m h);
      no_move_twice = no_move_twice_swap c n n' b b' a e.alike.move i.no_move_twice;
    }

pub above_same : (G : Game) (r : G.Pos) (up : List (Ancestor G.Pos)) (n n' : Node G.Pos) → Same n n' → Above G r up n → Above G r up n'
above_same G r [] n n' e u = sym e.alike.pos ∙ u
above_same G r (a ∷ up) n n' e u =
    (record { mid = inner_swap G a.after n n' none none a.node a.before e u.0.mid; before_good = u.0.before_good; after_good = u.0.after_good }, u.1)

pub tally_append : {Pos : Type 0} (f : Node Pos → ℕ → ℕ) (a r : Children Pos) → tally f (append a r) ≡ tally f a + tally f r
unfolding tally append
tally_append f none r = omega arith
tally_append f (child x y a) r = omega (arith, tally_append f a r)

pub room_inner : (G : Game) (n : Node G.Pos) (below : ℕ) → n.expanded ≡ true → room_at G n below ≡ below
unfolding room_at
room_inner G n below e = ap (λ (b : Bool). cond b below (extra G n.pos)) e

pub inner_inner : {Pos : Type 0} (n : Node Pos) (below : ℕ) → solved n ≡ false → n.expanded ≡ true → inner_at n below ≡ suc below
unfolding inner_at
inner_inner n below s e = ap (λ (b : Bool). cond b 0 (cond n.expanded (suc below) 0)) s ∙ ap (λ (b : Bool). cond b (suc below) 0) e

-- They are the same seen from the node above
pub sizes_up : (G : Game) (a : Ancestor G.Pos) (up : List (Ancestor G.Pos)) (n : Node G.Pos) (ks : Children G.Pos) → a.node.expanded ≡ true → solved a.node ≡ false
    → sizes G up a.node (append a.before (child n ks a.after)) ≡ sizes G (a ∷ up) n ks
unfolding sizes size size_above tally tally_above
sizes_up G a up n ks e s =
    let all = append a.before (child n ks a.after) in
    let nodes : suc (size all + size_above up) ≡ suc (size ks + size_above (a ∷ up)) = omega (arith, size_append a.before (child n ks a.after)) in
    let room : room_at G a.node (tally (room_at G) all) + tally_above (room_at G) up ≡ room_at G n (tally (room_at G) ks) + tally_above (room_at G) (a ∷ up) =
    omega (arith, room_inner G a.node (tally (room_at G) all) e, tally_append (room_at G) a.before (child n ks a.after)) in
    let inner : inner_at a.node (tally inner_at all) + (length up + tally_above inner_at up) ≡ inner_at n (tally inner_at ks) + (length (a ∷ up) + tally_above inner_at (a ∷ up)) =
    omega (arith, inner_inner a.node (tally inner_at all) s e, tally_append inner_at a.before (child n ks a.after)) in
    λ i. record { nodes = nodes i; room = room i; inner = inner i }

-- What step 2 meets at an unsolved expanded node: phi is the least child delta, below the pool's range, and a child whose phi is 0 has an infinite delta
abbrev pub Infinite : {Pos : Type 0} → Children Pos → Type 0
Infinite none = Unit {0}
Infinite (child n b ks) = (n.phi ≡ 0 → INFINITY ≤ n.delta) × Infinite ks

pub record Choosable {Pos : Type 0} (n : Node Pos) (ks : Children Pos) : Type 0 where
  pub phi_pos : 0 < n.phi
  pub phi_small : n.phi < pool_max
  pub phi_is : n.phi ≡ least_delta ks
  pub infinite : Infinite ks

-- What is asked of a policy: there step 2 takes an unsolved child; step 3 asks for no fewer nodes than step 4 makes, and for no more than N leaves
pub record Sane (G : Game) (P : Policy G) : Type 0 where
  pub selects : (n : Node G.Pos) (ks : Children G.Pos) → Choosable n ks → UnsolvedAt ks (P.select n ks)
  pub covers : (p : G.Pos) → size (children G p) ≤ P.need p
  pub within : (p : G.Pos) → P.need p ≤ extra G p

-- What one move down from the node n with the children ks keeps
pub record Moved (G : Game) (r : G.Pos) (c : Counts) (up : List (Ancestor G.Pos)) (n : Node G.Pos) (ks : Children G.Pos) (s : State G.Pos) : Type 0 where
  pub rest : AtUnsolved G r s
  pub counts_same : s.counts ≡ c
  pub sizes_same : sizes_of G s ≡ sizes G up n ks
  pub nearer : G.left s.node.pos < G.left n.pos

module _ (G : Game) (n : Node G.Pos) (x : ℕ) where
  inner_remember : (ks : Children G.Pos) → Inner G n ks → Inner G (remember n x) ks
  inner_remember ks i = record {
    opened = i.opened;
    phi_pos = i.phi_pos;
    delta_pos = i.delta_pos;
    phi_is = i.phi_is;
    delta_is = i.delta_is;
    by_moves = i.by_moves;
    all_moves = i.all_moves;
    no_move_twice = i.no_move_twice;
  }

  same_remember : Same n (remember n x)
  same_remember = record { alike = record { pos = refl; move = refl }; phi = refl; delta = refl }

  sizes_remember : (up : List (Ancestor G.Pos)) (ks : Children G.Pos) → sizes G up (remember n x) ks ≡ sizes G up n ks
  unfolding sizes room_at inner_at solved
  sizes_remember up ks = refl

pub into_ok : (G : Game) (L : Lawful G) (r : G.Pos) (c : Counts) (up : List (Ancestor G.Pos)) (n : Node G.Pos) (a ks : Children G.Pos) (i : ℕ)
    → Inner G n (append a ks) → Good G a → Good G ks → Above G r up n → UnsolvedAt ks i → Moved G r c up n (append a ks) (into c up n a ks i)
unfolding into
into_ok G L r c up n a none i h g g' u o = absurd o
into_ok G L r c up n a (child m b ks) zero h g g' u o =
    let k = by_moves_at G n.pos a ks m b h.by_moves in
    let here = remember n m.move in
    let alike : Same m m = record { alike = record { pos = refl; move = refl }; phi = refl; delta = refl } in
    let inner = inner_remember G n m.move (append a (child m b ks)) h in
    record {
      rest = record {
        ok = g'.0;
        good = g'.1;
        above = (
          record { mid = inner_swap G ks m m b none here a alike inner; before_good = g; after_good = g'.2 },
          above_same G r up n here (same_remember G n m.move) u,
        );
        phi_pos = o.0;
        delta_pos = o.1;
      };
      counts_same = refl;
      sizes_same =
          sym (sizes_up G (record { node = here; before = a; after = ks }) up m b inner.opened (unsolved here inner.phi_pos inner.delta_pos))
          ∙ sizes_remember G n m.move up (append a (child m b ks));
      nearer = rw k.1 (L.falls n.pos m.move k.0);
    }
into_ok G L r c up n a (child m b ks) (suc i) h g g' u o =
    rw append_child at (into_ok G L r c up n (append a (child m b none)) ks i (rw append_child h) (good_append G a (child m b none) g (g'.0, g'.1, tt)) g'.2 u o)
