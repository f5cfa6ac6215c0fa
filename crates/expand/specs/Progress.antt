-- Amid step 4: the children made so far stand in the pool's words beside their leaf, and with those of the moves to come they are all. One child at a time. Rests on
-- plain, words and node_pool.
use Rattle.std.specs.Prelude.{◌≡◌, Bool, ℕ, suc, ◌+◌, ◌-◌, ◌≤◌, ◌<◌, min}
use Rattle.std.proofs.Math.Path.{refl, ap, sym}
use Rattle.std.proofs.Common.{◌∙◌, subst}
use mathlib.Core.List.{List, [], ◌∷◌}
use Rattle.std.proofs.Math.Bool.{true, false}
use native.Mathlib.Omega.{arith}
use Rattle.std.proofs.Math.Dec.{eqb}
use Rattle.std.proofs.Math.ListN.{length}
use Rattle.rules.specs.Rules.{Player, Position, play}
use Rattle.machine.specs.Game.{Game}
use Rattle.machine.specs.Tree.{Node, leaf, u32_max, Children, none, child, size, least_delta, sum_phi}
use Rattle.machine.specs.Machine.{Verdict, Ancestor, make, children}
use Rattle.machine.specs.Place.{pool_max, size_above}
use Rattle.machine.proofs.Rounds.{make_last, make_next}
use Rattle.plain.specs.Plain.{game}
use Rattle.plain.proofs.Laws.{lawful}
use Rattle.prove.specs.Numbers.{verdict_number, Pair}
use Rattle.prove.specs.declared.Bounds.{Bounds}
use Rattle.words.specs.Packed.{pack, bit, view, packed}
use Rattle.words.specs.Words.{capacity, Beyond}
use Rattle.words.proofs.Words.{beyond_trans}
use Rattle.words.specs.Free.{Spare}
use Rattle.words.specs.Freeing.{plies}
use Rattle.words.specs.Pool.{Holding}
use Rattle.words.proofs.Pool.{holding_asks, holding_few}
use Rattle.words.proofs.Making.{holding_made}
use Rattle.node_pool.specs.declared.AllocedNode.{AllocedNode}
use Rattle.node_pool.specs.Promises.{Alloced}
use Rattle.children.specs.Leaves.{LeafBounds}
use Rattle.expand.specs.declared.Made.{Made}

-- The leaf that is expanded: the game's rule and root side, the path to it, its place there, the nodes above, itself, and the words before the first child is made
pub record Leaf : Type 0 where
  pub rule : ℕ
  pub root : Player
  pub path : List ℕ
  pub depth : ℕ
  pub above : List (Ancestor Position)
  pub node : Node Position
  pub words : List ℕ

abbrev pub game_at : Leaf → Game
game_at l = game l.rule l.root

-- The moves to come: none once the making has ended
abbrev pub to_come : Bool → List ℕ → List ℕ
to_come true ms = []
to_come false ms = ms

pub record Progress (l : Leaf) (w : List ℕ) (m : Made) (ms : List ℕ) : Type 0 where
  pub made : Children Position
  pub held : Holding (view (game_at l)) w l.path l.depth m.siblings.vacant.head.0 m.siblings.vacant.used l.above l.node none made m.siblings.last.0
  pub phi_is : m.phi ≡ least_delta made
  pub delta_is : m.delta ≡ min (sum_phi made) u32_max
  pub made_is : m.siblings.made ≡ size made
  pub whole : make (game_at l) l.node.pos (to_come m.ended ms) made ≡ children (game_at l) l.node.pos
  pub room : size (children (game_at l) l.node.pos) + suc (size_above l.above) ≤ capacity w
  pub deep : suc l.depth < plies
  pub long : length w ≡ length l.words
  pub past : Beyond l.words w

pub progress_on : {l : Leaf} {w : List ℕ} {m : Made} {ms ms' : List ℕ} → ms ≡ ms' → Progress l w m ms → Progress l w m ms'
progress_on {l} {w} {m} e g = subst (λ (ns : List ℕ). Progress l w m ns) e g

-- Once the making has ended, no matter which moves would be next
pub progress_ended : {l : Leaf} {w : List ℕ} {m : Made} {ms : List ℕ} → m.ended ≡ true → (ms' : List ℕ) → Progress l w m ms → Progress l w m ms'
progress_ended {l} {w} {m} {ms} e ms' g =
    let q : to_come m.ended ms ≡ to_come m.ended ms' = rw e in
    record {
      made = g.made;
      held = g.held;
      phi_is = g.phi_is;
      delta_is = g.delta_is;
      made_is = g.made_is;
      whole = subst (λ (ns : List ℕ). make (game_at l) l.node.pos ns g.made ≡ children (game_at l) l.node.pos) q g.whole;
      room = g.room;
      deep = g.deep;
      long = g.long;
      past = g.past;
    }

-- Few enough to be counted
pub progress_few : {l : Leaf} {w : List ℕ} {m : Made} {ms : List ℕ} → Progress l w m ms → m.siblings.made < pool_max
progress_few {l} {w} {m} g = omega (arith, g.made_is, holding_few _ _ _ _ _ _ _ _ _ _ _ g.held)

-- The next move gives a child more
module _ (rule : ℕ) (root : Player) (p : Position) where
  abbrev with : ℕ → Children Position → Children Position
  with m ks = child (leaf (game rule root) (play p m) m) none ks

  one_more : (m : ℕ) (ms : List ℕ) (ks : Children Position) → size (with m ks) ≤ size (make (game rule root) p ms (with m ks)) → size ks < size (make (game rule root) p (m ∷ ms) ks)
  unfolding size
  one_more m ms ks h = go (eqb (leaf (game rule root) (play p m) m).delta 0) refl
    where
      go : (t : Bool) → eqb (leaf (game rule root) (play p m) m).delta 0 ≡ t → size ks < size (make (game rule root) p (m ∷ ms) ks)
      go true e = rw (make_last (game rule root) (lawful rule root) p m ms ks e) (omega arith)
      go false e = rw (make_next (game rule root) (lawful rule root) p m ms ks e) (omega arith)

  no_fewer : (ms : List ℕ) (ks : Children Position) → size ks ≤ size (make (game rule root) p ms ks)
  unfolding make
  no_fewer [] ks = omega arith
  no_fewer (m ∷ ms) ks = omega (arith, one_more m ms ks (no_fewer ms (with m ks)))

  make_more : (m : ℕ) (ms : List ℕ) (ks : Children Position) → size ks < size (make (game rule root) p (m ∷ ms) ks)
  make_more m ms ks = one_more m ms ks (no_fewer ms (with m ks))

-- The child by move x is to be made next, with this evaluation and flag
pub record Addable (w : List ℕ) (m : Made) (x : ℕ) (v : Verdict) (and : Bool) : Type 0 where
  pub leaf : Leaf
  pub rest : List ℕ
  pub progress : Progress leaf w m (x ∷ rest)
  pub going : m.ended ≡ false
  pub byte : x < 256
  pub value_is : v ≡ (view (game_at leaf)).value (play leaf.node.pos x)
  pub and_is : and ≡ (view (game_at leaf)).and (play leaf.node.pos x)

-- The state after it, from the node that was allocated with its numbers
pub record NodeAdded (m : Made) (bounds : Bounds) (a : AllocedNode) (r : Made) : Type 0 where
  pub head_is : r.siblings.vacant.head.0 ≡ a.vacant.head.0
  pub used_is : r.siblings.vacant.used ≡ a.vacant.used
  pub made_is : r.siblings.made ≡ suc m.siblings.made
  pub last_is : r.siblings.last.0 ≡ a.id.0
  pub phi_is : r.phi ≡ min m.phi bounds.delta
  pub delta_is : r.delta ≡ min (m.delta + bounds.phi) u32_max
  pub ended_is : r.ended ≡ eqb bounds.delta 0

-- It is made, and the making ends if its delta is 0
pub record Added (l : Leaf) (x : ℕ) (rest v : List ℕ) (r : Made) : Type 0 where
  pub progress : Progress l v r rest
  pub ended_is : r.ended ≡ eqb (leaf (game_at l) (play l.node.pos x) x).delta 0

abbrev pub Adds : List ℕ → Made → ℕ → Verdict → Bool → List ℕ → Made → Type 0
Adds w m x v and w' r = (g : Addable w m x v and) → Added g.leaf x g.rest w' r

module _ (w : List ℕ) (m : Made) (x : ℕ) (v : Verdict) (and : Bool) (g : Addable w m x v and) where
  abbrev G : Game
  G = game_at g.leaf

  abbrev p : Position
  p = g.leaf.node.pos

  abbrev new : Node Position
  new = leaf G (play p x) x

  going_moves : to_come m.ended (x ∷ g.rest) ≡ x ∷ g.rest
  going_moves = ap (λ (t : Bool). to_come t (x ∷ g.rest)) g.going

  before : make G p (x ∷ g.rest) g.progress.made ≡ children G p
  before = subst (λ (ms : List ℕ). make G p ms g.progress.made ≡ children G p) going_moves g.progress.whole

  pub one_free : 0 < length g.progress.held.list + (capacity w - m.siblings.vacant.used)
  unfolding size
  one_free =
      let h = g.progress in
      omega (arith, h.room, make_more g.leaf.rule g.leaf.root p x g.rest h.made, ap (size {Pos = Position}) before, h.held.full, h.held.fits)

  -- What alloc asks for
  abbrev pub add_asks : Spare w m.siblings.vacant.head.0 m.siblings.vacant.used
  add_asks = holding_asks (view G) w g.leaf.path g.leaf.depth m.siblings.vacant.head.0 m.siblings.vacant.used g.leaf.above g.leaf.node none g.progress.made m.siblings.last.0 g.progress.held one_free

  module _ (bounds : Bounds) (k : ℕ) (w' : List ℕ) (a : AllocedNode) (n : LeafBounds v and bounds.phi bounds.delta) (is_packed : k ≡ pack (verdict_number v) 0 (bit and) 0 x 255)
      (f : Alloced w m.siblings.vacant add_asks bounds k m.siblings.last w' a) where
    numbers : Pair bounds.phi bounds.delta new.phi new.delta
    numbers = n g.leaf.rule g.leaf.root (play p x) x g.value_is g.and_is

    word_is : k ≡ packed (view G) new
    unfolding packed leaf
    word_is =
        is_packed
        ∙ ap (λ (u : Verdict). pack (verdict_number u) 0 (bit and) 0 x 255) g.value_is
        ∙ ap (λ (t : Bool). pack (verdict_number ((view G).value (play p x))) 0 (bit t) 0 x 255) g.and_is

    holds : Holding (view G) w' g.leaf.path g.leaf.depth a.vacant.head.0 a.vacant.used g.leaf.above g.leaf.node none (child new none g.progress.made) a.id.0
    unfolding leaf
    holds =
        holding_made (view G) w g.leaf.path g.leaf.depth m.siblings.vacant.head.0 m.siblings.vacant.used g.leaf.above g.leaf.node none g.progress.made m.siblings.last.0 g.progress.held one_free
        a.id.0 a.vacant.head.0 a.vacant.used f.number w' new (g.byte, omega arith)
        (record {
          only = f.filled.only;
          phi_is = f.filled.phi_is ∙ numbers.phi_is;
          delta_is = f.filled.delta_is ∙ numbers.delta_is;
          packed_is = f.filled.packed_is ∙ word_is;
          first_is = f.filled.first_is;
          sibling_is = f.filled.sibling_is;
        }) g.progress.deep

    -- What is to come then gives all of them still
    all_still : (t : Bool) → eqb new.delta 0 ≡ t → make G p (to_come t g.rest) (child new none g.progress.made) ≡ children G p
    unfolding make
    all_still true e = sym (make_last G (lawful g.leaf.rule g.leaf.root) p x g.rest g.progress.made e) ∙ before
    all_still false e = sym (make_next G (lawful g.leaf.rule g.leaf.root) p x g.rest g.progress.made e) ∙ before

    module _ (r : Made) (t : NodeAdded m bounds a r) where
      held_then : Holding (view G) w' g.leaf.path g.leaf.depth r.siblings.vacant.head.0 r.siblings.vacant.used g.leaf.above g.leaf.node none (child new none g.progress.made) r.siblings.last.0
      held_then = rw (t.head_is, t.used_is, t.last_is) holds

      pub added : Added g.leaf x g.rest w' r
      unfolding size least_delta sum_phi
      added =
          let h = g.progress in
          let e : r.ended ≡ eqb new.delta 0 = t.ended_is ∙ ap (λ (d : ℕ). eqb d 0) numbers.delta_is in
          let long : length w' ≡ length w = f.filled.only.long in
          record {
            progress = record {
              made = child new none h.made;
              held = held_then;
              phi_is = omega (arith, t.phi_is, h.phi_is, numbers.delta_is);
              delta_is = omega (arith, t.delta_is, h.delta_is, numbers.phi_is);
              made_is = omega (arith, t.made_is, h.made_is);
              whole = all_still r.ended (sym e);
              room = omega (arith, h.room);
              deep = h.deep;
              long = long ∙ h.long;
              past = beyond_trans g.leaf.words w w' h.long h.past f.past;
            };
            ended_is = e;
          }
