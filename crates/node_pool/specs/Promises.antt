-- What the calls of the pool come to. Rests on words.
use Rattle.std.specs.Prelude.{◌≡◌, List, ◌∷◌, ℕ, ◌+◌, ◌<◌}
use Rattle.rules.specs.Rules.{Position}
use Rattle.prove.specs.declared.Bounds.{Bounds}
use Rattle.machine.specs.Tree.{Node, Children, none, child}
use Rattle.words.specs.Packed.{View}
use Rattle.words.specs.Packed as packing
use Rattle.words.specs.Words.{NONE, Beyond, Filled}
use Rattle.words.specs.Trees.{Part, uses}
use Rattle.words.specs.Free.{Free, among, left_freed, Spare, Number, Released}
use Rattle.words.specs.Freeing.{Freeable, Freed}
use Rattle.node_pool.specs.declared.NodeID.{NodeID}
use Rattle.node_pool.specs.declared.Vacant.{Vacant}
use Rattle.node_pool.specs.declared.Pool.{Pool}
use Rattle.node_pool.specs.declared.AllocedNode.{AllocedNode}

-- A node was taken, and a leaf made of it: `number` says which one and what is free then, `filled` that no other node was touched.
-- In front of a list of siblings that stood in the words it stands as a child more
pub record Alloced (w : List ℕ) (vacant : Vacant) (g : Spare w vacant.head.0 vacant.used) (bounds : Bounds) (packed : ℕ) (sibling : NodeID) (v : List ℕ) (r : AllocedNode) : Type 0 where
  pub number : Number w vacant.head.0 vacant.used g r.id.0 r.vacant.head.0 r.vacant.used
  pub filled : Filled w v r.id.0 bounds.phi bounds.delta packed NONE sibling.0
  pub list : Free v (left_freed g.list) r.vacant.head.0
  pub trees : (K : View Position) (n : Node Position) (ks : Children Position) → n.phi ≡ bounds.phi → n.delta ≡ bounds.delta → packing.packed K n ≡ packed → packing.Bytes n
      → uses w ks sibling.0 r.id.0 ≡ 0 → Part K w ks sibling.0 NONE → Part K v (child n none ks) r.id.0 NONE
  pub past : Beyond w v

abbrev pub Allocs : List ℕ → Vacant → Bounds → ℕ → NodeID → List ℕ → AllocedNode → Type 0
Allocs w vacant bounds packed sibling v r = (g : Spare w vacant.head.0 vacant.used) → Alloced w vacant g bounds packed sibling v r

-- A node was given back: it is the first of the freed nodes, and counted; lists without it stand as before
pub record Frees (w : List ℕ) (p : Pool) (id : NodeID) (v : List ℕ) (r : Pool) : Type 0 where
  pub released : Released w v id.0 p.vacant.head.0
  pub head_is : r.vacant.head ≡ id
  pub used_is : r.vacant.used ≡ p.vacant.used
  pub allocated_is : r.allocated ≡ p.allocated
  pub freed_is : r.freed ≡ p.freed + 1
  pub list : (xs : List ℕ) → among xs id.0 ≡ 0 → Free w xs p.vacant.head.0 → Free v (id.0 ∷ xs) r.vacant.head.0
  pub trees : (K : View Position) (ks : Children Position) (i e : ℕ) → uses w ks i id.0 ≡ 0 → Part K w ks i e → Part K v ks i e
  pub past : Beyond w v

-- A list of siblings and all below were; lists without one of them stand as before
pub record FreedAll (w : List ℕ) (first : NodeID) (p : Pool) (g : Freeable Position w first.0 p.vacant.head.0 p.freed p.allocated) (v : List ℕ) (r : Pool) : Type 0 where
  pub freed : Freed Position w first.0 p.vacant.head.0 p.freed p.allocated g v r.vacant.head.0 r.freed
  pub used_is : r.vacant.used ≡ p.vacant.used
  pub allocated_is : r.allocated ≡ p.allocated
  pub trees : (K : View Position) (ks : Children Position) (i e : ℕ) → ((x : ℕ) → 0 < uses w ks i x → uses w g.siblings first.0 x ≡ 0) → Part K w ks i e → Part K v ks i e

abbrev pub FreesAll : List ℕ → NodeID → Pool → List ℕ → Pool → Type 0
FreesAll w first p v r = (g : Freeable Position w first.0 p.vacant.head.0 p.freed p.allocated) → FreedAll w first p g v r
