-- What the functions of step 2 ask for and come to. Rests on plain, words, stay and prover.
use Rattle.std.specs.Prelude.{◌≡◌, List, Bool, false, ℕ, suc, ◌≤◌, ◌<◌, length, get_or, Float, Option, MatchOption}
use Rattle.rules.specs.Rules.{Player, Position}
use Rattle.machine.specs.Tree.{Node, Children, size, solved}
use Rattle.machine.specs.Machine.{State, root, has_delta, has_move, first_that, first_with, holds_at, within_margin, choice, down, to_leaf}
use Rattle.machine.specs.Place.{pool_max, UnsolvedAt, AtUnsolved}
use Rattle.plain.specs.Plain.{game, policy_of}
use Rattle.words.specs.Packed.{View}
use Rattle.words.specs.Words.{NONE, PACKED, word, Beyond}
use Rattle.words.specs.Trees.{Held, Part}
use Rattle.words.specs.Walks.{Looking, Chosen}
use Rattle.stay.specs.declared.Stay.{Stay}
use Rattle.stay.specs.Margin.{steps_in, stay_of}
use Rattle.node_pool.specs.declared.NodeID.{NodeID}
use Rattle.prover.specs.declared.Prover.{Prover}
use Rattle.prover.specs.Stands.{Stands, Searching}
use Rattle.descend.specs.declared.Current.{Current}

-- The list that begins at `first` has a child whose delta is phi, and the first such one is unsolved
pub record Selectable (w : List ℕ) (first phi : ℕ) : Type 0 where
  pub view : View Position
  pub list : Children Position
  pub looking : Looking view w first (has_delta phi) list first
  pub there : UnsolvedAt list (first_with phi list)

-- i is its number
abbrev pub Selects : List ℕ → ℕ → ℕ → ℕ → Type 0
Selects w first phi i = (K : View Position) (ks : Children Position) → Looking K w first (has_delta phi) ks first → UnsolvedAt ks (first_with phi ks)
    → Chosen K w first ks (first_with phi ks) i

-- A list begins at `first`
pub record Findable (w : List ℕ) (first : ℕ) : Type 0 where
  pub view : View Position
  pub list : Children Position
  pub part : Part view w list first NONE
  pub few : size list ≤ pool_max

-- r is its first child that the move m led to, if there is one
abbrev pub Found : View Position → List ℕ → ℕ → ℕ → Children Position → Option NodeID → Type 0
Found K w first m ks r =
    MatchOption r ((t : Node Position → Bool) → holds_at t ks (first_that (has_move m) ks) ≡ false) (λ i. Chosen K w first ks (first_that (has_move m) ks) i.0)

abbrev pub Finds : List ℕ → ℕ → ℕ → Option NodeID → Type 0
Finds w first m r = (K : View Position) (ks : Children Position) → Part K w ks first NONE → size ks ≤ pool_max → Found K w first m ks r

-- r says whether the node at i is within the margin
abbrev pub Tests : List ℕ → ℕ → ℕ → Float → Bool → Type 0
Tests w i phi margin r = (K : View Position) (n : Node Position) → Held K w n i → r ≡ within_margin (steps_in margin) phi n

-- The children ks of the node n, with this phi and this remembered move, begin at `first`, and step 2 may take one
pub record Listing (K : View Position) (w : List ℕ) (first phi remembered : ℕ) (n : Node Position) (ks : Children Position) : Type 0 where
  pub part : Part K w ks first NONE
  pub few : size ks ≤ pool_max
  pub phi_is : n.phi ≡ phi
  pub remembered_is : n.remembered ≡ remembered
  pub small : phi < pool_max
  pub there : UnsolvedAt ks (first_with phi ks)

pub record Choosing (w : List ℕ) (first phi remembered : ℕ) : Type 0 where
  pub view : View Position
  pub node : Node Position
  pub list : Children Position
  pub listing : Listing view w first phi remembered node list

-- i is the number of the child that step 2 takes with the setting y
abbrev pub Chooses : Stay → List ℕ → ℕ → ℕ → ℕ → ℕ → Type 0
Chooses y w first phi remembered i = (K : View Position) (n : Node Position) (ks : Children Position) → Listing K w first phi remembered n ks
    → Chosen K w first ks (choice (stay_of y) n ks) i

-- The same search with its current node at place d
abbrev pub at_depth : Prover → ℕ → Prover
at_depth x d = record x { depth = d }

-- A state whose current node is unsolved stands there, with that node at place d of the path
pub record Unsolved (w path ps : List ℕ) (d : ℕ) : Type 0 where
  pub rule : ℕ
  pub side : Player
  pub start : Position
  pub prover : Prover
  pub at : State Position
  pub stands : Stands rule side w path ps (at_depth prover d) at
  pub unsolved : AtUnsolved (game rule side) start at

-- One child down: the machine's next state stands there, one place further, and the node that is current then was given back
pub record WentDown (y : Stay) (w path ps : List ℕ) (d : ℕ) (g : Unsolved w path ps d) (v path' ps' : List ℕ) (r : Current) : Type 0 where
  pub stands : Stands g.rule g.side v path' ps' (at_depth g.prover (suc d)) (down (game g.rule g.side) (policy_of g.rule g.side (stay_of y)) g.at)
  pub id_is : r.id.0 ≡ get_or path' (suc d) 0
  pub packed_is : r.packed ≡ word v r.id.0 PACKED
  pub long : length v ≡ length w
  pub past : Beyond w v

abbrev pub GoesDown : Stay → List ℕ → List ℕ → List ℕ → ℕ → List ℕ → List ℕ → List ℕ → Current → Type 0
GoesDown y w path ps d v path' ps' r = (g : Unsolved w path ps d) → WentDown y w path ps d g v path' ps' r

-- Step 2 was made with the setting y: the machine's state at the leaf stands there
pub record AtLeaf (y : Stay) (w path ps : List ℕ) (x : Prover) (g : Searching w path ps x) (v path' ps' : List ℕ) (r : Prover) : Type 0 where
  pub stands : Stands g.rule g.side v path' ps' r (to_leaf (game g.rule g.side) (policy_of g.rule g.side (stay_of y)) g.at)
  pub long : length v ≡ length w
  pub past : Beyond w v

abbrev pub Descended : Stay → List ℕ → List ℕ → List ℕ → Prover → List ℕ → List ℕ → List ℕ → Prover → Type 0
Descended y w path ps x v path' ps' r = (g : Searching w path ps x) → solved (root g.at) ≡ false → AtLeaf y w path ps x g v path' ps' r
