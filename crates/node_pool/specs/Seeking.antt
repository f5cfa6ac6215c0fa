-- What a walk for the first sibling that passes a test comes to. Rests on words' walks.
use Rattle.std.specs.Prelude.{◌≡◌, List, Bool, true, false, ℕ, ◌≤◌, Option, MatchOption}
use Rattle.rules.specs.Rules.{Position}
use Rattle.machine.specs.Tree.{Node, Children, size}
use Rattle.machine.specs.Machine.{first_that, holds_at}
use Rattle.machine.specs.Place.{pool_max}
use Rattle.words.specs.Packed.{View}
use Rattle.words.specs.Words.{NONE}
use Rattle.words.specs.Trees.{Held, Part}
use Rattle.words.specs.Walks.{Chosen}
use Rattle.node_pool.specs.declared.NodeID.{NodeID}

-- The first node of the list that passes the test is the one found; none is if there is none
abbrev pub Sought : View Position → List ℕ → ℕ → (Node Position → Bool) → Children Position → Option NodeID → Type 0
Sought K w first test ks r =
    MatchOption r ((t : Node Position → Bool) → holds_at t ks (first_that test ks) ≡ false)
    (λ i. Chosen K w first ks (first_that test ks) i.0 × (holds_at test ks (first_that test ks) ≡ true))

-- What is answered at a node's number is what the test says of the node
abbrev pub Agree : View Position → List ℕ → (NodeID → Bool → Type 0) → (Node Position → Bool) → Type 0
Agree K w Says test = (m : Node Position) (i : NodeID) (b : Bool) → Held K w m i.0 → Says i b → b ≡ test m

-- So it is for each list that begins at `first`, and each test that the answers agree with
abbrev pub Seeks : (NodeID → Bool → Type 0) → List ℕ → ℕ → Option NodeID → Type 0
Seeks Says w first r = (K : View Position) (ks : Children Position) (test : Node Position → Bool) → Agree K w Says test → Part K w ks first NONE → size ks ≤ pool_max → Sought K w first test ks r
