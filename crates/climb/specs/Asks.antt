-- What the functions of step 5 ask for, and what they come to. Rests on prover's Stands and the plain machine.
use Rattle.std.specs.Prelude.{◌≡◌, List, ◌∷◌, Bool, false, cond, ◌||◌, ℕ, suc, ◌+◌, ◌≤◌, ◌<◌, min, eqb, length, get_or}
use Rattle.std.specs.declared.ops.ControlFlow.{ControlFlow}
use Rattle.std.specs.declared.ops.ControlFlow.TheVariants.{Continue, Break}
use Rattle.rules.specs.Rules.{Player, Position}
use Rattle.machine.specs.Game.{Game, sequences}
use Rattle.machine.specs.Tree.{Node, u32_max, Children, none, child, least_delta, sum_phi, append}
use Rattle.machine.specs.Machine.{Counts, Ancestor, State, state, store, climb}
use Rattle.machine.specs.Place.{AncestorOk, Above, sizes_of}
use Rattle.machine.specs.Climb.{Climbing, CountsFit}
use Rattle.plain.specs.Plain.{game}
use Rattle.prove.specs.Numbers.{Pair}
use Rattle.words.specs.Packed.{View}
use Rattle.words.specs.Words.{SIBLING, word, Slot, Beyond}
use Rattle.words.specs.Walks.{Walkable}
use Rattle.node_pool.specs.declared.Pool.{Pool}
use Rattle.prover.specs.declared.Prover.{Prover}
use Rattle.prover.specs.Stands.{Stands}
use Rattle.prover.specs.declared.Ascent.{Ascent}

-- A list of siblings from `first` on, and its numbers
pub record Recomputable (w : List ℕ) (first : ℕ) : Type 0 where
  pub view : View Position
  pub walk : Walkable view w first

abbrev pub Recomputes : List ℕ → ℕ → ℕ → ℕ → Type 0
Recomputes w first phi delta = (g : Recomputable w first) → Pair phi delta (least_delta g.walk.list) (min (sum_phi g.walk.list) u32_max)

-- Whether one of a list of siblings has that delta
unfoldable pub has_delta : {Pos : Type 0} → ℕ → Children Pos → Bool
has_delta x none = false
has_delta x (child n b ks) = eqb n.delta x || has_delta x ks

abbrev pub Finds : List ℕ → ℕ → ℕ → Bool → Type 0
Finds w first delta r = (g : Recomputable w first) → r ≡ has_delta delta g.walk.list

-- The siblings from `first` on, of which one, with its number, has a new delta; no other is below the phi that the node above them had
pub record PhiRaisable (w : List ℕ) (first number held delta : ℕ) : Type 0 where
  pub view : View Position
  pub walk : Walkable view w first
  pub slot : Slot w number
  pub rest : Walkable view w (word w number SIBLING)
  pub among : least_delta walk.list ≤ least_delta rest.list
  pub others : ℕ
  pub least_is : least_delta walk.list ≡ min delta others
  pub low : held ≤ others

abbrev pub RaisesPhi : List ℕ → ℕ → ℕ → ℕ → ℕ → ℕ → Type 0
RaisesPhi w first number held delta r = (g : PhiRaisable w first number held delta) → r ≡ least_delta g.walk.list

-- One of them has a new phi; with its old one the others gave the delta that the node above them had
pub record DeltaRaisable (w : List ℕ) (first held was phi : ℕ) : Type 0 where
  pub view : View Position
  pub walk : Walkable view w first
  pub others : ℕ
  pub sum_is : sum_phi walk.list ≡ phi + others
  pub held_is : held ≡ min (was + others) u32_max

abbrev pub RaisesDelta : List ℕ → ℕ → ℕ → ℕ → ℕ → ℕ → Type 0
RaisesDelta w first held was phi r = (g : DeltaRaisable w first held was phi) → r ≡ min (sum_phi g.walk.list) u32_max

abbrev pub zeros : ℕ → ℕ  -- 1 for 0, and 0 for any other number
zeros n = cond (eqb n 0) 1 0

-- Counted as proved (proof 0) or disproved (disproof 0): where the other side is to move, delta is proof
pub record Counted (x : Prover) (pool : Pool) (and : Bool) (phi delta : ℕ) (r : Prover) : Type 0 where
  pub depth_is : r.depth ≡ x.depth
  pub pool_is : r.pool ≡ pool
  pub proved_is : r.proved ≡ x.proved + zeros (cond and delta phi)
  pub disproved_is : r.disproved ≡ x.disproved + zeros (cond and phi delta)
  pub expanded_is : r.expanded ≡ x.expanded

-- Step 5 from the current node of s on
abbrev pub climbed : (G : Game) → State G.Pos → State G.Pos
climbed G s = climb G s.above s.counts s.node s.below

-- The machine's state after step 4 stands there, and the current node's numbers, worked out from its children, are phi and delta
pub record Climbable (w path : List ℕ) (x : Prover) (phi delta : ℕ) : Type 0 where
  pub rule : ℕ
  pub side : Player
  pub start : Position
  pub ps : List ℕ
  pub at : State Position
  pub stands : Stands rule side w path ps x at
  pub phi_is : phi ≡ least_delta at.below
  pub delta_is : delta ≡ min (sum_phi at.below) u32_max
  pub climbing : Climbing (game rule side) start at.above at.node at.below
  pub counts_fit : CountsFit (sequences (game rule side) start) at.counts (sizes_of (game rule side) at)

-- Where the machine's step 5 ends
pub record Climbed (w path : List ℕ) (x : Prover) (phi delta : ℕ) (g : Climbable w path x phi delta) (v : List ℕ) (r : Prover) : Type 0 where
  pub stands : Stands g.rule g.side v path g.ps r (climbed (game g.rule g.side) g.at)
  pub past : Beyond w v

abbrev pub Climbs : List ℕ → List ℕ → Prover → ℕ → ℕ → List ℕ → Prover → Type 0
Climbs w path x phi delta v r = (g : Climbable w path x phi delta) → Climbed w path x phi delta g v r

-- On the way up: a state whose step 5 comes to that of the whole, its numbers worked out; those above have theirs from the current node as it was;
-- it and those above may each be counted once
pub record Going (rule : ℕ) (side : Player) (w path ps : List ℕ) (x : Prover) (phi delta : ℕ) (whole : State Position) : Type 0 where
  pub at : State Position
  pub stands : Stands rule side w path ps x at
  pub phi_is : phi ≡ least_delta at.below
  pub delta_is : delta ≡ min (sum_phi at.below) u32_max
  pub start : Position
  pub kept : Above (game rule side) start at.above at.node
  pub proved_room : at.counts.proved + length at.above < at.counts.expanded
  pub disproved_room : at.counts.disproved + length at.above < at.counts.expanded
  pub leads : climbed (game rule side) at ≡ whole

-- What a turn of the climb asks for
pub record Ascending (w path : List ℕ) (x : Prover) (phi delta : ℕ) : Type 0 where
  pub rule : ℕ
  pub side : Player
  pub ps : List ℕ
  pub whole : State Position
  pub going : Going rule side w path ps x phi delta whole

-- The current node was stored anew
pub record Stored (w path : List ℕ) (x : Prover) (phi delta : ℕ) (g : Ascending w path x phi delta) (v : List ℕ) (r : Prover) : Type 0 where
  pub stands :
      let s = g.going.at in
      Stands g.rule g.side v path g.ps r (store (game g.rule g.side) s.counts s.above s.node s.below)
  pub past : Beyond w v

abbrev pub Stores : List ℕ → List ℕ → Prover → ℕ → ℕ → List ℕ → Prover → Type 0
Stores w path x phi delta v r = (g : Ascending w path x phi delta) → Stored w path x phi delta g v r

-- A state with a node above the current one stands there. That one's numbers are from the current node as it was, with the phi `old`; its number in the pool is `number`, and it has phi and delta now
pub record Raisable (w path : List ℕ) (x : Prover) (number old phi delta : ℕ) : Type 0 where
  pub rule : ℕ
  pub side : Player
  pub ps : List ℕ
  pub counts : Counts
  pub up : Ancestor Position
  pub above : List (Ancestor Position)
  pub node : Node Position
  pub below : Children Position
  pub stands : Stands rule side w path ps x (state counts (up ∷ above) node below)
  pub number_is : number ≡ get_or path x.depth 0
  pub was : Node Position
  pub kept : AncestorOk (game rule side) up was
  pub old_is : old ≡ was.phi
  pub phi_is : phi ≡ node.phi
  pub delta_is : delta ≡ node.delta

-- It is seen from the node above, whose numbers are worked out
pub record Raised (w path : List ℕ) (x : Prover) (number old phi delta : ℕ) (g : Raisable w path x number old phi delta) (k : Ascent) : Type 0 where
  pub stands : Stands g.rule g.side w path g.ps k.prover (state g.counts g.above g.up.node (append g.up.before (child g.node g.below g.up.after)))
  pub phi_is : k.bounds.phi ≡ least_delta (append g.up.before (child g.node g.below g.up.after))
  pub delta_is : k.bounds.delta ≡ min (sum_phi (append g.up.before (child g.node g.below g.up.after))) u32_max

abbrev pub Raises : List ℕ → List ℕ → Prover → ℕ → ℕ → ℕ → ℕ → Ascent → Type 0
Raises w path x number old phi delta k = (g : Raisable w path x number old phi delta) → Raised w path x number old phi delta g k

-- The climb goes on from here, or this is where it ends
abbrev pub Way : ControlFlow Prover Ascent → ℕ → Player → List ℕ → List ℕ → List ℕ → State Position → Type 0
Way (Continue k) rule side w path ps whole = Going rule side w path ps k.prover k.bounds.phi k.bounds.delta whole
Way (Break x) rule side w path ps whole = Stands rule side w path ps x whole

-- How many nodes it may still store
abbrev pub left : ControlFlow Prover Ascent → ℕ
left (Continue k) = suc k.prover.depth
left (Break x) = 0

-- A turn was made; the climb goes on one node higher, or it ended
pub record Ascended (w path : List ℕ) (x : Prover) (phi delta : ℕ) (g : Ascending w path x phi delta) (v : List ℕ) (r : ControlFlow Prover Ascent) : Type 0 where
  pub way : Way r g.rule g.side v path g.ps g.whole
  pub less : left r < suc x.depth
  pub past : Beyond w v

abbrev pub Ascends : List ℕ → List ℕ → Ascent → List ℕ → ControlFlow Prover Ascent → Type 0
Ascends w path k v r = (g : Ascending w path k.prover k.bounds.phi k.bounds.delta) → Ascended w path k.prover k.bounds.phi k.bounds.delta g v r
