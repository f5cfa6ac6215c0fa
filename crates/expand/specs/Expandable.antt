-- Step 4 as a whole: what expand asks for, and what it comes to. Rests on the plain machine and on prover's states in words.
use Rattle.std.specs.Prelude.{◌≡◌, false, ℕ, ◌+◌, ◌-◌, ◌≤◌, ◌<◌, min}
use mathlib.Core.List.{List, Memᴰ}
use Rattle.rules.specs.Rules.{Player, Position, legal_moves}
use Rattle.rules.specs.Record.{side_bit}
use Rattle.machine.specs.Tree.{u32_max, none, size, least_delta, sum_phi}
use Rattle.machine.specs.Machine.{State, live, children, expand}
use Rattle.plain.specs.Plain.{game}
use Rattle.words.specs.Words.{NONE, PACKED, FIRST, word, set_word, capacity, Beyond}
use Rattle.node_pool.specs.declared.Vacant.{Vacant}
use Rattle.prover.specs.declared.Prover.{Prover}
use Rattle.prover.specs.declared.Ascent.{Ascent}
use Rattle.prover.specs.Stands.{Stands}
use Rattle.expand.specs.declared.Made.{Made}

-- A counter below this has room for a pool's nodes more
abbrev pub counter_max : ℕ
counter_max = 9223372036854775808

-- A leaf stands at place x .depth of the path. It is not expanded, it has a legal move, and for each child that step 4 makes a node is free
pub record Expandable (w path ps : List ℕ) (x : Prover) (rule root : ℕ) : Type 0 where
  pub side : Player
  pub at : State Position
  pub root_is : root ≡ side_bit side
  pub stands : Stands rule side w path ps x at
  pub shut : at.node.expanded ≡ false
  pub bare : at.below ≡ none
  pub move : ℕ
  pub legal : Memᴰ move (legal_moves at.node.pos)
  pub room : size (children (game rule side) at.node.pos) ≤ capacity w - live at.counts
  pub deep : x.depth < 81
  pub few_allocated : x.pool.allocated < counter_max
  pub few_expanded : x.expanded < counter_max

-- The plain machine's step 4 is done; and the numbers that step 5 works out for the leaf
pub record Expansion (rule : ℕ) (side : Player) (at : State Position) (w path ps v : List ℕ) (r : Ascent) : Type 0 where
  pub stands : Stands rule side v path ps r.prover (expand (game rule side) at)
  pub phi_is : r.bounds.phi ≡ least_delta (children (game rule side) at.node.pos)
  pub delta_is : r.bounds.delta ≡ min (sum_phi (children (game rule side) at.node.pos)) u32_max
  pub past : Beyond w v

abbrev pub Expands : List ℕ → List ℕ → List ℕ → Prover → ℕ → ℕ → List ℕ → Ascent → Type 0
Expands w path ps x rule root v r = (g : Expandable w path ps x rule root) → Expansion rule g.side g.at w path ps v r

-- No child is made
pub record NoneMade (vacant : Vacant) (m : Made) : Type 0 where
  pub head_is : m.siblings.vacant.head.0 ≡ vacant.head.0
  pub used_is : m.siblings.vacant.used ≡ vacant.used
  pub made_is : m.siblings.made ≡ 0
  pub last_is : m.siblings.last.0 ≡ NONE
  pub phi_is : m.phi ≡ u32_max
  pub delta_is : m.delta ≡ 0
  pub ended_is : m.ended ≡ false

-- The search's state with so many children made
abbrev pub counted : Prover → Made → Prover
counted x m = record {
  depth = x.depth;
  pool = record { vacant = m.siblings.vacant; allocated = x.pool.allocated + m.siblings.made; freed = x.pool.freed };
  proved = x.proved;
  disproved = x.disproved;
  expanded = x.expanded + 1;
}

-- The words with node i marked as expanded, its children from `first` on
abbrev pub attached : List ℕ → ℕ → ℕ → List ℕ
attached w i first = set_word (set_word w i PACKED (word w i PACKED + 536870912)) i FIRST first
