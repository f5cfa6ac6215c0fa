-- The plain machine (MANUAL, Search): its state, its steps under their numbers, the loop and the result. Rests on Game and Tree.
use Rattle.std.specs.Prelude.{List, [], ◌∷◌, Bool, true, false, not, ◌&&◌, cond, ℕ, zero, suc, ◌+◌, ◌*◌, ◌-◌, ◌%◌, min, eqb, ltb, leb}
use Rattle.machine.specs.Game.{Game}
use Rattle.machine.specs.Tree.{Node, leaf, solved, proof_of, disproof_of, u32_max, Children, none, child, size, least_delta, sum_phi, append}

-- Staying on a line (MANUAL): off, or with a margin of so many 256ths
pub data Stay : Type 0 where
  off : Stay
  margin : (k : ℕ) → Stay

-- What a search is given; of the pool, its number of nodes and never its words. The steps read all but stay, which the policy is made from
abbrev pub Settings : Type 0
Settings = record { pool : ℕ; limit : ℕ; budget : ℕ; interval : ℕ; stay : Stay }

abbrev pub Counts : Type 0  -- what the machine counts
Counts = record { allocated : ℕ; freed : ℕ; proved : ℕ; disproved : ℕ; expanded : ℕ }

abbrev pub counts : ℕ → ℕ → ℕ → ℕ → ℕ → Counts  -- the five in that order
counts a f p d e = record { allocated = a; freed = f; proved = p; disproved = d; expanded = e }

unfoldable pub live : Counts → ℕ  -- allocated minus freed
live c = c.allocated - c.freed

abbrev pub Ancestor : Type 0 → Type 0  -- a node above the current one, with its children before and after the way down
Ancestor Pos = record { node : Node Pos; before : Children Pos; after : Children Pos }

abbrev pub State : Type 0 → Type 0  -- the counts, and the tree seen from the current node: those above, nearest first, itself, and its children
State Pos = record { counts : Counts; above : List (Ancestor Pos); node : Node Pos; below : Children Pos }

abbrev pub state : {Pos : Type 0} → Counts → List (Ancestor Pos) → Node Pos → Children Pos → State Pos
state c up n ks = record { counts = c; above = up; node = n; below = ks }

unfoldable pub root_of : {Pos : Type 0} → List (Ancestor Pos) → Node Pos → Node Pos
root_of [] n = n
root_of (a ∷ up) n = root_of up a.node

unfoldable pub root : {Pos : Type 0} → State Pos → Node Pos  -- the last of those above, or the current node
root s = root_of s.above s.node

-- The whole tree, as a list of one node, the root
unfoldable pub tree_of : {Pos : Type 0} → List (Ancestor Pos) → Node Pos → Children Pos → Children Pos
tree_of [] n ks = child n ks none
tree_of (a ∷ up) n ks = tree_of up a.node (append a.before (child n ks a.after))

unfoldable pub tree : {Pos : Type 0} → State Pos → Children Pos
tree s = tree_of s.above s.node s.below

unfoldable pub start : (G : Game) → G.Pos → State G.Pos  -- the root evaluated, allocated 1 (255: no move led to it)
start G p = state (counts 1 0 0 0 0) [] (leaf G p 255) none

-- What the steps leave open: the child that step 2 takes, by its place in the list, and how many nodes step 3 asks for at a leaf
abbrev pub Policy : Game → Type 0
Policy G = record { select : Node G.Pos → Children G.Pos → ℕ; need : G.Pos → ℕ }

unfoldable pub first_that : {Pos : Type 0} → (Node Pos → Bool) → Children Pos → ℕ  -- the place of the first child that passes a test
first_that test none = 0
first_that test (child n b ks) = elim (test n) [ true ↦ 0 | false ↦ suc (first_that test ks) ]

abbrev pub has_delta : {Pos : Type 0} → ℕ → Node Pos → Bool
has_delta x n = eqb n.delta x

abbrev pub first_with : {Pos : Type 0} → ℕ → Children Pos → ℕ
first_with x ks = first_that (has_delta x) ks

abbrev pub has_move : {Pos : Type 0} → ℕ → Node Pos → Bool
has_move x n = eqb n.move x

unfoldable pub holds_at : {Pos : Type 0} → (Node Pos → Bool) → Children Pos → ℕ → Bool  -- there is a child at the place, and it passes the test
holds_at test none i = false
holds_at test (child n b ks) zero = test n
holds_at test (child n b ks) (suc i) = holds_at test ks i

unfoldable pub within_margin : {Pos : Type 0} → ℕ → ℕ → Node Pos → Bool  -- unsolved, and its delta is at most phi times (256 + k) / 256
within_margin k phi m = not (solved m) && leb (256 * m.delta) (phi * (256 + k))

-- The child that step 2 takes. Off: the first listed child whose delta equals the node's phi. With a margin: the child that the remembered move names, if it
-- is within the margin; otherwise as with off
unfoldable pub choice : {Pos : Type 0} → Stay → Node Pos → Children Pos → ℕ
choice off n ks = first_with n.phi ks
choice (margin k) n ks =
    let again = first_that (has_move n.remembered) ks in
    elim (holds_at (within_margin k n.phi) ks again) [ true ↦ again | false ↦ first_with n.phi ks ]

abbrev pub remember : {Pos : Type 0} → Node Pos → ℕ → Node Pos  -- the move x is the one last taken from n
remember n x = record { pos = n.pos; phi = n.phi; delta = n.delta; move = n.move; expanded = n.expanded; remembered = x }

-- Step 2: to the child at a place of the list, past those before it, its move remembered; and so on from the current node down while expanded
unfoldable pub into : {Pos : Type 0} → Counts → List (Ancestor Pos) → Node Pos → Children Pos → Children Pos → ℕ → State Pos
into c up n before none i = state c up n before
into c up n before (child m b ks) zero = state c (record { node = remember n m.move; before = before; after = ks } ∷ up) m b
into c up n before (child m b ks) (suc i) = into c up n (append before (child m b none)) ks i

module _ (G : Game) (P : Policy G) where
  unfoldable pub down : State G.Pos → State G.Pos
  down s = into s.counts s.above s.node none s.below (P.select s.node s.below)

  unfoldable pub descend : ℕ → State G.Pos → State G.Pos
  descend zero s = s
  descend (suc k) s = elim s.node.expanded [ true ↦ descend k (down s) | false ↦ s ]

  unfoldable pub to_leaf : State G.Pos → State G.Pos  -- no way down is longer than what is left
  to_leaf s = descend (G.left s.node.pos) s

  unfoldable pub short : Settings → State G.Pos → Bool  -- step 3: fewer pool nodes are free than the leaf asks for
  short S s = ltb (S.pool - live s.counts) (P.need s.node.pos)

module _ (G : Game) where
  -- Step 4: one more is expanded. Children in move order, ending after the first with delta 0; listed last made first
  unfoldable pub make : G.Pos → List ℕ → Children G.Pos → Children G.Pos
  make p [] made = made
  make p (m ∷ ms) made =
      let new = leaf G (G.play p m) m in
      elim (eqb new.delta 0) [ true ↦ child new none made | false ↦ make p ms (child new none made) ]

  unfoldable pub children : G.Pos → Children G.Pos  -- all that step 4 makes
  children p = make p (G.moves p) none

  -- The choices of MANUAL, Search and Staying on a line, with a setting: `choice` in step 2; step 3 asks for as many nodes as step 4 makes
  unfoldable pub standard : Stay → Policy G
  standard y = record { select = λ n ks. choice y n ks; need = λ p. size (children p) }

  unfoldable pub opened : Node G.Pos → Node G.Pos  -- marked as expanded
  opened n = record { pos = n.pos; phi = n.phi; delta = n.delta; move = n.move; expanded = true; remembered = n.remembered }

  unfoldable pub expand : State G.Pos → State G.Pos
  expand s =
      let c = s.counts in
      let ks = children s.node.pos in
      state (counts (c.allocated + size ks) c.freed c.proved c.disproved (suc c.expanded)) s.above (opened s.node) ks

  -- Step 5, from the leaf upward: phi is the least child delta, delta the sum of child phis, held
  unfoldable pub renumber : Node G.Pos → Children G.Pos → Node G.Pos
  renumber n ks = record { pos = n.pos; phi = least_delta ks; delta = min (sum_phi ks) u32_max; move = n.move; expanded = n.expanded; remembered = n.remembered }

  unfoldable pub unchanged : Node G.Pos → Children G.Pos → Bool  -- both numbers are as they were
  unchanged n ks = eqb n.phi (renumber n ks).phi && eqb n.delta (renumber n ks).delta

  -- Changed: store; if solved, free all below, and count proved (proof 0) or disproved (disproof 0)
  unfoldable pub store : Counts → List (Ancestor G.Pos) → Node G.Pos → Children G.Pos → State G.Pos
  store c up n ks =
      let r = renumber n ks in
      let freed : ℕ = cond (solved r) (size ks) 0 in
      let proved : ℕ = cond (eqb (proof_of G r) 0) 1 0 in
      let disproved : ℕ = cond (eqb (disproof_of G r) 0) 1 0 in
      state (counts c.allocated (c.freed + freed) (c.proved + proved) (c.disproved + disproved) c.expanded) up r (cond (solved r) none ks)

  -- Unchanged: it becomes current. Changed: climb to the one above; a changed root is current
  unfoldable pub climb : List (Ancestor G.Pos) → Counts → Node G.Pos → Children G.Pos → State G.Pos
  climb [] c n ks = elim (unchanged n ks) [ true ↦ state c [] n ks | false ↦ store c [] n ks ]
  climb (a ∷ up) c n ks =
      let t = store c up n ks in
      let there = append a.before (child t.node t.below a.after) in
      elim (unchanged n ks) [ true ↦ state c (a ∷ up) n ks | false ↦ climb up t.counts a.node there ]

unfoldable pub round : (G : Game) → Policy G → State G.Pos → State G.Pos  -- steps 2, 4 and 5
round G P s = let t = expand G (to_leaf G P s) in climb G t.above t.counts t.node t.below

unfoldable pub over_limit : {Pos : Type 0} → Settings → State Pos → Bool  -- step 6: an interval-th expansion, and live exceeds the limit
over_limit S s = eqb (s.counts.expanded % S.interval) 0 && ltb S.limit (live s.counts)

pub data Verdict : Type 0 where
  True False Unknown : Verdict

unfoldable pub verdict_of : ℕ → ℕ → Verdict  -- proof 0 is True, disproof 0 False, else Unknown
verdict_of proof disproof = cond (eqb proof 0) True (cond (eqb disproof 0) False Unknown)

abbrev pub Result : Type 0  -- the nine fields, in the order in which they are printed
Result = record { verdict : Verdict; proof : ℕ; disproof : ℕ; allocated : ℕ; freed : ℕ; proved : ℕ; disproved : ℕ; expanded : ℕ; cause : ℕ }

abbrev pub fields : Verdict → ℕ → ℕ → ℕ → ℕ → ℕ → ℕ → ℕ → ℕ → Result  -- a result, written in that order
fields v p d a f x y e c = record { verdict = v; proof = p; disproof = d; allocated = a; freed = f; proved = x; disproved = y; expanded = e; cause = c }

module _ (G : Game) where
  unfoldable pub result : State G.Pos × ℕ → Result  -- of the last state, and of what stopped the loop; cause is 0 if the root is solved
  result e = let c = e.0.counts in let r = root e.0 in record {
    verdict = verdict_of (proof_of G r) (disproof_of G r);
    proof = proof_of G r;
    disproof = disproof_of G r;
    allocated = c.allocated;
    freed = c.freed;
    proved = c.proved;
    disproved = c.disproved;
    expanded = c.expanded;
    cause = cond (solved r) 0 e.1;
  }

  module _ (P : Policy G) (S : Settings) where
    -- The loop, while the root is unsolved: its last state, and the cause. k is the budget less expanded: step 1 stops where it is 0
    unfoldable pub run : ℕ → State G.Pos → State G.Pos × ℕ
    run zero s = (s, 1)
    run (suc k) s = elim (solved (root s)) [
      | true ↦ (s, 0)
      | false ↦ elim (short G P S (to_leaf G P s)) [
        | true ↦ (to_leaf G P s, 2)
        | false ↦ elim (over_limit S (round G P s)) [ true ↦ (round G P s, 3) | false ↦ run k (round G P s) ]
      ]
    ]

    unfoldable pub ends : G.Pos → State G.Pos × ℕ  -- where a search of p ends
    ends p = run S.budget (start G p)

    unfoldable pub search : G.Pos → Result
    search p = result (ends p)
