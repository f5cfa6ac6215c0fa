-- What proof and disproof of an Unknown mean: sets of open leaves of the machine's tree, and what the root comes to when they are all taken as True, or all as False.
-- Definitions only, in the field's terms: proof set and disproof set. Rests on Machine and on the rules' tests of lists.
use Rattle.std.specs.Prelude.{◌≡◌, Bool, true, false, cond, ℕ, ◌≤◌, length}
use mathlib.Core.List.{List, [], ◌∷◌, ◌++◌, map, Memᴰ}
use Rattle.rules.specs.Rules.{any, all, same_bytes}
use Rattle.machine.specs.Game.{Game, Distinct}
use Rattle.machine.specs.Tree.{Node, solved, proof_of, disproof_of, Children, none, child}
use Rattle.machine.specs.Machine.{Verdict, True, False, Unknown, verdict_of}

-- THE OPEN LEAVES: the nodes that are neither solved nor expanded. Each is named by its line of play, the moves that lead to it from the root, so a position that two lines
-- lead to is two leaves
abbrev pub Line : Type 0
Line = List ℕ

module _ {Pos : Type 0} where
  -- At a node and below it, given those below: none if it is solved, those below if it is expanded, otherwise the node itself, named by no move
  unfoldable pub lines_at : Node Pos → List Line → List Line
  lines_at n below = cond (solved n) [] (cond n.expanded below ([] ∷ []))

  unfoldable pub lines_in : Children Pos → List Line  -- in a list of children: a child's lines begin with its move
  lines_in none = []
  lines_in (child n b ks) = map (λ l. n.move ∷ l) (lines_at n (lines_in b)) ++ lines_in ks

  unfoldable pub open_lines : Children Pos → List Line  -- of a tree, which is a list of one node, the root
  open_lines none = []
  open_lines (child n b ks) = lines_at n (lines_in b)

-- A set of leaves is a list of their lines; whether it has a line
unfoldable pub is_in : List Line → Line → Bool
is_in set l = any (same_bytes l) set

-- THREE VALUES, the machine's verdicts: Unknown is open
unfoldable pub is_true : Verdict → Bool
is_true True = true
is_true False = false
is_true Unknown = false

unfoldable pub is_false_verdict : Verdict → Bool
is_false_verdict True = false
is_false_verdict False = true
is_false_verdict Unknown = false

-- A node by its children. Where the root's side is to move one True child is enough for True, and all False make it False; where the other side is to move one False child
-- is enough for False, and all True make it True; else it is open
unfoldable pub from_children : (mine : Bool) → List Verdict → Verdict
from_children true vs = cond (any is_true vs) True (cond (all is_false_verdict vs) False Unknown)
from_children false vs = cond (any is_false_verdict vs) False (cond (all is_true vs) True Unknown)

module _ (G : Game) (v : Verdict) where
  -- The verdict of a node, given its children's, where some leaves are taken as v and the other open ones stay open; taken is asked by the moves from this node on. A solved
  -- node has the verdict of its numbers, also if all below it was freed; an expanded one what its children make of it; an open leaf is v if it is taken, else open
  unfoldable pub verdict_at : (taken : Line → Bool) → Node G.Pos → List Verdict → Verdict
  verdict_at taken n below =
      cond (solved n) (verdict_of (proof_of G n) (disproof_of G n)) (cond n.expanded (from_children (G.mine n.pos) below) (cond (taken []) v Unknown))

  unfoldable pub verdicts_in : (taken : Line → Bool) → Children G.Pos → List Verdict  -- of a list of children
  verdicts_in taken none = []
  verdicts_in taken (child n b ks) = let onward : Line → Bool = λ l. taken (n.move ∷ l) in verdict_at onward n (verdicts_in onward b) ∷ verdicts_in taken ks

  unfoldable pub root_verdict : List Line → Children G.Pos → Verdict  -- the root's, with a set taken as v
  root_verdict set none = Unknown
  root_verdict set (child n b ks) = verdict_at (is_in set) n (verdicts_in (is_in set) b)

  -- A proof set (v is True), or a disproof set (v is False): open leaves, none of them twice, that all taken as v, the rest left open, make the root v
  pub record Settles (tree : Children G.Pos) (set : List Line) : Type 0 where
    pub each_open : (l : Line) → Memᴰ l set → Memᴰ l (open_lines tree)
    pub none_twice : Distinct set
    pub makes : root_verdict set tree ≡ v

  -- k is the size of the smallest: there is one of that size, and none with fewer
  pub record Smallest (tree : Children G.Pos) (k : ℕ) : Type 0 where
    pub set : List Line
    pub settles : Settles tree set
    pub size_is : length set ≡ k
    pub no_fewer : (other : List Line) → Settles tree other → k ≤ length other

-- What two numbers mean of a tree: proof is the size of its smallest proof set, disproof that of its smallest disproof set
pub record Meaning (G : Game) (tree : Children G.Pos) (proof disproof : ℕ) : Type 0 where
  pub proof_is : Smallest G True tree proof
  pub disproof_is : Smallest G False tree disproof
