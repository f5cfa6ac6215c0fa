-- Two searches of MANUAL, Positions to try, that end Unknown, and which sets their numbers are the sizes of: A after five expansions, where a part was freed, and E after two.
-- Rests on UnknownMeans, on Cases for trying all sets, and on plain's cases; everything is computed.
use Rattle.std.specs.Prelude.{◌≡◌, refl, List, [], ◌∷◌, ◌++◌, map, Bool, true, false, ℕ, zero, suc, ◌/◌, ◌%◌, length, replicate}
use Rattle.rules.specs.Rules.{Position, move_of}
use Rattle.rules.specs.Record.{position_of}
use Rattle.machine.specs.Tree.{Children}
use Rattle.machine.specs.Machine.{Settings, tree_of, tree, Verdict, True, False, Unknown}
use Rattle.plain.specs.Plain.{game_of, plain_search}
use Rattle.plain.proofs.Cases.{E, fields, judge_with, computed_search, E_two}
use Rattle.plain.proofs.Oracle.{ending_x}
use Rattle.meaning.specs.Meaning.{Line, lines_at, lines_in, open_lines, is_in, is_true, is_false_verdict, from_children, verdict_at, verdicts_in, root_verdict}
use Rattle.meaning.specs.UnknownMeans.{last_tree}
use Rattle.meaning.proofs.Verdicts.{verdict_for, comes_to}
use Rattle.meaning.proofs.Cases.{choose, or_else, first_size}

-- The tree where a search under rule 0 ends, with every definition open
unfoldable pub computed_tree : Settings → List ℕ → Children Position
unfolding computed_search tree_of tree last_tree
computed_tree S bytes = last_tree 0 S bytes

-- The smallest sets of A's open leaves (ending_x) after five expansions
abbrev pub A_settings : Settings
A_settings = judge_with 12 5

unfoldable pub A_sets : Bool → List (List Line)
unfolding computed_tree lines_at lines_in open_lines is_in is_true is_false_verdict from_children verdict_at verdicts_in root_verdict choose or_else first_size
A_sets t = go (computed_tree A_settings ending_x)
  where
    go : Children Position → List (List Line)
    go tree = first_size (λ set. comes_to t (root_verdict (game_of 0 (position_of ending_x)) (verdict_for t) set tree)) (open_lines tree) 5 0

-- E's tree after two expansions, and its root's verdicts with each of some sets taken as v
abbrev pub E_settings : Settings
E_settings = judge_with 90 2

unfoldable pub E_with : Verdict → List (List Line) → List Verdict
unfolding computed_tree is_in is_true is_false_verdict from_children verdict_at verdicts_in root_verdict
E_with v sets = go (computed_tree E_settings E)
  where
    go : Children Position → List Verdict
    go t = map (λ set. root_verdict (game_of 0 (position_of E)) v set t) sets

-- Lines of one move, of the first n in move order, last first; and those of the replies to 88, which sends O to board 8
unfoldable pub first_moves : ℕ → List Line
first_moves zero = []
first_moves (suc n) = (move_of (n / 9) (n % 9) ∷ []) ∷ first_moves n

unfoldable pub replies : List Line
replies = map (λ m. 0x88 ∷ m ∷ []) (0x87 ∷ 0x86 ∷ 0x85 ∷ 0x84 ∷ 0x83 ∷ 0x82 ∷ 0x81 ∷ 0x80 ∷ [])

pub record RecordCases : Type 0 where
  -- A: move 65 was found False and all below it freed; it is in no set, but it counts. Proof 1: 53 or 33, X's moves, is enough. Disproof 3: both of them, and a reply to 64
  pub A_result : plain_search 0 A_settings ending_x ≡ fields Unknown 1 3 10 3 0 3 5 1
  pub A_leaves : open_lines (computed_tree A_settings ending_x) ≡ (0x64 ∷ 0x53 ∷ []) ∷ (0x64 ∷ 0x33 ∷ []) ∷ (0x53 ∷ []) ∷ (0x33 ∷ []) ∷ []
  pub A_true : A_sets true ≡ ((0x53 ∷ []) ∷ []) ∷ ((0x33 ∷ []) ∷ []) ∷ []
  pub A_false : A_sets false ≡ ((0x64 ∷ 0x53 ∷ []) ∷ (0x53 ∷ []) ∷ (0x33 ∷ []) ∷ []) ∷ ((0x64 ∷ 0x33 ∷ []) ∷ (0x53 ∷ []) ∷ (0x33 ∷ []) ∷ []) ∷ []
  -- E: 80 leaves of one move, and the eight replies to 88
  pub E_result : plain_search 0 E_settings E ≡ fields Unknown 1 81 90 0 0 0 2 1
  pub E_leaves : open_lines (computed_tree E_settings E) ≡ replies ++ first_moves 80
  -- proof 1: each of the 80 is a set by itself, and none of the replies is; nor is the empty set
  pub E_true : E_with True (map (λ l. l ∷ []) (replies ++ first_moves 80)) ≡ replicate 8 Unknown ++ replicate 80 True
  pub E_empty : E_with True ([] ∷ []) ≡ Unknown ∷ []
  -- disproof 81: the 80 with one reply, whichever; not the 80 alone, nor 79 of them with all replies
  pub E_false : E_with False (map (λ l. l ∷ first_moves 80) replies) ≡ replicate 8 False
  pub E_fewer : E_with False (first_moves 80 ∷ (replies ++ first_moves 79) ∷ []) ≡ Unknown ∷ Unknown ∷ []
  pub E_size : length ((0x88 ∷ 0x80 ∷ []) ∷ first_moves 80) ≡ 81

pub record_cases : RecordCases
unfolding computed_search A_sets E_with lines_at lines_in open_lines first_moves replies
record_cases = record {
  A_result = refl;
  A_leaves = refl;
  A_true = refl;
  A_false = refl;
  E_result = E_two.0;
  E_leaves = refl;
  E_true = refl;
  E_empty = refl;
  E_false = refl;
  E_fewer = refl;
  E_size = refl;
}
