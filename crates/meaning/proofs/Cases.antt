-- Computed cases of Meaning on toy trees, which tell its definitions from others: which sets are the smallest, found by trying all, the smaller ones first. Rests on Meaning, on
-- Verdicts for the two verdicts by a Boolean, and on the machine's toys.
use Rattle.std.specs.Prelude.{◌≡◌, refl, List, [], ◌∷◌, ◌++◌, map, Bool, true, false, not, ℕ, zero, suc, ◌/◌, ◌%◌, length}
use Rattle.rules.specs.Rules.{keep}
use Rattle.machine.specs.Game.{Game}
use Rattle.machine.specs.Tree.{Children}
use Rattle.machine.specs.Machine.{Settings, Result, fields, tree_of, tree, standard, ends, Unknown}
use Rattle.machine.specs.Compute.{computed, settings, with_margin}
use Rattle.machine.proofs.Cases.{Toy, table, takes, heaps}
use Rattle.meaning.specs.Meaning.{Line, lines_at, lines_in, open_lines, is_in, is_true, is_false_verdict, from_children, verdict_at, verdicts_in, root_verdict}
use Rattle.meaning.proofs.Verdicts.{verdict_for, comes_to}

-- The sets of k of a list, those with its first member first; and of two lists the first that is not empty
unfoldable pub choose : {A : Type 0} → ℕ → List A → List (List A)
choose zero l = [] ∷ []
choose (suc k) [] = []
choose (suc k) (x ∷ l) = map (λ s. x ∷ s) (choose k l) ++ choose (suc k) l

unfoldable pub or_else : {A : Type 0} → List A → List A → List A
or_else [] later = later
or_else (x ∷ l) later = x ∷ l

-- From k on, for n sizes: the sets of the first size at which one passes a test
unfoldable pub first_size : {A : Type 0} → (List A → Bool) → List A → (n k : ℕ) → List (List A)
first_size test l zero k = []
first_size test l (suc n) k = or_else (keep test (choose k l)) (first_size test l n (suc k))

-- The tree where a search ends, its open leaves, and the smallest of their sets that make the root True, or False
unfoldable end_tree : (G : Game) → Settings → G.Pos → Children G.Pos
unfolding computed tree_of tree
end_tree G S p = tree (ends G (standard G S.stay) S p).0

unfoldable pub leaves : (G : Game) → Settings → G.Pos → List Line
unfolding end_tree lines_at lines_in open_lines
leaves G S p = open_lines (end_tree G S p)

unfoldable pub smallest : (G : Game) → Settings → G.Pos → Bool → List (List Line)
unfolding end_tree leaves is_in is_true is_false_verdict from_children verdict_at verdicts_in root_verdict choose or_else first_size
smallest G S p t = first_size (λ set. comes_to t (root_verdict G (verdict_for t) set (end_tree G S p))) (leaves G S p) (suc (length (leaves G S p))) 0

-- A line written as a number, a digit a move, four at most; the empty line is 0
unfoldable pub line_of : (most n : ℕ) → Line → Line
line_of zero n l = l
line_of (suc k) zero l = l
line_of (suc k) (suc n) l = line_of k (suc n / 10) (suc n % 10 ∷ l)

unfoldable pub written : List ℕ → List Line
written ns = map (λ n. line_of 4 n []) ns

-- A search's result, its open leaves, the smallest sets for True and those for False
abbrev pub Case : (G : Game) → Settings → G.Pos → Result → List ℕ → List (List ℕ) → List (List ℕ) → Type 0
Case G S p r open-leaves for-true for-false =
    (computed G S p ≡ r) × (leaves G S p ≡ written open-leaves) × (smallest G S p true ≡ map written for-true) × (smallest G S p false ≡ map written for-false)

abbrev root_x : Toy
root_x = record { at = 0; x = true }

-- X has three moves, O two replies to each, and all six positions are open
abbrev three_two : Game
three_two = table ((1 ∷ 2 ∷ 3 ∷ []) ∷ (4 ∷ 5 ∷ []) ∷ (6 ∷ 7 ∷ []) ∷ (8 ∷ 9 ∷ []) ∷ (10 ∷ []) ∷ (10 ∷ []) ∷ (10 ∷ []) ∷ (10 ∷ []) ∷ (10 ∷ []) ∷ (10 ∷ []) ∷ []) []

-- The same, but the first reply to move 3 wins for O, so that the second is not made
abbrev early_ended : Game
early_ended = table ((1 ∷ 2 ∷ 3 ∷ []) ∷ (4 ∷ 5 ∷ []) ∷ (6 ∷ 7 ∷ []) ∷ (8 ∷ 9 ∷ []) ∷ (10 ∷ []) ∷ (10 ∷ []) ∷ (10 ∷ []) ∷ (10 ∷ []) ∷ []) []

-- Two moves of X; after the second play is forced, and X loses
abbrev forced : Game
forced = table ((1 ∷ 2 ∷ []) ∷ (5 ∷ 6 ∷ 7 ∷ []) ∷ (3 ∷ []) ∷ (4 ∷ []) ∷ [] ∷ (8 ∷ []) ∷ (8 ∷ []) ∷ (8 ∷ []) ∷ []) []

-- One move of X and three replies, the first of which is True at once
abbrev one_reply_true : Game
one_reply_true = table ((1 ∷ []) ∷ (2 ∷ 3 ∷ 4 ∷ []) ∷ [] ∷ (5 ∷ []) ∷ (5 ∷ []) ∷ []) (false ∷ false ∷ true ∷ [])

abbrev no_budget : Settings
no_budget = settings 100 1000 0 10

abbrev two : Settings
two = settings 100 1000 2 10

abbrev four : Settings
four = settings 100 1000 4 10

abbrev five : Settings
five = settings 1000 1000 5 10

abbrev small_pool : Settings
small_pool = settings 22 1000 1000 10

pub record MeaningCases : Type 0 where
  -- proof 2, disproof 3: for True both replies to one move, for False a reply to each
  pub two_and_three : Case three_two four root_x (fields Unknown 2 3 10 0 0 0 4 1)
      (39 ∷ 38 ∷ 27 ∷ 26 ∷ 15 ∷ 14 ∷ [])
      ((39 ∷ 38 ∷ []) ∷ (27 ∷ 26 ∷ []) ∷ (15 ∷ 14 ∷ []) ∷ [])
      ((39 ∷ 27 ∷ 15 ∷ []) ∷ (39 ∷ 27 ∷ 14 ∷ []) ∷ (39 ∷ 26 ∷ 15 ∷ []) ∷ (39 ∷ 26 ∷ 14 ∷ []) ∷ (38 ∷ 27 ∷ 15 ∷ []) ∷ (38 ∷ 27 ∷ 14 ∷ []) ∷ (38 ∷ 26 ∷ 15 ∷ []) ∷ (38 ∷ 26 ∷ 14 ∷ []) ∷ [])
  -- an expansion that ended early: the node after move 3 is False, its one child freed, and it is in no set
  pub early_end : Case early_ended four root_x (fields Unknown 2 2 9 1 0 1 4 1)
      (27 ∷ 26 ∷ 15 ∷ 14 ∷ [])
      ((27 ∷ 26 ∷ []) ∷ (15 ∷ 14 ∷ []) ∷ [])
      ((27 ∷ 15 ∷ []) ∷ (27 ∷ 14 ∷ []) ∷ (26 ∷ 15 ∷ []) ∷ (26 ∷ 14 ∷ []) ∷ [])
  -- a freed part, two nodes deep: what is left are the three replies to move 1
  pub freed_part : Case forced four root_x (fields Unknown 3 1 8 2 0 2 4 1)
      (17 ∷ 16 ∷ 15 ∷ [])
      ((17 ∷ 16 ∷ 15 ∷ []) ∷ [])
      ((17 ∷ []) ∷ (16 ∷ []) ∷ (15 ∷ []) ∷ [])
  -- the reply that is True is in no set, but it counts: the two others are enough
  pub solved_counts : Case one_reply_true two root_x (fields Unknown 2 1 5 0 0 0 2 1)
      (14 ∷ 13 ∷ [])
      ((14 ∷ 13 ∷ []) ∷ [])
      ((14 ∷ []) ∷ (13 ∷ []) ∷ [])
  -- the root alone, before any expansion: its line is the empty one
  pub alone : Case one_reply_true no_budget root_x (fields Unknown 1 1 1 0 0 0 0 1)
      (0 ∷ [])
      ((0 ∷ []) ∷ [])
      ((0 ∷ []) ∷ [])
  -- eight stones, a pool that is short, after a proved part and a disproved one were freed
  pub short_pool : Case (heaps true (λ x. not x)) small_pool (record { at = 8; x = true }) (fields Unknown 2 3 24 3 1 1 12 2)
      (2211 ∷ 212 ∷ 211 ∷ 1222 ∷ 1221 ∷ 1212 ∷ 1211 ∷ 112 ∷ 111 ∷ [])
      ((2211 ∷ 212 ∷ []) ∷ (2211 ∷ 211 ∷ []) ∷ [])
      ((2211 ∷ 1222 ∷ 1212 ∷ []) ∷ (2211 ∷ 1222 ∷ 1211 ∷ []) ∷ (2211 ∷ 1221 ∷ 1212 ∷ []) ∷ (2211 ∷ 1221 ∷ 1211 ∷ []) ∷ (2211 ∷ 112 ∷ 111 ∷ []) ∷ [])
  -- three expansions with margin 1: the search stays with move 3, which is False then; with off it would have looked into move 2
  pub staying : Case three_two (with_margin 256 (settings 100 1000 3 10)) root_x (fields Unknown 1 2 7 3 0 2 3 1)
      (2 ∷ 1 ∷ [])
      ((2 ∷ []) ∷ (1 ∷ []) ∷ [])
      ((2 ∷ 1 ∷ []) ∷ [])
  -- nine stones, O at the root
  pub root_o : Case (heaps false (λ x. not x)) five (record { at = 9; x = false }) (fields Unknown 2 3 11 0 0 0 5 1)
      (222 ∷ 221 ∷ 212 ∷ 211 ∷ 12 ∷ 11 ∷ [])
      ((222 ∷ 212 ∷ []) ∷ (222 ∷ 211 ∷ []) ∷ (221 ∷ 212 ∷ []) ∷ (221 ∷ 211 ∷ []) ∷ (12 ∷ 11 ∷ []) ∷ [])
      ((222 ∷ 221 ∷ 12 ∷ []) ∷ (222 ∷ 221 ∷ 11 ∷ []) ∷ (212 ∷ 211 ∷ 12 ∷ []) ∷ (212 ∷ 211 ∷ 11 ∷ []) ∷ [])

pub meaning_cases : MeaningCases
unfolding computed leaves smallest takes line_of written
meaning_cases = record {
  two_and_three = (refl, refl, refl, refl);
  early_end = (refl, refl, refl, refl);
  freed_part = (refl, refl, refl, refl);
  solved_counts = (refl, refl, refl, refl);
  alone = (refl, refl, refl, refl);
  short_pool = (refl, refl, refl, refl);
  staying = (refl, refl, refl, refl);
  root_o = (refl, refl, refl, refl);
}
