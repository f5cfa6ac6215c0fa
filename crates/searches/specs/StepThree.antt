-- What is promised of step 3, which needs the nodes that an expansion really takes: one record, of the calls' answers. Rests on Searches, Plain and machine's Needs, and on the rules'
-- Examples for W.
use Rattle.std.specs.Prelude.{◌≡◌, List, ℕ, ◌*◌, ◌≤◌}
use Rattle.rules.specs.Rules.{Player, Position}
use Rattle.rules.specs.Record.{position_of}
use Rattle.rules.specs.Examples.{W}
use Rattle.machine.specs.Tree.{size}
use Rattle.machine.specs.Machine.{Stay, Settings, Result, fields, True, Unknown, children, search}
use Rattle.machine.specs.Needs.{asking_for_moves}
use Rattle.plain.specs.Plain.{game, game_of, policy_of, record_sequences}
use Rattle.stay.specs.declared.Stay.TheVariants.{Off}
use Rattle.calls.specs.Calls.{last_rule}
use Rattle.searches.specs.Searches.{Limits, limits, nodes, settings, Answered, search_call, FullVerdict, Full, full_call}

-- The machine's result for a record where step 3 asks for as many nodes as the leaf has legal moves, and all else is the plain machine's.
unfoldable pub search_for_moves : ℕ → Settings → List ℕ → Result
search_for_moves rule S bytes = let p = position_of bytes in search (game_of rule p) (asking_for_moves (game_of rule p) S.stay) S p

-- A pool of so many nodes, in words; the program judge's limit, interval and off, with a budget.
abbrev pub pool : ℕ → ℕ
pool n = n * 5

abbrev pub judging : ℕ → Limits
judging budget = limits 18446744073709551615 budget 10000 Off

pub record StepThree : Type 0 where
  -- Step 3 needs the children that step 4 would make at that leaf, under every rule, for either side at the root and with every setting.
  pub needs : (rule : ℕ) (root : Player) (y : Stay) (p : Position) → (policy_of rule root y).need p ≡ size (children (game rule root) p)
  -- W, with budget 1, is answered with a pool of 2 nodes, and with 1 stops with cause 2.
  pub W_two : (rule : ℕ) → rule ≤ last_rule → search_call W (pool 2) rule (judging 1) ≡ Answered (fields True 0 2147483648 2 1 1 0 1 0)
  pub W_one : (rule : ℕ) → rule ≤ last_rule → search_call W (pool 1) rule (judging 1) ≡ Answered (fields Unknown 1 1 1 0 0 0 0 2)
  -- N nodes are still enough, where limit and budget are at least N too: for N up to 3,000,000, the largest budget.
  pub enough : (bytes : List ℕ) (words rule : ℕ) (L : Limits) (r : Result) → search_call bytes words rule L ≡ Answered r
      → record_sequences bytes ≤ nodes words → record_sequences bytes ≤ L.limit → record_sequences bytes ≤ L.budget → r.verdict ≡ Unknown → ⊥
  -- The machine that is compared with asks for a node for each legal move: by it W, which has five, stops at a pool of 5.
  pub W_for_moves : (rule : ℕ) → rule ≤ last_rule → search_for_moves rule (settings (pool 5) (judging 1)) W ≡ fields Unknown 1 1 1 0 0 0 0 2
  -- Only results with cause 2 have changed: any other is the same in all nine fields. So of search, and of each of the two results that full verdict carries.
  pub search_as_before : (bytes : List ℕ) (words rule : ℕ) (L : Limits) (r : Result) → search_call bytes words rule L ≡ Answered r
      → ((search_for_moves rule (settings words L) bytes).cause ≡ 2 → ⊥) → r ≡ search_for_moves rule (settings words L) bytes
  pub first_as_before : (bytes : List ℕ) (words : ℕ) (L : Limits) (v : FullVerdict) (r s : Result) → full_call bytes words L ≡ Full v r s
      → ((search_for_moves 1 (settings words L) bytes).cause ≡ 2 → ⊥) → r ≡ search_for_moves 1 (settings words L) bytes
  pub second_as_before : (bytes : List ℕ) (words : ℕ) (L : Limits) (v : FullVerdict) (r s : Result) → full_call bytes words L ≡ Full v r s
      → ((search_for_moves 2 (settings words L) bytes).cause ≡ 2 → ⊥) → s ≡ search_for_moves 2 (settings words L) bytes
