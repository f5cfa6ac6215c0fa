-- The searches among the cases of MANUAL, 'Positions to try', as the plain machine's results: those marked *, as one lemma, and the other two of E.
-- E, W and D are the rules' (Examples; Cases there has them cell by cell). Rests on Plain; everything is computed.
use Rattle.std.specs.Prelude.{◌≡◌, refl, List, ℕ}
use Rattle.rules.specs.Rules.{has_line, state, board, board_states, game_state, play, legal_moves, drawn, final_value}
use Rattle.rules.specs.Record.{bit_at, position_of}
pub use Rattle.rules.specs.Examples.{record21, E, W, D}
pub use Rattle.machine.specs.Machine.{fields}
use Rattle.machine.specs.Machine.{Settings, Result, True, False, Unknown}
pub use Rattle.machine.specs.Compute.{settings, with_margin}
use Rattle.machine.specs.Compute.{computed}
use Rattle.plain.specs.Plain.{policy_of, search_of, plain_search}

-- The program judge's limit and interval, with a pool and a budget; and judge's own.
abbrev pub judge_with : ℕ → ℕ → Settings
judge_with pool budget = settings pool 18446744073709551615 budget 10000

abbrev pub judge : Settings
judge = judge_with 3276 100000

-- The plain machine's search of a record with every definition open, so that it computes.
unfoldable pub computed_search : ℕ → Settings → List ℕ → Result
unfolding has_line state board board_states game_state play legal_moves drawn final_value bit_at position_of computed policy_of search_of
computed_search rule S bytes = plain_search rule S bytes

-- A case that names no rule: the result under each of the three.
abbrev pub UnderEach : Settings → List ℕ → Result → Type 0
UnderEach S bytes r = (plain_search 0 S bytes ≡ r) × (plain_search 1 S bytes ≡ r) × (plain_search 2 S bytes ≡ r)

pub record Starred : Type 0 where
  pub E_spent : UnderEach (judge_with 3276 0) E (fields Unknown 1 1 1 0 0 0 0 1)
  pub E_fits : UnderEach (judge_with 82 1) E (fields Unknown 1 81 82 0 0 0 1 1)
  pub E_short : UnderEach (judge_with 81 1) E (fields Unknown 1 1 1 0 0 0 0 2)
  pub W_won : UnderEach (judge_with 6 1) W (fields True 0 2147483648 2 1 1 0 1 0)
  pub W_five : UnderEach (judge_with 5 1) W (fields True 0 2147483648 2 1 1 0 1 0)
  pub W_two : UnderEach (judge_with 2 1) W (fields True 0 2147483648 2 1 1 0 1 0)
  pub W_short : UnderEach (judge_with 1 1) W (fields Unknown 1 1 1 0 0 0 0 2)
  pub D_rule0 : plain_search 0 judge D ≡ fields False 2147483648 0 1 0 0 0 0 0
  pub D_rule1 : plain_search 1 judge D ≡ fields False 2147483648 0 1 0 0 0 0 0
  pub D_rule2 : plain_search 2 judge D ≡ fields True 0 2147483648 1 0 0 0 0 0

pub starred : Starred
unfolding computed_search
starred = record {
  E_spent = (refl, refl, refl);
  E_fits = (refl, refl, refl);
  E_short = (refl, refl, refl);
  W_won = (refl, refl, refl);
  W_five = (refl, refl, refl);
  W_two = (refl, refl, refl);
  W_short = (refl, refl, refl);
  D_rule0 = refl;
  D_rule1 = refl;
  D_rule2 = refl;
}

-- E after two expansions, and with one node too few for the second.
pub E_two : UnderEach (judge_with 90 2) E (fields Unknown 1 81 90 0 0 0 2 1)
unfolding computed_search
E_two = (refl, refl, refl)

E_one : UnderEach (judge_with 89 2) E (fields Unknown 1 81 82 0 0 0 1 2)
unfolding computed_search
E_one = (refl, refl, refl)
