-- The checks of some calls, computed. Rests on Checks and on the rules' records E, W, D and FA.
use Rattle.std.specs.Prelude.{◌≡◌, refl, List, [], ◌∷◌, ◌++◌, ℕ, replicate, take}
use Rattle.std.specs.Float.{binary64}
use Rattle.std.specs.Float.Ieee.{odd, units, of_fields, of_bits}
use Rattle.rules.specs.Rules.{has_line, state, board, board_states, game_state}
use Rattle.rules.specs.Record.{bit_at, position_of, position_refusal, refusal_to6, impossible_choice, refusal}
use Rattle.rules.specs.Refusals.{first_refusal}
use Rattle.rules.specs.Examples.{record21, E, W, D, FA}
use Rattle.passes.specs.Passes.{total}
use Rattle.stay.specs.declared.Stay.TheVariants.{Off, Margin}
use Rattle.games_checks.specs.Checks.{number_refusal, refusals, earlier, earliest, lowest, common, shares_of, settings_refusal}

-- E with its last bit set, which check 2 refuses; a lone X with X to move, which 3 does; a board with a line of each side, which 4 does; D with a done target, which 6 does.
-- FA is refused by 22
abbrev bit : List ℕ
bit = record21 0x780000000000000000000000000000000000000001

abbrev lone : List ℕ
lone = record21 0x7A0000000000000000000000000000000000000000

abbrev lines : List ℕ
lines = record21 0x7AB500000000000000000000000000000000000000

abbrev done : List ℕ
done = record21 0x02B400AC0054001500054000A8002A000A80054000

-- The number of the check that refuses a record, and the game
abbrev Names : (bytes : List ℕ) (number index : ℕ) → Type 0
Names bytes number index = (earliest (refusals bytes) ≡ number) × (lowest number (refusals bytes) ≡ index)

-- Eight shares; the checks of a pool with so many nodes and n games, with limit 0
abbrev shares : List ℕ
shares = 5 ∷ 6 ∷ 7 ∷ 18446744073709551615 ∷ 0 ∷ 0 ∷ 0 ∷ 3000001 ∷ []

abbrev settings : (nodes n rule allowance interval : ℕ) → ℕ
settings nodes n rule allowance interval = settings_refusal nodes n (shares_of shares n) (common rule 0 allowance interval Off)

-- And of a margin given by its bits, with two games in two nodes
abbrev staying : (allowance interval bits : ℕ) → ℕ
staying allowance interval bits = settings_refusal 2 2 (shares_of shares 2) (common 1 0 allowance interval (Margin (of_bits binary64 bits)))

-- Each field is a case.
pub record ChecksCases : Type 0 where
  -- no byte; one record, one short and one long; eight records and nine
  pub empty : number_refusal [] ≡ 20
  pub one : number_refusal E ≡ 0
  pub one_short : number_refusal (take 20 E) ≡ 1
  pub one_long : number_refusal (E ++ (0 ∷ [])) ≡ 1
  pub eight : number_refusal (replicate 168 0) ≡ 0
  pub nine : number_refusal (replicate 189 0) ≡ 20
  pub nine_long : number_refusal (replicate 190 0) ≡ 1
  -- the earliest check first, then the lowest game
  pub all_load : earliest (refusals (E ++ W ++ D ++ E)) ≡ 0
  pub lone_game : Names (E ++ W ++ lone) 3 2
  pub earlier_check : Names (lone ++ E ++ bit) 2 2
  pub lower_game : Names (E ++ lone ++ lines ++ lone) 3 1
  pub three_checks : Names (lines ++ lone ++ bit ++ bit) 2 2
  -- 22 after 6
  pub lone_choice : Names (E ++ FA ++ FA) 22 1
  pub choice_after_6 : Names (FA ++ done ++ FA) 6 1
  -- a part of no node and of one; the whole pool
  pub part_0 : settings 2 3 1 18 1 ≡ 8
  pub part_1 : settings 3 3 1 18 1 ≡ 0
  pub whole_most : settings 16777216 3 1 18 1 ≡ 0
  pub whole_over : settings 16777217 3 1 18 1 ≡ 9
  -- the ranges, with the largest and one above
  pub rule_3 : settings 3 3 3 18 1 ≡ 10
  pub interval_0 : settings 3 3 1 18 0 ≡ 10
  pub interval_at_most : settings 3 3 1 18 1000000 ≡ 0
  pub interval_over : settings 3 3 1 18 1000001 ≡ 10
  pub allowance_most : settings 3 3 1 3000000 1 ≡ 0
  pub allowance_over : settings 3 3 1 3000001 1 ≡ 10
  pub share_over : settings 4 4 1 3000000 1 ≡ 10
  -- shares past the last game are not read; those of the games sum to the allowance, and to one above
  pub sum_equal : settings 2 2 1 11 1 ≡ 0
  pub sum_above : settings 2 2 1 10 1 ≡ 20
  -- 9 before 10, and 10 before 20
  pub pool_first : settings 16777217 3 3 0 0 ≡ 9
  pub range_first : settings 3 3 3 0 1 ≡ 10
  -- margins 1/4 and 1/512; 10 before 21, and 21 before 20
  pub margin_quarter : staying 11 1 0x3FD0000000000000 ≡ 0
  pub margin_half_step : staying 11 1 0x3F60000000000000 ≡ 21
  pub range_before_margin : staying 11 0 0x3F60000000000000 ≡ 10
  pub margin_before_sum : staying 10 1 0x3F60000000000000 ≡ 21

pub checks_cases : ChecksCases
unfolding has_line state board board_states game_state bit_at position_of position_refusal refusal_to6 impossible_choice refusal first_refusal total number_refusal earlier earliest
    lowest settings_refusal odd units of_fields of_bits
checks_cases = record {
  empty = refl;
  one = refl;
  one_short = refl;
  one_long = refl;
  eight = refl;
  nine = refl;
  nine_long = refl;
  all_load = refl;
  lone_game = (refl, refl);
  earlier_check = (refl, refl);
  lower_game = (refl, refl);
  three_checks = (refl, refl);
  lone_choice = (refl, refl);
  choice_after_6 = (refl, refl);
  part_0 = refl;
  part_1 = refl;
  whole_most = refl;
  whole_over = refl;
  rule_3 = refl;
  interval_0 = refl;
  interval_at_most = refl;
  interval_over = refl;
  allowance_most = refl;
  allowance_over = refl;
  share_over = refl;
  sum_equal = refl;
  sum_above = refl;
  pool_first = refl;
  range_first = refl;
  margin_quarter = refl;
  margin_half_step = refl;
  range_before_margin = refl;
  margin_before_sum = refl;
}
