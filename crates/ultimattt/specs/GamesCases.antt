-- Calls of games of MANUAL, Positions to try, and ours, computed from the definitions. Rests on Games and on plain's Cases for the records E, W and D.
use Rattle.std.specs.Prelude.{◌≡◌, refl, List, [], ◌∷◌, ◌++◌, ℕ, ◌-◌, ◌*◌, length, replicate, take}
use Rattle.rules.specs.Rules.{has_line, state, board, board_states, game_state}
use Rattle.rules.specs.Record.{bit_at, position_of, position_refusal, refusal_to6, impossible_choice, refusal}
use Rattle.rules.specs.Refusals.{first_refusal}
use Rattle.machine.specs.Machine.{Result, True, False, Unknown}
use Rattle.plain.proofs.Cases.{record21, E, W, D, fields, computed_search}
use Rattle.plain.proofs.Oracle.{ending_x}
use Rattle.passes.specs.Passes.{total, unspent_at}
use Rattle.stay.specs.declared.Stay.TheVariants.{Off}
use Rattle.searches.proofs.StayCases.{C, by_bits}
use Rattle.games_checks.specs.Checks.{Common, common, number_refusal, earlier, earliest, lowest, settings_refusal}
use Rattle.games.specs.Games.{no_result, refused, games_call}

-- The words of so many nodes; eight shares, the games' and then one that no check would pass.
abbrev words : ℕ → ℕ
words nodes = nodes * 5

abbrev eight : List ℕ → List ℕ
eight shares = shares ++ replicate (8 - length shares) 18446744073709551615

-- Rule 0 and no limit, with judge's interval.
abbrev pub unlimited : (allowance : ℕ) → Common
unlimited allowance = common 0 18446744073709551615 allowance 10000 Off

abbrev pub Judges : (bytes : List ℕ) (nodes : ℕ) (shares : List ℕ) → Common → List Result → Type 0
Judges bytes nodes shares C rs = games_call bytes (words nodes) (eight shares) C ≡ record { number = 0; index = 0; count = length rs; results = rs ++ replicate (8 - length rs) no_result }

abbrev pub Refuses : (bytes : List ℕ) (nodes : ℕ) (shares : List ℕ) → Common → (number index : ℕ) → Type 0
Refuses bytes nodes shares C number index = games_call bytes (words nodes) (eight shares) C ≡ refused number index

-- The manual's A, which X, to move, wins with seven expansions.
abbrev pub A : List ℕ
A = ending_x

-- Results of E after none and one expansion, of A after three, five and seven, and of W and D.
abbrev E_0 : Result
E_0 = fields Unknown 1 1 1 0 0 0 0 1

abbrev E_1 : Result
E_1 = fields Unknown 1 81 82 0 0 0 1 1

abbrev A_3 : Result
A_3 = fields Unknown 1 4 7 0 0 0 3 1

abbrev A_5 : Result
A_5 = fields Unknown 1 3 10 3 0 3 5 1

abbrev pub A_7 : Result
A_7 = fields True 0 2147483650 12 11 3 3 7 0

abbrev pub won : Result
won = fields True 0 2147483648 2 1 1 0 1 0

abbrev pub lost : Result
lost = fields False 2147483648 0 1 0 0 0 0 0

-- Each field is a case.
pub record GamesCases : Type 0 where
  -- one game: it has the whole pool and, in two passes, the whole allowance
  pub one : Judges E 82 (1 ∷ []) (unlimited 1) (E_1 ∷ [])
  pub one_goes_on : Judges A 12 (3 ∷ []) (unlimited 7) (A_7 ∷ [])
  -- D is solved on sight: with a share of 0 and an allowance of 0
  pub on_sight : Judges (D ++ E) 2 (0 ∷ 0 ∷ []) (unlimited 0) (lost ∷ E_0 ∷ [])
  -- the first game that its budget stopped takes all that is unspent; what it leaves goes to the next, here the same record
  pub three : Judges (A ++ W ++ A) 36 (3 ∷ 1 ∷ 3 ∷ []) (unlimited 9) (A_5 ∷ won ∷ A_3 ∷ [])
  pub twice : Judges (A ++ A) 24 (1 ∷ 1 ∷ []) (unlimited 12) (A_7 ∷ A_5 ∷ [])
  pub left_over : Judges (D ++ W ++ E) 250 (1 ∷ 1 ∷ 0 ∷ []) (unlimited 2) (lost ∷ won ∷ E_1 ∷ [])
  -- eight games, and a pool that eight do not divide
  pub eight_games : Judges (D ++ W ++ D ++ W ++ D ++ W ++ D ++ W) 23 (0 ∷ 1 ∷ 0 ∷ 1 ∷ 0 ∷ 0 ∷ 0 ∷ 0 ∷ []) (unlimited 3)
      (lost ∷ won ∷ lost ∷ won ∷ lost ∷ won ∷ lost ∷ fields Unknown 1 1 1 0 0 0 0 1 ∷ [])
  -- stopped by its part or by its limit in the first pass, a game does not go on
  pub part_short : Judges (A ++ W) 8 (5 ∷ 0 ∷ []) (unlimited 9) (fields Unknown 1 1 1 0 0 0 0 2 ∷ won ∷ [])
  pub limit_passed : Judges A 12 (5 ∷ []) (common 0 5 9 1 Off) (fields Unknown 1 4 6 0 0 0 2 3 ∷ [])
  -- in the second pass the limit is tested on every interval-th expansion of the game, counted from its start
  pub counted_on : Judges A 12 (2 ∷ []) (common 0 5 9 3 Off) (fields Unknown 1 4 7 0 0 0 3 3 ∷ [])
  -- shares that sum to the allowance, and above it by one
  pub sum_equal : Judges (W ++ D) 4 (1 ∷ 2 ∷ []) (unlimited 3) (won ∷ lost ∷ [])
  pub sum_above : Refuses (W ++ D) 4 (1 ∷ 3 ∷ []) (unlimited 3) 20 0
  -- no game, nine, and bytes that are no whole number of records
  pub no_game : Refuses [] 4 [] (unlimited 0) 20 0
  pub nine_games : Refuses (replicate 189 0) 4 [] (unlimited 0) 20 0
  pub not_whole : Refuses (W ++ take 20 D) 4 (1 ∷ 1 ∷ []) (unlimited 3) 1 0
  -- two refused records with different checks; a record before the pool, the pool before the settings
  pub earlier_check : Refuses (record21 0x7A0000000000000000000000000000000000000000 ++ E ++ record21 0x780000000000000000000000000000000000000001) 0 (1 ∷ 1 ∷ 1 ∷ []) (unlimited 0) 2 2
  pub lower_game : Refuses (E ++ record21 0x7A0000000000000000000000000000000000000000 ++ record21 0x7A0000000000000000000000000000000000000000) 0 (1 ∷ 1 ∷ 1 ∷ []) (unlimited 0) 3 1
  pub part_of_none : Refuses (W ++ D) 1 (1 ∷ 1 ∷ []) (common 3 0 0 0 Off) 8 0
  pub rule_3 : Refuses (W ++ D) 2 (1 ∷ 1 ∷ []) (common 3 0 0 1 Off) 10 0
  -- C with margin 0: the setting holds in both passes; one that is no margin, before the sum of the shares
  pub staying_on : Judges C 15 (3 ∷ []) (common 0 18446744073709551615 9 10000 (by_bits 0x0000000000000000)) (fields True 0 2147483648 15 14 4 4 9 0 ∷ [])
  pub not_a_margin : Refuses (W ++ D) 4 (1 ∷ 3 ∷ []) (common 0 0 3 1 (by_bits 0x3F60000000000000)) 21 0

pub games_cases : GamesCases
unfolding has_line state board board_states game_state bit_at position_of position_refusal refusal_to6 impossible_choice refusal first_refusal computed_search total unspent_at
    number_refusal earlier earliest lowest settings_refusal games_call by_bits
games_cases = record {
  one = refl;
  one_goes_on = refl;
  on_sight = refl;
  three = refl;
  twice = refl;
  left_over = refl;
  eight_games = refl;
  part_short = refl;
  limit_passed = refl;
  counted_on = refl;
  sum_equal = refl;
  sum_above = refl;
  no_game = refl;
  nine_games = refl;
  not_whole = refl;
  earlier_check = refl;
  lower_game = refl;
  part_of_none = refl;
  rule_3 = refl;
  staying_on = refl;
  not_a_margin = refl;
}
