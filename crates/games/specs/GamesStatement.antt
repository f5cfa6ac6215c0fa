-- What is promised of judging up to eight games (MANUAL, Games with one allowance), a clause for each sentence: one record, of an answer o and of the pool's words before
-- and after the call. Rests on Games, on search's call and on the third condition.
use Rattle.std.specs.Prelude.{◌≡◌, cond, List, [], ◌∷◌, ◌⊎◌, ℕ, ◌+◌, ◌*◌, ◌-◌, ◌≤◌, ◌<◌, eqb, length, get_or, drop}
use Rattle.rules.specs.Rules.{answers}
use Rattle.rules.specs.Refusals.{first_refusal}
use Rattle.machine.specs.Machine.{Result}
use Rattle.passes.specs.Passes.{total, first, spent, grant_at}
use Rattle.searches.specs.Searches.{budget_most, Limits, limits, nodes, Answered, search_call}
use Rattle.searches.specs.ThirdCondition.{ThirdCondition}
use Rattle.games_checks.specs.Checks.{games_least, games_most, games, record_at, number_refusal, refusal_at, refusals, earliest, Common, shares_of, settings_refusal}
use Rattle.games.specs.Games.{part_words, game_at, GamesOutcome, no_result, games_call}

-- Game i's result in an answer, and its grant.
abbrev pub result_of_game : GamesOutcome → ℕ → Result
result_of_game o i = get_or o.results i no_result

abbrev pub grant_of_game : (bytes shares : List ℕ) → Common → (words i : ℕ) → ℕ
grant_of_game bytes shares C words i = grant_at (game_at bytes words shares C) C.allowance (games bytes) i

-- All that is spent when the second pass comes to game i: what the games before it have expanded in both passes, and it and those after it in the first.
abbrev pub spent_before : (bytes shares : List ℕ) → Common → (words : ℕ) → GamesOutcome → (i : ℕ) → ℕ
spent_before bytes shares C words o i = total (answers (λ k. (result_of_game o k).expanded) 0 i) + spent (game_at bytes words shares C) i (games bytes - i)

-- A lone search's settings with a grant.
abbrev pub granting : Common → ℕ → Limits
granting C grant = limits C.limit grant C.interval C.stay

-- A refusal's number and the index of the game that it names.
pub record Named (bytes : List ℕ) (number index : ℕ) : Type 0 where
  -- The call is refused, with the number of the check that refuses the record of that game;
  pub refused : number ≡ 0 → ⊥
  pub game : index < games bytes
  pub refuses : refusal_at bytes index ≡ number
  -- no record is refused by an earlier check, and none of a lower game by this one.
  pub earliest : (j : ℕ) → j < games bytes → (refusal_at bytes j ≡ 0 → ⊥) → number ≤ refusal_at bytes j
  pub lowest : (j : ℕ) → j < index → refusal_at bytes j ≡ number → ⊥

pub record GamesStatement (bytes shares : List ℕ) (C : Common) (before after : List ℕ) (o : GamesOutcome) : Type 0 where
  -- Checks 1 and 20, then those of the records, then 8 of a part, 9 of the whole pool, 10, 21 and 20: the number is that of the first that refuses, and 0 if none does.
  pub checks : o.number
      ≡ first_refusal (number_refusal bytes ∷ earliest (refusals bytes) ∷ settings_refusal (nodes (length before)) (games bytes) (shares_of shares (games bytes)) C ∷ [])
  -- Up to eight games are judged together, 21 bytes a game.
  pub few : o.number ≡ 0 → (games_least ≤ games bytes) × (games bytes ≤ games_most) × (length bytes ≡ games bytes * 21)
  -- The pool is cut into equal parts of whole nodes, one a game, as large as they can be; the remainder is untouched.
  pub parts : o.number ≡ 0
      → let part = nodes (part_words (length before) (games bytes)) in
      (part_words (length before) (games bytes) ≡ part * 5) × (games bytes * part ≤ nodes (length before)) × (nodes (length before) < games bytes * (part + 1))
  pub remainder : o.number ≡ 0 → let end = games bytes * part_words (length before) (games bytes) in (length after ≡ length before) × (drop end after ≡ drop end before)
  -- Shares past the last game are not read.
  pub not_read : (others : List ℕ) → ((i : ℕ) → i < games bytes → get_or others i 0 ≡ get_or shares i 0) → games_call bytes (length before) others C ≡ o
  -- Shares and allowance have the budget's range, and the shares do not sum above the allowance.
  pub share_range : o.number ≡ 0 → (i : ℕ) → i < games bytes → get_or shares i 0 ≤ budget_most
  pub allowance_range : o.number ≡ 0 → C.allowance ≤ budget_most
  pub shared : o.number ≡ 0 → total (shares_of shares (games bytes)) ≤ C.allowance
  -- In the first pass each game runs up to its share. In the second every game that its budget stopped then goes on with all that is still unspent when its turn comes,
  -- so it is granted its share and that; every other one its share.
  pub grants : o.number ≡ 0 → (i : ℕ) → i < games bytes
      → (spent_before bytes shares C (length before) o i ≤ C.allowance)
      × (grant_of_game bytes shares C (length before) i
      ≡ cond (eqb (first (game_at bytes (length before) shares C i)).cause 1) (get_or shares i 0 + (C.allowance - spent_before bytes shares C (length before) o i)) (get_or shares i 0))
  -- There are as many results as games.
  pub as_many : o.number ≡ 0 → (o.count ≡ games bytes) × ((i : ℕ) → games bytes ≤ i → result_of_game o i ≡ no_result)
  -- Each is that of a lone search with the game's part as its pool, the common settings, and the grant as its budget, whatever words the pool holds;
  pub each : o.number ≡ 0 → (i : ℕ) → i < games bytes
      → search_call (record_at bytes i) (part_words (length before) (games bytes)) C.rule (granting C (grant_of_game bytes shares C (length before) i)) ≡ Answered (result_of_game o i)
  -- so it meets the third condition, as the first and as the second, with any accepted search of its record under the rule.
  pub third : o.number ≡ 0 → (i : ℕ) → i < games bytes → (words : ℕ) (T : Limits) (s : Result) → search_call (record_at bytes i) words C.rule T ≡ Answered s
      → let S = granting C (grant_of_game bytes shares C (length before) i) in
      ThirdCondition (record_at bytes i) C.rule S T (part_words (length before) (games bytes)) words (result_of_game o i) s
      × ThirdCondition (record_at bytes i) C.rule T S words (part_words (length before) (games bytes)) s (result_of_game o i)
  -- No game is granted less than its share, nor more than the allowance, so no grant is out of a budget's range; and the expansions of all together never exceed the allowance.
  pub least : o.number ≡ 0 → (i : ℕ) → i < games bytes → get_or shares i 0 ≤ grant_of_game bytes shares C (length before) i
  pub most : o.number ≡ 0 → (i : ℕ) → i < games bytes → grant_of_game bytes shares C (length before) i ≤ C.allowance
  pub within : o.number ≡ 0 → total (answers (λ i. (result_of_game o i).expanded) 0 (games bytes)) ≤ C.allowance
  -- A refused record is named by its game, the earliest check first and then the lowest game; where no record is refused, or checks 1 and 20 come first, the index is 0.
  pub named : number_refusal bytes ≡ 0 → (k : ℕ) → k < games bytes → (refusal_at bytes k ≡ 0 → ⊥) → Named bytes o.number o.index
  pub unnamed : (number_refusal bytes ≡ 0 → ⊥) ⊎ ((k : ℕ) → k < games bytes → refusal_at bytes k ≡ 0) → o.index ≡ 0
  -- A refusal writes nothing, and has no result.
  pub untouched : (o.number ≡ 0 → ⊥) → after ≡ before
  pub no_results : (o.number ≡ 0 → ⊥) → (o.count ≡ 0) × ((i : ℕ) → result_of_game o i ≡ no_result)
