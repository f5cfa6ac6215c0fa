-- Up to eight games judged together out of one allowance of expansions: what the call answers and what it leaves in the pool, as functions of what comes in. A refusal leaves
-- every word as it was (MANUAL, Games with one allowance). Rests on the call's checks, on the two passes, and on the plain machine of a record.
use Rattle.std.specs.Prelude.{◌≡◌, cond, List, ℕ, zero, suc, ◌*◌, ◌/◌, ltb, length, get_or, drop, replicate}
use Rattle.rules.specs.Rules.{answers}
use Rattle.machine.specs.Machine.{Result, Unknown, fields}
use Rattle.plain.specs.Plain.{plain_search}
use Rattle.passes.specs.Passes.{OneGame, result_at}
use Rattle.calls.specs.Calls.{answer_unless}
use Rattle.searches.specs.Searches.{limits, nodes, settings}
use Rattle.games_checks.specs.Checks.{games_most, games, record_at, number_refusal, refusals, earliest, lowest, Common, shares_of, settings_refusal}

-- The words of a part of the pool: equal parts of whole nodes, one a game, five words a node. Game i's begins at i times that.
abbrev pub part_words : (words n : ℕ) → ℕ
part_words words n = nodes words / n * 5

-- Game i: its share, and what a lone search of its record answers with each budget, its part being the pool, and all other settings common.
abbrev pub game_at : (bytes : List ℕ) (words : ℕ) (shares : List ℕ) → Common → ℕ → OneGame
game_at bytes words shares C i = record {
  share = get_or shares i 0;
  search = λ budget. plain_search C.rule (settings (part_words words (games bytes)) (limits C.limit budget C.interval C.stay)) (record_at bytes i);
}

-- What the call answers: 0 or the number of the refusal; the game that it names, or 0; how many games there are; eight results, zeros past the games.
pub record GamesOutcome : Type 0 where
  pub number : ℕ
  pub index : ℕ
  pub count : ℕ
  pub results : List Result

abbrev pub no_result : Result
no_result = fields Unknown 0 0 0 0 0 0 0 0

abbrev pub refused : (number index : ℕ) → GamesOutcome
refused n i = record { number = n; index = i; count = 0; results = replicate games_most no_result }

abbrev pub judged : (n : ℕ) → (ℕ → Result) → GamesOutcome
judged n result = record { number = 0; index = 0; count = n; results = answers (λ i. cond (ltb i n) (result i) no_result) 0 games_most }

-- The call: checks 1 and 20; those of the records; those of the pool, the settings and the shares; and the results of the two passes.
unfoldable pub games_call : (bytes : List ℕ) (words : ℕ) (shares : List ℕ) → Common → GamesOutcome
games_call bytes words shares C =
    answer_unless (number_refusal bytes) (λ n. refused n 0)
    (answer_unless (earliest (refusals bytes)) (λ n. refused n (lowest n (refusals bytes)))
    (answer_unless (settings_refusal (nodes words) (games bytes) (shares_of shares (games bytes)) C) (λ n. refused n 0)
    (judged (games bytes) (result_at (game_at bytes words shares C) C.allowance (games bytes)))))

-- The pool's words afterwards: untouched if the call was refused; otherwise those past the n parts are.
abbrev pub PoolAfterGames : (number n : ℕ) (before after : List ℕ) → Type 0
PoolAfterGames zero n before after =
    (length after ≡ length before) × (drop (n * part_words (length before) n) after ≡ drop (n * part_words (length before) n) before)
PoolAfterGames (suc k) n before after = after ≡ before
