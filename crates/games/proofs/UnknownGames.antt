-- What proof and disproof mean in an Unknown of a game that is judged with others: what they mean in the lone search that it is. Rests on GamesStatement and on searches' law.
use Rattle.std.specs.Prelude.{◌≡◌, List, ℕ, ◌<◌, length}
use Rattle.machine.specs.Machine.{Unknown}
use Rattle.meaning.specs.UnknownMeans.{UnknownMeans}
use Rattle.searches.specs.Searches.{settings}
use Rattle.searches.proofs.UnknownAnswers.{search_means}
use Rattle.games_checks.specs.Checks.{games, record_at, Common}
use Rattle.games.specs.Games.{part_words, GamesOutcome}
use Rattle.games.specs.GamesStatement.{result_of_game, grant_of_game, granting, GamesStatement}

pub games_mean : (bytes shares : List ℕ) (C : Common) (before after : List ℕ) (o : GamesOutcome) → GamesStatement bytes shares C before after o
    → o.number ≡ 0 → (i : ℕ) → i < games bytes → (result_of_game o i).verdict ≡ Unknown
    → UnknownMeans C.rule (settings (part_words (length before) (games bytes)) (granting C (grant_of_game bytes shares C (length before) i))) (record_at bytes i) (result_of_game o i)
games_mean bytes shares C before after o s z i l v = search_means (record_at bytes i) _ _ C.rule (result_of_game o i) (s.each z i l) v
