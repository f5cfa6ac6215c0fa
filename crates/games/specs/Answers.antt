-- What the code's answer says. Rests on Games, on the numbers of the refusals and on the nine fields as the machine has them.
use Rattle.std.specs.Prelude.{map, Result, Ok, Err}
use Rattle.pn.specs.Results.{result_of}
use Rattle.refusals.specs.Numbers.{number}
use Rattle.games_checks.specs.declared.GameRefusal.{GameRefusal}
use Rattle.games.specs.Games.{GamesOutcome, refused}
use Rattle.games.specs.declared.JudgedGames.{JudgedGames}

-- The answer.
abbrev pub outcome_of : Result JudgedGames GameRefusal → GamesOutcome
outcome_of (Ok r) = record { number = 0; index = 0; count = r.count; results = map result_of r.results }
outcome_of (Err e) = refused (number e.refusal) e.index
