-- The numbers of the answer for eight games as C has them. Rests on Games and Exports.
use Rattle.std.specs.Prelude.{List, map, ℕ}
use Rattle.games.specs.Games.{GamesOutcome}
use Rattle.ultimattt.specs.Exports.{Fields, fields, fields_of}
use Rattle.ultimattt.specs.declared.games_exports.GamesAnswer.{GamesAnswer}

-- 0 or the number of the refusal; the game that it names, or 0; how many games there are; the fields of eight results.
pub record GamesNumbers : Type 0 where
  pub code : ℕ
  pub index : ℕ
  pub count : ℕ
  pub results : List Fields

abbrev pub outcome_numbers : GamesOutcome → GamesNumbers
outcome_numbers o = record { code = o.number; index = o.index; count = o.count; results = map fields_of o.results }

-- What stands in the struct.
abbrev pub games_numbers : GamesAnswer → GamesNumbers
games_numbers a = record { code = a.code; index = a.index; count = a.count; results = map fields a.results }
