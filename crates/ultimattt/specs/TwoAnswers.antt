-- What two answers of uttt_search to one record and rule, neither refused, say of each other: the third condition, of the numbers that C has. Rests on Exports
-- and on the third condition.
use Rattle.std.specs.Prelude.{◌≡◌, List, ℕ}
use Rattle.machine.specs.Machine.{Result}
use Rattle.searches.specs.Searches.{Limits}
use Rattle.searches.specs.ThirdCondition.{ThirdCondition}
use Rattle.ultimattt.specs.Exports.{SearchNumbers, fields_of}

-- Their fields are those of two results that stand in the third condition: S, T what each was given, words, words' the lengths of the pools.
pub record TwoAnswers (bytes : List ℕ) (rule : ℕ) (S T : Limits) (words words' : ℕ) (a b : SearchNumbers) : Type 0 where
  pub first : Result
  pub second : Result
  pub first_fields : a.result ≡ fields_of first
  pub second_fields : b.result ≡ fields_of second
  pub condition : ThirdCondition bytes rule S T words words' first second
