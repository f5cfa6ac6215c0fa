-- No refusal has number 0, and what a result without a refusal tells. Rests on Numbers.
use Rattle.std.specs.Prelude.{◌≡◌, refl, Result, Ok, Err}
use Rattle.std.proofs.Common.{ap, sym, arith}
use Rattle.refusals.specs.Numbers.{number, refusal_code}
use Rattle.refusals.specs.declared.Refusal.{Refusal}
use Rattle.refusals.specs.declared.Refusal.TheVariants.{Length, Codes, Counts, TwoLines, LineOfBoards, DoneTarget, ShortOutput, NoNode, ManyNodes, Range}
use Rattle.refusals.specs.declared.Refusal.TheVariants.{ManyOpenCells, BrokenBook, FullBook, Trainer, Games, Margin, ImpossibleChoice, MatchGames}

pub number_positive : (r : Refusal) → number r ≡ 0 → ⊥
number_positive Length e = omega arith
number_positive Codes e = omega arith
number_positive Counts e = omega arith
number_positive TwoLines e = omega arith
number_positive LineOfBoards e = omega arith
number_positive DoneTarget e = omega arith
number_positive ShortOutput e = omega arith
number_positive NoNode e = omega arith
number_positive ManyNodes e = omega arith
number_positive Range e = omega arith
number_positive ManyOpenCells e = omega arith
number_positive BrokenBook e = omega arith
number_positive FullBook e = omega arith
number_positive Trainer e = omega arith
number_positive Games e = omega arith
number_positive Margin e = omega arith
number_positive ImpossibleChoice e = omega arith
number_positive MatchGames e = omega arith

-- without a refusal there is a result
pub is_ok : {A : Type 0} (r : Result A Refusal) → refusal_code r ≡ 0 → (a : A) × (r ≡ Ok a)
is_ok (Ok a) e = (a, refl)
is_ok (Err r) e = absurd (number_positive r e)

-- what a result is worth as a check's number, by its two cases
module _ {A : Type 0} (r : Result A Refusal) where
  pub ok_code : (a : A) → r ≡ Ok a → refusal_code r ≡ 0
  ok_code a q = ap refusal_code q

  pub err_code : (e : Refusal) → r ≡ Err e → number e ≡ refusal_code r
  err_code e q = sym (ap refusal_code q)
