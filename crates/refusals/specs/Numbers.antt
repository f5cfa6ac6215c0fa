-- The numbers of the refusals in the table (MANUAL, Turned back), and of a result that may be one: 0 where it is none. Rests on the rules' Refusals.
use Rattle.std.specs.Prelude.{ℕ, Bool, Result, Ok, Err}
use Rattle.rules.specs.Refusals.{refuses}
use Rattle.refusals.specs.declared.Refusal.{Refusal}
use Rattle.refusals.specs.declared.Refusal.TheVariants.{Length, Codes, Counts, TwoLines, LineOfBoards, DoneTarget, ShortOutput, NoNode, ManyNodes, Range}
use Rattle.refusals.specs.declared.Refusal.TheVariants.{ManyOpenCells, BrokenBook, FullBook, Trainer, Games, Margin, ImpossibleChoice, MatchGames}

abbrev pub number : Refusal → ℕ
number Length = 1
number Codes = 2
number Counts = 3
number TwoLines = 4
number LineOfBoards = 5
number DoneTarget = 6
number ShortOutput = 7
number NoNode = 8
number ManyNodes = 9
number Range = 10
number ManyOpenCells = 16
number BrokenBook = 17
number FullBook = 18
number Trainer = 19
number Games = 20
number Margin = 21
number ImpossibleChoice = 22
number MatchGames = 23

-- 0 of a result, the refusal's number without one
abbrev pub refusal_code : {A : Type 0} → Result A Refusal → ℕ
refusal_code (Ok a) = 0
refusal_code (Err e) = number e

-- a check's number, if what it looks for is so; otherwise 0
abbrev pub check_number : Bool × Refusal → ℕ
check_number c = refuses (number c.1) c.0
