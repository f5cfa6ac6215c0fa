-- The numbers of an evaluation, and its verdict; the pair of numbers of a leaf. Rests on the plain machine's verdict.
use Rattle.std.specs.Prelude.{◌≡◌, ℕ}
use Rattle.machine.specs.Machine.{Verdict, True, False, Unknown}
use Rattle.prove.specs.declared.Evaluation.{Evaluation}
use Rattle.prove.specs.declared.Evaluation.TheVariants as evaluation

-- As the packed word has them: 0 open, 1 True, 2 False
abbrev pub verdict_number : Verdict → ℕ
verdict_number Unknown = 0
verdict_number True = 1
verdict_number False = 2

abbrev pub verdict : Evaluation → Verdict
verdict evaluation.True = True
verdict evaluation.False = False
verdict evaluation.Unknown = Unknown

abbrev pub number : Evaluation → ℕ
number e = verdict_number (verdict e)

-- phi and delta are these two
pub record Pair (phi delta a b : ℕ) : Type 0 where
  pub phi_is : phi ≡ a
  pub delta_is : delta ≡ b
