-- What the test of a node number says. Rests on words.
use Rattle.std.specs.Prelude.{◌≡◌, Bool, true, false, not, ℕ, eqb}
use Rattle.std.proofs.Common.{sym, ◌∙◌, eqb-true}
use Rattle.std.proofs.lemmas.Bool.{eqb-false, not-true, not-false}
use Rattle.words.specs.Words.{NONE}

pub exists_yes : (b : Bool) (i : ℕ) → b ≡ not (eqb i NONE) → b ≡ true → i ≡ NONE → ⊥
exists_yes b i e t = eqb-false i NONE (not-true (eqb i NONE) (sym e ∙ t))

pub exists_no : (b : Bool) (i : ℕ) → b ≡ not (eqb i NONE) → b ≡ false → i ≡ NONE
exists_no b i e t = eqb-true i NONE (not-false (eqb i NONE) (sym e ∙ t))
