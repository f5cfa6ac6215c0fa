-- The loop that finds the first check that refuses. Rests on the rules' Refusals and their laws, and on Numbers.
use Rattle.std.specs.Prelude.{◌≡◌, refl, Bool, true, false, List, ℕ, ◌∷◌, ◌+◌, ◌≤◌, ◌<◌, get_or, drop, map}
use Rattle.std.proofs.Math.Path.{sym}
use Rattle.std.proofs.Common.{◌∙◌, add-one, arith, drop-cons}
use Rattle.std.proofs.Math.ListN.{length}
use Rattle.std.proofs.Math.Seq.{drop-length}
use Rattle.rules.specs.Refusals.{first_refusal}
use Rattle.rules.proofs.RefusalLaws.{first_refuses, rest_refuses}
use Rattle.refusals.specs.Numbers.{number, check_number}
use Rattle.refusals.specs.declared.Refusal.{Refusal}
use Rattle.refusals.proofs.Passes.{number_positive}

-- the first i checks pass
pub record Passing (cs : List (Bool × Refusal)) (i : ℕ) : Type 0 where
  pub within : i ≤ length cs
  pub same : first_refusal (map check_number cs) ≡ first_refusal (map check_number (drop i cs))

pub passing_start : (cs : List (Bool × Refusal)) → Passing cs 0
passing_start cs = record { within = omega arith; same = refl }

check_found : (x : Bool × Refusal) (ns : List ℕ) → x.0 ≡ true → first_refusal (check_number x ∷ ns) ≡ number x.1
check_found x ns e = rw e (first_refuses (number x.1) ns (number_positive x.1))

check_passed : (x : Bool × Refusal) (ns : List ℕ) → x.0 ≡ false → first_refusal (check_number x ∷ ns) ≡ first_refusal ns
check_passed x ns e = rest_refuses (check_number x) ns (rw e refl)

module _ (cs : List (Bool × Refusal)) (i : ℕ) (d : Bool × Refusal) (p : Passing cs i) (h : i < length cs) where
  pub passing_found : (get_or cs i d).0 ≡ true → number (get_or cs i d).1 ≡ first_refusal (map check_number cs)
  passing_found e = sym (p.same ∙ rw (drop-cons cs i d h) (check_found (get_or cs i d) _ e))

  pub passing_next : (get_or cs i d).0 ≡ false → Passing cs (i + 1)
  passing_next e = record { within = omega arith; same = p.same ∙ rw (add-one, drop-cons cs i d h) (check_passed (get_or cs i d) _ e) }

pub passing_end : (cs : List (Bool × Refusal)) (i : ℕ) → Passing cs i → length cs ≤ i → 0 ≡ first_refusal (map check_number cs)
unfolding first_refusal
passing_end cs i p h = let e : i ≡ length cs = omega (arith, p.within) in sym (p.same ∙ rw (e, drop-length cs))
