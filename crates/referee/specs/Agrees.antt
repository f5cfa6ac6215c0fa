-- Every search that answers agrees with the referee: a stated consequence of the third condition's mathematics. Rests on plain.
use Rattle.std.specs.Prelude.{◌≡◌, refl, Bool, cond, List, ◌⊎◌, ℕ}
use Rattle.std.proofs.Common.{◌∙◌, inl, inr}
use Rattle.machine.specs.Machine.{Settings, Verdict, True, False, Unknown}
use Rattle.machine.proofs.Reached.{PoolInRange}
use Rattle.plain.specs.Plain.{record_value, plain_search}
use Rattle.plain.proofs.TwoSearches.{two_searches}

-- v is what the referee says of a record under a rule: the plain machine's verdict is Unknown, or says v
pub agrees : (rule : ℕ) (bytes : List ℕ) (S : Settings) → PoolInRange S → (v : Bool) → v ≡ record_value rule bytes
    → ((plain_search rule S bytes).verdict ≡ Unknown) ⊎ ((plain_search rule S bytes).verdict ≡ cond v True False)
agrees rule bytes S f v e = go (plain_search rule S bytes).verdict refl
  where
    go : (x : Verdict) → (plain_search rule S bytes).verdict ≡ x → (x ≡ Unknown) ⊎ (x ≡ cond v True False)
    go True q = inr (rw (e ∙ (two_searches rule bytes S S f f).first.true_value q))
    go False q = inr (rw (e ∙ (two_searches rule bytes S S f f).first.false_value q))
    go Unknown q = inl refl
