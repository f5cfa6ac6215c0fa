-- The answers of search and full verdict, each from the check that decides. Rests on Searches.
use Rattle.std.proofs.Math.Path.{◌≡◌, refl, sym}
use Rattle.std.proofs.Common.{◌∙◌, arith}
use Rattle.std.specs.Prelude.{List}
use Prim.Native.Nat.{ℕ, zero, suc}
use Rattle.machine.specs.Machine.{Result}
use Rattle.plain.specs.Plain.{plain_search}
use Rattle.calls.specs.Calls.{answer_unless}
use Rattle.calls.proofs.Refusing.{refused_by}
use Rattle.searches.specs.Searches.{Limits, nodes, settings, search_refusal, Refused, Answered, search_call, FullVerdict, full_of, Turned, Full, both_results, full_call}

module _ (bytes : List ℕ) (words rule : ℕ) (L : Limits) where
  pub search_refused : (n : ℕ) → n ≡ search_refusal bytes (nodes words) rule L → (n ≡ 0 → ⊥) → Refused n ≡ search_call bytes words rule L
  unfolding search_call
  search_refused n e z = refused_by Refused _ n _ e z

  pub search_answered : search_refusal bytes (nodes words) rule L ≡ 0 → (r : Result) → plain_search rule (settings words L) bytes ≡ r → search_call bytes words rule L ≡ Answered r
  unfolding search_call
  search_answered e r q = rw (e, q)

  -- and back: what a refusal and an answer tell
  pub refused : (n : ℕ) → search_call bytes words rule L ≡ Refused n → (n ≡ search_refusal bytes (nodes words) rule L) × (n ≡ 0 → ⊥)
  unfolding search_call
  refused n e = go (search_refusal bytes (nodes words) rule L) refl e
    where
      go : (k : ℕ) → search_refusal bytes (nodes words) rule L ≡ k → answer_unless k Refused (Answered (plain_search rule (settings words L) bytes)) ≡ Refused n
          → (n ≡ search_refusal bytes (nodes words) rule L) × (n ≡ 0 → ⊥)
      go zero t h = let z : ◌≡◌ {A = ℕ} 0 1 = cc in absurd (omega arith)
      go (suc k) t h = let i : n ≡ suc k = cc in (i ∙ sym t, λ q. omega (arith, i, q))

  pub answered : (r : Result) → search_call bytes words rule L ≡ Answered r → (search_refusal bytes (nodes words) rule L ≡ 0) × (r ≡ plain_search rule (settings words L) bytes)
  unfolding search_call
  answered r e = go (search_refusal bytes (nodes words) rule L) refl e
    where
      go : (k : ℕ) → search_refusal bytes (nodes words) rule L ≡ k → answer_unless k Refused (Answered (plain_search rule (settings words L) bytes)) ≡ Answered r
          → (search_refusal bytes (nodes words) rule L ≡ 0) × (r ≡ plain_search rule (settings words L) bytes)
      go zero t h = (t, cc)
      go (suc k) t h = let z : ◌≡◌ {A = ℕ} 0 1 = cc in absurd (omega arith)

-- Full verdict, from the searches under rules 1 and 2
module _ (bytes : List ℕ) (words : ℕ) (L : Limits) where
  pub full_with : search_refusal bytes (nodes words) 0 L ≡ 0 → (r s : Result) → plain_search 1 (settings words L) bytes ≡ r → plain_search 2 (settings words L) bytes ≡ s
      → full_call bytes words L ≡ Full (full_of r.verdict s.verdict) r s
  unfolding full_call
  full_with e r s q p = rw (e, q, p)

  pub full_refused : (n : ℕ) → n ≡ search_refusal bytes (nodes words) 0 L → (n ≡ 0 → ⊥) → Turned n ≡ full_call bytes words L
  unfolding full_call
  full_refused n e z = refused_by Turned _ n _ e z

  -- and back: it was not refused, and carries the machine's two results
  pub full_answered : (v : FullVerdict) (r s : Result) → full_call bytes words L ≡ Full v r s
      → (search_refusal bytes (nodes words) 0 L ≡ 0) × (r ≡ plain_search 1 (settings words L) bytes) × (s ≡ plain_search 2 (settings words L) bytes)
  unfolding full_call
  full_answered v r s e = go (search_refusal bytes (nodes words) 0 L) refl e
    where
      go : (k : ℕ) → search_refusal bytes (nodes words) 0 L ≡ k
          → answer_unless k Turned (both_results (plain_search 1 (settings words L) bytes) (plain_search 2 (settings words L) bytes)) ≡ Full v r s
          → (search_refusal bytes (nodes words) 0 L ≡ 0) × (r ≡ plain_search 1 (settings words L) bytes) × (s ≡ plain_search 2 (settings words L) bytes)
      go zero t h = (t, cc, cc)
      go (suc k) t h = let z : ◌≡◌ {A = ℕ} 0 1 = cc in absurd (omega arith)
