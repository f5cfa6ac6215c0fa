-- Laws of specs/Earliest.antt. The earliest check of some records and the lowest game, as the code finds them: from the last game down. Rests on Checks.
use Rattle.std.specs.Prelude.{◌≡◌, refl, List, [], ◌∷◌, ℕ, zero, suc, ◌+◌, ◌*◌, ◌-◌, ◌≤◌, ◌<◌, min, take, drop, Result, Ok, Err}
use Rattle.std.proofs.Common.{ap, ◌∙◌, subst, arith, eq-eqb, ne_eqb}
use Rattle.std.proofs.Math.Path.{sym}
use Rattle.rules.specs.Rules.{answers}
use Rattle.rules.specs.Record.{refusal}
use Rattle.refusals.specs.Numbers.{number, refusal_code}
use Rattle.refusals.specs.declared.Refusal.{Refusal}
use Rattle.refusals.proofs.Passes.{number_positive, ok_code, err_code}
use Rattle.game.specs.declared.Game.{Game}
use Rattle.games_checks.specs.declared.GameRefusal.{GameRefusal}
use Rattle.games_checks.specs.Checks.{refusal_at, earlier, earliest, lowest}
use Rattle.games_checks.specs.Earliest.{game_code, game_index, EarlyAt}

pub early_empty : (i : ℕ) → EarlyAt i [] 0 0
unfolding earliest
early_empty i = record { code_is = refl; index_is = λ n. absurd (n refl) }

earlier_alone : (n : ℕ) → earlier n 0 ≡ n
unfolding earlier
earlier_alone zero = refl
earlier_alone (suc n) = refl

earlier_least : (n m : ℕ) → (n ≡ 0 → ⊥) → (m ≡ 0 → ⊥) → earlier n m ≡ min n m
unfolding earlier
earlier_least zero m z y = absurd (z refl)
earlier_least (suc n) zero z y = absurd (y refl)
earlier_least (suc n) (suc m) z y = refl

module _ (i j : ℕ) (e : j ≡ suc i) (ns : List ℕ) (code index : ℕ) (h : EarlyAt j ns code index) (found : ℕ) where
  further : (found ≡ code → ⊥) → lowest code (found ∷ ns) ≡ suc (lowest code ns)
  unfolding lowest
  further n = rw (ne_eqb found code n)

  here : lowest found (found ∷ ns) ≡ 0
  unfolding lowest
  here = rw (eq-eqb found found refl)

  pub early_passed : found ≡ 0 → EarlyAt i (found ∷ ns) code index
  unfolding earliest earlier
  early_passed z = record { code_is = h.code_is ∙ sym (rw z); index_is = λ n. omega (arith, h.index_is n, further (λ q. n (sym q ∙ z))) }

  pub early_first : code ≡ 0 → EarlyAt i (found ∷ ns) found i
  unfolding earliest
  early_first z = record { code_is = sym (ap (earlier found) (sym h.code_is ∙ z) ∙ earlier_alone found); index_is = λ n. omega (arith, here) }

  module _ (some : found ≡ 0 → ⊥) (other : code ≡ 0 → ⊥) where
    both : earliest (found ∷ ns) ≡ min found (earliest ns)
    unfolding earliest
    both = earlier_least found (earliest ns) some (λ q. other (h.code_is ∙ q))

    pub early_kept : code < found → EarlyAt i (found ∷ ns) code index
    early_kept l = record { code_is = omega (arith, both, h.code_is); index_is = λ n. omega (arith, h.index_is n, further (λ q. omega arith)) }

    pub early_sooner : found ≤ code → EarlyAt i (found ∷ ns) found i
    early_sooner l = record { code_is = omega (arith, both, h.code_is); index_is = λ n. omega (arith, here) }

-- the same of the code's results
module _ (i j : ℕ) (e : j ≡ suc i) (ns : List ℕ) (loaded : Result Game Refusal) (later : Result (Unit {0}) GameRefusal) (h : EarlyAt j ns (game_code later) (game_index later)) where
  pub sooner_passed : (g : Game) → loaded ≡ Ok g → EarlyAt i (refusal_code loaded ∷ ns) (game_code later) (game_index later)
  sooner_passed g q = early_passed i j e ns _ _ h _ (ok_code loaded g q)

  module _ (r : Refusal) (q : loaded ≡ Err r) where
    found : (code index : ℕ) → EarlyAt i (number r ∷ ns) code index → EarlyAt i (refusal_code loaded ∷ ns) code index
    found code index x = subst (λ m. EarlyAt i (m ∷ ns) code index) (err_code loaded r q) x

    pub sooner_alone : (u : Unit {0}) → later ≡ Ok u → EarlyAt i (refusal_code loaded ∷ ns) (number r) i
    sooner_alone u z = found _ _ (early_first i j e ns _ _ h (number r) (ap game_code z))

    module _ (x : GameRefusal) (z : later ≡ Err x) where
      some : game_code later ≡ 0 → ⊥
      some y = number_positive x.refusal (sym (ap game_code z) ∙ y)

      pub sooner_kept : number x.refusal < number r → EarlyAt i (refusal_code loaded ∷ ns) (number x.refusal) x.index
      sooner_kept l =
          found _ _ (subst (λ y. EarlyAt i (number r ∷ ns) (game_code y) (game_index y)) z (early_kept i j e ns _ _ h (number r) (number_positive r) some (omega (arith, ap game_code z))))

      pub sooner_here : number r ≤ number x.refusal → EarlyAt i (refusal_code loaded ∷ ns) (number r) i
      sooner_here l = found _ _ (early_sooner i j e ns _ _ h (number r) (number_positive r) some (omega (arith, ap game_code z)))

-- the loop over the games
pub record Looked (bytes : List ℕ) (n i code index : ℕ) : Type 0 where
  pub low : i ≤ n
  pub early : EarlyAt i (answers (refusal_at bytes) i (n - i)) code index

pub looked_start : (bytes : List ℕ) (n : ℕ) → Looked bytes n n 0 0
looked_start bytes n = let q : 0 ≡ n - n = omega arith in record { low = omega arith; early = subst (λ k. EarlyAt n (answers (refusal_at bytes) n k) 0 0) q (early_empty n) }

pub looked_next : (bytes : List ℕ) (n i code index found code' index' : ℕ) → 0 < i → Looked bytes n i code index
    → found ≡ refusal (take ((i - 1) * 21 + 21 - (i - 1) * 21) (drop ((i - 1) * 21) bytes))
    → ((j : ℕ) → j ≡ suc (i - 1) → (ns : List ℕ) → EarlyAt j ns code index → EarlyAt (i - 1) (found ∷ ns) code' index') → Looked bytes n (i - 1) code' index'
looked_next bytes n i code index found code' index' l h ef f =
    let e : i ≡ suc (i - 1) = omega arith in
    let q : (i - 1) * 21 + 21 - (i - 1) * 21 ≡ 21 = omega arith in
    let k : suc (n - i) ≡ n - (i - 1) = omega (arith, h.low) in
    let there : found ≡ refusal_at bytes (i - 1) = ef ∙ ap (λ m. refusal (take m (drop ((i - 1) * 21) bytes))) q in
    record {
      low = omega (arith, h.low);
      early = subst (λ m. EarlyAt (i - 1) (answers (refusal_at bytes) (i - 1) m) code' index') k
          (subst (λ m. EarlyAt (i - 1) (refusal_at bytes (i - 1) ∷ answers (refusal_at bytes) m (n - i)) code' index') e
          (subst (λ m. EarlyAt (i - 1) (m ∷ answers (refusal_at bytes) i (n - i)) code' index') there (f i e _ h.early)));
    }

pub looked_done : (bytes : List ℕ) (n i code index : ℕ) → i ≤ 0 → Looked bytes n i code index → EarlyAt 0 (answers (refusal_at bytes) 0 n) code index
looked_done bytes n i code index l h =
    let q : i ≡ 0 = omega arith in
    let z : n - 0 ≡ n = omega arith in
    subst (λ m. EarlyAt 0 (answers (refusal_at bytes) 0 m) code index) z (subst (λ m. EarlyAt m (answers (refusal_at bytes) m (n - m)) code index) q h.early)
