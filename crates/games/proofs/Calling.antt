-- The whole call, check by check, and its answer. Rests on the checks' laws, Playing and Answers.
use Rattle.std.specs.Prelude.{◌≡◌, refl, Bool, true, false, cond, List, map, ℕ, zero, suc, ◌+◌, ◌*◌, ◌/◌, ◌≤◌, ◌<◌, ltb, length, get_or, Result, Ok}
use Rattle.std.proofs.Common.{ap, sym, ◌∙◌, subst, div-le_self, div-mul-le_self, mul-div_cancel, mul_comm, mul_assoc, ltb-true, ltb-false}
use native.Mathlib.Omega.{arith}
use Rattle.std.proofs.lemmas.List.{length-map}
use Rattle.machine.specs.Machine as machine
use Rattle.passes.specs.Passes.{result_at}
use Rattle.pn.specs.Results.{result_of}
use Rattle.pn.specs.declared.SearchResult.{SearchResult}
use Rattle.refusals.specs.Numbers.{number}
use Rattle.refusals.specs.declared.Refusal.{Refusal}
use Rattle.refusals.proofs.Passes.{number_positive}
use Rattle.calls.proofs.Refusing.{refused_by, by_number}
use Rattle.searches.specs.Searches.{nodes}
use Rattle.games_checks.specs.Checks as checks
use Rattle.games_checks.specs.Checks.{games, refusal_at, number_refusal, refusals, earliest, lowest, shares_of, settings_refusal}
use Rattle.games_checks.specs.Common.{common_of}
use Rattle.games_checks.specs.Earliest.{EarlyAt}
use Rattle.games_checks.proofs.Passing.{counted, settled}
use Rattle.games_checks.proofs.Naming.{none_early}
use Rattle.games_checks.specs.declared.Common.{Common}
use Rattle.games_checks.specs.declared.GameRefusal.{GameRefusal}
use Rattle.games.specs.Games.{part_words, game_at, GamesOutcome, no_result, refused, judged, games_call, PoolAfterGames}
use Rattle.games.specs.Answers.{outcome_of}
use Rattle.games.proofs.Answers.{mapped}
use Rattle.games.specs.Playing.{positions_of, Playable, FirstPassed, SecondPassed}
use Rattle.games.specs.declared.FirstPass.{FirstPass}
use Rattle.games.specs.declared.JudgedGames.{JudgedGames}

abbrev Eight : GamesOutcome → Type 0
Eight o = length o.results ≡ 8

-- THE ANSWER, by the check that refuses
module _ (bytes : List ℕ) (words : ℕ) (shares : List ℕ) (C : checks.Common) where
  pub call_number : (n : ℕ) → n ≡ number_refusal bytes → (n ≡ 0 → ⊥) → refused n 0 ≡ games_call bytes words shares C
  unfolding games_call
  call_number n e z = refused_by (λ n. refused n 0) _ n _ e z

  module _ (some : number_refusal bytes ≡ 0) where
    pub call_record : (code index : ℕ) → EarlyAt 0 (refusals bytes) code index → (code ≡ 0 → ⊥) → refused code index ≡ games_call bytes words shares C
    unfolding games_call
    call_record code index h z =
        let q : 0 + lowest code (refusals bytes) ≡ lowest code (refusals bytes) = omega arith in
        rw some (ap (refused code) (h.index_is z ∙ q) ∙ refused_by (λ n. refused n (lowest n (refusals bytes))) _ code _ h.code_is z)

    module _ (load : earliest (refusals bytes) ≡ 0) where
      pub call_settings : (n : ℕ) → n ≡ settings_refusal (nodes words) (games bytes) (shares_of shares (games bytes)) C → (n ≡ 0 → ⊥) → refused n 0 ≡ games_call bytes words shares C
      unfolding games_call
      call_settings n e z = rw (some, load) (refused_by (λ n. refused n 0) _ n _ e z)

      pub call_judged : settings_refusal (nodes words) (games bytes) (shares_of shares (games bytes)) C ≡ 0
          → judged (games bytes) (result_at (game_at bytes words shares C) C.allowance (games bytes)) ≡ games_call bytes words shares C
      unfolding games_call
      call_judged e = rw (some, load, e)

  -- there are eight results, games or not
  pub eight_results : length (games_call bytes words shares C).results ≡ 8
  unfolding games_call
  eight_results =
      by_number Eight (number_refusal bytes) _ _ (λ m e. refl)
      (λ e. by_number Eight (earliest (refusals bytes)) _ _ (λ m e. refl)
      (λ e. by_number Eight (settings_refusal (nodes words) (games bytes) (shares_of shares (games bytes)) C) _ _ (λ m e. refl) (λ e. refl)))

-- a refusal leaves the pool as it was
pub pool_refused : (r : Refusal) (n : ℕ) (w : List ℕ) → PoolAfterGames (number r) n w w
pool_refused r n w = go (number r) (number_positive r)
  where
    go : (k : ℕ) → (k ≡ 0 → ⊥) → PoolAfterGames k n w w
    go zero z = absurd (z refl)
    go (suc k) z = refl

-- the parts lie within the pool
pub parts_fit : (words n : ℕ) → n * part_words words n ≤ words
parts_fit words n = let q = nodes words / n in omega (arith, sym (mul_assoc n q 5), ap (λ m. m * 5) (mul_comm n q), div-mul-le_self (nodes words) n)

-- a part's nodes
pub part_capacity : (words n : ℕ) → nodes (part_words words n) ≡ nodes words / n
part_capacity words n = mul-div_cancel (nodes words / n) {n = 5} (omega arith)

-- no record is refused
pub all_load : (bytes : List ℕ) → earliest (refusals bytes) ≡ 0 → (i : ℕ) → i < games bytes → refusal_at bytes i ≡ 0
all_load bytes e i l = let q : 0 + i ≡ i = omega arith in ap (refusal_at bytes) (sym q) ∙ none_early (refusal_at bytes) 0 (games bytes) e i l

-- ALL CHECKS PASSED
module _ (bytes w shares : List ℕ) (c : Common) (some : number_refusal bytes ≡ 0) (load : earliest (refusals bytes) ≡ 0)
    (fine : settings_refusal (nodes (length w)) (games bytes) (shares_of shares (games bytes)) (common_of c) ≡ 0) where
  abbrev n : ℕ
  n = games bytes

  abbrev size : ℕ
  size = part_words (length w) n

  playable : Playable bytes w shares n size c
  playable =
      let k = counted bytes some in
      let s = settled (nodes (length w)) n (shares_of shares n) (common_of c) fine in
      record {
        shaped = record {
          some = omega (arith, part_capacity (length w) n, s.part_some);
          most = omega (arith, part_capacity (length w) n, s.pool_at_most, div-le_self (nodes (length w)) n);
          few = k.few;
          fits = parts_fit (length w) n;
          shared = s.shared;
          allowance_most = s.allowance_most;
          interval_some = s.interval_at_least;
          rule_few = omega (arith, s.rule_most);
          stay_is_in_range = s.stay_is_in_range;
        };
        records = omega arith;
        loads = all_load bytes load;
      }

  -- the results of both passes are the call's
  abbrev result : ℕ → machine.Result
  result i = result_at (game_at bytes (length w) shares (common_of c)) c.allowance n i

  module _ (u v : List ℕ) (f : FirstPass) (rs : List SearchResult) (first : FirstPassed bytes shares n size c w u f) (second : SecondPassed shares n size c f.kept f.unspent u v rs) where
    each_is : (k : ℕ) → k < 8 → (d : SearchResult) (b : Bool) → ltb k n ≡ b → result_of (get_or rs k d) ≡ cond b (result k) no_result
    each_is k l d true e = second.results (positions_of bytes) first.half k (ltb-true k n e) d
    each_is k l d false e = second.nothing k (ltb-false k n e) l d

    results_are : map result_of rs ≡ (judged n result).results
    results_are =
        mapped result_of rs (λ i. cond (ltb i n) (result i) no_result) 0 8 second.results_long
        (λ k l d. let q : 0 + k ≡ k = omega arith in each_is k l d (ltb k n) refl ∙ ap (λ i. cond (ltb i n) (result i) no_result) (sym q))

    answered : record { number = 0; index = 0; count = n; results = map result_of rs } ≡ games_call bytes (length w) shares (common_of c)
    answered = rw results_are (call_judged bytes (length w) shares (common_of c) some load fine)

    pool_judged : length u ≡ length w → length v ≡ length u → PoolAfterGames 0 n w v
    pool_judged a b = (b ∙ a, second.past ∙ first.past)

-- the same with the nodes that were counted
module _ (bytes w shares : List ℕ) (c : Common) (some : number_refusal bytes ≡ 0) (load : earliest (refusals bytes) ≡ 0) (k : ℕ) (e : k ≡ nodes (length w))
    (fine : settings_refusal k (games bytes) (shares_of shares (games bytes)) (common_of c) ≡ 0) where
  whole : settings_refusal (nodes (length w)) (games bytes) (shares_of shares (games bytes)) (common_of c) ≡ 0
  whole = ap (λ m. settings_refusal m (games bytes) (shares_of shares (games bytes)) (common_of c)) (sym e) ∙ fine

  pub to_play : Playable bytes w shares (games bytes) (k / games bytes * 5) c
  to_play = subst (λ m. Playable bytes w shares (games bytes) (m / games bytes * 5) c) (sym e) (playable bytes w shares c some load whole)

  module _ (u v : List ℕ) (f : FirstPass) (rs : List SearchResult) (first : FirstPassed bytes shares (games bytes) (k / games bytes * 5) c w u f)
      (second : SecondPassed shares (games bytes) (k / games bytes * 5) c f.kept f.unspent u v rs) where
    first_is : FirstPassed bytes shares (games bytes) (part_words (length w) (games bytes)) c w u f
    first_is = subst (λ m. FirstPassed bytes shares (games bytes) (m / games bytes * 5) c w u f) e first

    second_is : SecondPassed shares (games bytes) (part_words (length w) (games bytes)) c f.kept f.unspent u v rs
    second_is = subst (λ m. SecondPassed shares (games bytes) (m / games bytes * 5) c f.kept f.unspent u v rs) e second

    pub passes_answer : length u ≡ length w → length v ≡ length u
        → (record { number = 0; index = 0; count = games bytes; results = map result_of rs } ≡ games_call bytes (length w) shares (common_of c)) × PoolAfterGames 0 (games bytes) w v
    passes_answer a b = (
      answered bytes w shares c some load whole u v f rs first_is second_is,
      pool_judged bytes w shares c some load whole u v f rs first_is second_is a b,
    )

-- so the code's answer has eight
pub results_long : (bytes : List ℕ) (words : ℕ) (shares : List ℕ) (C : checks.Common) (r : Result JudgedGames GameRefusal) → outcome_of r ≡ games_call bytes words shares C
    → (g : JudgedGames) → r ≡ Ok g → length g.results ≡ 8
results_long bytes words shares C r e g q =
    sym (length-map g.results result_of) ∙ ap (λ (o : GamesOutcome). length o.results) (sym (ap outcome_of q) ∙ e) ∙ eight_results bytes words shares C
