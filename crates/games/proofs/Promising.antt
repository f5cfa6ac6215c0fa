-- The call is as promised. Rests on GamesStatement, Calling, the checks' laws and the passes' laws.
use Rattle.std.specs.Prelude.{◌≡◌, Bool, true, false, ◌⊎◌, ltb, eqb, length, replicate}
use Rattle.std.specs.Prelude as prelude
use Rattle.std.proofs.Math.Path.{refl, ap, subst}
use Rattle.std.proofs.Common.{sym, ◌∙◌, arith, div-le_self, div-add-mod'}
use Rattle.std.proofs.Math.Bool.{cond}
use mathlib.Core.List.{List, [], ◌∷◌}
use Rattle.std.proofs.Math.Logic.{inl, inr}
use Prim.Native.Nat.{ℕ, zero, suc, ◌+◌, ◌*◌, ◌-◌, ◌/◌, ◌≤◌, ◌<◌}
use Rattle.std.proofs.Math.Nat.{mul-div-le, lt-mul-div-succ}
use borrow.Author.Tests.{lt-ltb, le-ltb, ltb-true, ltb-false}
use Rattle.std.proofs.Math.ListN.{get_or, get_or-eq_default}
use Rattle.rules.specs.Rules.{answers}
use Rattle.rules.specs.Record.{position_of}
use Rattle.rules.specs.Refusals.{first_refusal}
use Rattle.rules.proofs.Answers.{answers_zero}
use Rattle.machine.specs.Machine.{Result}
use Rattle.passes.specs.Passes.{OneGame, total, first, spent, unspent_at, result_at, expanded_by}
use Rattle.passes.specs.Laws.{Bounded}
use Rattle.passes.proofs.Laws.{accounts, total_one, total_same, grant_least, unspent_is, grant_within, all_within, result_alike}
use Rattle.refusals.specs.Numbers.{number}
use Rattle.resume.specs.Lone.{lone_bounded}
use Rattle.calls.specs.Calls.{last_rule, answer_unless}
use Rattle.stay.specs.Margin.{stay_of}
use Rattle.searches.specs.Searches.{pool_least, pool_most, interval_least, interval_most, budget_most, nodes, search_refusal, Answered, search_call}
use Rattle.searches.proofs.SearchAnswers.{search_answered}
use Rattle.searches.proofs.TwoSearches.{third_condition}
use Rattle.games_checks.specs.Checks.{games_most, games, record_at, number_refusal, refusal_at, refusals, earliest, lowest, Common, shares_of, settings_refusal}
use Rattle.games_checks.specs.Earliest.{game_code}
use Rattle.games_checks.specs.declared.GameRefusal.{GameRefusal}
use Rattle.games_checks.proofs.Passing.{counted, Settled, settled}
use Rattle.games_checks.proofs.Naming.{none_early, early_none, earliest_least, lowest_first, lowest_found}
use Rattle.games.specs.Games.{part_words, game_at, GamesOutcome, no_result, refused, judged, games_call, PoolAfterGames}
use Rattle.games.specs.Answers.{outcome_of}
use Rattle.games.proofs.Calling.{part_capacity, all_load, call_judged, pool_refused}
use Rattle.games.specs.GamesStatement.{result_of_game, grant_of_game, spent_before, granting, Named, GamesStatement}
use Rattle.games.specs.declared.JudgedGames.{JudgedGames}

-- WHAT THE CHECKS TELL
module _ (rs : List ℕ) (x : GamesOutcome) where
  abbrev chain : (a b c : ℕ) → GamesOutcome
  chain a b c = answer_unless a (λ n. refused n 0) (answer_unless b (λ n. refused n (lowest n rs)) (answer_unless c (λ n. refused n 0) x))

  passes_all : (a b c : ℕ) → (chain a b c).number ≡ 0 → (a ≡ 0) × (b ≡ 0) × (c ≡ 0)
  passes_all zero zero zero e = (refl, refl, refl)
  passes_all zero zero (suc c) e = absurd (omega arith)
  passes_all zero (suc b) c e = absurd (omega arith)
  passes_all (suc a) b c e = absurd (omega arith)

  -- the first that refuses
  first_is : x.number ≡ 0 → (a b c : ℕ) → (chain a b c).number ≡ first_refusal (a ∷ b ∷ c ∷ [])
  unfolding first_refusal
  first_is q zero zero zero = q
  first_is q zero zero (suc c) = refl
  first_is q zero (suc b) c = refl
  first_is q (suc a) b c = refl

  -- a record's refusal
  of_record : (a b c : ℕ) → a ≡ 0 → (b ≡ 0 → ⊥) → ((chain a b c).number ≡ b) × ((chain a b c).index ≡ lowest b rs)
  of_record zero zero c y z = absurd (z refl)
  of_record zero (suc b) c y z = (refl, refl)
  of_record (suc a) b c y z = absurd (omega arith)

  no_index : x.index ≡ 0 → (a b c : ℕ) → (a ≡ 0 → ⊥) ⊎ (b ≡ 0) → (chain a b c).index ≡ 0
  no_index q zero zero zero e = q
  no_index q zero zero (suc c) e = refl
  no_index q zero (suc b) c (inl z) = absurd (z refl)
  no_index q zero (suc b) c (inr e) = absurd (omega arith)
  no_index q (suc a) b c e = refl

  -- a refusal has no results
  abbrev Empty : GamesOutcome → Type 0
  Empty o = (o.count ≡ 0) × (o.results ≡ replicate games_most no_result)

  refused_empty : x.number ≡ 0 → (a b c : ℕ) → ((chain a b c).number ≡ 0 → ⊥) → Empty (chain a b c)
  refused_empty q zero zero zero z = absurd (z q)
  refused_empty q zero zero (suc c) z = (refl, refl)
  refused_empty q zero (suc b) c z = (refl, refl)
  refused_empty q (suc a) b c z = (refl, refl)

alike : {A : Type 0} (f g : ℕ → A) (i n : ℕ) → ((k : ℕ) → k < i + n → f k ≡ g k) → answers f i n ≡ answers g i n
alike f g i zero h = refl
alike f g i (suc n) h = rw (h i (omega arith), alike f g (suc i) n (λ k l. h k (omega arith)))

nothing_at : {A : Type 0} (n k : ℕ) (d : A) → get_or (replicate n d) k d ≡ d
nothing_at zero k d = refl
nothing_at (suc n) zero d = refl
nothing_at (suc n) (suc k) d = nothing_at n k d

module _ (bytes shares : List ℕ) (C : Common) (w : List ℕ) where
  abbrev o : GamesOutcome
  o = games_call bytes (length w) shares C

  abbrev game : ℕ → OneGame
  game = game_at bytes (length w) shares C

  abbrev size : ℕ
  size = part_words (length w) (games bytes)

  abbrev answer : GamesOutcome
  answer = judged (games bytes) (result_at game C.allowance (games bytes))

  abbrev checked : ℕ
  checked = settings_refusal (nodes (length w)) (games bytes) (shares_of shares (games bytes)) C

  accepted : o.number ≡ 0 → (number_refusal bytes ≡ 0) × (earliest (refusals bytes) ≡ 0) × (checked ≡ 0)
  unfolding games_call
  accepted z = passes_all (refusals bytes) answer (number_refusal bytes) (earliest (refusals bytes)) checked z

  checks : o.number ≡ first_refusal (number_refusal bytes ∷ earliest (refusals bytes) ∷ checked ∷ [])
  unfolding games_call
  checks = first_is (refusals bytes) answer refl (number_refusal bytes) (earliest (refusals bytes)) checked

  -- A refused record
  at_zero : (k : ℕ) → refusal_at bytes (0 + k) ≡ refusal_at bytes k
  at_zero k = let q : 0 + k ≡ k = omega arith in ap (refusal_at bytes) q

  named_by : (e : ℕ) → earliest (refusals bytes) ≡ e → (e ≡ 0 → ⊥) → Named bytes e (lowest e (refusals bytes))
  named_by e q z =
      let found = lowest_found (refusal_at bytes) 0 (games bytes) e q z in
      record {
        refused = z;
        game = found.0;
        refuses = sym (at_zero (lowest e (refusals bytes))) ∙ found.1;
        earliest = λ j l y. omega (arith, q, at_zero j, earliest_least (refusal_at bytes) 0 (games bytes) j l (λ x. y (sym (at_zero j) ∙ x)));
        lowest = λ j l x. lowest_first (refusal_at bytes) 0 (games bytes) e j l (at_zero j ∙ x);
      }

  named : number_refusal bytes ≡ 0 → (k : ℕ) → k < games bytes → (refusal_at bytes k ≡ 0 → ⊥) → Named bytes o.number o.index
  unfolding games_call
  named a k l y =
      let z : earliest (refusals bytes) ≡ 0 → ⊥ = λ e. y (sym (at_zero k) ∙ none_early (refusal_at bytes) 0 (games bytes) e k l) in
      let h = of_record (refusals bytes) answer (number_refusal bytes) (earliest (refusals bytes)) checked a z in
      subst (λ m. Named bytes o.number m) (sym h.1) (subst (λ m. Named bytes m (lowest (earliest (refusals bytes)) (refusals bytes))) (sym h.0) (named_by (earliest (refusals bytes)) refl z))

  unnamed : (number_refusal bytes ≡ 0 → ⊥) ⊎ ((k : ℕ) → k < games bytes → refusal_at bytes k ≡ 0) → o.index ≡ 0
  unfolding games_call
  unnamed h = no_index (refusals bytes) answer refl (number_refusal bytes) (earliest (refusals bytes)) checked (loads h)
    where
      loads : (number_refusal bytes ≡ 0 → ⊥) ⊎ ((k : ℕ) → k < games bytes → refusal_at bytes k ≡ 0) → (number_refusal bytes ≡ 0 → ⊥) ⊎ (earliest (refusals bytes) ≡ 0)
      loads (inl z) = inl z
      loads (inr f) = inr (early_none (refusal_at bytes) 0 (games bytes) (λ k l. at_zero k ∙ f k l))

  no_results : (o.number ≡ 0 → ⊥) → (o.count ≡ 0) × ((i : ℕ) → result_of_game o i ≡ no_result)
  unfolding games_call
  no_results z =
      let e = refused_empty (refusals bytes) answer refl (number_refusal bytes) (earliest (refusals bytes)) checked z in
      (e.0, λ i. ap (λ (rs : List Result). get_or rs i no_result) e.1 ∙ nothing_at games_most i no_result)

  -- An answered call
  module _ (z : o.number ≡ 0) where
    number_none : number_refusal bytes ≡ 0
    number_none = (accepted z).0

    loads : (i : ℕ) → i < games bytes → refusal_at bytes i ≡ 0
    loads = all_load bytes (accepted z).1

    fine : Settled (nodes (length w)) (games bytes) (shares_of shares (games bytes)) C
    fine = settled (nodes (length w)) (games bytes) (shares_of shares (games bytes)) C (accepted z).2

    is_answer : o ≡ answer
    is_answer = sym (call_judged bytes (length w) shares C (accepted z).0 (accepted z).1 (accepted z).2)

    part_least : 1 ≤ size / 5
    part_least = omega (arith, part_capacity (length w) (games bytes), fine.part_some)

    part_most : size / 5 ≤ 16777216
    part_most = omega (arith, part_capacity (length w) (games bytes), fine.pool_at_most, div-le_self (nodes (length w)) (games bytes))

    -- they are as large as they can be
    parts : (size ≡ size / 5 * 5) × (games bytes * (size / 5) ≤ nodes (length w)) × (nodes (length w) < games bytes * (size / 5 + 1))
    parts =
        let q = part_capacity (length w) (games bytes) in
        let some : 0 < games bytes = (counted bytes number_none).some in (
          ap (λ m. m * 5) (sym q),
          subst (λ m. games bytes * m ≤ nodes (length w)) (sym q) (mul-div-le (nodes (length w)) (games bytes)),
          subst (λ m. nodes (length w) < games bytes * (m + 1)) (sym q) (lt-mul-div-succ (nodes (length w)) some),
        )

    few : (1 ≤ games bytes) × (games bytes ≤ games_most) × (length bytes ≡ games bytes * 21)
    few = let k = counted bytes number_none in (k.some, k.few, omega (arith, k.whole, div-add-mod' (length bytes) 21))

    bounded : (k : ℕ) → Bounded (game k)
    bounded k = lone_bounded C.rule (size / 5) C.limit C.interval (stay_of C.stay) (get_or shares k 0) (position_of (record_at bytes k)) (record { some = part_least; most = part_most })

    result_is : (i : ℕ) → i < games bytes → result_of_game o i ≡ result_at game C.allowance (games bytes) i
    result_is i l =
        ap (λ (x : GamesOutcome). get_or x.results i no_result) is_answer
        ∙ answers_zero (λ k. cond (ltb k (games bytes)) (result_at game C.allowance (games bytes) k) no_result) 8 i no_result (omega (arith, (counted bytes number_none).few))
        ∙ ap (λ b. cond b (result_at game C.allowance (games bytes) i) no_result) (lt-ltb i (games bytes) l)

    past_games : (i : ℕ) → games bytes ≤ i → result_of_game o i ≡ no_result
    past_games i l = ap (λ (x : GamesOutcome). get_or x.results i no_result) is_answer ∙ go (ltb i 8) refl
      where
        go : (b : Bool) → ltb i 8 ≡ b → get_or (answers (λ k. cond (ltb k (games bytes)) (result_at game C.allowance (games bytes) k) no_result) 0 8) i no_result ≡ no_result
        go true e =
            answers_zero (λ k. cond (ltb k (games bytes)) (result_at game C.allowance (games bytes) k) no_result) 8 i no_result (ltb-true i 8 e)
            ∙ ap (λ b. cond b (result_at game C.allowance (games bytes) i) no_result) (le-ltb i (games bytes) l)
        go false e = get_or-eq_default (answers (λ k. cond (ltb k (games bytes)) (result_at game C.allowance (games bytes) k) no_result) 0 8) no_result (ltb-false i 8 e)

    -- what the first games expanded
    expanded_is : (m : ℕ) → m ≤ games bytes → expanded_by game C.allowance (games bytes) m ≡ total (answers (λ k. (result_of_game o k).expanded) 0 m)
    expanded_is m l = total_same _ _ 0 m (λ k b. ap (λ (r : Result). r.expanded) (sym (result_is k (omega arith))))

    shared : total (shares_of shares (games bytes)) ≤ C.allowance
    shared = fine.shared

    share_range : (i : ℕ) → i < games bytes → get_or shares i 0 ≤ budget_most
    share_range i l =
        let q : 0 + i ≡ i = omega arith in
        omega (arith, ap (λ k. get_or shares k 0) q, total_one (λ k. get_or shares k 0) 0 (games bytes) i l, shared, fine.allowance_most)

    grants : (i : ℕ) → i < games bytes
        → (spent_before bytes shares C (length w) o i ≤ C.allowance)
        × (grant_of_game bytes shares C (length w) i
        ≡ cond (eqb (first (game i)).cause 1) (get_or shares i 0 + (C.allowance - spent_before bytes shares C (length w) o i)) (get_or shares i 0))
    grants i l =
        let q : i + (games bytes - i) ≡ games bytes = omega arith in (
          omega (arith, accounts game bounded C.allowance (games bytes) shared i (games bytes - i) q, expanded_is i (omega arith)),
          ap (λ u. cond (eqb (first (game i)).cause 1) (get_or shares i 0 + u) (get_or shares i 0))
              (unspent_is game bounded C.allowance (games bytes) shared i (games bytes - i) q
              ∙ ap (λ x. C.allowance - (x + spent game i (games bytes - i))) (expanded_is i (omega arith))),
        )

    most : (i : ℕ) → i < games bytes → grant_of_game bytes shares C (length w) i ≤ C.allowance
    most i l = grant_within game bounded C.allowance (games bytes) shared i l

    -- every check of the lone search is passed
    lone_accepted : (i : ℕ) → i < games bytes → search_refusal (record_at bytes i) (nodes size) C.rule (granting C (grant_of_game bytes shares C (length w) i)) ≡ 0
    unfolding search_refusal first_refusal
    lone_accepted i l =
        rw (
          loads i l,
          le-ltb (size / 5) pool_least part_least,
          le-ltb pool_most (size / 5) part_most,
          le-ltb last_rule C.rule fine.rule_most,
          le-ltb C.interval interval_least fine.interval_at_least,
          le-ltb interval_most C.interval fine.interval_at_most,
          le-ltb budget_most (grant_of_game bytes shares C (length w) i) (omega (arith, most i l, fine.allowance_most)),
          fine.stay_is_in_range,
        )

    each : (i : ℕ) → i < games bytes
        → search_call (record_at bytes i) size C.rule (granting C (grant_of_game bytes shares C (length w) i)) ≡ Answered (result_of_game o i)
    each i l = search_answered (record_at bytes i) size C.rule (granting C (grant_of_game bytes shares C (length w) i)) (lone_accepted i l) (result_of_game o i) (sym (result_is i l))

    within : total (answers (λ i. (result_of_game o i).expanded) 0 (games bytes)) ≤ C.allowance
    within = omega (arith, expanded_is (games bytes) (omega arith), all_within game bounded C.allowance (games bytes) shared)

  -- Shares past the last game: the checks and the results are the same with others there
  module _ (others : List ℕ) (same : (i : ℕ) → i < games bytes → get_or others i 0 ≡ get_or shares i 0) where
    shares_same : shares_of others (games bytes) ≡ shares_of shares (games bytes)
    shares_same = alike (λ i. get_or others i 0) (λ i. get_or shares i 0) 0 (games bytes) (λ k l. same k (omega arith))

    results_same : (i : ℕ) (b : Bool) → ltb i (games bytes) ≡ b
        → cond b (result_at (game_at bytes (length w) others C) C.allowance (games bytes) i) no_result ≡ cond b (result_at game C.allowance (games bytes) i) no_result
    results_same i true e =
        result_alike (game_at bytes (length w) others C) game C.allowance (games bytes) (λ k l. ap (λ s. record { share = s; search = (game k).search }) (same k l)) i (ltb-true i (games bytes) e)
    results_same i false e = refl

    not_read : games_call bytes (length w) others C ≡ o
    unfolding games_call
    not_read =
        rw (
          shares_same,
          alike (λ i. cond (ltb i (games bytes)) (result_at (game_at bytes (length w) others C) C.allowance (games bytes) i) no_result)
              (λ i. cond (ltb i (games bytes)) (result_at game C.allowance (games bytes) i) no_result) 0 8 (λ i l. results_same i (ltb i (games bytes)) refl),
        )

-- THEOREM: the call is as promised
pub games_statement : (bytes shares : List ℕ) (C : Common) (w v : List ℕ) → PoolAfterGames (games_call bytes (length w) shares C).number (games bytes) w v
    → GamesStatement bytes shares C w v (games_call bytes (length w) shares C)
games_statement bytes shares C w v pool = record {
  checks = checks bytes shares C w;
  few = few bytes shares C w;
  parts = parts bytes shares C w;
  remainder = λ z. left_over (games_call bytes (length w) shares C).number z pool;
  not_read = not_read bytes shares C w;
  share_range = share_range bytes shares C w;
  allowance_range = λ z. (fine bytes shares C w z).allowance_most;
  shared = shared bytes shares C w;
  grants = grants bytes shares C w;
  as_many = λ z. (ap (λ (x : GamesOutcome). x.count) (is_answer bytes shares C w z), past_games bytes shares C w z);
  each = each bytes shares C w;
  third = λ z i l words T s e.
      let r = result_of_game (games_call bytes (length w) shares C) i in
      (third_condition _ _ _ T _ words r s (each bytes shares C w z i l) e, third_condition _ _ T _ words _ s r e (each bytes shares C w z i l));
  least = λ z i l. grant_least (game_at bytes (length w) shares C i) (bounded bytes shares C w z i) (unspent_at (game_at bytes (length w) shares C) C.allowance (games bytes) i);
  most = most bytes shares C w;
  within = within bytes shares C w;
  named = named bytes shares C w;
  unnamed = unnamed bytes shares C w;
  untouched = λ z. as_it_was (games_call bytes (length w) shares C).number z pool;
  no_results = no_results bytes shares C w;
}
  where
    left_over : (k : ℕ) → k ≡ 0 → PoolAfterGames k (games bytes) w v → PoolAfterGames 0 (games bytes) w v
    left_over k z h = subst (λ m. PoolAfterGames m (games bytes) w v) z h

    as_it_was : (k : ℕ) → (k ≡ 0 → ⊥) → PoolAfterGames k (games bytes) w v → v ≡ w
    as_it_was zero z h = absurd (z refl)
    as_it_was (suc k) z h = h

-- of the code's answer: its equation, the pool's words, and all that is promised
abbrev pub Keeps : (bytes shares : List ℕ) → Common → (w v : List ℕ) → prelude.Result JudgedGames GameRefusal → Type 0
Keeps bytes shares C w v r = (outcome_of r ≡ games_call bytes (length w) shares C) × (PoolAfterGames (game_code r) (games bytes) w v × GamesStatement bytes shares C w v (outcome_of r))

outcome_number : (r : prelude.Result JudgedGames GameRefusal) → (outcome_of r).number ≡ game_code r
outcome_number (prelude.Ok g) = refl
outcome_number (prelude.Err e) = refl

pub keeps : (bytes shares : List ℕ) (C : Common) (w v : List ℕ) (r : prelude.Result JudgedGames GameRefusal) → outcome_of r ≡ games_call bytes (length w) shares C
    → PoolAfterGames (game_code r) (games bytes) w v → Keeps bytes shares C w v r
keeps bytes shares C w v r e pool = (
  e,
  (
    pool,
    subst (GamesStatement bytes shares C w v) (sym e)
        (games_statement bytes shares C w v (subst (λ k. PoolAfterGames k (games bytes) w v) (sym (outcome_number r) ∙ ap (λ (o : GamesOutcome). o.number) e) pool)),
  ),
)

pub keeps_refused : (bytes shares : List ℕ) (C : Common) (w : List ℕ) (e : GameRefusal) → refused (number e.refusal) e.index ≡ games_call bytes (length w) shares C
    → Keeps bytes shares C w w (prelude.Err e)
keeps_refused bytes shares C w e q = keeps bytes shares C w w (prelude.Err e) q (pool_refused e.refusal (games bytes) w)
