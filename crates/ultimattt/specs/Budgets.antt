-- The largest budget is as promised. Rests on BudgetStatement, and on the laws of checks, of two searches, of games and of simulated players.
use Rattle.std.specs.Prelude.{◌≡◌, refl, Bool, true, false, not, List, [], ◌∷◌, ◌++◌, ℕ, zero, suc, ◌/◌, ◌≤◌, ◌<◌, ltb, length, get_or, replicate}
use Rattle.std.proofs.Common.{ap, sym, ◌∙◌, subst, arith}
use borrow.Author.Tests.{lt-ltb, le-ltb}
use Rattle.std.proofs.lemmas.List.{length-replicate}
use Rattle.rules.specs.Rules.{Player, any}
use Rattle.rules.proofs.Tests.{at_any, at_none}
use Rattle.rules.proofs.Answers.{length_answers, answers_zero}
use Rattle.rules.specs.Record.{refusal}
use Rattle.rules.specs.Refusals.{refuses, first_refusal}
use Rattle.rules.proofs.RefusalLaws.{first_refuses, same_first, same_number, nested, last_refuses, passes_last, end_refuses}
use Rattle.passes.specs.Passes.{total}
use Rattle.matches.specs.Matches.{report}
use Rattle.stay.specs.Margin.{stay_in_range}
use Rattle.calls.specs.Calls.{last_rule}
use Rattle.calls.proofs.Refusing.{refused_by}
use Rattle.searches.specs.Searches.{pool_least, pool_most, interval_least, interval_most, budget_most, Limits, nodes, search_refusal, Refused, search_call, Turned, full_call}
use Rattle.searches.proofs.SearchAnswers.{search_refused, full_refused}
use Rattle.searches.proofs.TwoSearches.{third_condition, budgets_of_N}
use Rattle.entries.specs.declared.Caller.TheVariants.{Arbiter}
use Rattle.book.specs.Book.{Book, refused, add_refusal, add_call}
use Rattle.games_checks.specs.Checks.{games, Common, shares_of, settings_refusal}
use Rattle.games.specs.Games.{games_call, PoolAfterGames}
use Rattle.games.specs.GamesStatement.{GamesStatement, grant_of_game}
use Rattle.games.proofs.Promising.{games_statement}
use Rattle.players.specs.Players.{Players, budget_of, with_budget, larger, simulate_refusal, simulate_outcome, simulate_call}
use Rattle.players.proofs.Calling.{budget_at_most, call_refused}
use Rattle.ultimattt.specs.BudgetStatement.{without_budget, without_allowance, up_to_ten, games_up_to_ten, BudgetStatement}

-- two checks, three that refuse by 10 if at all, and the first of some more refuses by 10
first_up_to_ten : (x y : ℕ) (a b c : Bool) (ns : List ℕ) → first_refusal ns ≡ 10 → first_refusal (x ∷ y ∷ refuses 10 a ∷ refuses 10 b ∷ refuses 10 c ∷ ns) ≡ first_refusal (x ∷ y ∷ 10 ∷ [])
first_up_to_ten x y a b c ns e = same_first x _ _ (same_first y _ _ (same_number 10 a _ (same_number 10 b _ (same_number 10 c ns e)) ∙ sym (last_refuses 10)))

ten_first : (ns : List ℕ) → first_refusal (10 ∷ ns) ≡ 10
ten_first ns = first_refuses 10 ns (λ q. omega (arith, q))

-- SEARCHES
module _ (bytes : List ℕ) (capacity rule : ℕ) (L : Limits) where
  within : L.budget ≤ budget_most → search_refusal bytes capacity rule L ≡ search_refusal bytes capacity rule (without_budget L)
  unfolding search_refusal
  within l = rw (le-ltb budget_most L.budget l)

  over : budget_most < L.budget → up_to_ten bytes capacity ≡ search_refusal bytes capacity rule L
  unfolding search_refusal
  over l =
      rw (lt-ltb budget_most L.budget l)
      (sym (same_first (refusal bytes) _ _ (first_up_to_ten _ _ (ltb last_rule rule) (ltb L.interval interval_least) (ltb interval_most L.interval) _ (ten_first _))))

up_to_ten_refuses : (bytes : List ℕ) (capacity : ℕ) → up_to_ten bytes capacity ≡ 0 → ⊥
up_to_ten_refuses bytes capacity = end_refuses (refusal bytes ∷ refuses 8 (ltb capacity pool_least) ∷ refuses 9 (ltb pool_most capacity) ∷ []) 9

search_over : (bytes : List ℕ) (words rule : ℕ) (L : Limits) → budget_most < L.budget → search_call bytes words rule L ≡ Refused (up_to_ten bytes (nodes words))
search_over bytes words rule L l = sym (search_refused bytes words rule L _ (over bytes (nodes words) rule L l) (up_to_ten_refuses bytes (nodes words)))

full_over : (bytes : List ℕ) (words : ℕ) (L : Limits) → budget_most < L.budget → full_call bytes words L ≡ Turned (up_to_ten bytes (nodes words))
full_over bytes words L l = sym (full_refused bytes words L _ (over bytes (nodes words) 0 L l) (up_to_ten_refuses bytes (nodes words)))

-- an arbiter's checks, where search's refuse
pub arbiter_first : (n m : ℕ) → (n ≡ 0 → ⊥) → first_refusal (0 ∷ n ∷ m ∷ []) ≡ n
unfolding first_refusal
arbiter_first n m z = first_refuses n (m ∷ []) z

add_over : (bytes : List ℕ) (words rule : ℕ) (L : Limits) (B : Book) → budget_most < L.budget → add_call Arbiter bytes words rule L B ≡ refused B (up_to_ten bytes (nodes words))
unfolding add_call add_refusal
add_over bytes words rule L B l =
    let e = over bytes (nodes words) rule L l in
    let z = up_to_ten_refuses bytes (nodes words) in
    sym (refused_by (refused B) _ _ _ (e ∙ sym (arbiter_first _ _ (λ q. z (e ∙ q)))) z)

-- a simulated player's budget: the larger one is over if one of the two is
pub player_over : (bytes : List ℕ) (words : ℕ) (P : Players) (seed games : ℕ) (side : Player) → budget_most < budget_of P side
    → simulate_call bytes words P seed games ≡ simulate_outcome (up_to_ten bytes (nodes words)) 0 (report 0 0 0 0)
unfolding simulate_refusal
player_over bytes words P seed games side l =
    let e = over bytes (nodes words) 2 (with_budget P (larger P)) (omega (arith, l, budget_at_most P side)) in
    let z = up_to_ten_refuses bytes (nodes words) in
    sym (call_refused bytes words P seed games _ (e ∙ sym (first_refuses _ _ (λ q. z (e ∙ q)))) z)

-- SHARES AND ALLOWANCE
module _ (capacity n : ℕ) (shares : List ℕ) (C : Common) where
  -- the checks before those of the shares, and where they end with 10
  abbrev before : List ℕ
  before =
      refuses 8 (ltb (capacity / n) pool_least)
      ∷ refuses 9 (ltb pool_most capacity)
      ∷ refuses 10 (ltb last_rule C.rule)
      ∷ refuses 10 (ltb C.interval interval_least)
      ∷ refuses 10 (ltb interval_most C.interval)
      ∷ []

  abbrev settings_up_to_ten : ℕ
  settings_up_to_ten = first_refusal (refuses 8 (ltb (capacity / n) pool_least) ∷ refuses 9 (ltb pool_most capacity) ∷ 10 ∷ [])

  shares_within : any (ltb budget_most) (shares_of shares n) ≡ false → C.allowance ≤ budget_most
      → settings_refusal capacity n (shares_of shares n) C
      ≡ first_refusal (settings_refusal capacity n [] (without_allowance C) ∷ refuses 20 (ltb C.allowance (total (shares_of shares n))) ∷ [])
  unfolding settings_refusal total
  shares_within e l =
      let others = before ++ (0 ∷ 0 ∷ refuses 21 (not (stay_in_range C.stay)) ∷ []) in
      rw (e, le-ltb budget_most C.allowance l, passes_last others) (sym (nested others (refuses 20 (ltb C.allowance (total (shares_of shares n))) ∷ [])))

  -- the checks from 8 on, where those from the shares' on refuse by 10
  settings_first_up_to_ten : (ns : List ℕ) → first_refusal ns ≡ 10 → first_refusal (before ++ ns) ≡ settings_up_to_ten
  settings_first_up_to_ten ns e = first_up_to_ten _ _ (ltb last_rule C.rule) (ltb C.interval interval_least) (ltb interval_most C.interval) ns e

  share_over : any (ltb budget_most) (shares_of shares n) ≡ true → settings_refusal capacity n (shares_of shares n) C ≡ settings_up_to_ten
  unfolding settings_refusal
  share_over e = rw e (settings_first_up_to_ten _ (ten_first _))

  allowance_over : budget_most < C.allowance → settings_refusal capacity n (shares_of shares n) C ≡ settings_up_to_ten
  unfolding settings_refusal
  allowance_over l = rw (lt-ltb budget_most C.allowance l) (settings_first_up_to_ten _ (same_number 10 (any (ltb budget_most) (shares_of shares n)) _ (ten_first _)))

-- the shares of n games, by one above the range, and by none
module _ (shares : List ℕ) (n : ℕ) where
  above : (i : ℕ) → i < n → budget_most < get_or shares i 0 → any (ltb budget_most) (shares_of shares n) ≡ true
  above i l h =
      at_any (ltb budget_most) (shares_of shares n) i 0 (rw (length_answers (λ k. get_or shares k 0) 0 n) l)
      (rw (answers_zero (λ k. get_or shares k 0) n i 0 l) (lt-ltb budget_most (get_or shares i 0) h))

  none_above : ((i : ℕ) → i < n → get_or shares i 0 ≤ budget_most) → any (ltb budget_most) (shares_of shares n) ≡ false
  none_above h =
      at_none (ltb budget_most) (shares_of shares n) 0
      (λ i l. let b : i < n = omega (arith, length_answers (λ k. get_or shares k 0) 0 n, l) in rw (answers_zero (λ k. get_or shares k 0) n i 0 b) (le-ltb budget_most (get_or shares i 0) (h i b)))

-- what is promised of games, with a pool of so many words that stays as it is
module _ (bytes shares : List ℕ) (C : Common) (words : ℕ) where
  as_it_was : (w : List ℕ) (k : ℕ) → PoolAfterGames k (games bytes) w w
  as_it_was w zero = (refl, refl)
  as_it_was w (suc k) = refl

  abbrev pub Promised : ℕ → Type 0
  Promised n = (w : List ℕ) × (length w ≡ n) × GamesStatement bytes shares C w w (games_call bytes n shares C)

  pub promised : Promised words
  promised =
      let w : List ℕ = replicate words 0 in
      let long : length w ≡ words = length-replicate words 0 in
      (w, long, subst (λ n. GamesStatement bytes shares C w w (games_call bytes n shares C)) long (games_statement bytes shares C w w (as_it_was w (games_call bytes (length w) shares C).number)))

  games_first_up_to_ten : settings_refusal (nodes words) (games bytes) (shares_of shares (games bytes)) C ≡ settings_up_to_ten (nodes words) (games bytes) shares C
      → (games_call bytes words shares C).number ≡ games_up_to_ten bytes (nodes words)
  games_first_up_to_ten e =
      let h = promised in
      let settings = ap (λ n. settings_refusal (nodes n) (games bytes) (shares_of shares (games bytes)) C) h.1 ∙ e in
      h.2.checks ∙ same_first _ _ _ (same_first _ _ _ (last_refuses _ ∙ settings))

  granted : (games_call bytes words shares C).number ≡ 0 → (i : ℕ) → i < games bytes → (grant_of_game bytes shares C words i ≤ C.allowance) × (C.allowance ≤ budget_most)
  granted z i l =
      let h = promised in
      (subst (λ n. grant_of_game bytes shares C n i ≤ C.allowance) h.1 (h.2.most z i l), h.2.allowance_range z)

-- THEOREM
pub budgets : BudgetStatement
budgets = record {
  largest = refl;
  budget_within = within;
  shares_within = λ capacity n shares C h l. shares_within capacity n shares C (none_above shares n h) l;
  search_over = search_over;
  full_over = full_over;
  add_over = add_over;
  share_over = λ bytes shares C words i l h. games_first_up_to_ten bytes shares C words (share_over (nodes words) (games bytes) shares C (above shares (games bytes) i l h));
  allowance_over = λ bytes shares C words h. games_first_up_to_ten bytes shares C words (allowance_over (nodes words) (games bytes) shares C h);
  grant_within = λ bytes shares C words i z l. granted bytes shares C words z i l;
  N_within = budgets_of_N;
  enough = λ bytes words rule limit interval y r e l m k. (third_condition bytes rule _ _ words words r r e e).first_decided m k l;
}
