-- What is promised of the largest budget (MANUAL, Calls; The third condition): one record, of every call that takes a budget, shares or an allowance. Rests on the
-- definitions of these calls and on a record's N.
use Rattle.std.specs.Prelude.{◌≡◌, List, [], ◌∷◌, ℕ, ◌/◌, ◌≤◌, ◌<◌, ltb, get_or}
use Rattle.rules.specs.Record.{refusal}
use Rattle.rules.specs.Refusals.{refuses, first_refusal}
use Rattle.machine.specs.Machine.{Result, Unknown}
use Rattle.plain.specs.Plain.{record_sequences}
use Rattle.passes.specs.Passes.{total}
use Rattle.stay.specs.declared.Stay.{Stay}
use Rattle.searches.specs.Searches.{pool_least, pool_most, budget_most, Limits, limits, nodes, search_refusal, Refused, Answered, search_call, Turned, full_call}
use Rattle.entries.specs.declared.Caller.TheVariants.{Arbiter}
use Rattle.book.specs.Book.{Book, refused, add_call}
use Rattle.games_checks.specs.Checks.{games, number_refusal, refusals, earliest, Common, common, shares_of, settings_refusal}
use Rattle.games.specs.Games.{games_call}
use Rattle.games.specs.GamesStatement.{grant_of_game}

-- The same with a budget of 0; with an allowance of 0.
abbrev pub without_budget : Limits → Limits
without_budget L = limits L.limit 0 L.interval L.stay

abbrev pub without_allowance : Common → Common
without_allowance C = common C.rule C.limit 0 C.interval C.stay

-- The number of the first of search's checks before 10 that refuses, and 10 if none does; likewise of games.
abbrev pub up_to_ten : (bytes : List ℕ) (capacity : ℕ) → ℕ
up_to_ten bytes capacity = first_refusal (refusal bytes ∷ refuses 8 (ltb capacity pool_least) ∷ refuses 9 (ltb pool_most capacity) ∷ 10 ∷ [])

abbrev pub games_up_to_ten : (bytes : List ℕ) (capacity : ℕ) → ℕ
games_up_to_ten bytes capacity =
    first_refusal (number_refusal bytes ∷ earliest (refusals bytes) ∷ refuses 8 (ltb (capacity / games bytes) pool_least) ∷ refuses 9 (ltb pool_most capacity) ∷ 10 ∷ [])

pub record BudgetStatement : Type 0 where
  -- 3,000,000 is the largest budget:
  pub largest : budget_most ≡ 3000000
  -- in searches, which are those of search, full verdict and add. Up to it the checks come out as with a budget of 0;
  pub budget_within : (bytes : List ℕ) (capacity rule : ℕ) (L : Limits) → L.budget ≤ budget_most → search_refusal bytes capacity rule L ≡ search_refusal bytes capacity rule (without_budget L)
  -- and in shares and allowance. Up to it the checks come out as with no share and an allowance of 0, and then comes the sum of the shares.
  pub shares_within : (capacity n : ℕ) (shares : List ℕ) (C : Common) → ((i : ℕ) → i < n → get_or shares i 0 ≤ budget_most) → C.allowance ≤ budget_most
      → settings_refusal capacity n (shares_of shares n) C ≡ first_refusal (settings_refusal capacity n [] (without_allowance C) ∷ refuses 20 (ltb C.allowance (total (shares_of shares n))) ∷ [])
  -- 3,000,001, and any number above it, is answered by 10 unless an earlier check refuses the call; by no later check. So a search, a full verdict, an arbiter's add,
  pub search_over : (bytes : List ℕ) (words rule : ℕ) (L : Limits) → budget_most < L.budget → search_call bytes words rule L ≡ Refused (up_to_ten bytes (nodes words))
  pub full_over : (bytes : List ℕ) (words : ℕ) (L : Limits) → budget_most < L.budget → full_call bytes words L ≡ Turned (up_to_ten bytes (nodes words))
  pub add_over : (bytes : List ℕ) (words rule : ℕ) (L : Limits) (B : Book) → budget_most < L.budget → add_call Arbiter bytes words rule L B ≡ refused B (up_to_ten bytes (nodes words))
  -- the share of one of the games, and the allowance.
  pub share_over : (bytes shares : List ℕ) (C : Common) (words i : ℕ) → i < games bytes → budget_most < get_or shares i 0 → (games_call bytes words shares C).number ≡ games_up_to_ten bytes (nodes words)
  pub allowance_over : (bytes shares : List ℕ) (C : Common) (words : ℕ) → budget_most < C.allowance → (games_call bytes words shares C).number ≡ games_up_to_ten bytes (nodes words)
  -- What a game is granted is at most the allowance, in the second pass too: a budget that is never out of its range.
  pub grant_within : (bytes shares : List ℕ) (C : Common) (words i : ℕ) → (games_call bytes words shares C).number ≡ 0 → i < games bytes
      → (grant_of_game bytes shares C words i ≤ C.allowance) × (C.allowance ≤ budget_most)
  -- What is said of a search with a budget of N or more is said of N up to 3,000,000 alone;
  pub N_within : (bytes : List ℕ) (words rule : ℕ) (L : Limits) (r : Result) → search_call bytes words rule L ≡ Answered r → record_sequences bytes ≤ L.budget
      → record_sequences bytes ≤ budget_most
  -- and for these the largest budget is enough, where pool and limit are N or more.
  pub enough : (bytes : List ℕ) (words rule limit interval : ℕ) (y : Stay) (r : Result) → search_call bytes words rule (limits limit budget_most interval y) ≡ Answered r
      → record_sequences bytes ≤ budget_most → record_sequences bytes ≤ nodes words → record_sequences bytes ≤ limit → r.verdict ≡ Unknown → ⊥
