-- A free choice that can't be is refused as promised. Rests on ChoiceStatement, on the laws of check 22 in crate rules, and on the laws of the calls' checks.
use Rattle.std.specs.Prelude.{◌≡◌, refl, true, List, ◌∷◌, ◌⊎◌, ℕ, ◌+◌, ◌*◌, ◌/◌, ◌≤◌, ◌<◌, leb, length}
use Rattle.std.proofs.Common.{ap, ◌∙◌, inl, inr, arith}
use Rattle.std.proofs.Math.Path.{sym}
use Rattle.std.proofs.Math.Decide.{dec_lt}
use Rattle.rules.specs.Rules.{has_line, state, board, board_states}
use Rattle.rules.specs.Record.{bit_at, position_of, position_refusal, refusal_to6, impossible_choice, refusal}
use Rattle.rules.specs.Refusals.{first_refusal}
use Rattle.rules.proofs.RefusalLaws.{first_refuses, last_refuses}
use Rattle.rules.proofs.Checks.{loads, loads_accepted}
use Rattle.rules.proofs.Roundtrip.{stored_loads}
use Rattle.rules.proofs.ChoiceLaws.{to_6_first, by_22, others_pass, accepted_can_be, no_move_leads, replay_accepted}
use Rattle.calls.specs.Calls.{replay_outcome, output_refusal, replay_call, moves_outcome, moves_call, referee_outcome, referee_call}
use Rattle.calls.proofs.Turned.{replay_refused, moves_refused, referee_record, referee_refused}
use Rattle.calls.proofs.Refusing.{refused_by}
use Rattle.searches.specs.Searches.{Limits, nodes, search_refusal, Refused, search_call, Turned, full_call}
use Rattle.searches.proofs.SearchAnswers.{answered}
use Rattle.searches.proofs.SearchAnswers.{search_refused, full_refused}
use Rattle.searches.proofs.Accepting.{accepts}
use Rattle.entries.specs.Entries.{Entry, find}
use Rattle.entries.proofs.Placing.{marked}
use Rattle.entries.specs.declared.Caller.{Caller}
use Rattle.entries.specs.declared.Caller.TheVariants.{Arbiter}
use Rattle.book.specs.Book.{Book, size, used, refused, lookup_refusal, lookup_call, add_refusal, add_call, publish_refusal, publish_call}
use Rattle.book.proofs.Kept.{stay_after}
use Rattle.games_checks.specs.Checks.{games, record_at, number_refusal, refusal_at, Common}
use Rattle.games.specs.Games.{games_call}
use Rattle.games.specs.GamesStatement.{Named}
use Rattle.matches.specs.Matches.{report}
use Rattle.players.specs.Players.{Players, with_budget, larger, simulate_refusal, simulate_outcome, simulate_call}
use Rattle.players.proofs.Calling.{call_refused}
use Rattle.ultimattt.specs.Budgets.{arbiter_first, promised}
use Rattle.ultimattt.specs.ChoiceStatement.{unmarked, ChoiceStatement}

-- checks that begin with the record's refuse by 22
module _ (bytes : List ℕ) (e : refusal bytes ≡ 22) where
  first_22 : (ns : List ℕ) → 22 ≡ first_refusal (refusal bytes ∷ ns)
  first_22 ns = sym (first_refuses (refusal bytes) ns (λ z. omega (arith, e, z)) ∙ e)

  by_output : (room needed : ℕ) → 22 ≡ output_refusal bytes room needed
  unfolding output_refusal
  by_output room needed = first_22 _

  by_search : (capacity rule : ℕ) (L : Limits) → 22 ≡ search_refusal bytes capacity rule L
  unfolding search_refusal
  by_search capacity rule L = first_22 _

  by_lookup : (rule : ℕ) (B : Book) → 22 ≡ lookup_refusal bytes rule B
  unfolding lookup_refusal
  by_lookup rule B = first_22 _

  -- 22 is no 0
  some : ◌≡◌ {A = ℕ} 22 0 → ⊥
  some z = omega (arith, z)

  replay_22 : (moves out : List ℕ) → replay_call bytes moves out ≡ replay_outcome 22 0 out
  replay_22 moves out = sym (replay_refused bytes moves out 22 (by_output (length out) 21) some)

  moves_22 : (out : List ℕ) → moves_call bytes out ≡ moves_outcome 22 0 0 out
  moves_22 out = sym (moves_refused bytes out 22 (by_output (length out) 81) some)

  search_22 : (words rule : ℕ) (L : Limits) → search_call bytes words rule L ≡ Refused 22
  search_22 words rule L = sym (search_refused bytes words rule L 22 (by_search (nodes words) rule L) some)

  full_22 : (words : ℕ) (L : Limits) → full_call bytes words L ≡ Turned 22
  full_22 words L = sym (full_refused bytes words L 22 (by_search (nodes words) 0 L) some)

  referee_22 : (rule : ℕ) → referee_call bytes rule ≡ referee_outcome 22 0 0
  referee_22 rule = sym (referee_refused bytes rule 22 (referee_record bytes rule 22 (sym e) some) some)

  pub simulate_22 : (words : ℕ) (P : Players) (seed games : ℕ) → simulate_call bytes words P seed games ≡ simulate_outcome 22 0 (report 0 0 0 0)
  unfolding simulate_refusal
  simulate_22 words P seed games =
      let s = by_search (nodes words) 2 (with_budget P (larger P)) in
      sym (call_refused bytes words P seed games 22 (s ∙ sym (first_refuses _ _ (λ q. some (s ∙ q)))) some)

  lookup_22 : (who : Caller) (rule : ℕ) (B : Book) → lookup_call who bytes rule B ≡ refused B 22
  unfolding lookup_call
  lookup_22 who rule B = sym (refused_by (refused B) _ _ _ (by_lookup rule B) some)

  add_22 : (words rule : ℕ) (L : Limits) (B : Book) → add_call Arbiter bytes words rule L B ≡ refused B 22
  unfolding add_call add_refusal
  add_22 words rule L B =
      let s = by_search (nodes words) rule L in
      sym (refused_by (refused B) _ _ _ (s ∙ sym (arbiter_first _ _ (λ q. some (s ∙ q)))) some)

  publish_22 : (rule : ℕ) (B : Book) → publish_call Arbiter bytes rule B ≡ refused B 22
  unfolding publish_call publish_refusal first_refusal
  publish_22 rule B = sym (refused_by (refused B) _ _ _ (by_lookup rule B ∙ sym (last_refuses _)) some)

-- games, by what is promised of the game that a refusal names
module _ (bytes shares : List ℕ) (C : Common) (words k : ℕ) (number : number_refusal bytes ≡ 0) (game : k < games bytes) where
  named : (refusal_at bytes k ≡ 0 → ⊥) → Named bytes (games_call bytes words shares C).number (games_call bytes words shares C).index
  named z = (promised bytes shares C words).2.named number k game z

  games_to_6 : (refusal_to6 (record_at bytes k) ≡ 0 → ⊥) → (games_call bytes words shares C).number ≤ refusal_to6 (record_at bytes k)
  games_to_6 z =
      let first = to_6_first (record_at bytes k) z in
      let some : refusal_at bytes k ≡ 0 → ⊥ = λ q. z (sym first ∙ q) in
      omega (arith, first, (named some).earliest k game some)

  games_22 : refusal_at bytes k ≡ 22 → ((j : ℕ) → j < games bytes → (refusal_at bytes j ≡ 0) ⊎ (refusal_at bytes j ≡ 22)) → ((j : ℕ) → j < k → refusal_at bytes j ≡ 0)
      → ((games_call bytes words shares C).number ≡ 22) × ((games_call bytes words shares C).index ≡ k)
  games_22 e either before = (is_22, lowest_k)
    where
      n : Named bytes (games_call bytes words shares C).number (games_call bytes words shares C).index
      n = named (λ z. omega (arith, e, z))

      is_22 : (games_call bytes words shares C).number ≡ 22
      is_22 = go (either _ n.game)
        where
          go : (refusal_at bytes (games_call bytes words shares C).index ≡ 0) ⊎ (refusal_at bytes (games_call bytes words shares C).index ≡ 22) → (games_call bytes words shares C).number ≡ 22
          go (inl z) = absurd (n.refused (sym n.refuses ∙ z))
          go (inr q) = sym n.refuses ∙ q

      lowest_k : (games_call bytes words shares C).index ≡ k
      lowest_k = go (dec_lt (games_call bytes words shares C).index k) (dec_lt k (games_call bytes words shares C).index)
        where
          go : Dec ((games_call bytes words shares C).index < k) → Dec (k < (games_call bytes words shares C).index) → (games_call bytes words shares C).index ≡ k
          go (yes l) d = absurd (n.refused (sym n.refuses ∙ before _ l))
          go (no a) (yes l) = absurd (n.lowest k l (e ∙ sym is_22))
          go (no a) (no b) = omega arith

-- a full book
counted : (bytes : List ℕ) (words rule : ℕ) (L : Limits) (B : Book) → add_refusal Arbiter bytes (nodes words) rule L B ≡ 0 → find Arbiter bytes rule (used B) ≡ 0
    → leb (size B) B.count ≡ true → add_call Arbiter bytes words rule L B ≡ refused B 18
unfolding add_call
counted bytes words rule L B e f l = rw (e, f, l)

-- an entry with the mark
marked_alike : (e : Entry) → unmarked (marked e) ≡ unmarked e
marked_alike e = let q : (e.last / 2 * 2 + 1) / 2 ≡ e.last / 2 = omega arith in ap (λ n. (e.bytes, n)) q

-- THEOREM
pub choices : ChoiceStatement
unfolding has_line state board board_states bit_at position_of position_refusal refusal_to6 impossible_choice refusal first_refusal
choices = record {
  cant_be = by_22;
  can_be = others_pass;
  FA_22 = (refl, refl);
  replay_22 = λ bytes moves out e. replay_22 bytes e moves out;
  moves_22 = λ bytes out e. moves_22 bytes e out;
  search_22 = λ bytes words rule L e. search_22 bytes e words rule L;
  full_22 = λ bytes words L e. full_22 bytes e words L;
  referee_22 = λ bytes rule e. referee_22 bytes e rule;
  games_22 = games_22;
  games_to_6 = games_to_6;
  stay = stay_after unmarked marked_alike;
  counted = counted;
  lookup_22 = λ who bytes rule B e. lookup_22 bytes e who rule B;
  add_22 = λ bytes words rule L B e. add_22 bytes e words rule L B;
  publish_22 = λ bytes rule B e. publish_22 bytes e rule B;
  answered = λ bytes words rule L r e. loads_accepted bytes (loads bytes (accepts bytes words rule L (answered bytes words rule L r e).0).loads);
  accepted = accepted_can_be;
  no_move_leads = no_move_leads;
  reached = λ bytes moves q e. replay_accepted (position_of bytes) moves 0 q (loads_accepted bytes (loads bytes e));
  as_itself = stored_loads;
  to_6_first = to_6_first;
}
