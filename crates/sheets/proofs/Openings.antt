-- The call is what AgreedOpening says, for every input. Rests on Sheets, AgreedOpening, Beginnings and on replay's call.
use Rattle.std.specs.Prelude.{◌≡◌, refl, List, [], ◌++◌, ◌⊎◌, ℕ, ◌≤◌, ◌<◌, drop}
use Rattle.std.proofs.Math.Path.{ap}
use Rattle.std.proofs.Common.{◌∙◌, inl, inr}
use Rattle.std.proofs.Math.Decide.{dec_lt}
use native.Mathlib.Omega.{arith}
use borrow.Author.Tests.{le-ltb, lt-ltb}
use Rattle.std.proofs.Math.ListN.{length}
use Rattle.rules.specs.Rules.{Position, replay, has_line, state, board, board_states}
use Rattle.rules.specs.Rules.Replayed.{Reached}
use Rattle.rules.specs.Record.{bit_at, position_of, position_refusal, refusal_to6, impossible_choice, refusal, record_bit, record_of}
use Rattle.rules.specs.Refusals.{first_refusal}
use Rattle.rules.proofs.Replays.{no_move}
use Rattle.rules.specs.Examples.{E}
use Rattle.calls.specs.Calls.{output_refusal, replay_outcome, after_moves, replay_call}
use Rattle.sheets.specs.Sheets.{empty_game, common, legal_part, opening, sheets_outcome, agreeing, sheets_call}
use Rattle.sheets.specs.AgreedOpening.{Begins, LegalFromEmpty, AgreedOpening}
use Rattle.sheets.proofs.Beginnings.{begins_through, begins_length, common_none, common_begins, common_both, legal_part_begins, legal_all}

-- E is the record of the empty game
pub E_loads : (refusal E ≡ 0) × (position_of E ≡ empty_game)
unfolding has_line state board board_states bit_at position_of position_refusal refusal_to6 impossible_choice refusal first_refusal
E_loads = (refl, refl)

E_stored : record_of empty_game ≡ E
unfolding record_bit record_of
E_stored = refl

-- moves that lead to q are handed back with q's record, as replay writes it
module _ (part out : List ℕ) (q : Position) (e : replay empty_game part 0 ≡ Reached q) where
  pub agreeing_writes : (agreeing part out).output ≡ record_of q ++ drop 21 out
  unfolding after_moves
  agreeing_writes = rw e

  agreeing_replays : 21 ≤ length out → replay_call (record_of empty_game) part out ≡ replay_outcome 0 0 (agreeing part out).output
  unfolding replay_call output_refusal first_refusal after_moves
  agreeing_replays h = rw (E_stored, E_loads.0, le-ltb (length out) 21 h, E_loads.1, e)

module _ (first second out : List ℕ) where
  -- what both sheets begin with and is legal is in the opening
  opening_holds : (ms : List ℕ) → Begins ms first → Begins ms second → LegalFromEmpty ms → Begins ms (opening first second)
  unfolding opening
  opening_holds ms b c l =
      let both : common first second ≡ ms ++ common b.0 c.0 = rw (b.1, c.1) (common_both ms b.0 c.0) in
      (legal_part l.0 (common b.0 c.0), ap (legal_part empty_game) both ∙ legal_all empty_game ms (common b.0 c.0) 0 l.0 l.1)

  opening_none : (first ≡ []) ⊎ (second ≡ []) → opening first second ≡ []
  unfolding opening legal_part common
  opening_none (inl e) = rw e
  opening_none (inr e) = rw (e, common_none first)

  long_enough : 21 ≤ length out → AgreedOpening first second out (agreeing (opening first second) out)
  unfolding opening
  long_enough h =
      let alike = common first second in
      let both = common_begins first second in
      let part = legal_part_begins empty_game (common first second) 0 in
      record {
        begins_first = begins_through (opening first second) alike first part.0 both.0;
        begins_second = begins_through (opening first second) alike second part.0 both.1;
        legal = part.1;
        longest = λ _ ms b c l. begins_length ms (opening first second) (opening_holds ms b c l);
        written = λ _. agreeing_writes (opening first second) out part.1.0 part.1.1;
        replayed = λ l. agreeing_replays (opening first second) out part.1.0 part.1.1 l;
        no_moves = opening_none;
        answered = λ _. refl;
        short = λ l. absurd (omega arith);
      }

  too_short : length out < 21 → AgreedOpening first second out (sheets_outcome [] 7 out)
  too_short h = record {
    begins_first = (first, refl);
    begins_second = (second, refl);
    legal = (empty_game, no_move empty_game 0);
    longest = λ l. absurd (omega arith);
    written = λ l. absurd (omega arith);
    replayed = λ l. absurd (omega arith);
    no_moves = λ _. refl;
    answered = λ l. absurd (omega arith);
    short = λ _. refl;
  }

  -- THEOREM: the call is what AgreedOpening says, whatever the sheets and the output
  pub agreed_opening : AgreedOpening first second out (sheets_call first second out)
  unfolding sheets_call
  agreed_opening = go (dec_lt (length out) 21)
    where
      go : Dec (length out < 21) → AgreedOpening first second out (sheets_call first second out)
      go (yes h) = rw (lt-ltb (length out) 21 h) (too_short h)
      go (no n) = let h : 21 ≤ length out = omega arith in rw (le-ltb (length out) 21 h) (long_enough h)
