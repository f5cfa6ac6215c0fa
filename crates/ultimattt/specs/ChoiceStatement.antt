-- What is promised of a free choice that can't be (MANUAL, Record; Turned back): one record, of check 22, of every call that loads a record, and of a book's entries. Rests
-- on the definitions of these calls and on the three conditions of such a choice.
use Rattle.std.specs.Prelude.{◌≡◌, true, List, ◌++◌, map, ◌⊎◌, ℕ, ◌/◌, ◌≤◌, ◌<◌, leb, length}
use Rattle.rules.specs.Rules.{Position, move_error, play, replay}
use Rattle.rules.specs.Rules.Replayed.{Reached}
use Rattle.rules.specs.Record.{position_of, record_of, refusal_to6, refusal, Accepted}
use Rattle.rules.specs.Choice.{ChoiceThatCantBe}
use Rattle.rules.specs.Examples.{FA}
use Rattle.machine.specs.Machine.{Result}
use Rattle.calls.specs.Calls.{replay_outcome, replay_call, moves_outcome, moves_call, referee_outcome, referee_call}
use Rattle.searches.specs.Searches.{Limits, nodes, Refused, Answered, search_call, Turned, full_call}
use Rattle.entries.specs.Entries.{Entry, find}
use Rattle.entries.specs.declared.Caller.{Caller}
use Rattle.entries.specs.declared.Caller.TheVariants.{Arbiter}
use Rattle.book.specs.Book.{Book, size, used, refused, lookup_call, add_refusal, add_call, publish_call}
use Rattle.book.specs.Lists.{BookCall, after_calls}
use Rattle.games_checks.specs.Checks.{games, record_at, number_refusal, refusal_at, Common}
use Rattle.games.specs.Games.{games_call}

-- An entry but for its published mark: the record's bytes, and the last byte without its last bit.
abbrev pub unmarked : Entry → (List ℕ × ℕ)
unmarked e = (e.bytes, e.last / 2)

pub record ChoiceStatement : Type 0 where
  -- A record with cells played, no board done and target 15 is refused, by 22: of the records that checks 1 to 6 pass it refuses those,
  pub cant_be : (bytes : List ℕ) → refusal_to6 bytes ≡ 0 → ChoiceThatCantBe (position_of bytes) → refusal bytes ≡ 22
  -- and no other.
  pub can_be : (bytes : List ℕ) → refusal_to6 bytes ≡ 0 → (ChoiceThatCantBe (position_of bytes) → ⊥) → refusal bytes ≡ 0
  -- First byte FA changes its answer: checks 1 to 6 pass it.
  pub FA_22 : (refusal_to6 FA ≡ 0) × (refusal FA ≡ 22)
  -- Every call that loads a record follows, whatever else comes in, so before check 7 and all later ones: replay, legal moves, search, full verdict, referee;
  pub replay_22 : (bytes moves out : List ℕ) → refusal bytes ≡ 22 → replay_call bytes moves out ≡ replay_outcome 22 0 out
  pub moves_22 : (bytes out : List ℕ) → refusal bytes ≡ 22 → moves_call bytes out ≡ moves_outcome 22 0 0 out
  pub search_22 : (bytes : List ℕ) (words rule : ℕ) (L : Limits) → refusal bytes ≡ 22 → search_call bytes words rule L ≡ Refused 22
  pub full_22 : (bytes : List ℕ) (words : ℕ) (L : Limits) → refusal bytes ≡ 22 → full_call bytes words L ≡ Turned 22
  pub referee_22 : (bytes : List ℕ) (rule : ℕ) → refusal bytes ≡ 22 → referee_call bytes rule ≡ referee_outcome 22 0 0
  -- and games: if no record is refused by an earlier check, 22 names the lowest game whose record it refuses; if one is, the call's number is no later one than that.
  pub games_22 : (bytes shares : List ℕ) (C : Common) (words k : ℕ) → number_refusal bytes ≡ 0 → k < games bytes → refusal_at bytes k ≡ 22
      → ((j : ℕ) → j < games bytes → (refusal_at bytes j ≡ 0) ⊎ (refusal_at bytes j ≡ 22)) → ((j : ℕ) → j < k → refusal_at bytes j ≡ 0)
      → ((games_call bytes words shares C).number ≡ 22) × ((games_call bytes words shares C).index ≡ k)
  pub games_to_6 : (bytes shares : List ℕ) (C : Common) (words k : ℕ) → number_refusal bytes ≡ 0 → k < games bytes → (refusal_to6 (record_at bytes k) ≡ 0 → ⊥)
      → (games_call bytes words shares C).number ≤ refusal_to6 (record_at bytes k)
  -- Book entries stay in their places, whatever their records: after a list of calls the used entries begin with those before it, every bit but the mark as it was.
  pub stay : (calls : List BookCall) (B : Book) → (later : List (List ℕ × ℕ)) × (map unmarked (used (after_calls calls B)) ≡ map unmarked (used B) ++ later)
  -- They count as used: a book with as many used entries as it has room for is full, whatever their records.
  pub counted : (bytes : List ℕ) (words rule : ℕ) (L : Limits) (B : Book) → add_refusal Arbiter bytes (nodes words) rule L B ≡ 0 → find Arbiter bytes rule (used B) ≡ 0
      → leb (size B) B.count ≡ true → add_call Arbiter bytes words rule L B ≡ refused B 18
  -- A lookup or an add that names such a record gets the new refusal, and so does a publish; a trainer's add and publish are refused by 19, as always.
  pub lookup_22 : (who : Caller) (bytes : List ℕ) (rule : ℕ) (B : Book) → refusal bytes ≡ 22 → lookup_call who bytes rule B ≡ refused B 22
  pub add_22 : (bytes : List ℕ) (words rule : ℕ) (L : Limits) (B : Book) → refusal bytes ≡ 22 → add_call Arbiter bytes words rule L B ≡ refused B 22
  pub publish_22 : (bytes : List ℕ) (rule : ℕ) (B : Book) → refusal bytes ≡ 22 → publish_call Arbiter bytes rule B ≡ refused B 22
  -- The value statements cover the narrower positions: what a search answers is said of an accepted position, and that has no such choice.
  pub answered : (bytes : List ℕ) (words rule : ℕ) (L : Limits) (r : Result) → search_call bytes words rule L ≡ Answered r → Accepted (position_of bytes)
  pub accepted : (p : Position) → Accepted p → ChoiceThatCantBe p → ⊥
  -- No legal move leads to such a choice; so replay reaches accepted positions alone, and their records load as themselves.
  pub no_move_leads : (p : Position) (m : ℕ) → length p.cells ≡ 81 → move_error p m ≡ 0 → ChoiceThatCantBe (play p m) → ⊥
  pub reached : (bytes moves : List ℕ) (q : Position) → refusal bytes ≡ 0 → replay (position_of bytes) moves 0 ≡ Reached q → Accepted q
  pub as_itself : (p : Position) → Accepted p → (position_of (record_of p) ≡ p) × (refusal (record_of p) ≡ 0)
  -- 22 comes after 6: what 1 to 6 refuse is refused by the same number as before.
  pub to_6_first : (bytes : List ℕ) → (refusal_to6 bytes ≡ 0 → ⊥) → refusal bytes ≡ refusal_to6 bytes
