-- What the code's steps come to: the empty game read from its bytes, the moves made as far as they are legal, the part and its length. Rests on Openings and
-- Beginnings, and on calls' Playing.
use Rattle.std.specs.Prelude.{◌≡◌, refl, List, [], ◌++◌, ℕ, suc, ◌≤◌, ◌<◌, length, get_or, take, drop, Result, Ok, Err}
use Rattle.std.proofs.Common.{ap, sym, ◌∙◌, append-nil, arith, le-ltb, lt-ltb, take-append-drop, drop-cons}
use Rattle.std.proofs.Math.Seq.{drop-length}
use Rattle.rules.specs.Rules.{Position}
use Rattle.rules.specs.Record.{position_of, record_of, refusal}
use Rattle.rules.specs.Examples.{E}
use Rattle.game.specs.Errors.{error_number_some}
use Rattle.game.specs.Words.{Holds}
use Rattle.game.specs.declared.Game.{Game}
use Rattle.game.specs.declared.MoveError.{MoveError}
use Rattle.refusals.specs.Numbers.{refusal_code}
use Rattle.refusals.specs.declared.Refusal.{Refusal}
use Rattle.refusals.proofs.Passes.{is_ok}
use Rattle.calls.specs.Playing.{EndsBy, PlayedBy}
use Rattle.sheets.specs.Sheets.{empty_game, common, legal_part, opening, SheetsOutcome, sheets_outcome, sheets_call}
use Rattle.sheets.specs.AgreedOpening.{Begins}
use Rattle.sheets.proofs.Beginnings.{begins_take, common_begins, common_itself, legal_all, legal_bad}
use Rattle.sheets.proofs.Openings.{E_loads, agreeing_writes, agreed_opening}

pub empty_read : (r : Result Game Refusal) → refusal_code r ≡ refusal E → (g : Game) × (r ≡ Ok g)
empty_read r e = is_ok r (e ∙ E_loads.0)

pub empty_held : (ws : List ℕ) → Holds (position_of E) ws 0 → Holds empty_game ws 0
empty_held ws h = rw (← E_loads.1) h

pub short_called : (first second out : List ℕ) → length out < 21 → sheets_outcome [] 7 out ≡ sheets_call first second out
unfolding sheets_call
short_called first second out h = rw (lt-ltb (length out) 21 h)

-- the moves that the code made are the legal part
module _ (p : Position) (ms : List ℕ) (n : ℕ) (ws : List ℕ) where
  ended : (q : Position) (r : Result (Unit {0}) MoveError) → EndsBy q ms n r → (n ≤ length ms) × (legal_part q (drop n ms) ≡ [])
  unfolding legal_part
  ended q (Ok u) e = (omega (arith, e), rw (e, drop-length ms) refl)
  ended q (Err e) h = (omega (arith, h.0), rw (drop-cons ms n 0 h.0) (legal_bad q (get_or ms n 0) (drop (suc n) ms) (λ z. error_number_some e (sym h.1 ∙ z))))

  module _ (r : Result (Unit {0}) MoveError) (played : PlayedBy p ms n ws r) where
    pub played_within : n ≤ length ms
    played_within = (ended played.place.pos r played.ends).0

    played_legal : legal_part p ms ≡ take n ms
    played_legal =
        let l = played.place in
        ap (legal_part p) (sym (take-append-drop n ms))
        ∙ legal_all p (take n ms) (drop n ms) 0 l.pos l.made
        ∙ ap (λ (x : List ℕ). take n ms ++ x) (ended l.pos r played.ends).1
        ∙ append-nil (take n ms)

-- the opening of a list and itself is the legal part of it, and what is common to two lists has their opening
pub made_called : (moves out out' : List ℕ) (n : ℕ) (ws : List ℕ) (r : Result (Unit {0}) MoveError) (played : PlayedBy empty_game moves n ws r) → 21 ≤ length out
    → out' ≡ record_of played.place.pos ++ drop 21 out → sheets_outcome (take n moves) 0 out' ≡ sheets_call moves moves out
unfolding sheets_call opening
made_called moves out out' n ws r played h e =
    let l = played.place in
    rw (le-ltb (length out) 21 h, common_itself moves, played_legal empty_game moves n ws r played, e, ← agreeing_writes (take n moves) out l.pos l.made) refl

-- what both lists begin with, taken from the first one, has the opening of both
module _ (first second out : List ℕ) (n : ℕ) (alike : n ≡ length (common first second)) where
  pub common_called : (x : SheetsOutcome) → x ≡ sheets_call (take n first) (take n first) out → x ≡ sheets_call first second out
  unfolding sheets_call opening
  common_called x q =
      let front : take n first ≡ common first second = ap (λ (k : ℕ). take k first) alike ∙ begins_take (common first second) first (common_begins first second).0 in
      q ∙ rw (front, common_itself (common first second)) refl

-- the part by its length, as C has it: so many moves of the first sheet
pub part_counted : (first second out part : List ℕ) (n : ℕ) (out' : List ℕ) → sheets_outcome part n out' ≡ sheets_call first second out
    → (sheets_outcome (take (length part) first) n out' ≡ sheets_call first second out) × (length part ≡ length (sheets_call first second out).part)
part_counted first second out part n out' e =
    let same : part ≡ (sheets_call first second out).part = ap (λ (r : SheetsOutcome). r.part) e in
    let begins : Begins part first = rw same (agreed_opening first second out).begins_first in
    (rw (begins_take part first begins) e, ap length same)
