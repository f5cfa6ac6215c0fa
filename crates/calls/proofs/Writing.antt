-- Laws of specs/Writing.antt. Legal moves written from the front of an output: what the loop has written so far, and its end. Rests on the rules, game's Words and Cursor.
use Rattle.std.specs.Prelude.{◌≡◌, refl, List, [], ◌∷◌, ◌++◌, ℕ, suc, ◌+◌, ◌-◌, ◌<◌, ◌≤◌, length, get_or, drop, set}
use Rattle.std.proofs.Common.{ap, sym, ◌∙◌, append_assoc, append-nil, add-one, arith, length-append, length-set, drop-cons}
use Rattle.std.proofs.lemmas.List.{set_at}
use Rattle.rules.specs.Rules.{Position, legal_moves}
use Rattle.calls.specs.Calls.{moves_outcome, listed}
use Rattle.game.specs.Words.{Holds, Held}
use Rattle.game.specs.Cursor.{moves_from, moves_within}
use Rattle.calls.specs.Writing.{Written}

-- n of p's legal moves are written; those from place at on are left
pub record Listing (p : Position) (out out' : List ℕ) (n at : ℕ) : Type 0 where
  pub done : List ℕ
  pub rest : legal_moves p ≡ done ++ moves_from p at
  pub count : n ≡ length done
  pub few : n ≤ at
  pub left : out' ≡ done ++ drop n out

-- the loop, for every position that the words hold
pub record Writing (ws out out' : List ℕ) (n at : ℕ) : Type 0 where
  pub same_length : length out' ≡ length out
  pub list : (p : Position) → Holds p ws 0 → Listing p out out' n at

pub writing_start : (ws out : List ℕ) (at : ℕ) → ((p : Position) → Holds p ws 0 → legal_moves p ≡ moves_from p at) → Writing ws out out 0 at
writing_start ws out at e = record {
  same_length = refl;
  list = λ p h. record { done = []; rest = e p h; count = refl; few = omega arith; left = refl };
}

module _ (ws out out' : List ℕ) (n at : ℕ) (w : Writing ws out out' n at) (room : 81 ≤ length out) (h : Held ws 0) where
  module _ (m next : ℕ) (stepped : (p : Position) → Holds p ws 0 → (moves_from p at ≡ m ∷ moves_from p next) × (at < next)) where
    pub writing_within : at < 81
    writing_within = moves_within h.0 at m _ (stepped h.0 h.1).0

    pub writing_room : n < length out'
    writing_room = omega (arith, writing_within, (w.list h.0 h.1).few, w.same_length)

    one_more : (p : Position) → Holds p ws 0 → Listing p out (set out' n m) (n + 1) next
    one_more p k =
        let l = w.list p k in
        let r : n < length out = omega (arith, writing_room, w.same_length) in
        record {
          done = l.done ++ (m ∷ []);
          rest = l.rest ∙ ap (λ t. l.done ++ t) (stepped p k).0 ∙ sym (append_assoc l.done (m ∷ []) (moves_from p next));
          count = rw (length-append, ← l.count);
          few = omega (arith, l.few, (stepped p k).1);
          left = rw (l.left, add-one, drop-cons out n 0 r, set_at l.done (get_or out n 0) (drop (suc n) out) m n (sym l.count), append_assoc);
        }

    pub writing_step : Writing ws out (set out' n m) (n + 1) next
    writing_step = record { same_length = simp length-set w.same_length; list = one_more }

    pub writing_less : 81 - next < 81 - at
    writing_less = omega (arith, writing_within, (stepped h.0 h.1).1)

pub writing_done : (ws out out' : List ℕ) (n at : ℕ) → Writing ws out out' n at → ((p : Position) → Holds p ws 0 → moves_from p at ≡ [])
    → (p : Position) → Holds p ws 0 → Written (legal_moves p) out out' n
writing_done ws out out' n at w e p k =
    let l = w.list p k in
    let all : legal_moves p ≡ l.done = l.rest ∙ ap (λ t. l.done ++ t) (e p k) ∙ append-nil l.done in
    record { count = l.count ∙ ap length (sym all); left = l.left ∙ ap (λ t. t ++ drop n out) (sym all) }

pub written_listed : (moves out out' : List ℕ) (n : ℕ) → Written moves out out' n → moves_outcome 0 0 n out' ≡ listed moves out
written_listed moves out out' n w = rw (w.left, w.count)
