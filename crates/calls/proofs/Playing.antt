-- Laws of specs/Playing.antt. Moves made one after the other by the code, against the rules' replay: what the loop has made so far, and its end. Rests on the rules, game's Words and Moves.
use Rattle.std.specs.Prelude.{◌≡◌, List, ℕ, suc, ◌+◌, ◌<◌, ◌≤◌, length, get_or, drop, Result, Ok, Err, IfOk}
use Rattle.std.proofs.Common.{refl, ap, sym, subst, ◌∙◌, add-one, arith, drop-cons, take_all}
use Rattle.std.proofs.lemmas.Result.{IfOk-at_ok}
use Rattle.rules.specs.Rules.{Position, move_error, play, replay}
use Rattle.rules.specs.Rules.Replayed.{Reached, BadMove}
use Rattle.rules.proofs.Replays.{bad_move, no_move, replay_rest, replay_next}
use Rattle.game.specs.Numbers.{error_number, result_number}
use Rattle.game.specs.Errors.{error_number_some}
use Rattle.game.specs.declared.Game.{Game}
use Rattle.game.specs.declared.MoveError.{MoveError}
use Rattle.game.specs.Words.{Holds, Held}
use Rattle.game.specs.Moves.{Moved}
use Rattle.calls.specs.Playing.{Place, EndsBy, PlayedBy}

module _ (p : Position) (ms : List ℕ) (n : ℕ) (ws : List ℕ) (r : Result (Unit {0}) MoveError) (played : PlayedBy p ms n ws r) where
  pub played_ok : (u : Unit {0}) → r ≡ Ok u → (q : Position) × Holds q ws 0 × (replay p ms 0 ≡ Reached q)
  played_ok u e =
      let l = played.place in
      let all : n ≡ length ms = subst (EndsBy l.pos ms n) e played.ends in
      (l.pos, l.holds, ap (λ (x : List ℕ). replay p x 0) (sym (take_all n ms (omega (arith, all)))) ∙ l.made)

  pub played_bad : (e : MoveError) → r ≡ Err e → replay p ms 0 ≡ BadMove (error_number e) n
  played_bad e q =
      let l = played.place in
      let bad : (n < length ms) × (move_error l.pos (get_or ms n 0) ≡ error_number e) = subst (EndsBy l.pos ms n) q played.ends in
      replay_rest p ms n l.pos l.made (omega (arith, bad.0))
      ∙ rw (drop-cons ms n 0 bad.0) (bad_move l.pos (get_or ms n 0) (drop (suc n) ms) n (λ z. error_number_some e (sym bad.1 ∙ z)))
      ∙ ap (λ x. BadMove x n) bad.1

-- the loop over the moves, from the words ws₀
pub record Playing (ws₀ ms ws : List ℕ) (i : ℕ) : Type 0 where
  pub within : i ≤ length ms
  pub place : (p : Position) → Holds p ws₀ 0 → Place p ms ws i

pub playing_start : (ws ms : List ℕ) → Playing ws ms ws 0
playing_start ws ms = record { within = omega arith; place = λ p h. record { pos = p; holds = h; made = no_move p 0 } }

pub playing_held : (ws₀ ms ws : List ℕ) (i : ℕ) → Playing ws₀ ms ws i → Held ws₀ 0 → Held ws 0
playing_held ws₀ ms ws i g h = let l = g.place h.0 h.1 in (l.pos, l.holds)

module _ (ws₀ ms ws : List ℕ) (i : ℕ) (g : Playing ws₀ ms ws i) (h : i < length ms) (r : Result Game MoveError)
    (number : (p : Position) → Holds p ws 0 → result_number r ≡ move_error p (get_or ms i 0)) where
  pub playing_step : ((p : Position) → Holds p ws 0 → IfOk r (λ x. Moved p (get_or ms i 0) 0 ws x.words)) → (x : Game) → r ≡ Ok x → Playing ws₀ ms x.words (i + 1)
  playing_step made x e = record {
    within = omega arith;
    place = λ p k.
        let l = g.place p k in
        let z : move_error l.pos (get_or ms i 0) ≡ 0 = sym (number l.pos l.holds) ∙ ap result_number e in
        record {
          pos = play l.pos (get_or ms i 0);
          holds = (IfOk-at_ok (λ x. Moved l.pos (get_or ms i 0) 0 ws x.words) e (made l.pos l.holds)).holds;
          made = rw add-one (replay_next p ms i l.pos l.made h z);
        };
  }

  -- a bad move ends the loop, and the words stay
  pub playing_bad : (e : MoveError) → r ≡ Err e → (p : Position) → Holds p ws₀ 0 → PlayedBy p ms i ws (Err e)
  playing_bad e q p k = let l = g.place p k in record { place = l; ends = (h, sym (number l.pos l.holds) ∙ ap result_number q) }

pub playing_done : (ws₀ ms ws : List ℕ) (i : ℕ) → Playing ws₀ ms ws i → length ms ≤ i → (p : Position) → Holds p ws₀ 0 → PlayedBy p ms (length ms) ws (Ok tt)
playing_done ws₀ ms ws i g h p k =
    let n : i ≡ length ms = omega (arith, g.within) in
    record { place = subst (Place p ms ws) n (g.place p k); ends = refl }
