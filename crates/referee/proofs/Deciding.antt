-- A turn of the referee goes through the moves: what those gone through leave open, one more of them, and the end. One law for both sides: mine says
-- whether the mover is the root's side, and it is the value that the mover wants. Rests on Turns, the machine's laws of value and evaluate's.
use Rattle.std.specs.Prelude.{◌≡◌, refl, Bool, true, cond, ◌⊎◌, ℕ, ◌+◌, ◌-◌, ◌<◌, get_or, Option, Some, None}
use Rattle.std.proofs.Math.Path.{sym, ap}
use Rattle.std.proofs.Common.{subst, ◌∙◌, arith}
use Rattle.std.proofs.Math.Bool.{not}
use mathlib.Core.List.Memᴰ
use mathlib.Core.List.{List, ◌∷◌, Memᴰ}
use Rattle.std.proofs.Math.Logic.{inl, inr, ⊎_elim}
use Rattle.rules.specs.Rules.{Position, same, game_state, legal_moves, move_error, play}
use Rattle.rules.specs.Record.{Accepted, player_of}
use Rattle.rules.proofs.Roundtrip.{side_back}
use Rattle.rules.proofs.Plays.{one_less, keeps_accepted}
use Rattle.rules.proofs.LegalMoves.{in_legal, legal_in, unfinished_some}
use Rattle.machine.specs.Game.{value}
use Rattle.machine.specs.Machine.{Verdict, True, False, Unknown}
use Rattle.machine.proofs.Value.{value_final, value_some, value_all}
use Rattle.plain.specs.Plain.{game, value_of}
use Rattle.plain.proofs.Laws.{lawful, root_mine}
use Rattle.game.specs.Words.{Holds}
use Rattle.game.specs.Cursor.{moves_from, moves_within, Stepped, next_is, end_is}
use Rattle.game.specs.Moves.{Movable, Moved}
use Rattle.game.specs.declared.Move.{Move}
use Rattle.evaluate.specs.Final.{position_verdict}
use Rattle.evaluate.specs.Verdicts.{verdict_open, verdict_known}
use Rattle.referee.specs.Turns.{Turn, empty_in, empty_is}

-- of a position in play, the moves from place at on are legal, and none of the others gives the mover what it wants
pub record Open (rule root : ℕ) (mine : Bool) (p : Position) (at : ℕ) : Type 0 where
  pub unfinished : game_state p ≡ 0
  pub legal : (m : ℕ) → Memᴰ m (moves_from p at) → move_error p m ≡ 0
  pub others : (m : ℕ) → Memᴰ m (legal_moves p) → Memᴰ m (moves_from p at) ⊎ (value (game rule (player_of root)) (play p m) ≡ not mine)

-- the loop of a turn: so for the position that the words hold
abbrev pub Deciding : (rule root : ℕ) → Bool → List ℕ → ℕ → Type 0
Deciding rule root mine ws at = (t : Turn ws root mine) → Open rule root mine t.position at

module _ (rule root : ℕ) (mine : Bool) (ws : List ℕ) where
  -- what is known at once
  module _ (v : Verdict) (is_verdict : (p : Position) → Holds p ws 0 → v ≡ position_verdict rule (player_of root) p) where
    pub at_once : (b : Bool) → v ≡ cond b True False → (t : Turn ws root mine) → b ≡ value (game rule (player_of root)) t.position
    at_once b e t =
        let k = verdict_known rule (player_of root) t.position b (sym (is_verdict t.position t.holds) ∙ e) in
        sym (value_final (game rule (player_of root)) (lawful rule (player_of root)) t.position k.0 ∙ k.1)

    pub start : (at : ℕ) → v ≡ Unknown → ((p : Position) → Holds p ws 0 → legal_moves p ≡ moves_from p at) → Deciding rule root mine ws at
    start at e all t = record {
      unfinished = verdict_open rule (player_of root) t.position (sym (is_verdict t.position t.holds) ∙ e);
      legal = λ m i. in_legal t.position m (subst (Memᴰ m) (sym (all t.position t.holds)) i);
      others = λ m i. inl (subst (Memᴰ m) (all t.position t.holds) i);
    }

  -- a step of the cursor, from place at to place rest
  module _ (at : ℕ) (d : Deciding rule root mine ws at) (rest : ℕ) (s : Option Move) (stepped : (p : Position) → Holds p ws 0 → Stepped p at s rest) where
    -- no move is left
    pub done : s ≡ None → (t : Turn ws root mine) → not mine ≡ value (game rule (player_of root)) t.position
    done e t =
        let p = t.position in
        let r = unfinished_some p t.accepted (d t).unfinished in
        sym (value_all (game rule (player_of root)) (lawful rule (player_of root)) p r.0 r.1 (λ m i. each m ((d t).others m i) ∙ ap not (sym t.turn))
        ∙ ap not t.turn)
      where
        each : (m : ℕ) → Memᴰ m (moves_from t.position at) ⊎ (value (game rule (player_of root)) (play t.position m) ≡ not mine)
            → value (game rule (player_of root)) (play t.position m) ≡ not mine
        each m (inl i) = absurd (Memᴰ.not-nil (subst (Memᴰ m) (end_is ws 0 at rest s stepped e t.position t.holds) i))
        each m (inr q) = q

    -- the first is m, and the others are those from place rest on
    module _ (move : Move) (found : s ≡ Some move) where
      abbrev m : ℕ
      m = move.0

      next : (p : Position) → Holds p ws 0 → (moves_from p at ≡ m ∷ moves_from p rest) × (at < rest)
      next = next_is ws 0 at rest s stepped move found

      is_legal : (t : Turn ws root mine) → move_error t.position m ≡ 0
      is_legal t = (d t).legal m (subst (Memᴰ m) (sym (next t.position t.holds).0) (Memᴰ.head refl))

      pub movable : Turn ws root mine → Movable ws 0 m
      movable t = (t.position, t.holds, is_legal t)

      pub less : Turn ws root mine → 81 - rest < 81 - at
      less t = let n = next t.position t.holds in omega (arith, n.1, moves_within t.position at m _ n.0)

      -- it is made
      module _ (ws' : List ℕ) (made : (p : Position) → Holds p ws 0 → move_error p m ≡ 0 → Moved p m 0 ws ws') where
        -- the other side's turn, with one empty cell less
        pub next_turn : Turn ws root mine → Turn ws' root (not mine)
        next_turn t = record {
          position = play t.position m;
          holds = (made t.position t.holds (is_legal t)).holds;
          accepted = keeps_accepted t.position m (is_legal t) t.accepted;
          turn = (lawful rule (player_of root)).turns t.position m (legal_in t.position m (is_legal t)) ∙ ap not t.turn;
        }

        pub fewer : Turn ws root mine → empty_in ws' < empty_in ws
        fewer t =
            let after = made t.position t.holds (is_legal t) in
            omega (arith, empty_is t.position ws t.holds, empty_is (play t.position m) ws' after.holds, one_less t.position m (is_legal t))

        -- the other side's turn is answered
        module _ (v : Bool) (answer : (t : Turn ws' root (not mine)) → v ≡ value (game rule (player_of root)) t.position) where
          reached : (t : Turn ws root mine) → value (game rule (player_of root)) (play t.position m) ≡ v
          unfolding next_turn
          reached t = sym (answer (next_turn t))

          pub decided : v ≡ mine → (t : Turn ws root mine) → mine ≡ value (game rule (player_of root)) t.position
          decided e t =
              let i = legal_in t.position m (is_legal t) in
              sym (value_some (game rule (player_of root)) (lawful rule (player_of root)) t.position m i (reached t ∙ e ∙ sym t.turn) ∙ t.turn)

          -- a move that was left is m, or is still left
          split : v ≡ not mine → (t : Turn ws root mine) (x : ℕ) → Memᴰ x (moves_from t.position at)
              → Memᴰ x (moves_from t.position rest) ⊎ (value (game rule (player_of root)) (play t.position x) ≡ not mine)
          split e t x i =
              ⊎_elim (λ q. inr (ap (λ y. value (game rule (player_of root)) (play t.position y)) q ∙ reached t ∙ e)) inl
              (Memᴰ.cases_cons (subst (Memᴰ x) (next t.position t.holds).0 i))

          pub step : v ≡ not mine → Deciding rule root mine ws rest
          step e t = record {
            unfinished = (d t).unfinished;
            legal = λ x i. (d t).legal x (subst (Memᴰ x) (sym (next t.position t.holds).0) (Memᴰ.tail i));
            others = λ x i. ⊎_elim (split e t x) inr ((d t).others x i);
          }

-- at the root it is the attacker's turn
module _ (p : Position) (ws : List ℕ) (side : ℕ) (is_side : side ≡ get_or ws (0 + 22) 0) (h : Holds p ws 0) (a : Accepted p) where
  root_side : player_of side ≡ p.side
  root_side = ap player_of (is_side ∙ h.side) ∙ side_back p.side

  pub root_turn : Turn ws side true
  root_turn = record { position = p; holds = h; accepted = a; turn = ap (λ s. same s p.side) root_side ∙ root_mine 0 p }

  pub root_value : (rule : ℕ) (v : Bool) → ((t : Turn ws side true) → v ≡ value (game rule (player_of side)) t.position) → v ≡ value_of rule p
  unfolding value_of root_turn
  root_value rule v answer = answer root_turn ∙ ap (λ s. value (game rule s) p) root_side
