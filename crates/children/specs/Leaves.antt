-- What an evaluation says of a leaf of the plain machine: whether its position has legal moves, and its numbers. Rests on the rules' legal moves and evaluate's verdicts.
use Rattle.std.specs.Prelude.{ℕ, ◌-◌, ◌≡◌, refl, Bool, true, false, cond, not, eqb}
use Rattle.std.proofs.Common.{sym, ◌∙◌, ne_eqb}
use Rattle.std.specs.Bool.{beq}
use mathlib.Core.List.Memᴰ
use mathlib.Core.List.{List, [], ◌∷◌, Memᴰ}
use Rattle.std.proofs.Math.Decide.{ℕ_discrete}
use Rattle.rules.specs.Rules.{Player, Position, other, state, board, game_state, cell_of, move_error, play, legal_moves, final_value}
use Rattle.rules.specs.Rules.Player.{X, O}
use Rattle.rules.specs.Record.{player_of, side_bit, Accepted}
use Rattle.rules.proofs.LegalMoves.{finished_none, unfinished_move, unfinished_some}
use Rattle.rules.proofs.Plays.{target_kept, next_open, turn_passes}
use Rattle.machine.specs.Tree.{INFINITY, bound, leaf}
use Rattle.machine.specs.Machine.{Verdict, True, False, Unknown}
use Rattle.plain.specs.Plain.{game}
use Rattle.prove.specs.Numbers.{Pair}
use Rattle.words.specs.Packed.{evaluated, view}
use Rattle.evaluate.specs.Final.{state_verdict, position_verdict, verdict_is}

-- A position that has a legal move while its game is in play.
abbrev pub CanMove : Position → Type 0
CanMove q = game_state q ≡ 0 → (m : ℕ) × Memᴰ m (legal_moves q)

-- Such is every position after a legal move, since its target is free or names a board in play; and an accepted one.
pub can_move_after : (p : Position) (m : ℕ) → move_error p m ≡ 0 → CanMove (play p m)
unfolding play
can_move_after p m e g =
    unfinished_move (play p m) g (target_kept p m e) (next_open (play p m).cells (cell_of m) (eqb (state (board (play p m).cells (cell_of m))) 0) refl)

pub can_move_accepted : (p : Position) → Accepted p → CanMove p
can_move_accepted p a = unfinished_some p a

-- Its verdict is what evaluation gives.
pub verdict_evaluated : (rule : ℕ) (root : Player) (q : Position) → CanMove q → position_verdict rule root q ≡ (view (game rule root)).value q
unfolding position_verdict evaluated
verdict_evaluated rule root q f = go (ℕ_discrete (game_state q) 0)
  where
    some : (ms : List ℕ) (m : ℕ) → Memᴰ m ms → Unknown ≡ evaluated (final_value rule root q) ms
    some [] m i = absurd (Memᴰ.not-nil i)
    some (n ∷ ms) m i = refl

    go : Dec (game_state q ≡ 0) → cond (eqb (game_state q) 0) Unknown (cond (final_value rule root q) True False) ≡ evaluated (final_value rule root q) (legal_moves q)
    go (yes g) = rw g (let r = f g in some (legal_moves q) r.0 r.1)
    go (no n) = rw (ne_eqb (game_state q) 0 n, finished_none q n)

-- The same from the state of the game and the side to move, as a child has them.
pub child_evaluated : (rule root : ℕ) (p : Position) (m side state : ℕ) → move_error p m ≡ 0 → side ≡ side_bit p.side → state ≡ game_state (play p m)
    → state_verdict rule (player_of root) (player_of (1 - side)) state ≡ (view (game rule (player_of root))).value (play p m)
child_evaluated rule root p m side state e es eg =
    rw (es, eg, passed p.side, sym (turn_passes p m))
    (sym (verdict_is rule (player_of root) (play p m)) ∙ verdict_evaluated rule (player_of root) (play p m) (can_move_after p m e))
  where
    passed : (s : Player) → player_of (1 - side_bit s) ≡ other s
    passed X = refl
    passed O = refl

-- The numbers of every leaf of the plain machine's tree with that evaluation, and with the other side to move or not.
abbrev pub LeafBounds : Verdict → Bool → ℕ → ℕ → Type 0
LeafBounds v and phi delta =
    (rule : ℕ) (root : Player) (q : Position) (m : ℕ) → v ≡ (view (game rule root)).value q → and ≡ (view (game rule root)).and q
    → Pair phi delta (leaf (game rule root) q m).phi (leaf (game rule root) q m).delta

-- The two numbers by the evaluation: the mover has won a leaf that is True with the root's side to move, or False with the other.
abbrev pub phi_of : Verdict → Bool → ℕ
phi_of Unknown and = 1
phi_of True and = cond (not and) 0 INFINITY
phi_of False and = cond and 0 INFINITY

abbrev pub delta_of : Verdict → Bool → ℕ
delta_of Unknown and = 1
delta_of True and = cond (not and) INFINITY 0
delta_of False and = cond and INFINITY 0

bounds_by : (final mine : Bool) (ms : List ℕ)
    → (phi_of (evaluated final ms) (not mine) ≡ bound (beq final mine) ms) × (delta_of (evaluated final ms) (not mine) ≡ bound (not (beq final mine)) ms)
unfolding bound evaluated
bounds_by true true [] = (refl, refl)
bounds_by true false [] = (refl, refl)
bounds_by false true [] = (refl, refl)
bounds_by false false [] = (refl, refl)
bounds_by final mine (m ∷ ms) = (refl, refl)

pub leaf_bounds : (v : Verdict) (and : Bool) (phi delta : ℕ) → Pair phi delta (phi_of v and) (delta_of v and) → LeafBounds v and phi delta
unfolding leaf
leaf_bounds v and phi delta n rule root q m ev ea =
    let r = bounds_by ((game rule root).final q) ((game rule root).mine q) ((game rule root).moves q) in
    record { phi_is = n.phi_is ∙ rw (ev, ea) r.0; delta_is = n.delta_is ∙ rw (ev, ea) r.1 }
