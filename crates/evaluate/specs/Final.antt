-- The verdict on a position from the state of its game and its side to move, under a rule, for a root's side: what evaluate answers. Rests on the rules' value of
-- a finished position and the plain machine's verdicts.
use Rattle.std.specs.Prelude.{◌≡◌, refl, Bool, cond, ◌&&◌, ◌||◌, ℕ, eqb}
use Rattle.std.proofs.Common.{ap}
use Rattle.rules.specs.Rules.{Player, Position, mark, game_state, same, drawn, final_value}
use Rattle.rules.specs.Rules.Player.{X, O}
use Rattle.machine.specs.Machine.{Verdict, True, False, Unknown}

-- The value of a finished position whose game has that state: 1 is won by X, 2 by O, 3 drawn.
unfoldable pub final_of : ℕ → Player → Player → ℕ → Bool
final_of rule root side state = eqb state (mark root) || eqb state 3 && drawn rule root side

-- Unknown in play (0), and otherwise that value.
unfoldable pub state_verdict : ℕ → Player → Player → ℕ → Verdict
state_verdict rule root side state = cond (eqb state 0) Unknown (cond (final_of rule root side state) True False)

-- The verdict on a position: Unknown in play, and otherwise the value that the rules give it.
unfoldable pub position_verdict : ℕ → Player → Position → Verdict
position_verdict rule root p = cond (eqb (game_state p) 0) Unknown (cond (final_value rule root p) True False)

-- The two agree.
pub final_is : (rule : ℕ) (root : Player) (p : Position) → final_value rule root p ≡ final_of rule root p.side (game_state p)
unfolding final_of final_value
final_is rule root p = refl

pub verdict_is : (rule : ℕ) (root : Player) (p : Position) → position_verdict rule root p ≡ state_verdict rule root p.side (game_state p)
unfolding position_verdict state_verdict
verdict_is rule root p = ap (λ t. cond (eqb (game_state p) 0) Unknown (cond t True False)) (final_is rule root p)

-- The verdict by the state: won by a side, or drawn.
pub won_verdict : (rule : ℕ) (root side winner : Player) → state_verdict rule root side (mark winner) ≡ cond (same root winner) True False
unfolding state_verdict final_of
won_verdict rule X side X = refl
won_verdict rule X side O = refl
won_verdict rule O side X = refl
won_verdict rule O side O = refl

pub drawn_verdict : (rule : ℕ) (root side : Player) → state_verdict rule root side 3 ≡ cond (drawn rule root side) True False
unfolding state_verdict final_of
drawn_verdict rule X side = refl
drawn_verdict rule O side = refl
