-- `evaluate::evaluate` meets its contract: each arm is a state of the game. Assumes nothing.
use mathlib.Core.Path.{◌≡◌, refl, sym, ap, ◌∙◌}
use mathlib.Core.Bool.{cond}
use Prim.Native.Nat.{ℕ}
use Rattle.rules.specs.Rules as rules
use Rattle.rules.specs.Rules.{mark, same}
use Rattle.rules.specs.Record.{player_of}
use Rattle.machine.specs.Machine.{True, False}
use Rattle.game.specs.Numbers.{player_number, state_number}
use Rattle.game.specs.declared.Player.{Player}
use Rattle.game.specs.declared.Player.TheVariants.{X, O}
use Rattle.game.specs.declared.GameState.{GameState}
use Rattle.game.specs.declared.GameState.TheVariants.{Won}
use Rattle.evaluate.specs.Final.{state_verdict, won_verdict, drawn_verdict}
use Rattle.evaluate.proofs.evaluate.Goals as goal

pub returns-in-InPlay : goal.returns-in-InPlay
unfolding state_verdict
returns-in-InPlay c = rw c.in-InPlay.is

pub returns-in-Drawn : goal.returns-in-Drawn
returns-in-Drawn c = rw (c.in-Drawn.is, drawn_verdict) (c.from.ensures ∙ ap (λ t. cond t True False) c.drawn_value.ensures)

winner : (s : Player) → state_number (Won s) ≡ mark (player_of (player_number s))
winner X = refl
winner O = refl

won : (rule : ℕ) (root side : rules.Player) (g : GameState) (s : Player) (n : ℕ) → g ≡ Won s → n ≡ player_number s
    → cond (same root (player_of n)) True False ≡ state_verdict rule root side (state_number g)
won rule root side g s n e q = rw (e, q) (sym (ap (state_verdict rule root side) (winner s) ∙ won_verdict rule root side (player_of (player_number s))))

pub returns-in-Won : goal.returns-in-Won
returns-in-Won c = c.from-in-Won.ensures ∙ ap (λ t. cond t True False) c.same_side.ensures ∙ won _ _ _ _ _ _ c.in-Won.is c.as_bit.ensures
