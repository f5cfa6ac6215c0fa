-- What a verdict tells of its position. Rests on Final and the rules' laws.
use Rattle.std.proofs.Math.Path.{◌≡◌, refl}
use Rattle.std.proofs.Common.{sym, ◌∙◌, arith}
use Rattle.std.specs.Prelude.{Bool, [], ℕ, eqb}
use Rattle.std.proofs.Math.Bool.{true, false, cond, false≢true}
use borrow.Author.Tests.{eqb-true}
use Rattle.rules.specs.Rules.{Player, Position, game_state, legal_moves, final_value}
use Rattle.rules.proofs.LegalMoves.{finished_none}
use Rattle.machine.specs.Machine.{True, False, Unknown}
use Rattle.evaluate.specs.Final.{position_verdict}

module _ (rule : ℕ) (root : Player) (p : Position) where
  -- Unknown: the game is in play
  pub verdict_open : position_verdict rule root p ≡ Unknown → game_state p ≡ 0
  unfolding position_verdict
  verdict_open e = eqb-true (game_state p) 0 (go (eqb (game_state p) 0) (final_value rule root p) e)
    where
      go : (t v : Bool) → cond t Unknown (cond v True False) ≡ Unknown → t ≡ true
      go true v q = refl
      go false true q = let z : ◌≡◌ {A = ℕ} 0 1 = cc in absurd (omega arith)
      go false false q = let z : ◌≡◌ {A = ℕ} 0 1 = cc in absurd (omega arith)

  -- True or False: the game is over, and that is the rules' value
  pub verdict_known : (v : Bool) → position_verdict rule root p ≡ cond v True False → (legal_moves p ≡ []) × (final_value rule root p ≡ v)
  unfolding position_verdict
  verdict_known v e = let r = go (eqb (game_state p) 0) (final_value rule root p) v e in (finished_none p (λ q. false≢true (sym r.0 ∙ rw q)), r.1)
    where
      go : (t w v : Bool) → cond t Unknown (cond w True False) ≡ cond v True False → (t ≡ false) × (w ≡ v)
      go true w true q = let z : ◌≡◌ {A = ℕ} 0 1 = cc in absurd (omega arith)
      go true w false q = let z : ◌≡◌ {A = ℕ} 0 1 = cc in absurd (omega arith)
      go false true true q = (refl, refl)
      go false true false q = let z : ◌≡◌ {A = ℕ} 0 1 = cc in absurd (omega arith)
      go false false true q = let z : ◌≡◌ {A = ℕ} 0 1 = cc in absurd (omega arith)
      go false false false q = (refl, refl)
