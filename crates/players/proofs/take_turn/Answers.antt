-- `players::take_turn` meets its contract: the legal moves are written and looked through, and one of them is played or drawn. Assumes nothing.
use Rattle.std.proofs.Common.{arith, take, length}
use Rattle.rules.specs.Rules.{Position}
use Rattle.rules.specs.Record.{Accepted}
use Rattle.rules.proofs.LegalMoves.{moves_few}
use Rattle.game.specs.Words.{Holds}
use Rattle.players.specs.Turning.{Looks}
use Rattle.players.proofs.Turning.{to_look, turnable_some, turned_wins, turned_drawn}
use Rattle.players.proofs.take_turn.Goals.{After-settings_for-s}
use Rattle.players.proofs.take_turn.Goals as goal

looks : (c : After-settings_for-s) (p : Position) → Holds p c.args.pos.words 0 → Accepted p
    → Looks c.args.c p c.args.pos.words (take c.write_moves-n.result c.write_moves-n.new.out) (length (take c.write_moves-n.result c.write_moves-n.new.out)) c.settings_for-s.result
looks c = to_look _ _ _ _ _ _ _ c.write_moves-n.ensures c.side_to_move.ensures.0 c.settings_for-s.ensures

pub look_for_win-look-requires : goal.look_for_win-look-requires
look_for_win-look-requires c =
    record { players = c.args.c; pos = c.requires.0.pos; looks = looks (goal.at.look_for_win-look-requires c).After-settings_for-s c.requires.0.pos c.requires.0.holds c.requires.0.accepted; range = c.requires.0.range }

pub bounds-legal-place : goal.bounds-legal-place
bounds-legal-place c =
    let l = looks (goal.at.bounds-legal-place c).After-settings_for-s c.requires.0.pos c.requires.0.holds c.requires.0.accepted in
    omega (arith, ((c.look_for_win-look.ensures.each _ c.requires.0.pos l).wins _ c.in-Some.is).0, l.listed.count)

pub returns-in-Some : goal.returns-in-Some
returns-in-Some c =
    record {
      past = c.look_for_win-look.ensures.past;
      each = λ p h a e. let l = looks (goal.at.returns-in-Some c).After-settings_for-s p h a in turned_wins _ p _ _ _ _ l.listed (c.look_for_win-look.ensures.each _ p l) _ c.in-Some.is;
    }

pub drawn_place-place-requires : goal.drawn_place-place-requires
drawn_place-place-requires c =
    turnable_some c.requires.0.pos c.requires.0.accepted c.requires.1 _ _ (looks (goal.at.drawn_place-place-requires c).After-settings_for-s c.requires.0.pos c.requires.0.holds c.requires.0.accepted).listed

pub returns : goal.returns
returns c =
    record {
      past = c.look_for_win-look.ensures.past;
      each = λ p h a e.
          let l = looks (goal.at.returns c).After-settings_for-s p h a in
          turned_drawn _ p _ _ _ _ l.listed (c.look_for_win-look.ensures.each _ p l) c.in_default.is _ _ c.next_state-next.ensures c.drawn_place-place.ensures.0 c.drawn_place-place.ensures.1;
    }
