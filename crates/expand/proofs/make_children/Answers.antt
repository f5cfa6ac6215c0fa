-- `expand::make_children` meets its contract: by the target. Assumes nothing.
use Prim.Native.Nat.{◌<◌}
use Rattle.std.proofs.Common.{rules}
use Rattle.expand.specs.Targets.{target_asks, target_done, no_other}
use Rattle.expand.proofs.make_children.Goals as goal

pub board_children-requires : goal.board_children-requires
board_children-requires c =
    target_asks _ _ _ _ c.requires (search rules)

pub returns-in-0-to-8 : goal.returns-in-0-to-8
unfolding target_asks
returns-in-0-to-8 c g =
    let l : c.args.p.outer.target < 9 = search rules in
    target_done _ _ _ _ g l _ _ (c.board_children.ensures (target_asks _ _ _ _ g l))

pub returns-in_default : goal.returns-in_default
returns-in_default c g = absurd (no_other _ _ _ _ g (search rules) (search rules))
