-- `children::taken_bits` meets its contract: the two sides have no cell in common. Assumes nothing.
use native.Mathlib.Omega.{arith}
use Rattle.children.specs.Taken.{taken_is, taken_lt}
use Rattle.children.proofs.taken_bits.Goals as goal

pub returns-clause-upper_bound : goal.returns-clause-upper_bound
returns-clause-upper_bound c =
    let held = c.requires.0.1 in
    omega (arith, taken_is held _ _ _ c.requires.1 c.player_bits.ensures.0 c.player_bits-2.ensures.0, taken_lt held _ c.requires.1)
