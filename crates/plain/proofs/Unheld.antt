-- Searches of an accepted position: no sum that step 5 takes is held, and no number is more than 3506438144, which is 2147483648 + 81 * 16777216.
-- From the machine's law for any game at whose root at most 127 moves are left. Rests on Laws.
use Rattle.std.specs.Prelude.{◌≡◌, false, ℕ, ◌≤◌}
use Rattle.std.proofs.Common.{arith}
use Rattle.rules.specs.Rules.{Position}
use Rattle.rules.specs.Record.{Accepted}
use Rattle.machine.specs.Game.{Game}
use Rattle.machine.specs.Tree.{Node, Children, solved}
use Rattle.machine.specs.Machine.{Settings, State, Policy, root, tree, to_leaf, short, expand}
use Rattle.machine.proofs.Value.{Lawful}
use Rattle.machine.proofs.Place.{Sane}
use Rattle.machine.proofs.Reached.{In, Reached, PoolInRange}
use Rattle.machine.proofs.Unheld.{Unheld, reached_unheld, reached_most, result_most}
use Rattle.plain.specs.Plain.{game_of, policy_of, search_of}
use Rattle.plain.proofs.Laws.{lawful, policy_sane, left_most}

abbrev pub number_max : ℕ
number_max = 3506438144

module _ (rule : ℕ) (p : Position) (a : Accepted p) (S : Settings) (in_range : PoolInRange S) where
  abbrev G : Game
  G = game_of rule p

  abbrev P : Policy G
  P = policy_of rule p.side S.stay

  L : Lawful G
  L = lawful rule p.side

  Q : Sane G P
  Q = policy_sane rule p.side S.stay

  -- Of each round that a search makes: t is the state that step 4 leaves to step 5.
  pub position_unheld : (s : State Position) → Reached G P S p s → solved (root s) ≡ false → short G P S (to_leaf G P s) ≡ false
      → let t = expand G (to_leaf G P s) in Unheld G t.above t.counts t.node t.below
  position_unheld s h e q = reached_unheld G L P Q S in_range p (omega (arith, left_most p a)) s h e q

  -- Of each node of the tree.
  pub position_most : (s : State Position) → Reached G P S p s → (n : Node Position) (b : Children Position) → In n b (tree s) → (n.phi ≤ number_max) × (n.delta ≤ number_max)
  position_most s h n b i =
      let k = reached_most G L P Q S in_range p s h n b i in
      (omega (arith, k.0, left_most p a), omega (arith, k.1, left_most p a))

  -- Of the result.
  pub search_most : ((search_of rule S p).proof ≤ number_max) × ((search_of rule S p).disproof ≤ number_max)
  unfolding search_of
  search_most =
      let k = result_most G L P Q S in_range p in
      (omega (arith, k.0, left_most p a), omega (arith, k.1, left_most p a))
