-- For computed cases: the plain machine with every definition open, and its settings written in a line. Rests on Machine.
use Rattle.std.specs.Prelude.{ℕ}
use Rattle.machine.specs.Game.{Game}
use Rattle.machine.specs.Tree.{bound, leaf, solved, proof_of, disproof_of, size, least_delta, sum_phi, append}
use Rattle.machine.specs.Machine.{off, margin, Settings, Result, live, root_of, root, start, first_that, holds_at, within_margin, choice, standard, into, down, descend, to_leaf, short, make, children, opened, expand, renumber, unchanged, store, climb, round, over_limit, verdict_of, result, run, ends, search}

unfoldable pub computed : (G : Game) → Settings → G.Pos → Result
unfolding bound leaf solved proof_of disproof_of size least_delta sum_phi append live root_of root start first_that holds_at within_margin choice standard into down descend to_leaf short make children opened expand renumber unchanged store climb round over_limit verdict_of result run ends search
computed G S p = search G (standard G S.stay) S p

abbrev pub settings : ℕ → ℕ → ℕ → ℕ → Settings
settings pool limit budget interval = record { pool = pool; limit = limit; budget = budget; interval = interval; stay = off }

abbrev pub with_margin : ℕ → Settings → Settings  -- of so many 256ths
with_margin k S = record { pool = S.pool; limit = S.limit; budget = S.budget; interval = S.interval; stay = margin k }
