-- A position's lone searches as one game of the two passes: no more is expanded than the budget, and all of it where it stops the search. Rests on the plain machine and passes.
use Rattle.std.specs.Prelude.{◌≡◌, ℕ, ◌≤◌}
use Rattle.rules.specs.Rules.{Position}
use Rattle.machine.specs.Machine.{Stay, Settings}
use Rattle.machine.proofs.Reached.{PoolInRange, ends_spent}
use Rattle.plain.specs.Plain.{game_of, policy_of, search_of}
use Rattle.plain.proofs.Laws.{lawful, policy_sane}
use Rattle.passes.specs.Passes.{OneGame}
use Rattle.passes.specs.Laws.{Bounded}

pub lone_spent : (rule : ℕ) (S : Settings) → PoolInRange S → (p : Position)
    → ((search_of rule S p).expanded ≤ S.budget) × ((search_of rule S p).cause ≡ 1 → (search_of rule S p).expanded ≡ S.budget)
unfolding search_of
lone_spent rule S f p = ends_spent (game_of rule p) (lawful rule p.side) (policy_of rule p.side S.stay) (policy_sane rule p.side S.stay) S f p

-- a game with a share, in a pool of so many nodes
abbrev pub settings_with : (pool limit interval : ℕ) → Stay → (budget : ℕ) → Settings
settings_with pool limit interval stay budget = record { pool = pool; limit = limit; budget = budget; interval = interval; stay = stay }

abbrev pub lone : (rule pool limit interval : ℕ) → Stay → (share : ℕ) → Position → OneGame
lone rule pool limit interval stay share p = record { share = share; search = λ budget. search_of rule (settings_with pool limit interval stay budget) p }

pub lone_bounded : (rule pool limit interval : ℕ) (stay : Stay) (share : ℕ) (p : Position) → PoolInRange (settings_with pool limit interval stay 0)
    → Bounded (lone rule pool limit interval stay share p)
lone_bounded rule pool limit interval stay share p f =
    let within : (b : ℕ) → PoolInRange (settings_with pool limit interval stay b) = λ b. record { some = f.some; most = f.most } in
    record {
      most = λ b. (lone_spent rule (settings_with pool limit interval stay b) (within b) p).0;
      all = λ b. (lone_spent rule (settings_with pool limit interval stay b) (within b) p).1;
    }
