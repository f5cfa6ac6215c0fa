-- A search that is kept between the passes: it has stopped in the words of its pool, and goes on from there. Rests on pn's Going and Searches.
use Rattle.std.specs.Prelude.{◌≡◌, refl, Some, IsSome, List, ℕ, ◌≤◌}
use Rattle.std.proofs.Common.{subst}
use Rattle.rules.specs.Rules.{Position}
use Rattle.rules.specs.Record.{side_bit}
use Rattle.pn.specs.Results.{Budget}
use Rattle.pn.specs.Going.{Going, Ranges, with_budget, again, goes_again}
use Rattle.pn.specs.Stepping.{Steppable}
use Rattle.pn.specs.Searches.{Looping}
use Rattle.pn.specs.declared.Settings.{Settings}
use Rattle.pn.specs.declared.Running.{Running}
use Rattle.resume.specs.declared.Kept.{Kept}

-- the search of p has stopped in the words v
pub record Stopped (p : Position) (s : Settings) (v : List ℕ) (k : Kept) : Type 0 where
  pub going : Going p s v k.path k.positions k.running
  pub stop : IsSome k.running.stop
  pub root_is : k.attacker ≡ side_bit p.side

-- its budget stopped it, and s has the same settings with no less budget
pub record Resumable (w : List ℕ) (k : Kept) (s : Settings) : Type 0 where
  pub start : Position
  pub budget : ℕ
  pub stopped : Stopped start (with_budget s budget) w k
  pub spent : k.running.stop ≡ Some Budget
  pub more : budget ≤ s.budget
  pub ranges : Ranges w s

module _ {w : List ℕ} {k : Kept} {s : Settings} (g : Resumable w k s) where
  -- what a run asks for, to go on
  pub to_resume : (h : Steppable w k.path k.positions (again k.running) s k.attacker) × (h.start ≡ g.start)
  to_resume = (
    record {
      start = g.start;
      going = goes_again g.start (with_budget s g.budget) w k.path k.positions k.running g.stopped.going g.spent s.budget g.more;
      ranges = g.ranges;
      on = refl;
      root_is = g.stopped.root_is;
    },
    refl,
  )

  -- what it comes to
  pub resumed : (u path ps : List ℕ) (r : Running) → IsSome r.stop
      → ((h : Steppable w k.path k.positions (again k.running) s k.attacker) → Looping h.start s w u path ps r)
      → Stopped g.start s u (record { running = r; path = path; positions = ps; attacker = k.attacker })
  resumed u path ps r stop each =
      let here : Looping g.start s w u path ps r = subst (λ p. Looping p s w u path ps r) to_resume.1 (each to_resume.0) in
      record { going = here.going; stop = stop; root_is = g.stopped.root_is }
