-- A search of a position between two rounds, as its code keeps it, and its result. Rests on prover's Stands, expand's counter_max, Courses, Ticks, Root and Results.
use Rattle.std.specs.Prelude.{◌≡◌, refl, Option, Some, None, IsSome, IsNone, ◌||◌, List, ℕ, ◌+◌, ◌*◌, ◌≤◌, ◌<◌, eqb, length, get_or}
use Rattle.std.proofs.Math.Path.{ap, sym}
use Rattle.std.proofs.lemmas.Option.{none-some}
use Rattle.std.proofs.Common.{◌∙◌, true≢false}
use Rattle.std.proofs.Math.Bool.{true, cond}
use Rattle.rules.specs.Rules.{Position, count}
use Rattle.machine.specs.Tree.{solved, proof_of, disproof_of}
use Rattle.machine.specs.Machine as machine
use Rattle.machine.specs.Place.{pool_max}
use Rattle.machine.specs.Rounds.{StateOk}
use Rattle.machine.proofs.Resume.{MoreBudget, cause_one}
use Rattle.plain.specs.Plain.{game_of, policy_of, search_of}
use Rattle.plain.proofs.Laws.{root_mine}
use Rattle.prove.specs.Numbers.{verdict}
use Rattle.words.specs.Packed.{view}
use Rattle.words.specs.Words.{PHI, DELTA, word, capacity}
use Rattle.words.specs.Trees.{Held}
use Rattle.prover.specs.Stands.{Stands}
use Rattle.expand.specs.Expandable.{counter_max}
use Rattle.stay.specs.Margin.{stay_of, StayInRange}
use Rattle.pn.specs.Ticks.{Ticks}
use Rattle.pn.specs.Courses.{Leads, Ends, Spent, leads_again}
use Rattle.pn.specs.Root.{root_place, root_held}
use Rattle.pn.specs.Results.{machine_settings, cause_number, Budget, result_of}
use Rattle.pn.specs.declared.Settings.{Settings}
use Rattle.pn.specs.declared.Running.{Running}
use Rattle.pn.specs.declared.SearchResult.{SearchResult}
use Rattle.pn.specs.declared.Cause.{Cause}

-- the policy of the settings, for a search of p
abbrev pub policy_for : (s : Settings) (p : Position) → machine.Policy (game_of s.rule p)
policy_for s p = policy_of s.rule p.side (stay_of s.stay)

-- words of the same length make a pool of the same capacity
pub settings_long : (w v : List ℕ) (s : Settings) → length v ≡ length w → machine_settings v s ≡ machine_settings w s
settings_long w v s e = rw e

-- a budget with which every count keeps within its word: the root is made, and up to 81 nodes at each expansion
abbrev pub Countable : ℕ → Type 0
Countable budget = 1 + 81 * budget < counter_max

-- the ranges that keep counts within their words, and products of floats exact
pub record Ranges (w : List ℕ) (s : Settings) : Type 0 where
  pub some : 0 < capacity w
  pub few : capacity w ≤ pool_max
  pub interval_some : 0 < s.interval
  pub countable : Countable s.budget
  pub rule_few : s.rule < 3
  pub stay_is_in_range : StayInRange s.stay

-- a search of p stands there: it goes on as the machine's does, or has ended; with its budget spent it stands where the machine's ended, and its counter goes on from there
pub record Going (p : Position) (s : Settings) (w path ps : List ℕ) (x : Running) : Type 0 where
  pub at : machine.State Position
  pub stands : Stands s.rule p.side w path ps x.prover at
  pub ok : StateOk (game_of s.rule p) p (capacity w) at
  pub few : count 0 p.cells ≤ 81
  pub allocated_most : at.counts.allocated ≤ 1 + 81 * at.counts.expanded
  pub onward : IsNone x.stop
      → Leads (game_of s.rule p) (policy_for s p) (machine_settings w s) p at × Ticks s.interval at.counts.expanded x.tick
  pub ended : (c : Cause) → x.stop ≡ Some c → Ends (game_of s.rule p) (policy_for s p) (machine_settings w s) p at (cause_number c)
  pub spent : x.stop ≡ Some Budget
      → Spent (game_of s.rule p) (policy_for s p) (machine_settings w s) p at × Ticks s.interval at.counts.expanded x.tick

-- the cause that a stopped search has; 1 is the budget's number alone
pub stopped_by : (o : Option Cause) → IsSome o → (c : Cause) × (o ≡ Some c)
stopped_by None e = absurd (true≢false (sym e))
stopped_by (Some c) e = (c, refl)

pub one_budget : (c : Cause) → cause_number c ≡ 1 → c ≡ Budget
one_budget c e = ap (λ (n : ℕ). record { 0 = n }) e

-- the same settings with another budget, and a search that takes up again
abbrev pub with_budget : Settings → ℕ → Settings
with_budget s b = record { rule = s.rule; limit = s.limit; budget = b; interval = s.interval; stay = s.stay }

abbrev pub again : Running → Running
again x = record { prover = x.prover; tick = x.tick; stop = None }

module _ (p : Position) (s : Settings) (w path ps : List ℕ) (x : Running) (g : Going p s w path ps x) where
  -- the root stands at place 0 of the path
  pub going_root : Held (view (game_of s.rule p)) w (machine.root g.at) (get_or path 0 0)
  unfolding machine.root
  going_root = root_held _ w path x.prover.depth g.at.above g.at.node g.stands.tree.tree.node g.stands.tree.tree.above

  root_pos : (machine.root g.at).pos ≡ p
  unfolding machine.root
  root_pos = root_place (game_of s.rule p) p g.at.above g.at.node g.ok.tree_ok.above

  mine : (game_of s.rule p).mine (machine.root g.at).pos ≡ true
  mine = ap (game_of s.rule p).mine root_pos ∙ root_mine s.rule p

  proof_is : proof_of (game_of s.rule p) (machine.root g.at) ≡ word w (get_or path 0 0) PHI
  unfolding proof_of
  proof_is = ap (λ b. cond b (machine.root g.at).phi (machine.root g.at).delta) mine ∙ sym going_root.phi_is

  disproof_is : disproof_of (game_of s.rule p) (machine.root g.at) ≡ word w (get_or path 0 0) DELTA
  unfolding disproof_of
  disproof_is = ap (λ b. cond b (machine.root g.at).delta (machine.root g.at).phi) mine ∙ sym going_root.delta_is

  pub solved_is : solved (machine.root g.at) ≡ (eqb (word w (get_or path 0 0) PHI) 0 || eqb (word w (get_or path 0 0) DELTA) 0)
  unfolding solved
  solved_is = rw (going_root.phi_is, going_root.delta_is)

  -- spent, it goes on with more budget
  pub goes_again : x.stop ≡ Some Budget → (b : ℕ) → s.budget ≤ b → Going p (with_budget s b) w path ps (again x)
  goes_again e b l =
      let h = g.spent e in
      let m : MoreBudget (machine_settings w s) (machine_settings w (with_budget s b)) = record { pool = refl; limit = refl; interval = refl; budget = l } in
      record {
        at = g.at;
        stands = g.stands;
        ok = g.ok;
        few = g.few;
        allocated_most = g.allocated_most;
        onward = λ q. (leads_again (game_of s.rule p) (policy_for s p) (machine_settings w s) (machine_settings w (with_budget s b)) p g.at m h.0, h.1);
        ended = λ c q. absurd (none-some c q);
        spent = λ q. absurd (none-some Budget q);
      }

  -- the plain machine's result has cause 1 exactly where the search stopped with it
  pub cause_spent : IsSome x.stop → (search_of s.rule (machine_settings w s) p).cause ≡ 1 → x.stop ≡ Some Budget
  unfolding search_of machine.search
  cause_spent e q =
      let h = stopped_by x.stop e in
      let one = (cause_one (game_of s.rule p) (g.at, cause_number h.0) (sym (ap (λ (r : machine.Result). r.cause) (g.ended h.0 h.1)) ∙ q)).0 in
      h.1 ∙ ap (λ (c : Cause). Some c) (one_budget h.0 one)

  pub spent_cause : x.stop ≡ Some Budget → (search_of s.rule (machine_settings w s) p).cause ≡ 1
  unfolding search_of machine.search machine.result
  spent_cause e = ap (λ (r : machine.Result). r.cause) (g.ended Budget e) ∙ ap (λ b. cond b 0 1) (g.spent e).0.unsolved

  -- the result, from the root's words and the counts
  pub going_result : (c : Cause) → x.stop ≡ Some c → (r : SearchResult)
      → r.proof ≡ word w (get_or path 0 0) PHI → r.disproof ≡ word w (get_or path 0 0) DELTA → verdict r.verdict ≡ machine.verdict_of r.proof r.disproof
      → r.allocated ≡ x.prover.pool.allocated → r.freed ≡ x.prover.pool.freed → r.proved ≡ x.prover.proved → r.disproved ≡ x.prover.disproved
      → r.expanded ≡ x.prover.expanded → cause_number r.cause ≡ cond (eqb r.proof 0 || eqb r.disproof 0) 0 (cause_number c)
      → result_of r ≡ search_of s.rule (machine_settings w s) p
  unfolding search_of machine.search machine.result
  going_result c e r ep ed ev ea ef eo en ee ec =
      let st = g.stands in
      rw (ev, ec, ep, ed, ea, ef, eo, en, ee, st.tree.allocated_is, st.tree.freed_is, st.proved_is, st.disproved_is, st.expanded_is, ← solved_is, ← proof_is, ← disproof_is)
      (sym (g.ended c e))
