-- The second pass of a game, as the code goes through it: the grant's result, and what is unspent after it. Rests on Keeping, Lone and the passes' definitions.
use Rattle.std.specs.Prelude.{◌≡◌, Bool, true, false, Some, cond, List, ℕ, ◌+◌, ◌-◌, ◌≤◌, eqb, length}
use Rattle.std.proofs.Math.Path.{ap, sym}
use Rattle.std.proofs.Common.{◌∙◌, arith, eq-eqb, ne_eqb}
use Rattle.rules.specs.Rules.{Position}
use Rattle.machine.specs.Machine as machine
use Rattle.plain.specs.Plain.{search_of}
use Rattle.stay.specs.Margin.{stay_of}
use Rattle.words.specs.Words.{capacity}
use Rattle.passes.specs.Passes.{OneGame, first, grant_with, unspent_after}
use Rattle.pn.specs.Results.{machine_settings, Budget, result_of}
use Rattle.pn.specs.Going.{Countable, Ranges, stopped_by, with_budget, cause_spent, spent_cause, settings_long}
use Rattle.pn.specs.declared.Settings.{Settings}
use Rattle.pn.specs.declared.SearchResult.{SearchResult}
use Rattle.resume.specs.Lone.{lone, lone_spent}
use Rattle.resume.specs.Keeping.{Stopped, Resumable}
use Rattle.resume.specs.declared.Kept.{Kept}
use Rattle.resume.specs.declared.Turn.{Turn}

-- the game of p in a pool of these words; its share is the budget
abbrev pub game_in : List ℕ → Settings → Position → OneGame
game_in w s p = lone s.rule (capacity w) s.limit s.interval (stay_of s.stay) s.budget p

-- what the second pass of a game asks for
pub record Passable (w : List ℕ) (k : Kept) (s : Settings) (unspent : ℕ) : Type 0 where
  pub start : Position
  pub stopped : Stopped start s w k
  pub ranges : Ranges w s
  pub countable : Countable (k.running.prover.expanded + unspent)

-- what it comes to, by the definition of the two passes
pub record Passes (p : Position) (s : Settings) (w : List ℕ) (unspent : ℕ) (r : Turn) : Type 0 where
  pub result_is : result_of r.result ≡ (game_in w s p).search (grant_with (game_in w s p) unspent)
  pub unspent_is : r.unspent ≡ unspent_after (game_in w s p) unspent

-- a result in words of the same length, and what it expanded
module _ (p : Position) (s : Settings) (w v : List ℕ) (r : SearchResult) (long : length v ≡ length w) (e : result_of r ≡ search_of s.rule (machine_settings v s) p) where
  pub result_long : result_of r ≡ search_of s.rule (machine_settings w s) p
  result_long = e ∙ ap (λ (T : machine.Settings). search_of s.rule T p) (settings_long w v s long)

  pub result_most : Ranges w s → r.expanded ≤ s.budget
  result_most f = omega (arith, (lone_spent s.rule (machine_settings w s) (record { some = f.some; most = f.few }) p).0, ap (λ (x : machine.Result). x.expanded) result_long)

module _ {p : Position} {s : Settings} {w : List ℕ} {k : Kept} (h : Stopped p s w k) (u : ℕ) where
  abbrev g : OneGame
  g = game_in w s p

  -- what it expanded in the first pass
  pub first_expanded : (first g).expanded ≡ k.running.prover.expanded
  unfolding search_of machine.search machine.result
  first_expanded =
      let by = stopped_by k.running.stop h.stop in
      ap (λ (r : machine.Result). r.expanded) (h.going.ended by.0 by.1) ∙ sym h.going.stands.expanded_is

  granted : (b : Bool) → eqb (first g).cause 1 ≡ b → grant_with g u ≡ cond b (s.budget + u) s.budget
  granted b e = ap (λ c. cond c (s.budget + u) s.budget) e

  -- not stopped by its budget, it keeps its first result
  pub passes_kept : (k.running.stop ≡ Some Budget → ⊥) → (r : SearchResult) → result_of r ≡ search_of s.rule (machine_settings w s) p → Passes p s w u (record { result = r; unspent = u })
  passes_kept n r e =
      let q = granted false (ne_eqb _ 1 (λ c. n (cause_spent p s w k.path k.positions k.running h.going h.stop c))) in
      let same : result_of r ≡ g.search (grant_with g u) = e ∙ ap g.search (sym q) in
      record { result_is = same; unspent_is = omega (arith, ap (λ (x : machine.Result). x.expanded) e, ap (λ (x : machine.Result). x.expanded) same) }

  module _ (c : k.running.stop ≡ Some Budget) where
    pub spent_all : k.running.prover.expanded ≡ s.budget
    spent_all = h.going.stands.expanded_is ∙ (h.going.spent c).0.all

    -- stopped by its budget, it was granted all that was unspent
    pub passes_on : (r : SearchResult) → result_of r ≡ search_of s.rule (machine_settings w (with_budget s (s.budget + u))) p
        → Passes p s w u (record { result = r; unspent = s.budget + u - r.expanded })
    passes_on r e =
        let q = granted true (eq-eqb _ 1 (spent_cause p s w k.path k.positions k.running h.going c)) in
        let same : result_of r ≡ g.search (grant_with g u) = e ∙ ap g.search (sym q) in
        record { result_is = same; unspent_is = omega (arith, first_expanded, spent_all, ap (λ (x : machine.Result). x.expanded) same) }

    -- what going on asks for
    unfoldable pub to_go_on : Ranges w s → Countable (k.running.prover.expanded + u) → Resumable w k (with_budget s (s.budget + u))
    to_go_on ranges countable = record {
      start = p;
      budget = s.budget;
      stopped = h;
      spent = c;
      more = omega arith;
      ranges = record {
        some = ranges.some;
        few = ranges.few;
        interval_some = ranges.interval_some;
        countable = omega (arith, spent_all);
        rule_few = ranges.rule_few;
        stay_is_in_range = ranges.stay_is_in_range;
      };
    }
