-- How a search of the plain machine goes on from a state that stands in the pool, and how it ends. Rests on the machine's runs.
use Rattle.std.specs.Prelude.{◌≡◌, true, false, ℕ, zero, suc, ◌-◌, ◌≤◌}
use Rattle.std.proofs.Math.Path.{ap, sym}
use Rattle.std.proofs.Common.{◌∙◌, arith}
use Rattle.machine.specs.Game.{Game}
use Rattle.machine.specs.Tree.{solved}
use Rattle.machine.specs.Machine.{State, Settings, Policy, root, to_leaf, short, round, over_limit, result, run, ends}
use Rattle.machine.proofs.Runs.{run_solved, run_short, run_over, run_next, result_solved}
use Rattle.machine.proofs.Resume.{MoreBudget, resume}

module _ (G : Game) (P : Policy G) (S : Settings) (p : G.Pos) where
  -- from state s on, the run ends as the whole search does
  abbrev pub Leads : State G.Pos → Type 0
  Leads s = (s.counts.expanded ≤ S.budget) × (run G P S (S.budget - s.counts.expanded) s ≡ ends G P S p)

  -- the search has ended in state s with this cause
  abbrev pub Ends : State G.Pos → ℕ → Type 0
  Ends s c = result G (ends G P S p) ≡ result G (s, c)

  -- it has ended in state s itself, with the budget spent and the root not solved: from here it can go on
  pub record Spent (s : State G.Pos) : Type 0 where
    pub all : s.counts.expanded ≡ S.budget
    pub here : ends G P S p ≡ (s, 1)
    pub unsolved : solved (root s) ≡ false

  module _ (s : State G.Pos) (l : Leads s) where
    pub ends_solved : solved (root s) ≡ true → Ends s 0
    ends_solved e = go (S.budget - s.counts.expanded) l.1
      where
        go : (k : ℕ) → run G P S k s ≡ ends G P S p → Ends s 0
        go zero q = unfold run in (ap (result G) (sym q) ∙ result_solved G s 1 0 e)
        go (suc k) q = ap (result G) (sym q ∙ run_solved G P S k s e)

    pub ends_spent : s.counts.expanded ≡ S.budget → solved (root s) ≡ false → Spent s
    ends_spent e u = record { all = e; here = go (S.budget - s.counts.expanded) (omega arith) l.1; unsolved = u }
      where
        go : (k : ℕ) → k ≡ 0 → run G P S k s ≡ ends G P S p → ends G P S p ≡ (s, 1)
        go zero z q = unfold run in (sym q)
        go (suc k) z q = absurd (omega arith)

    module _ (more : s.counts.expanded ≡ S.budget → ⊥) (unsolved : solved (root s) ≡ false) where
      left : ℕ
      left = S.budget - suc s.counts.expanded

      one_left : S.budget - s.counts.expanded ≡ suc left
      unfolding left
      one_left = omega (arith, l.0, more)

      here : run G P S (suc left) s ≡ ends G P S p
      here = ap (λ k. run G P S k s) (sym one_left) ∙ l.1

      pub ends_short : short G P S (to_leaf G P s) ≡ true → Ends (to_leaf G P s) 2
      ends_short t = ap (result G) (sym here ∙ run_short G P S left s unsolved t)

      module _ (enough : short G P S (to_leaf G P s) ≡ false) where
        pub ends_over : over_limit S (round G P s) ≡ true → Ends (round G P s) 3
        ends_over o = ap (result G) (sym here ∙ run_over G P S left s unsolved enough o)

        pub leads_on : (round G P s).counts.expanded ≡ suc s.counts.expanded → over_limit S (round G P s) ≡ false → Leads (round G P s)
        unfolding left
        leads_on e o = (omega (arith, l.0, more), ap (λ k. run G P S (S.budget - k) (round G P s)) e ∙ sym (run_next G P S left s unsolved enough o) ∙ here)

-- a spent search leads on with more budget
pub leads_again : (G : Game) (P : Policy G) (S T : Settings) (p : G.Pos) (s : State G.Pos) → MoreBudget S T → Spent G P S p s → Leads G P T p s
leads_again G P S T p s m h = (
  omega (arith, h.all, m.budget),
  ap (λ k. run G P T (T.budget - k) s) h.all
      ∙ ap (λ (e : State G.Pos × ℕ). run G P T (T.budget - S.budget) e.0) (sym h.here)
      ∙ resume G P S T m p (ap (λ (e : State G.Pos × ℕ). e.1) h.here),
)
