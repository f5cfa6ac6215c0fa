-- A search that its budget stopped goes on with more budget as if it had had that from the start. Rests on Runs and RunsAlike.
use Rattle.std.specs.Prelude.{◌≡◌, refl, Bool, true, false, cond}
use Rattle.std.proofs.Math.Path.{ap, sym}
use Rattle.std.proofs.Common.{◌∙◌}
use Prim.Native.Nat.{ℕ, zero, suc, ◌+◌, ◌-◌, ◌≤◌}
use native.Mathlib.Omega.{arith}
use Rattle.machine.specs.Game.{Game}
use Rattle.machine.specs.Tree.{solved}
use Rattle.machine.specs.Machine.{Settings, State, root, start, Policy, to_leaf, short, round, over_limit, result, run, ends, search}
use Rattle.machine.proofs.Runs.{run_solved, run_short, run_over, run_next, Course, at_end, lacking, stopped, onward, course}
use Rattle.machine.proofs.RunsAlike.{run_alike}

-- A run that its budget stopped goes on as one with the larger budget
module _ (G : Game) (P : Policy G) (S : Settings) where
  pub run_on : (j k : ℕ) (s : State G.Pos) → (run G P S j s).1 ≡ 1 → run G P S (j + k) s ≡ run G P S k (run G P S j s).0
  unfolding run
  run_on zero k s e = let q : zero + k ≡ k = omega arith in ap (λ (x : ℕ). run G P S x s) q
  run_on (suc j) k s e = go (course G P S s) (λ q. run_on j k (round G P s) q)
    where
      long : run G P S (suc j + k) s ≡ run G P S (suc (j + k)) s
      long = let q : suc j + k ≡ suc (j + k) = omega arith in ap (λ (x : ℕ). run G P S x s) q

      other : (c : ℕ) (t : State G.Pos) → run G P S (suc j) s ≡ (t, c) → (c ≡ 1 → ⊥) → run G P S (suc j + k) s ≡ run G P S k (run G P S (suc j) s).0
      other c t q n = absurd (n (sym (ap (λ (x : State G.Pos × ℕ). x.1) q) ∙ e))

      go : Course G P S s → ((run G P S j (round G P s)).1 ≡ 1 → run G P S (j + k) (round G P s) ≡ run G P S k (run G P S j (round G P s)).0)
          → run G P S (suc j + k) s ≡ run G P S k (run G P S (suc j) s).0
      go (at_end q) f = other 0 s (run_solved G P S j s q) (λ z. omega arith)
      go (lacking q t) f = other 2 (to_leaf G P s) (run_short G P S j s q t) (λ z. omega arith)
      go (stopped q t o) f = other 3 (round G P s) (run_over G P S j s q t o) (λ z. omega arith)
      go (onward q t o) f =
          let n = run_next G P S j s q t o in
          long ∙ run_next G P S (j + k) s q t o ∙ f (sym (ap (λ (x : State G.Pos × ℕ). x.1) n) ∙ e) ∙ sym (ap (λ (x : State G.Pos × ℕ). run G P S k x.0) n)

-- The second search has no less budget, and all else alike
pub record MoreBudget (S T : Settings) : Type 0 where
  pub pool : T.pool ≡ S.pool
  pub limit : T.limit ≡ S.limit
  pub interval : T.interval ≡ S.interval
  pub budget : S.budget ≤ T.budget

module _ (G : Game) (P : Policy G) (S T : Settings) (h : MoreBudget S T) where
  short_same : (s : State G.Pos) (b : Bool) → short G P S s ≡ b → short G P T s ≡ b
  unfolding short
  short_same s b e = rw h.pool e

  over_same : (s : State G.Pos) → over_limit T s ≡ over_limit S s
  unfolding over_limit
  over_same s = rw (h.interval, h.limit)

  -- The loop itself does not look at the budget
  pub run_same : (k : ℕ) (s : State G.Pos) → run G P T k s ≡ run G P S k s
  run_same k s = run_alike G P P (λ n ks. refl) S T (λ t. short_same t false) over_same k s (λ two t. short_same t true)

  -- THEOREM: where a search ended with cause 1, it goes on to where one with more budget ends
  pub resume : (p : G.Pos) → (ends G P S p).1 ≡ 1 → run G P T (T.budget - S.budget) (ends G P S p).0 ≡ ends G P T p
  unfolding ends
  resume p e =
      let all : S.budget + (T.budget - S.budget) ≡ T.budget = omega (arith, h.budget) in
      run_same (T.budget - S.budget) (run G P S S.budget (start G p)).0
      ∙ sym (run_on G P S S.budget (T.budget - S.budget) (start G p) e)
      ∙ sym (run_same (S.budget + (T.budget - S.budget)) (start G p))
      ∙ ap (λ (k : ℕ). run G P T k (start G p)) all

-- A result has cause 1 where the loop ended with it and the root is not solved
pub cause_one : (G : Game) (e : State G.Pos × ℕ) → (result G e).cause ≡ 1 → (e.1 ≡ 1) × (solved (root e.0) ≡ false)
unfolding result
cause_one G e = go (solved (root e.0))
  where
    go : (b : Bool) → cond b 0 e.1 ≡ 1 → (e.1 ≡ 1) × (b ≡ false)
    go true c = absurd (omega arith)
    go false c = (c, refl)

-- The same of results: a search that answers with cause 1 goes on to the result of one with more budget
pub resume_search : (G : Game) (P : Policy G) (S T : Settings) → MoreBudget S T → (p : G.Pos) → (search G P S p).cause ≡ 1
    → result G (run G P T (T.budget - S.budget) (ends G P S p).0) ≡ search G P T p
unfolding search
resume_search G P S T h p c = ap (result G) (resume G P S T h p (cause_one G (ends G P S p) c).0)
