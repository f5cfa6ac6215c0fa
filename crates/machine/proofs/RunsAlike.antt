-- Two runs that go alike: by policies that choose the same child, where the second is not short of nodes if the first isn't, and the limit stops both or neither.
-- Rests on Runs.
use Rattle.std.proofs.Math.Path.{◌≡◌, refl, ap}
use Rattle.std.proofs.Common.{sym, ◌∙◌}
use Rattle.std.specs.Prelude.{Bool}
use Rattle.std.proofs.Math.Bool.{true, false}
use Prim.Native.Nat.{ℕ, zero, suc}
use Rattle.machine.specs.Game.{Game}
use Rattle.machine.specs.Tree.{Node, solved, Children, none}
use Rattle.machine.specs.Machine.{Settings, State, root, Policy, into, down, descend, to_leaf, short, expand, climb, round, over_limit, result, run}
use Rattle.machine.proofs.Runs.{root_leaf, run_solved, run_short, run_over, run_next, Course, at_end, lacking, stopped, onward, course}

-- The same child, so the same leaf and the same round
module _ (G : Game) (P Q : Policy G) (same : (n : Node G.Pos) (ks : Children G.Pos) → Q.select n ks ≡ P.select n ks) where
  same_descend : (k : ℕ) (s : State G.Pos) → descend G Q k s ≡ descend G P k s
  unfolding descend down
  same_descend zero s = refl
  same_descend (suc k) s = go s.node.expanded (ap (descend G Q k) (ap (into s.counts s.above s.node none s.below) (same s.node s.below)) ∙ same_descend k (down G P s))
    where
      go : (b : Bool) → descend G Q k (down G Q s) ≡ descend G P k (down G P s)
          → ◌≡◌ {A = State G.Pos} (elim b [ true ↦ descend G Q k (down G Q s) | false ↦ s ]) (elim b [ true ↦ descend G P k (down G P s) | false ↦ s ])
      go true e = e
      go false e = refl

  same_leaf : (s : State G.Pos) → to_leaf G Q s ≡ to_leaf G P s
  unfolding to_leaf
  same_leaf s = same_descend (G.left s.node.pos) s

  same_round : (s : State G.Pos) → round G Q s ≡ round G P s
  unfolding round
  same_round s = ap (λ (t : State G.Pos). let u = expand G t in climb G u.above u.counts u.node u.below) (same_leaf s)

  module _ (S T : Settings) (fits : (s : State G.Pos) → short G P S s ≡ false → short G Q T s ≡ false) (limit : (s : State G.Pos) → over_limit T s ≡ over_limit S s) where
    -- A run that step 3 stopped has cause 2
    cause_short : (s : State G.Pos) → solved (root s) ≡ false → (result G (to_leaf G P s, 2)).cause ≡ 2
    unfolding result
    cause_short s e = rw (root_leaf G P s ∙ e)

    -- THEOREM: they end alike, unless the first has cause 2; and then too if the second is short wherever the first is
    pub run_alike : (k : ℕ) (s : State G.Pos) → ((result G (run G P S k s)).cause ≡ 2 → (t : State G.Pos) → short G P S t ≡ true → short G Q T t ≡ true) → run G Q T k s ≡ run G P S k s
    unfolding run
    run_alike zero s lacks = refl
    run_alike (suc k) s lacks = go (course G P S s) (λ more. run_alike k (round G P s) more)
      where
        fits_here : short G P S (to_leaf G P s) ≡ false → short G Q T (to_leaf G Q s) ≡ false
        fits_here t = ap (short G Q T) (same_leaf s) ∙ fits (to_leaf G P s) t

        over_here : (b : Bool) → over_limit S (round G P s) ≡ b → over_limit T (round G Q s) ≡ b
        over_here b o = ap (over_limit T) (same_round s) ∙ limit (round G P s) ∙ o

        go : Course G P S s
            → (((result G (run G P S k (round G P s))).cause ≡ 2 → (t : State G.Pos) → short G P S t ≡ true → short G Q T t ≡ true) → run G Q T k (round G P s) ≡ run G P S k (round G P s))
            → run G Q T (suc k) s ≡ run G P S (suc k) s
        go (at_end e) f = run_solved G Q T k s e ∙ sym (run_solved G P S k s e)
        go (lacking e t) f =
            let n = run_short G P S k s e t in
            let two = ap (λ (x : State G.Pos × ℕ). (result G x).cause) n ∙ cause_short s e in
            run_short G Q T k s e (ap (short G Q T) (same_leaf s) ∙ lacks two (to_leaf G P s) t)
            ∙ ap (λ (x : State G.Pos). (x, 2)) (same_leaf s)
            ∙ sym n
        go (stopped e t o) f =
            run_over G Q T k s e (fits_here t) (over_here true o)
            ∙ ap (λ (x : State G.Pos). (x, 3)) (same_round s)
            ∙ sym (run_over G P S k s e t o)
        go (onward e t o) f =
            let n = run_next G P S k s e t o in
            run_next G Q T k s e (fits_here t) (over_here false o)
            ∙ ap (run G Q T k) (same_round s)
            ∙ f (λ two. lacks (ap (λ (x : State G.Pos × ℕ). (result G x).cause) n ∙ two))
            ∙ sym n
