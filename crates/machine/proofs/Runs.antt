-- The loop: how it goes on, and that a search which answers is answered alike with no less pool, limit and budget. Rests on Machine, and on Numbers for what solved says.
use Rattle.std.specs.Prelude.{◌≡◌, ◌↔◌, Bool, ◌&&◌, eqb}
use Rattle.std.proofs.Math.Path.{refl, ap, sym}
use Rattle.std.proofs.Common.{◌∙◌, inl, inr, arith}
use mathlib.Core.List.{List, [], ◌∷◌}
use Rattle.std.proofs.Math.Bool.{true, false, true≢false, cond}
use Prim.Native.Nat.{ℕ, zero, suc, ◌-◌, ◌%◌, ◌≤◌, ◌<◌}
use Rattle.std.proofs.Math.Dec.{ltb, eqb-suc-zero}
use borrow.Author.Tests.{ltb-false, le-ltb}
use Rattle.machine.specs.Game.{Game}
use Rattle.machine.specs.Tree.{Node, solved, proof_of, disproof_of, Children, none, child, append}
use Rattle.machine.specs.Machine.{Settings, Counts, live, Ancestor, State, root_of, root, start, Policy, remember, into, down, descend, to_leaf, short, round, over_limit, Verdict, True, False, Unknown, verdict_of, Result, result, run, ends, search}
use Rattle.machine.proofs.Numbers.{Solved, yes, no, is_solved}

-- The verdict and the numbers
pub data Judged (v : Verdict) (a b : ℕ) : Type 0 where
  jtrue : v ≡ True → a ≡ 0 → Judged v a b
  jfalse : v ≡ False → 0 < a → b ≡ 0 → Judged v a b
  junknown : v ≡ Unknown → 0 < a → 0 < b → Judged v a b

pub judged : (a b : ℕ) → Judged (verdict_of a b) a b
unfolding verdict_of
judged zero b = jtrue refl refl
judged (suc a) zero = jfalse (rw (eqb-suc-zero a)) (omega arith) refl
judged (suc a) (suc b) = junknown (rw (eqb-suc-zero a, eqb-suc-zero b)) (omega arith) (omega arith)

-- Unknown exactly where neither number is 0
pub verdict_unknown : (a b : ℕ) → (verdict_of a b ≡ Unknown) ↔ ((0 < a) × (0 < b))
verdict_unknown a b = (λ e. to (judged a b) e, λ h. fro (judged a b) h)
  where
    to : Judged (verdict_of a b) a b → verdict_of a b ≡ Unknown → (0 < a) × (0 < b)
    to (jtrue v z) e = absurd (let y : ◌≡◌ {A = ℕ} 0 1 = cc in omega arith)
    to (jfalse v p z) e = absurd (let y : ◌≡◌ {A = ℕ} 0 1 = cc in omega arith)
    to (junknown v p q) e = (p, q)

    fro : Judged (verdict_of a b) a b → (0 < a) × (0 < b) → verdict_of a b ≡ Unknown
    fro (jtrue v z) h = absurd (omega arith)
    fro (jfalse v p z) h = absurd (omega arith)
    fro (junknown v p q) h = v

module _ (G : Game) where
  -- A result is Unknown exactly where its root is not solved
  numbers_open : (n : Node G.Pos) → ((0 < proof_of G n) × (0 < disproof_of G n)) ↔ ((0 < n.phi) × (0 < n.delta))
  unfolding proof_of disproof_of
  numbers_open n = go (G.mine n.pos)
    where
      go : (b : Bool) → ((0 < cond b n.phi n.delta) × (0 < cond b n.delta n.phi)) ↔ ((0 < n.phi) × (0 < n.delta))
      go true = (λ h. h, λ h. h)
      go false = (λ h. (h.1, h.0), λ h. (h.1, h.0))

  pub unsolved_unknown : (e : State G.Pos × ℕ) → solved (root e.0) ≡ false → (result G e).verdict ≡ Unknown
  unfolding result
  unsolved_unknown e q = go (is_solved (root e.0))
    where
      go : Solved (root e.0) → verdict_of (proof_of G (root e.0)) (disproof_of G (root e.0)) ≡ Unknown
      go (yes s z) = absurd (true≢false (sym s ∙ q))
      go (no s a b) = (verdict_unknown _ _).1 ((numbers_open (root e.0)).1 (a, b))

  pub solved_known : (e : State G.Pos × ℕ) → solved (root e.0) ≡ true → (result G e).verdict ≡ Unknown → ⊥
  unfolding result
  solved_known e q v = go (is_solved (root e.0)) ((numbers_open (root e.0)).0 ((verdict_unknown _ _).0 v))
    where
      go : Solved (root e.0) → (0 < (root e.0).phi) × (0 < (root e.0).delta) → ⊥
      go (yes s (inl z)) h = omega (arith, h.0)
      go (yes s (inr z)) h = omega (arith, h.1)
      go (no s a b) h = true≢false (sym q ∙ s)

  -- A solved root's result does not depend on why the loop stopped
  pub result_solved : (s : State G.Pos) (c d : ℕ) → solved (root s) ≡ true → result G (s, c) ≡ result G (s, d)
  unfolding result
  result_solved s c d e = rw e

  -- Step 2 leaves the root solved or unsolved, as it is
  root_remember : (up : List (Ancestor G.Pos)) (n : Node G.Pos) (x : ℕ) → solved (root_of up (remember n x)) ≡ solved (root_of up n)
  unfolding root_of solved
  root_remember [] n x = refl
  root_remember (a ∷ up) n x = refl

  root_into : (c : Counts) (up : List (Ancestor G.Pos)) (n : Node G.Pos) (a ks : Children G.Pos) (i : ℕ) → solved (root (into c up n a ks i)) ≡ solved (root_of up n)
  unfolding into root root_of
  root_into c up n a none i = refl
  root_into c up n a (child m b ks) zero = root_remember up n m.move
  root_into c up n a (child m b ks) (suc i) = root_into c up n (append a (child m b none)) ks i

module _ (G : Game) (P : Policy G) where
  root_descend : (k : ℕ) (s : State G.Pos) → solved (root (descend G P k s)) ≡ solved (root s)
  unfolding descend down root
  root_descend zero s = refl
  root_descend (suc k) s = go s.node.expanded (root_descend k (down G P s))
    where
      go : (b : Bool) → solved (root (descend G P k (down G P s))) ≡ solved (root (down G P s))
          → solved (root {Pos = G.Pos} (elim b [ true ↦ descend G P k (down G P s) | false ↦ s ])) ≡ solved (root s)
      go true h = h ∙ root_into G s.counts s.above s.node none s.below _
      go false h = refl

  pub root_leaf : (s : State G.Pos) → solved (root (to_leaf G P s)) ≡ solved (root s)
  unfolding to_leaf
  root_leaf s = root_descend (G.left s.node.pos) s

  module _ (S : Settings) where
    -- How the loop goes on
    pub run_solved : (k : ℕ) (s : State G.Pos) → solved (root s) ≡ true → run G P S (suc k) s ≡ (s, 0)
    unfolding run
    run_solved k s e = rw (e, run)

    pub run_short : (k : ℕ) (s : State G.Pos) → solved (root s) ≡ false → short G P S (to_leaf G P s) ≡ true → run G P S (suc k) s ≡ (to_leaf G P s, 2)
    unfolding run
    run_short k s e t = rw (e, run) (rw (t, run))

    pub run_over : (k : ℕ) (s : State G.Pos) → solved (root s) ≡ false → short G P S (to_leaf G P s) ≡ false → over_limit S (round G P s) ≡ true → run G P S (suc k) s ≡ (round G P s, 3)
    unfolding run
    run_over k s e t o = rw (e, run) (rw (t, run) (rw (o, run)))

    pub run_next : (k : ℕ) (s : State G.Pos) → solved (root s) ≡ false → short G P S (to_leaf G P s) ≡ false → over_limit S (round G P s) ≡ false → run G P S (suc k) s ≡ run G P S k (round G P s)
    unfolding run
    run_next k s e t o = rw (e, run) (rw (t, run) (rw (o, run)))

-- The four ways that a round can go
pub data Course (G : Game) (P : Policy G) (S : Settings) (s : State G.Pos) : Type 0 where
  at_end : solved (root s) ≡ true → Course G P S s
  lacking : solved (root s) ≡ false → short G P S (to_leaf G P s) ≡ true → Course G P S s
  stopped : solved (root s) ≡ false → short G P S (to_leaf G P s) ≡ false → over_limit S (round G P s) ≡ true → Course G P S s
  onward : solved (root s) ≡ false → short G P S (to_leaf G P s) ≡ false → over_limit S (round G P s) ≡ false → Course G P S s

pub course : (G : Game) (P : Policy G) (S : Settings) (s : State G.Pos) → Course G P S s
course G P S s = go (solved (root s)) (short G P S (to_leaf G P s)) (over_limit S (round G P s)) refl refl refl
  where
    go : (a b c : Bool) → solved (root s) ≡ a → short G P S (to_leaf G P s) ≡ b → over_limit S (round G P s) ≡ c → Course G P S s
    go true b c e t o = at_end e
    go false true c e t o = lacking e t
    go false false true e t o = stopped e t o
    go false false false e t o = onward e t o

-- The second search has the same interval, and no less pool, limit and budget
pub record NoLess (S T : Settings) : Type 0 where
  pub interval : T.interval ≡ S.interval
  pub pool : S.pool ≤ T.pool
  pub limit : S.limit ≤ T.limit
  pub budget : S.budget ≤ T.budget

module _ (G : Game) (P : Policy G) (S T : Settings) (h : NoLess S T) where
  short_less : (s : State G.Pos) → short G P S s ≡ false → short G P T s ≡ false
  unfolding short
  short_less s e = le-ltb (T.pool - live s.counts) (P.need s.node.pos) (omega (arith, h.pool, ltb-false (S.pool - live s.counts) (P.need s.node.pos) e))

  over_less : (s : State G.Pos) → over_limit S s ≡ false → over_limit T s ≡ false
  unfolding over_limit
  over_less s e = rw h.interval (go (eqb (s.counts.expanded % S.interval) 0) e)
    where
      go : (b : Bool) → b && ltb S.limit (live s.counts) ≡ false → b && ltb T.limit (live s.counts) ≡ false
      go true q = le-ltb T.limit (live s.counts) (omega (arith, h.limit, ltb-false S.limit (live s.counts) q))
      go false q = refl

  -- A run from a solved root: its result
  from_solved : (U : Settings) (k c : ℕ) (s : State G.Pos) → solved (root s) ≡ true → result G (run G P U k s) ≡ result G (s, c)
  unfolding run
  from_solved U zero c s e = result_solved G s 1 c e
  from_solved U (suc k) c s e = ap (result G) (run_solved G P U k s e) ∙ result_solved G s 0 c e

  more : (j k : ℕ) → j ≤ k → (s : State G.Pos) → ((result G (run G P S j s)).verdict ≡ Unknown → ⊥) → result G (run G P T k s) ≡ result G (run G P S j s)
  unfolding run
  more zero k l s v = go (solved (root s)) refl
    where
      go : (b : Bool) → solved (root s) ≡ b → result G (run G P T k s) ≡ result G (s, 1)
      go true e = from_solved T k 1 s e
      go false e = absurd (v (unsolved_unknown G (s, 1) e))
  more (suc j) zero l s v = absurd (omega arith)
  more (suc j) (suc k) l s v = go (course G P S s) (λ w. more j k (omega arith) (round G P s) w)
    where
      go : Course G P S s → (((result G (run G P S j (round G P s))).verdict ≡ Unknown → ⊥) → result G (run G P T k (round G P s)) ≡ result G (run G P S j (round G P s)))
          → result G (run G P T (suc k) s) ≡ result G (run G P S (suc j) s)
      go (at_end e) f = from_solved T (suc k) 0 s e ∙ sym (from_solved S (suc j) 0 s e)
      go (lacking e t) f = absurd (v (ap (λ (x : State G.Pos × ℕ). (result G x).verdict) (run_short G P S j s e t) ∙ unsolved_unknown G (to_leaf G P s, 2) (root_leaf G P s ∙ e)))
      go (stopped e t o) f = over (solved (root (round G P s))) refl (over_limit T (round G P s)) refl
        where
          over : (b : Bool) → solved (root (round G P s)) ≡ b → (d : Bool) → over_limit T (round G P s) ≡ d → result G (run G P T (suc k) s) ≡ result G (run G P S (suc j) s)
          over false q d p = absurd (v (ap (λ (x : State G.Pos × ℕ). (result G x).verdict) (run_over G P S j s e t o) ∙ unsolved_unknown G (round G P s, 3) q))
          over true q true p = ap (result G) (run_over G P T k s e (short_less (to_leaf G P s) t) p) ∙ sym (ap (result G) (run_over G P S j s e t o))
          over true q false p = ap (result G) (run_next G P T k s e (short_less (to_leaf G P s) t) p) ∙ from_solved T k 3 (round G P s) q ∙ sym (ap (result G) (run_over G P S j s e t o))
      go (onward e t o) f =
          let n = ap (result G) (run_next G P S j s e t o) in
          ap (result G) (run_next G P T k s e (short_less (to_leaf G P s) t) (over_less (round G P s) o)) ∙ f (λ w. v (ap (λ (x : Result). x.verdict) n ∙ w)) ∙ sym n

  -- THEOREM: a search that answers is answered alike, in every field, with no less pool, limit and budget
  pub monotone : (p : G.Pos) → ((search G P S p).verdict ≡ Unknown → ⊥) → search G P T p ≡ search G P S p
  unfolding search ends
  monotone p v = more S.budget T.budget h.budget (start G p) v
