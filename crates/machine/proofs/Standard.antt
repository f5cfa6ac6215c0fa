-- The choices of steps 2 and 3 (MANUAL, Search and Staying on a line) are sane with each setting, so that all of Third and Reached holds of the plain machine; and of a search that
-- starts at a finished position. Rests on Third.
use Rattle.std.specs.Prelude.{◌≡◌, refl, List, [], ◌∷◌, Bool, true, false, not, ◌&&◌, ◌||◌, ◌↔◌, ℕ, zero, suc, ◌+◌, ◌*◌, ◌≤◌, ◌<◌, eqb, leb}
use Rattle.std.proofs.Common.{ap, sym, true≢false, arith, eqb-true, leb-true, le-leb}
use Rattle.std.specs.Bool.{beq}
use Rattle.std.proofs.lemmas.Bool.{eqb-false}
use Rattle.machine.specs.Game.{Game}
use Rattle.machine.specs.Tree.{INFINITY, Node, Children, none, child, least_delta, bound, leaf, solved}
use Rattle.machine.specs.Machine.{Stay, off, margin, Settings, State, Policy, first_that, first_with, has_move, holds_at, within_margin, choice, standard, start, root_of, root, run, ends}
use Rattle.machine.specs.Value.{extra}
use Rattle.machine.proofs.Value.{Lawful}
use Rattle.machine.proofs.Numbers.{open_of}
use Rattle.machine.specs.Place.{UnsolvedAt}
use Rattle.machine.proofs.Place.{Infinite, Choosable, Sane}
use Rattle.machine.proofs.Rounds.{children_ok}
use Rattle.machine.proofs.Runs.{run_solved}
use Rattle.machine.proofs.Reached.{PoolInRange}
use Rattle.machine.proofs.Third.{Third, third}

-- The first listed child whose delta equals phi is unsolved
first_open : {Pos : Type 0} (x : ℕ) (ks : Children Pos) → Infinite ks → 0 < x → x < INFINITY → x ≡ least_delta ks → UnsolvedAt ks (first_with x ks)
unfolding least_delta first_that
first_open x none h a b e = absurd (omega arith)
first_open x (child n c ks) h a b e = go (eqb n.delta x) refl (λ q. first_open x ks h.1 a b q)
  where
    positive : (y : ℕ) → n.phi ≡ y → n.delta ≡ x → 0 < n.phi
    positive zero q d = absurd (omega (arith, h.0 q))
    positive (suc y) q d = omega arith

    go : (t : Bool) → eqb n.delta x ≡ t → (x ≡ least_delta ks → UnsolvedAt ks (first_with x ks)) → UnsolvedAt (child n c ks) (elim t [ true ↦ 0 | false ↦ suc (first_with x ks) ])
    go true q f = let d = eqb-true n.delta x q in (positive n.phi refl d, omega arith)
    go false q f = f (omega (arith, eqb-false n.delta x q))

pub listed_open : {Pos : Type 0} (n : Node Pos) (ks : Children Pos) → Choosable n ks → UnsolvedAt ks (first_with n.phi ks)
listed_open n ks c = first_open n.phi ks c.infinite c.phi_pos (omega (arith, c.phi_small)) c.phi_is

-- A child is within the margin exactly if it is unsolved and its delta is at most the product
pub within_both : {Pos : Type 0} (k phi : ℕ) (m : Node Pos) → (within_margin k phi m ≡ true) ↔ ((solved m ≡ false) × (256 * m.delta ≤ phi * (256 + k)))
unfolding within_margin
within_both k phi m = (λ e. go (solved m) refl e, λ h. rw (h.0, le-leb (256 * m.delta) (phi * (256 + k)) h.1))
  where
    go : (b : Bool) → solved m ≡ b → not b && leb (256 * m.delta) (phi * (256 + k)) ≡ true → (solved m ≡ false) × (256 * m.delta ≤ phi * (256 + k))
    go true q e = absurd (true≢false (sym e))
    go false q e = (q, leb-true _ _ e)

within_open : {Pos : Type 0} (k phi : ℕ) (ks : Children Pos) (i : ℕ) → holds_at (within_margin k phi) ks i ≡ true → UnsolvedAt ks i
unfolding holds_at
within_open k phi none i e = absurd (true≢false (sym e))
within_open k phi (child m b ks) (suc i) e = within_open k phi ks i e
within_open k phi (child m b ks) zero e = open_of m ((within_both k phi m).0 e).0

-- With a margin: by whether the child that the remembered move names is within it
pub choice_by : {Pos : Type 0} (k : ℕ) (n : Node Pos) (ks : Children Pos) (t : Bool) → holds_at (within_margin k n.phi) ks (first_that (has_move n.remembered) ks) ≡ t
    → choice (margin k) n ks ≡ elim t [ true ↦ first_that (has_move n.remembered) ks | false ↦ first_with n.phi ks ]
unfolding choice
choice_by k n ks t e = ap taken e
  where
    taken : Bool → ℕ
    taken b = elim b [ true ↦ first_that (has_move n.remembered) ks | false ↦ first_with n.phi ks ]

-- The child that step 2 takes with a setting is unsolved
choice_open : {Pos : Type 0} (y : Stay) (n : Node Pos) (ks : Children Pos) → Choosable n ks → UnsolvedAt ks (choice y n ks)
unfolding choice
choice_open off n ks c = listed_open n ks c
choice_open (margin k) n ks c = go (holds_at (within_margin k n.phi) ks (first_that (has_move n.remembered) ks)) refl
  where
    go : (t : Bool) → holds_at (within_margin k n.phi) ks (first_that (has_move n.remembered) ks) ≡ t → UnsolvedAt ks (choice (margin k) n ks)
    go true q = rw (choice_by k n ks true q) (within_open k n.phi ks _ q)
    go false q = rw (choice_by k n ks false q) (listed_open n ks c)

module _ (G : Game) (L : Lawful G) where
  pub standard_sane : (y : Stay) → Sane G (standard G y)
  unfolding standard extra
  standard_sane y = record {
    selects = λ n ks c. choice_open y n ks c;
    covers = λ p. omega arith;
    within = λ p. omega (arith, (children_ok G L p).room);
  }

  -- THEOREM: the third condition for the plain machine, with each setting
  pub third_standard : (y : Stay) (p : G.Pos) → G.mine p ≡ true → (S T : Settings) → PoolInRange S → PoolInRange T → Third G (standard G y) p S T
  third_standard y p ours S T f g = third G L (standard G y) (standard_sane y) p ours S T f g

-- A leaf solved on sight is not counted: a search of a finished position ends as it starts, allocated 1 and all else 0
solved_on_sight : (w : Bool) (ms : List ℕ) → ms ≡ [] → eqb (bound w ms) 0 || eqb (bound (not w) ms) 0 ≡ true
unfolding bound
solved_on_sight true [] q = refl
solved_on_sight false [] q = refl
solved_on_sight w (m ∷ ms) q = cc

pub finished : (G : Game) (P : Policy G) (S : Settings) (p : G.Pos) → G.moves p ≡ [] → (ends G P S p).0 ≡ start G p
unfolding ends run start root root_of leaf solved
finished G P S p e = go S.budget
  where
    go : (k : ℕ) → (run G P S k (start G p)).0 ≡ start G p
    go zero = refl
    go (suc k) = ap (λ (x : State G.Pos × ℕ). x.0) (run_solved G P S k (start G p) (solved_on_sight (beq (G.final p) (G.mine p)) (G.moves p) e))
