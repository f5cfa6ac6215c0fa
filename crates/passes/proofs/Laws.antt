-- Laws of specs/Laws.antt. Laws of the two passes, for games that expand no more than their budget, and all of it where it stops them. Rests on Passes.
use Rattle.std.specs.Prelude.{◌≡◌, refl, Bool, true, false, cond, eqb}
use Rattle.std.proofs.Math.Path.{ap}
use Rattle.std.proofs.Common.{◌∙◌, eqb-true}
use Prim.Native.Nat.{ℕ, zero, suc, ◌+◌, ◌-◌, ◌≤◌, ◌<◌}
use native.Mathlib.Omega.{arith}
use Rattle.rules.specs.Rules.{answers}
use Rattle.passes.specs.Laws.{Bounded}
use Rattle.passes.specs.Passes.{OneGame, total, first, spent, grant_with, unspent_after, unspent_at, grant_at, result_at, expanded_by}

-- SUMS: one more at the end, no more of fewer, one of them, no more of no more, and the same of the same
pub total_last : (f : ℕ → ℕ) (i n : ℕ) → total (answers f i (suc n)) ≡ total (answers f i n) + f (i + n)
unfolding total
total_last f i zero = let q : i + 0 ≡ i = omega arith in omega (arith, ap f q)
total_last f i (suc n) = let q : suc i + n ≡ i + suc n = omega arith in omega (arith, total_last f (suc i) n, ap f q)

pub total_fewer : (f : ℕ → ℕ) (i m n : ℕ) → m ≤ n → total (answers f i m) ≤ total (answers f i n)
unfolding total
total_fewer f i zero n l = omega arith
total_fewer f i (suc m) zero l = absurd (omega arith)
total_fewer f i (suc m) (suc n) l = omega (arith, total_fewer f (suc i) m n (omega arith))

pub total_one : (f : ℕ → ℕ) (i n k : ℕ) → k < n → f (i + k) ≤ total (answers f i n)
total_one f i n k l = omega (arith, total_last f i k, total_fewer f i (suc k) n l)

pub total_most : (f g : ℕ → ℕ) → ((k : ℕ) → f k ≤ g k) → (i n : ℕ) → total (answers f i n) ≤ total (answers g i n)
unfolding total
total_most f g h i zero = omega arith
total_most f g h i (suc n) = omega (arith, h i, total_most f g h (suc i) n)

pub total_same : (f g : ℕ → ℕ) (i n : ℕ) → ((k : ℕ) → k < i + n → f k ≡ g k) → total (answers f i n) ≡ total (answers g i n)
unfolding total
total_same f g i zero h = refl
total_same f g i (suc n) h = omega (arith, h i (omega arith), total_same f g (suc i) n (λ k l. h k (omega arith)))

module _ (g : OneGame) (h : Bounded g) (u : ℕ) where
  -- it has no less than its share
  pub grant_least : g.share ≤ grant_with g u
  grant_least = go (eqb (first g).cause 1)
    where
      go : (b : Bool) → g.share ≤ cond b (g.share + u) g.share
      go true = omega arith
      go false = omega arith

  -- what it expands in the second pass was unspent before
  pub enough : (g.search (grant_with g u)).expanded ≤ (first g).expanded + u
  enough = go (eqb (first g).cause 1) refl
    where
      go : (b : Bool) → eqb (first g).cause 1 ≡ b → (g.search (cond b (g.share + u) g.share)).expanded ≤ (first g).expanded + u
      go true q = omega (arith, h.most (g.share + u), h.all g.share (eqb-true (first g).cause 1 q))
      go false q = omega arith

  -- it has no more than what it has expanded and what is unspent, or its share
  pub grant_most : (a : ℕ) → (first g).expanded + u ≤ a → g.share ≤ a → grant_with g u ≤ a
  grant_most a l m = go (eqb (first g).cause 1) refl
    where
      go : (b : Bool) → eqb (first g).cause 1 ≡ b → cond b (g.share + u) g.share ≤ a
      go true q = omega (arith, h.all g.share (eqb-true (first g).cause 1 q))
      go false q = m

module _ (game : ℕ → OneGame) (h : (k : ℕ) → Bounded (game k)) (a n : ℕ) (shared : total (answers (λ k. (game k).share) 0 n) ≤ a) where
  pub spent_within : (i : ℕ) → i ≤ n → spent game 0 i ≤ a
  spent_within i l =
      omega (arith, total_most (λ k. (first (game k)).expanded) (λ k. (game k).share) (λ k. (h k).most (game k).share) 0 i, total_fewer (λ k. (game k).share) 0 i n l, shared)

  pub share_within : (i : ℕ) → i < n → (game i).share ≤ a
  share_within i l = let q : 0 + i ≡ i = omega arith in omega (arith, total_one (λ k. (game k).share) 0 n i l, shared, ap (λ k. (game k).share) q)

  -- all that is expanded when the second pass comes to game i, and what is unspent, make the allowance
  pub accounts : (i m : ℕ) → i + m ≡ n → expanded_by game a n i + (unspent_at game a n i + spent game i m) ≡ a
  unfolding unspent_at total
  accounts zero m e =
      let q : m ≡ n = omega arith in
      omega (arith, ap (λ k. spent game 0 k) q, spent_within n (omega arith))
  accounts (suc i) m e =
      let q : 0 + i ≡ i = omega arith in
      omega (
        arith,
        accounts i (suc m) (omega arith),
        total_last (λ k. (result_at game a n k).expanded) 0 i,
        ap (λ k. (result_at game a n k).expanded) q,
        enough (game i) (h i) (unspent_at game a n i),
      )

  pub unspent_is : (i m : ℕ) → i + m ≡ n → unspent_at game a n i ≡ a - (expanded_by game a n i + spent game i m)
  unspent_is i m e = omega (arith, accounts i m e)

  pub grant_within : (i : ℕ) → i < n → grant_at game a n i ≤ a
  unfolding total
  grant_within i l =
      let q : i + suc (n - suc i) ≡ n = omega arith in
      grant_most (game i) (h i) (unspent_at game a n i) a (omega (arith, accounts i (suc (n - suc i)) q)) (share_within i l)

  -- THEOREM: the expansions of all games together never exceed the allowance
  pub all_within : expanded_by game a n n ≤ a
  all_within = let q : n + 0 ≡ n = omega arith in omega (arith, accounts n 0 q)

module _ (f g : ℕ → OneGame) (a n : ℕ) (same : (k : ℕ) → k < n → f k ≡ g k) where
  unspent_alike : (i : ℕ) → i ≤ n → unspent_at f a n i ≡ unspent_at g a n i
  unfolding unspent_at
  unspent_alike zero l =
      ap (λ k. a - k) (total_same (λ k. (first (f k)).expanded) (λ k. (first (g k)).expanded) 0 n (λ k m. ap (λ (x : OneGame). (first x).expanded) (same k (omega arith))))
  unspent_alike (suc i) l = ap (λ (x : OneGame). unspent_after x (unspent_at f a n i)) (same i (omega arith)) ∙ ap (unspent_after (g i)) (unspent_alike i (omega arith))

  pub result_alike : (i : ℕ) → i < n → result_at f a n i ≡ result_at g a n i
  result_alike i l =
      ap (λ (x : OneGame). x.search (grant_with x (unspent_at f a n i))) (same i l)
      ∙ ap (λ u. (g i).search (grant_with (g i) u)) (unspent_alike i (omega arith))
