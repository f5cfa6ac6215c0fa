-- Laws of beginnings: the common one of two lists, and the legal one of a list, are beginnings, and none that has what is asked is longer. Rests on Sheets,
-- AgreedOpening and the rules' Replays.
use Rattle.std.specs.Prelude.{◌≡◌, ◌≢◌, refl, List, [], ◌∷◌, ◌++◌, ℕ, zero, suc, ◌≤◌, ◌<◌, length, take, slice_index}
use Rattle.std.proofs.Common.{ap, sym, ◌∙◌, append_assoc, append-nil, arith, eq-eqb, ne_eqb, length-append}
use Rattle.std.proofs.Math.Decide.{ℕ_discrete}
use Rattle.std.proofs.Math.Seq.{take-append_seam}
use Rattle.rules.specs.Rules.{Position, move_error, play, replay}
use Rattle.rules.specs.Rules.Replayed.{Reached}
use Rattle.rules.proofs.Replays.{good_move, first_good, no_move}
use Rattle.sheets.specs.Sheets.{common, legal_part}
use Rattle.sheets.specs.AgreedOpening.{Begins}

-- a beginning of a beginning; its length; the list cut there
pub begins_through : (ms ns list : List ℕ) → Begins ms ns → Begins ns list → Begins ms list
begins_through ms ns list b c = (b.0 ++ c.0, c.1 ∙ ap (λ (l : List ℕ). l ++ c.0) b.1 ∙ append_assoc ms b.0 c.0)

module _ (ms list : List ℕ) (b : Begins ms list) where
  pub begins_length : length ms ≤ length list
  begins_length = omega (arith, ap length b.1, length-append ms b.0)

  pub begins_take : take (length ms) list ≡ ms
  begins_take = ap (take (length ms)) b.1 ∙ take-append_seam ms b.0

-- the first moves are the same, or not
module _ (m n : ℕ) (ms ns : List ℕ) where
  common_same : m ≡ n → common (m ∷ ms) (n ∷ ns) ≡ m ∷ common ms ns
  unfolding common
  common_same e = rw (eq-eqb m n e)

  common_differ : (m ≡ n → ⊥) → common (m ∷ ms) (n ∷ ns) ≡ []
  unfolding common
  common_differ d = rw (ne_eqb m n d)

pub common_none : (first : List ℕ) → common first [] ≡ []
unfolding common
common_none [] = refl
common_none (m ∷ ms) = refl

pub common_begins : (first second : List ℕ) → Begins (common first second) first × Begins (common first second) second
unfolding common
common_begins [] second = (([], refl), (second, refl))
common_begins (m ∷ ms) [] = ((m ∷ ms, refl), ([], refl))
common_begins (m ∷ ms) (n ∷ ns) = go (ℕ_discrete m n) (common_begins ms ns)
  where
    go : Dec (m ≡ n) → Begins (common ms ns) ms × Begins (common ms ns) ns → Begins (common (m ∷ ms) (n ∷ ns)) (m ∷ ms) × Begins (common (m ∷ ms) (n ∷ ns)) (n ∷ ns)
    go (yes e) h = rw (common_same m n ms ns e) ((h.0.0, ap (λ (l : List ℕ). m ∷ l) h.0.1), (h.1.0, cc (e, h.1.1)))
    go (no d) h = rw (common_differ m n ms ns d) ((m ∷ ms, refl), (n ∷ ns, refl))

-- what both lists begin with is in the common beginning
pub common_both : (ms us vs : List ℕ) → common (ms ++ us) (ms ++ vs) ≡ ms ++ common us vs
common_both [] us vs = refl
common_both (m ∷ ms) us vs = common_same m m (ms ++ us) (ms ++ vs) refl ∙ ap (λ (l : List ℕ). m ∷ l) (common_both ms us vs)

pub common_itself : (ms : List ℕ) → common ms ms ≡ ms
unfolding common
common_itself ms = rw (append-nil ms) at (common_both ms [] [])

-- how many moves both lists begin with: so many are alike, and then a list ends or they differ
pub common_counted : (first second : List ℕ) (n : ℕ) → n ≤ length first → n ≤ length second → ((k : ℕ) → k < n → slice_index first k ≡ slice_index second k)
    → (n < length first → n < length second → slice_index first n ≢ slice_index second n) → n ≡ length (common first second)
unfolding common
common_counted [] second n f s alike differ = omega arith
common_counted (x ∷ xs) [] n f s alike differ = omega arith
common_counted (x ∷ xs) (y ∷ ys) zero f s alike differ = sym (ap length (common_differ x y xs ys (differ (omega arith) (omega arith))))
common_counted (x ∷ xs) (y ∷ ys) (suc n) f s alike differ =
    let e = common_counted xs ys n (omega arith) (omega arith) (λ k h. alike (suc k) (omega arith)) (λ h i. differ (omega arith) (omega arith)) in
    let same : common (x ∷ xs) (y ∷ ys) ≡ x ∷ common xs ys = common_same x y xs ys (alike 0 (omega arith)) in
    omega (arith, e, ap length same)

-- the first move is legal, or not
module _ (p : Position) (m : ℕ) (ms : List ℕ) where
  legal_good : move_error p m ≡ 0 → legal_part p (m ∷ ms) ≡ m ∷ legal_part (play p m) ms
  unfolding legal_part
  legal_good e = rw e

  pub legal_bad : (move_error p m ≡ 0 → ⊥) → legal_part p (m ∷ ms) ≡ []
  unfolding legal_part
  legal_bad n = rw (ne_eqb (move_error p m) 0 n)

-- the legal part begins the list and is replayed without an error
pub legal_part_begins : (p : Position) (ms : List ℕ) (i : ℕ) → Begins (legal_part p ms) ms × ((q : Position) × (replay p (legal_part p ms) i ≡ Reached q))
unfolding legal_part
legal_part_begins p [] i = (([], refl), (p, no_move p i))
legal_part_begins p (m ∷ ms) i = go (ℕ_discrete (move_error p m) 0) (legal_part_begins (play p m) ms (suc i))
  where
    go : Dec (move_error p m ≡ 0) → Begins (legal_part (play p m) ms) ms × ((q : Position) × (replay (play p m) (legal_part (play p m) ms) (suc i) ≡ Reached q))
        → Begins (legal_part p (m ∷ ms)) (m ∷ ms) × ((q : Position) × (replay p (legal_part p (m ∷ ms)) i ≡ Reached q))
    go (yes e) h = rw (legal_good p m ms e) ((h.0.0, ap (λ (l : List ℕ). m ∷ l) h.0.1), (h.1.0, good_move p m _ i e ∙ h.1.1))
    go (no n) h = rw (legal_bad p m ms n) ((m ∷ ms, refl), (p, no_move p i))

-- moves that are replayed without an error are in the legal part
pub legal_all : (p : Position) (ms ns : List ℕ) (i : ℕ) (q : Position) → replay p ms i ≡ Reached q → legal_part p (ms ++ ns) ≡ ms ++ legal_part q ns
legal_all p [] ns i q e = let same : p ≡ q = cc (no_move p i, e) in ap (λ (x : Position). legal_part x ns) same
legal_all p (m ∷ ms) ns i q e =
    let f = first_good p m ms i q e in
    legal_good p m (ms ++ ns) f.0 ∙ ap (λ (l : List ℕ). m ∷ l) (legal_all (play p m) ms ns (suc i) q f.1)
