-- The pool's words after a search, as the call's contract has them. Rests on Searches and on what pn's search leaves.
use Rattle.std.specs.Prelude.{◌≡◌, refl, List, [], ◌∷◌, ℕ, zero, suc, ◌*◌, ◌≤◌, length, drop, get_or}
use Rattle.std.proofs.Common.{ap, sym, ◌∙◌, arith}
use Rattle.words.specs.Words.{capacity, Beyond}
use Rattle.searches.specs.Searches.{nodes, Untouched}

-- Lists that are alike from a place on
alike : (w v : List ℕ) → length v ≡ length w → ((j : ℕ) → get_or v j 0 ≡ get_or w j 0) → v ≡ w
alike [] [] e h = refl
alike [] (y ∷ v) e h = absurd (omega (arith, e))
alike (x ∷ w) [] e h = absurd (omega (arith, e))
alike (x ∷ w) (y ∷ v) e h = let q : y ≡ x = h 0 in rw (q, alike w v (omega (arith, e)) (λ j. h (suc j)))

drop_alike : (k : ℕ) (w v : List ℕ) → length v ≡ length w → ((j : ℕ) → k ≤ j → get_or v j 0 ≡ get_or w j 0) → drop k v ≡ drop k w
drop_alike zero w v e h = alike w v e (λ j. h j (omega arith))
drop_alike (suc k) [] [] e h = refl
drop_alike (suc k) [] (y ∷ v) e h = absurd (omega (arith, e))
drop_alike (suc k) (x ∷ w) [] e h = absurd (omega (arith, e))
drop_alike (suc k) (x ∷ w) (y ∷ v) e h = drop_alike k w v (omega (arith, e)) (λ j l. h (suc j) (omega (arith, l)))

pub untouched : (w v : List ℕ) → length v ≡ length w → Beyond w v → Untouched w v
untouched w v long past = (long, drop_alike (capacity w * 5) w v long past)

-- Two searches in one pool, one after the other
pub untouched_twice : (w v u : List ℕ) → Untouched w v → Untouched v u → Untouched w u
untouched_twice w v u a b =
    (b.0 ∙ a.0, ap (λ n. drop (nodes n * 5) u) (sym a.0) ∙ b.1 ∙ ap (λ n. drop (nodes n * 5) v) a.0 ∙ a.1)
