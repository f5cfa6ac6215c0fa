-- Laws of specs/Answers.antt. What the code's answer says, and what its lists come to. Rests on Games and on the nine fields as the machine has them.
use Rattle.std.specs.Prelude.{◌≡◌, refl, List, [], ◌∷◌, map, ℕ, zero, suc, ◌+◌, ◌<◌, length, get_or}
use Rattle.std.proofs.Common.{ap, ◌∙◌, arith}
use Rattle.rules.specs.Rules.{answers}

-- a list by its places
pub mapped : {A B : Type 0} (f : A → B) (xs : List A) (g : ℕ → B) (i n : ℕ) → length xs ≡ n → ((k : ℕ) → k < n → (d : A) → f (get_or xs k d) ≡ g (i + k)) → map f xs ≡ answers g i n
mapped f [] g i zero e h = refl
mapped f [] g i (suc n) e h = absurd (omega (arith, e))
mapped f (x ∷ xs) g i zero e h = absurd (omega (arith, e))
mapped f (x ∷ xs) g i (suc n) e h =
    let q : i + 0 ≡ i = omega arith in
    let here : f x ≡ g i = h 0 (omega arith) x ∙ ap g q in
    let rest : map f xs ≡ answers g (suc i) n = mapped f xs g (suc i) n (omega (arith, e)) (λ k l d. let s : i + suc k ≡ suc i + k = omega arith in h (suc k) (omega arith) d ∙ ap g s) in
    rw (here, rest)
