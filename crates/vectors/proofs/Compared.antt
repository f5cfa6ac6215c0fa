-- When a line agrees. Rests on specs/Compared.antt.
use Rattle.std.specs.Prelude.{ℕ, ◌≡◌, refl, List, true, false, Result, Ok, Err}
use Rattle.std.proofs.Common.{ap, ◌∙◌}
use Rattle.vectors.specs.declared.line.Unreadable.{Unreadable}
use Rattle.vectors.specs.declared.answers.Answer.{Answer}
use Rattle.vectors.specs.Compared.{Compared}

-- An answer is its three parts.
abbrev of_parts : ℕ → ℕ → List ℕ → Answer (List ℕ)
of_parts c i xs = record { code = c; index = i; value = xs }

same_parts : (c i : ℕ) (xs : List ℕ) (d j : ℕ) (ys : List ℕ) → c ≡ d → i ≡ j → xs ≡ ys → of_parts c i xs ≡ of_parts d j ys
same_parts c i xs d j ys p q h = rw (p, q, h) refl

module _ (stored : Result (Answer (List ℕ)) Unreadable) (given : Answer (List ℕ)) (want out : List ℕ) where
  pub same : {s : Answer (List ℕ)} → stored ≡ Ok s → s.code ≡ given.code → s.index ≡ given.index → s.value ≡ given.value → want ≡ out → Compared stored given want out (Ok true)
  same {s} e p i q h = record { agreed = λ a. (e ∙ ap (λ x. Ok x) (same_parts s.code s.index s.value given.code given.index given.value p i q), h); alike = λ a b. refl }

  pub other : {s : Answer (List ℕ)} → stored ≡ Ok s → (s.code ≡ given.code → s.index ≡ given.index → s.value ≡ given.value → want ≡ out → ⊥) → Compared stored given want out (Ok false)
  other e d = record { agreed = λ a. (cc, cc); alike = λ a h. absurd (d (cc) (cc) (cc) h) }

  pub unread : {e u : Unreadable} → stored ≡ Err e → Compared stored given want out (Err u)
  unread e = record { agreed = λ i. (cc, cc); alike = λ i h. cc }
