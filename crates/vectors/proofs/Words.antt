-- A text starts with one word. Rests on specs/Words.antt.
use Rattle.std.specs.Prelude.{ℕ, ◌≡◌, List, length}
use Rattle.std.proofs.Common.{arith}
use Rattle.std.proofs.lemmas.Grind.{common_steps}
use Rattle.vectors.specs.Words.{First, Leads}

first_once : (s : List ℕ) (a b m n : ℕ) → First s a b m → First s a b n → m ≡ n
first_once s a b m n f g = grind (arith, f.from, f.fits, g.from, g.fits, f.before n, g.before m, f.there, g.there)

pub leads_once : (t v w r q : List ℕ) → Leads t v r → Leads t w q → v ≡ w
leads_once t v w r q f g = let h : length v ≡ length w = first_once t 0 32 (length v) (length w) f.ends g.ends in grind (arith, common_steps, f.whole, g.whole)
