-- A law of what is lent, and two for those who took the settings apart. Rests on specs/Lent.antt.
use Rattle.std.specs.Prelude.{ℕ, ◌≡◌, ◌≤◌, List, length, Result, Ok}
use Rattle.std.proofs.Common.{arith}
use lib.ListN.{length-take}
use Rattle.vectors.specs.Words.{IsPrefixLen}
use Rattle.vectors.specs.declared.line.Unreadable.{Unreadable}
use Rattle.vectors.specs.declared.search_lines.Settings.{Settings}
use Rattle.vectors.specs.Lent.{Lendable}

pub lendable : {r : Result Settings Unreadable} {x : Settings} → r ≡ Ok x → Lendable r → x.words ≤ 20484
lendable e h = rw e at h

pub lent_words : (pool : List ℕ) (n : ℕ) → 20484 ≡ length pool → n ≤ 20484 → IsPrefixLen n pool
lent_words pool n p h = (omega arith, simp length-take (omega arith))

pub lent : (pool : List ℕ) {r : Result Settings Unreadable} {x : Settings} → 20484 ≡ length pool → r ≡ Ok x → Lendable r → IsPrefixLen x.words pool
lent pool {x = x} p e h = lent_words pool x.words p (lendable e h)
