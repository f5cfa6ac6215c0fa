-- Two passes of games that share one allowance of expansions (MANUAL, Games with one allowance). The games are counted from 0; of each only its share is known, and what a
-- lone search of it answers with each budget. Rests on the machine's results.
use Rattle.std.specs.Prelude.{cond, List, [], ◌∷◌, ℕ, zero, suc, ◌+◌, ◌-◌, eqb}
use Rattle.rules.specs.Rules.{answers}
use Rattle.machine.specs.Machine.{Result}

abbrev pub OneGame : Type 0
OneGame = record { share : ℕ; search : ℕ → Result }

-- The sum of some numbers.
unfoldable pub total : List ℕ → ℕ
total [] = 0
total (n ∷ ns) = n + total ns

-- The first pass: a game runs up to its share. What games i, i + 1, .. expand in it, n of them.
abbrev pub first : OneGame → Result
first g = g.search g.share

abbrev pub spent : (ℕ → OneGame) → (i n : ℕ) → ℕ
spent game i n = total (answers (λ k. (first (game k)).expanded) i n)

-- The second pass, with so much unspent when the game's turn comes: one that its budget stopped in the first is granted its share and all that; any other keeps its share.
abbrev pub grant_with : OneGame → (unspent : ℕ) → ℕ
grant_with g unspent = cond (eqb (first g).cause 1) (g.share + unspent) g.share

-- What is unspent after its turn: what was before it, less what the game expanded in it.
abbrev pub unspent_after : OneGame → (unspent : ℕ) → ℕ
unspent_after g unspent = (first g).expanded + unspent - (g.search (grant_with g unspent)).expanded

-- What is unspent of an allowance when the second pass of n games comes to game i; what that game is granted; and its result.
unfoldable pub unspent_at : (ℕ → OneGame) → (allowance n i : ℕ) → ℕ
unspent_at game allowance n zero = allowance - spent game 0 n
unspent_at game allowance n (suc i) = unspent_after (game i) (unspent_at game allowance n i)

abbrev pub grant_at : (ℕ → OneGame) → (allowance n i : ℕ) → ℕ
grant_at game allowance n i = grant_with (game i) (unspent_at game allowance n i)

abbrev pub result_at : (ℕ → OneGame) → (allowance n i : ℕ) → Result
result_at game allowance n i = (game i).search (grant_at game allowance n i)

-- What the first i games have expanded in both passes.
abbrev pub expanded_by : (ℕ → OneGame) → (allowance n i : ℕ) → ℕ
expanded_by game allowance n i = total (answers (λ k. (result_at game allowance n k).expanded) 0 i)
