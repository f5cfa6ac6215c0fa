-- `entries::first` meets its contract: the first chunk that answers is the first entry that does. Assumes nothing.
use Rattle.std.proofs.Common.{◌≡◌, ◌<◌, ◌∙◌, MatchOption, arith, rules}
use Rattle.std.proofs.lemmas.Iterator.{YieldsList-from_slice}
use Rattle.std.proofs.lemmas.Iterator.Search.{position_from_yields_List}
use Rattle.std.specs.Simd.{first_chunks}
use Rattle.entries.specs.Entries.{answers, entries, entry_of, place}
use Rattle.entries.proofs.Chunks.{first_placed}
use Rattle.entries.proofs.first.Goals as goal
use Rattle.entries.proofs.first.Goals.{After-position}

-- what the search gave
placed : (c : After-position) → let i = place (answers c.args.who c.args.bytes.now c.args.rule) (entries c.args.count c.args.book.now) in
    MatchOption c.position.result (i ≡ c.args.count) (λ k. (k < c.args.count) × (k ≡ i))
placed c =
    let bytes = c.unwrap-record.result.now in
    let whole : bytes ≡ c.args.bytes.now = (rw c.unwrap-record.ensures at c.as_array.ensures.cases).same in
    let found = position_from_yields_List (λ e. answers c.args.who bytes c.args.rule (entry_of e)) _ _ _ c.position.ensures.ran
    (YieldsList-from_slice (first_chunks 22 c.args.count c.args.book.now) (c.iter.ensures.rest ∙ c.used.ensures)) (λ e b q h. (search rules, search rules)) in
    rw whole at (first_placed (answers c.args.who bytes c.args.rule) c.args.count c.args.book.now c.position.result found)

pub returns-in_err-i : goal.returns-in_err-i
returns-in_err-i c = rw c.from_residual.ensures (rw c.in_err-i.was at (placed (goal.at.returns-in_err-i c).After-position))

pub returns : goal.returns
returns c =
    let q = rw c.in_ok-i.was at (placed (goal.at.returns c).After-position) in
    (omega (arith, q.0, q.1), omega (arith, q.1))
