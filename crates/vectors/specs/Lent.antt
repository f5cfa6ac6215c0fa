-- What it is for the settings of a line to name a pool that can be lent.
use Rattle.std.specs.Prelude.{◌≤◌, Result, Ok, Err}
use Rattle.vectors.specs.declared.line.Unreadable.{Unreadable}
use Rattle.vectors.specs.declared.search_lines.Settings.{Settings}

-- There are no more words to lend than a pool's array has.
abbrev pub Lendable : Result Settings Unreadable → Type 0
Lendable (Ok x) = x.words ≤ 20484
Lendable (Err e) = Unit {0}
