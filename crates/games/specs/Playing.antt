-- What the two passes ask for and come to, game by game, as the code goes through them. Rests on passes' definitions, resume's Stopped, and Parts.
use Rattle.std.specs.Prelude.{◌≡◌, List, ℕ, ◌+◌, ◌*◌, ◌/◌, ◌≤◌, ◌<◌, length, get_or, drop}
use Rattle.rules.specs.Rules.{Position}
use Rattle.rules.specs.Record.{position_of}
use Rattle.machine.specs.Place.{pool_max}
use Rattle.passes.specs.Passes.{OneGame, total, spent, unspent_at, result_at}
use Rattle.pn.specs.Results.{result_of}
use Rattle.pn.specs.declared.Settings.{Settings}
use Rattle.pn.specs.declared.SearchResult.{SearchResult}
use Rattle.resume.specs.Keeping.{Stopped}
use Rattle.resume.specs.declared.Kept.{Kept}
use Rattle.resume.specs.Lone.{lone}
use Rattle.stay.specs.Margin.{stay_of, StayInRange}
use Rattle.searches.specs.Searches.{budget_most}
use Rattle.games_checks.specs.Checks.{record_at, refusal_at, shares_of}
use Rattle.games_checks.specs.declared.Common.{Common}
use Rattle.games.specs.Games.{no_result}
use Rattle.games.specs.Parts.{cut}
use Rattle.games.specs.declared.FirstPass.{FirstPass}

-- the settings of a search with a budget; game k, of the position pos k, in a part of so many words
abbrev pub settings_of : Common → ℕ → Settings
settings_of c b = record { rule = c.rule; limit = c.limit; budget = b; interval = c.interval; stay = c.stay }

abbrev pub game_of : (pos : ℕ → Position) (shares : List ℕ) (size : ℕ) → Common → ℕ → OneGame
game_of pos shares size c k = lone c.rule (size / 5) c.limit c.interval (stay_of c.stay) (get_or shares k 0) (pos k)

-- the positions of the records
abbrev pub positions_of : List ℕ → ℕ → Position
positions_of bytes k = position_of (record_at bytes k)

-- n parts of so many words in a pool, and settings and shares within their ranges
pub record Shaped (shares : List ℕ) (words n size : ℕ) (c : Common) : Type 0 where
  pub some : 0 < size / 5
  pub most : size / 5 ≤ pool_max
  pub few : n ≤ 8
  pub fits : n * size ≤ words
  pub shared : total (shares_of shares n) ≤ c.allowance
  pub allowance_most : c.allowance ≤ budget_most
  pub interval_some : 0 < c.interval
  pub rule_few : c.rule < 3
  pub stay_is_in_range : StayInRange c.stay

-- and n records that load
pub record Playable (bytes words shares : List ℕ) (n size : ℕ) (c : Common) : Type 0 where
  pub shaped : Shaped shares (length words) n size c
  pub records : n * 21 ≤ length bytes
  pub loads : (i : ℕ) → i < n → refusal_at bytes i ≡ 0

-- the search of game k has stopped in its part of the words w
abbrev pub StoppedAt : (pos : ℕ → Position) (shares : List ℕ) (size : ℕ) → Common → (w : List ℕ) (k : ℕ) → Kept → Type 0
StoppedAt pos shares size c w k x = Stopped (pos k) (settings_of c (get_or shares k 0)) (cut (k * size) (k * size + size) w) x

-- the first pass has come to game i
pub record First (bytes w₀ shares : List ℕ) (n size : ℕ) (c : Common) (w : List ℕ) (kept : List Kept) (unspent i : ℕ) : Type 0 where
  pub from : Playable bytes w₀ shares n size c
  pub low : i ≤ n
  pub long : length w ≡ length w₀
  pub kept_long : length kept ≡ 8
  pub left : unspent + spent (game_of (positions_of bytes) shares size c) 0 i ≡ c.allowance
  pub each : (k : ℕ) → k < i → (d : Kept) → StoppedAt (positions_of bytes) shares size c w k (get_or kept k d)
  pub past : drop (n * size) w ≡ drop (n * size) w₀

-- between the passes: n games have stopped
pub record Halfway (pos : ℕ → Position) (shares : List ℕ) (n size : ℕ) (c : Common) (w : List ℕ) (kept : List Kept) (left : ℕ) : Type 0 where
  pub shaped : Shaped shares (length w) n size c
  pub kept_long : length kept ≡ 8
  pub left_is : left ≡ unspent_at (game_of pos shares size c) c.allowance n 0
  pub each : (k : ℕ) → k < n → (d : Kept) → StoppedAt pos shares size c w k (get_or kept k d)

pub record FirstPassed (bytes shares : List ℕ) (n size : ℕ) (c : Common) (w v : List ℕ) (r : FirstPass) : Type 0 where
  pub half : Halfway (positions_of bytes) shares n size c v r.kept r.unspent
  pub past : drop (n * size) v ≡ drop (n * size) w

-- the second pass has come to game i, of whichever positions
pub record Turns (pos : ℕ → Position) (shares : List ℕ) (n size : ℕ) (c : Common) (kept : List Kept) (w : List ℕ) (unspent : ℕ) (results : List SearchResult) (i : ℕ) : Type 0 where
  pub left : unspent ≡ unspent_at (game_of pos shares size c) c.allowance n i
  pub each : (k : ℕ) → i ≤ k → k < n → (d : Kept) → StoppedAt pos shares size c w k (get_or kept k d)
  pub done : (k : ℕ) → k < i → (d : SearchResult) → result_of (get_or results k d) ≡ result_at (game_of pos shares size c) c.allowance n k

pub record Second (shares : List ℕ) (n size : ℕ) (c : Common) (kept : List Kept) (left : ℕ) (w₀ w : List ℕ) (unspent : ℕ) (results : List SearchResult) (i : ℕ) : Type 0 where
  pub from : (pos : ℕ → Position) × Halfway pos shares n size c w₀ kept left
  pub low : i ≤ n
  pub long : length w ≡ length w₀
  pub results_long : length results ≡ 8
  pub turns : (pos : ℕ → Position) → Halfway pos shares n size c w₀ kept left → Turns pos shares n size c kept w unspent results i
  pub nothing : (k : ℕ) → i ≤ k → k < 8 → (d : SearchResult) → result_of (get_or results k d) ≡ no_result
  pub past : drop (n * size) w ≡ drop (n * size) w₀

pub record SecondPassed (shares : List ℕ) (n size : ℕ) (c : Common) (kept : List Kept) (left : ℕ) (w v : List ℕ) (rs : List SearchResult) : Type 0 where
  pub results_long : length rs ≡ 8
  pub results : (pos : ℕ → Position) → Halfway pos shares n size c w kept left
      → (k : ℕ) → k < n → (d : SearchResult) → result_of (get_or rs k d) ≡ result_at (game_of pos shares size c) c.allowance n k
  pub nothing : (k : ℕ) → n ≤ k → k < 8 → (d : SearchResult) → result_of (get_or rs k d) ≡ no_result
  pub past : drop (n * size) v ≡ drop (n * size) w

-- both passes, with the words between them
pub record BothPassed (bytes shares : List ℕ) (n size : ℕ) (c : Common) (w v : List ℕ) (rs : List SearchResult) : Type 0 where
  pub first : FirstPass
  pub between : List ℕ
  pub long : length between ≡ length w
  pub first_passed : FirstPassed bytes shares n size c w between first
  pub second_passed : SecondPassed shares n size c first.kept first.unspent between v rs
