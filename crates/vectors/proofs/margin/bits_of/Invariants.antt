-- The bytes passed are digits and spell n, of four bits for each.
use Rattle.std.proofs.Common.{ℕ, ◌*◌, ◌^◌, ◌<◌, ◌≡◌, length, take, get_or}
use Rattle.vectors.specs.Words.{hex_value}
use Rattle.vectors.specs.Margins.{spelled}
use Rattle.vectors.proofs.margin.bits_of.Given as goal

abbrev pub invariant-loop-b : goal.invariant-loop-b
invariant-loop-b l = record {
  sixteen : length l.digits ≡ 16;
  spells : l.n ≡ spelled 0 (take l.b-index l.digits);
  small : l.n < 2 ^ (4 * l.b-index);
  digits : (k : ℕ) → k < l.b-index → hex_value (get_or l.digits k 0) < 16;
}
