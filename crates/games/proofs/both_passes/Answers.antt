-- `games::both_passes` meets its contract, pass by pass. Assumes nothing.
use Rattle.std.specs.Prelude.{refl}
use Rattle.games.proofs.both_passes.Goals as goal

pub first_pass-requires : goal.first_pass-requires
first_pass-requires c = (c.requires, refl, refl)

pub second_pass-requires : goal.second_pass-requires
second_pass-requires c = (_, c.first_pass.ensures.half)

pub returns : goal.returns
returns c = record {
  first = c.first_pass.new.pass;
  between = c.first_pass.new.words;
  long = c.first_pass.auto.words;
  first_passed = c.first_pass.ensures;
  second_passed = c.second_pass.ensures;
}
