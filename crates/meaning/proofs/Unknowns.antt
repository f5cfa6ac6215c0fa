-- Every Unknown of the plain machine means what UnknownMeans says. It asks for a pool within the range, and holds of every record, accepted or not. Rests on States and plain's Laws.
use Rattle.std.specs.Prelude.{◌≡◌, List, true, false, ℕ}
use Rattle.rules.specs.Record.{position_of}
use Rattle.machine.specs.Machine.{Settings, Unknown}
use Rattle.machine.proofs.Reached.{PoolInRange, ends_reached}
use Rattle.plain.specs.Plain.{game_of, policy_of, value_of, search_of, plain_search}
use Rattle.plain.proofs.Laws.{lawful, policy_sane}
use Rattle.meaning.specs.UnknownMeans.{last_tree, UnknownMeans}
use Rattle.meaning.proofs.States.{leaves_named, turns_out, meaning}

pub unknown_means : (rule : ℕ) (S : Settings) (bytes : List ℕ) → PoolInRange S → (plain_search rule S bytes).verdict ≡ Unknown → UnknownMeans rule S bytes (plain_search rule S bytes)
unfolding search_of value_of last_tree
unknown_means rule S bytes f v =
    let p = position_of bytes in
    let G = game_of rule p in
    let L = lawful rule p.side in
    let P = policy_of rule p.side S.stay in
    let Q = policy_sane rule p.side S.stay in
    let end = ends_reached G P S p in
    record {
      numbers = meaning G L P Q S f p v;
      leaves = leaves_named G L P Q S f p _ end;
      turns_out_true = turns_out G L P Q S f p _ end true;
      turns_out_false = turns_out G L P Q S f p _ end false;
    }
