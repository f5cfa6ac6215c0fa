-- The start of a search in a pool of any words. Rests on words' Making, prover's Stands and children's leaves.
use Rattle.std.specs.Prelude.{◌≡◌, refl, false, not, List, ℕ, ◌<◌, ◌≤◌, length, get_or}
use Rattle.std.proofs.Common.{ap, ◌∙◌}
use Rattle.std.proofs.Math.Path.{sym}
use native.Mathlib.Omega.{arith}
use Rattle.rules.specs.Rules.{Position}
use Rattle.rules.specs.Record.{Accepted}
use Rattle.game.specs.Words as game-words
use Rattle.machine.specs.Tree.{leaf}
use Rattle.machine.specs.Place.{pool_max}
use Rattle.machine.specs.Machine.{Verdict, start}
use Rattle.plain.specs.Plain.{game_of}
use Rattle.plain.proofs.Laws.{root_mine}
use Rattle.prove.specs.Numbers.{verdict_number, Pair}
use Rattle.words.specs.Packed.{view, pack, packed, bit}
use Rattle.words.specs.Words.{NONE, capacity, Filled, Beyond}
use Rattle.words.specs.Free.{Number}
use Rattle.words.proofs.Free.{all_spare}
use Rattle.words.proofs.Making.{holding_root}
use Rattle.words.proofs.States.{holds_start}
use Rattle.prover.specs.Stands.{Stands}
use Rattle.node_pool.specs.declared.Vacant.{Vacant}
use Rattle.prover.specs.declared.Prover.{Prover}

-- an accepted position, and a pool within the range
pub record Startable (g w : List ℕ) : Type 0 where
  pub pos : Position
  pub holds : game-words.Holds pos g 0
  pub accepted : Accepted pos
  pub some : 0 < capacity w
  pub few : capacity w ≤ pool_max

-- the machine's first state stands there, and no word past the capacity is changed
pub record Begun (rule : ℕ) (p : Position) (w v path ps : List ℕ) (r : Prover) : Type 0 where
  pub stands : Stands rule p.side v path ps r (start (game_of rule p) p)
  pub long : length v ≡ length w
  pub past : Beyond w v

-- the other side is not to move at the root
pub root_and : (rule : ℕ) (p : Position) → false ≡ (view (game_of rule p)).and p
root_and rule p = ap not (sym (root_mine rule p))

module _ (rule : ℕ) (p : Position) (w : List ℕ) (some : 0 < capacity w) (few : capacity w ≤ pool_max) where
  -- the state of a search that begins: the root alone is allocated
  abbrev first : Vacant → Prover
  first vacant = record { depth = 0; pool = record { vacant = vacant; allocated = 1; freed = 0 }; proved = 0; disproved = 0; expanded = 0 }

  pub begun : (v path ps : List ℕ) (free : Vacant) (phi delta word id : ℕ) (value : Verdict) → value ≡ (view (game_of rule p)).value p
      → Pair phi delta (leaf (game_of rule p) p 255).phi (leaf (game_of rule p) p 255).delta → word ≡ pack (verdict_number value) 0 (bit false) 0 255 255
      → Number w NONE 0 (all_spare w some few) id free.head.0 free.used → Filled w v id phi delta word NONE NONE → Beyond w v
      → get_or path 0 0 ≡ id → length path ≡ 82 → length ps ≡ 1968 → game-words.Holds p ps 0
      → Begun rule p w v path ps (first free)
  unfolding leaf packed start
  begun v path ps free phi delta word id value ev bounds ew number filled past at long_path long-ps holds = record {
    stands = record {
      tree = holds_start (game_of rule p) (view (game_of rule p)) v path free.head.0 free.used p
          (holding_root (view (game_of rule p)) w path some few id free.head.0 free.used number v (leaf (game_of rule p) p 255) (omega arith, omega arith) root at);
      positions = holds;
      proved_is = refl;
      disproved_is = refl;
      expanded_is = refl;
      path_long = long_path;
      positions_long = long-ps;
    };
    long = filled.only.long;
    past = past;
  }
    where
      root : Filled w v id (leaf (game_of rule p) p 255).phi (leaf (game_of rule p) p 255).delta (packed (view (game_of rule p)) (leaf (game_of rule p) p 255)) NONE NONE
      root = record {
        only = filled.only;
        phi_is = filled.phi_is ∙ bounds.phi_is;
        delta_is = filled.delta_is ∙ bounds.delta_is;
        packed_is = filled.packed_is ∙ ew ∙ rw (ev, sym (root_and rule p));
        first_is = filled.first_is;
        sibling_is = filled.sibling_is;
      }
