-- How many children step 4 makes of a position in play, counted move by move up to the first with delta 0. Rests on the machine's step 4, game's Cursor and children's laws.
use Rattle.std.specs.Prelude.{ℕ, ◌+◌, ◌-◌, ◌≤◌, ◌<◌, ◌≡◌, refl, Bool, true, false, eqb}
use Rattle.std.proofs.Math.Path.{ap, sym}
use Rattle.std.proofs.Common.{subst, ◌∙◌, arith, eq-eqb}
use Rattle.std.proofs.Math.Bool.{not-not}
use mathlib.Core.List.{List, [], ◌∷◌, Memᴰ}
use Rattle.rules.specs.Rules.{Player, Position, same, mark, board, game_state, board_of, cell_of, move_of, move_error, play}
use Rattle.rules.specs.Rules.Player.{X, O}
use Rattle.rules.specs.Record.{side_bit, player_of}
use Rattle.rules.proofs.Roundtrip.{side_back}
use Rattle.rules.proofs.Legal.{legal}
use Rattle.rules.proofs.LegalMoves.{in_legal}
use Rattle.game.specs.Masks.{mask, mask_of, nonzero}
use Rattle.game.specs.Words.{Holds}
use Rattle.game.specs.Cursor.{moves_from, moves_all, moves_within}
use Rattle.machine.specs.Game.{Game}
use Rattle.machine.specs.Tree.{Children, leaf, none, child, size}
use Rattle.machine.specs.Machine.{Verdict, make, children}
use Rattle.machine.proofs.Rounds.{make_last, make_next}
use Rattle.plain.specs.Plain.{game}
use Rattle.plain.proofs.Laws.{lawful}
use Rattle.words.specs.Packed.{view}
use Rattle.children.specs.declared.Outer.{Outer}
use Rattle.children.specs.Scalars.{OuterOf, ChildOf}
use Rattle.children.specs.Leaves.{LeafBounds}
use Rattle.children.specs.Children.{and_after}

-- Words that hold a position in play, and the side that the attacker's number stands for
pub record Countable (ws : List ℕ) (base attacker : ℕ) : Type 0 where
  pub position : Position
  pub side : Player
  pub holds : Holds position ws base
  pub playing : game_state position ≡ 0
  pub attacker_is : attacker ≡ side_bit side

-- Whether the child by a legal move has delta 0
abbrev pub EndsMaking : List ℕ → ℕ → Outer → ℕ → ℕ → ℕ → Bool → Type 0
EndsMaking ws base o m rule attacker r =
    (l : Countable ws base attacker) → OuterOf l.position o → move_error l.position m ≡ 0 → r ≡ eqb (leaf (game rule l.side) (play l.position m) m).delta 0

-- How many children step 4 makes
abbrev pub child_count : {ws : List ℕ} {base attacker : ℕ} → ℕ → Countable ws base attacker → ℕ
child_count rule l = size (children (game rule l.side) l.position)

-- What is read of the position besides its cells, and a place that no legal move stands before
abbrev pub AllFrom : {ws : List ℕ} {base attacker : ℕ} → Countable ws base attacker → Outer → ℕ → Type 0
AllFrom l o start = OuterOf l.position o × (moves_from l.position 0 ≡ moves_from l.position start)

-- A legal move's child: by its board and cell, and by the numbers that the code works out
module _ {ws : List ℕ} {base attacker : ℕ} (l : Countable ws base attacker) (o : Outer) (r : OuterOf l.position o) (m : ℕ) (e : move_error l.position m ≡ 0) where
  abbrev p : Position
  p = l.position

  again : move_of (board_of m) (cell_of m) ≡ m
  again = omega arith

  pub made_child : (b c mine taken : ℕ) → b ≡ board_of m → c ≡ cell_of m → mine ≡ mask (mark p.side) (board p.cells b) → taken ≡ mask_of nonzero (board p.cells b) → ChildOf p o mine taken b c
  made_child b c mine taken eb ec em et = record {
    board_in = rw eb (legal p m e).board_in;
    cell_in = rw ec (legal p m e).cell_in;
    outer = r;
    cells = record { mine_is = em; taken_is = et };
    legal = rw (eb, ec, again) e;
  }

  sides : (a b : Player) → eqb (side_bit b) (side_bit a) ≡ same a b
  sides X X = refl
  sides X O = refl
  sides O X = refl
  sides O O = refl

  -- the other side is to move at the child if the attacker is to move here
  attacker_moves : (rule : ℕ) → eqb o.side attacker ≡ (view (game rule l.side)).and (play p m)
  attacker_moves rule =
      ap (λ (k : ℕ). eqb k attacker) r.side_is ∙ ap (eqb (side_bit p.side)) l.attacker_is ∙ sides l.side p.side
      ∙ sym (and_after rule l.side p m e ∙ not-not (same l.side p.side))

  pub ends_is : (rule : ℕ) (v : Verdict) (b c : ℕ) → b ≡ board_of m → c ≡ cell_of m → v ≡ (view (game rule (player_of attacker))).value (play p (move_of b c))
      → (and : Bool) (phi delta : ℕ) → LeafBounds v and phi delta → and ≡ eqb o.side attacker → eqb delta 0 ≡ eqb (leaf (game rule l.side) (play p m) m).delta 0
  ends_is rule v b c eb ec ev and phi delta n ea =
      let w : v ≡ (view (game rule l.side)).value (play p m) =
      ev ∙ rw (eb, ec, again) refl ∙ ap (λ (s : Player). (view (game rule s)).value (play p m)) (ap player_of l.attacker_is ∙ side_back l.side) in
      ap (λ (d : ℕ). eqb d 0) (n rule l.side (play p m) m w (ea ∙ attacker_moves rule)).delta_is

-- The loop at place i of the board: n children are made, and none of them has delta 0
pub record CountingChildren {ws : List ℕ} {base attacker : ℕ} (l : Countable ws base attacker) (rule n i : ℕ) : Type 0 where
  pub so_far : Children Position
  pub count : n ≡ size so_far
  pub few : n ≤ i
  pub rest : make (game rule l.side) l.position (moves_from l.position i) so_far ≡ children (game rule l.side) l.position
  pub legal : (m : ℕ) → Memᴰ m (moves_from l.position i) → move_error l.position m ≡ 0

module _ {ws : List ℕ} {base attacker : ℕ} (l : Countable ws base attacker) (rule : ℕ) where
  abbrev G : Game
  G = game rule l.side

  pub counted_start : (start : ℕ) → moves_from l.position 0 ≡ moves_from l.position start → CountingChildren l rule 0 start
  unfolding children size
  counted_start start e =
      let all = moves_all l.position (eq-eqb (game_state l.position) 0 l.playing) ∙ e in
      record {
        so_far = none;
        count = refl;
        few = omega arith;
        rest = ap (λ (ms : List ℕ). make G l.position ms none) (sym all);
        legal = λ m h. in_legal l.position m (subst (Memᴰ m) (sym all) h);
      }

  module _ (n i : ℕ) (k : CountingChildren l rule n i) where
    pub counted_done : moves_from l.position i ≡ [] → n ≡ child_count rule l
    unfolding make
    counted_done e = k.count ∙ ap size (sym (ap (λ (ms : List ℕ). make G l.position ms k.so_far) e) ∙ k.rest)

    module _ (m j : ℕ) (stepped : (moves_from l.position i ≡ m ∷ moves_from l.position j) × (i < j)) where
      pub counted_within : n < 81
      counted_within = omega (arith, k.few, moves_within l.position i m _ stepped.0)

      pub counted_less : 81 - j < 81 - i
      counted_less = omega (arith, moves_within l.position i m _ stepped.0, stepped.1)

      pub counted_legal : move_error l.position m ≡ 0
      counted_legal = k.legal m (subst (Memᴰ m) (sym stepped.0) (Memᴰ.head refl))

      from_here : make G l.position (m ∷ moves_from l.position j) k.so_far ≡ children G l.position
      from_here = ap (λ (ms : List ℕ). make G l.position ms k.so_far) (sym stepped.0) ∙ k.rest

      module _ (t : Bool) (ends : t ≡ eqb (leaf G (play l.position m) m).delta 0) where
        pub counted_last : t ≡ true → n + 1 ≡ child_count rule l
        unfolding size
        counted_last q =
            let last = make_last G (lawful rule l.side) l.position m (moves_from l.position j) k.so_far (sym ends ∙ q) in
            omega (arith, k.count, ap size (sym last ∙ from_here))

        pub counted_next : t ≡ false → CountingChildren l rule (n + 1) j
        unfolding size
        counted_next q = record {
          so_far = child (leaf G (play l.position m) m) none k.so_far;
          count = omega (arith, k.count);
          few = omega (arith, k.few, stepped.1);
          rest = sym (make_next G (lawful rule l.side) l.position m (moves_from l.position j) k.so_far (sym ends ∙ q)) ∙ from_here;
          legal = λ x h. k.legal x (subst (Memᴰ x) (sym stepped.0) (Memᴰ.tail h));
        }
