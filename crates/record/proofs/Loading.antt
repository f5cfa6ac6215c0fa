-- A record that was read: the checks that refuse it, and the words of its position. Rests on Reading and on crate cells.
use Rattle.std.specs.Prelude.{◌≡◌, refl, ℕ, ◌+◌, ◌*◌, ◌<◌, length, take, drop}
use Rattle.std.proofs.Common.{ap, ◌∙◌, arith, length-take-le, get_or-take, get_or-append-add}
use Rattle.std.proofs.Math.Path.{sym}
use mathlib.Core.List.{List, [], ◌∷◌, ◌++◌, append_assoc}
use Rattle.std.proofs.Math.Nat.{zero-add}
use borrow.Author.Tests.{eq-eqb, ne_eqb}
use Rattle.std.proofs.Math.ListN.{get_or, get_or-append}
use Rattle.std.proofs.lemmas.List.Edits.{sets}
use Rattle.std.proofs.Math.Seq.{sets-eq, length-sets}
use Rattle.rules.specs.Rules.{Player, mark, count, board, board_states}
use Rattle.rules.specs.Rules.Player.{X, O}
use Rattle.rules.specs.Record.{bit_at, number, side_bit, player_of, position_of, position_refusal, refusal_to6}
use Rattle.rules.specs.Refusals.{first_refusal}
use Rattle.rules.proofs.RefusalLaws.{last_refuses}
use Rattle.rules.proofs.Checks.{passes}
use Rattle.rules.proofs.Roundtrip.{load_bits, load_whole, bit_back}
use Rattle.game.specs.Masks.{mask}
use Rattle.game.specs.Words.{Holds}
use Rattle.cells.specs.declared.Codes.{Codes}
use Rattle.cells.specs.declared.Cells.{Cells}
use Rattle.cells.specs.Reading.{Masks, CellsRead}
use Rattle.cells.proofs.MoreBoards.{cells_coded}
use Rattle.record.specs.declared.Boards.{Boards}
use Rattle.record.specs.Reading.{Coded, Shows, Checking, FieldsRead}

module _ (bs : List ℕ) where
  pub refused_1 : (length bs ≡ 21 → ⊥) → 1 ≡ refusal_to6 bs
  unfolding refusal_to6 first_refusal
  refused_1 n = rw (ne_eqb (length bs) 21 n)

  pub refused_2 : length bs ≡ 21 → (bit_at bs 167 ≡ 0 → ⊥) → 2 ≡ refusal_to6 bs
  unfolding refusal_to6 first_refusal
  refused_2 e n = rw (e, ne_eqb (bit_at bs 167) 0 n)

  pub refused_later : length bs ≡ 21 → bit_at bs 167 ≡ 0 → position_refusal (position_of bs) ≡ refusal_to6 bs
  unfolding refusal_to6 first_refusal
  refused_later e z = rw (e, z) (sym (last_refuses (position_refusal (position_of bs))))

-- What was read of the bytes, whichever way: the cells, the target and the side.
module _ (bs : List ℕ) (r : Cells) (t s : ℕ) (read : CellsRead (position_of bs).cells r) (et : t ≡ number (bit_at bs) 1 4) (es : s ≡ bit_at bs 0) where
  unfoldable pub fields : FieldsRead r t s
  unfolding position_of
  fields = record {
    position = position_of bs;
    whole = load_whole bs;
    read = read;
    aims = et;
    moves = es ∙ sym (bit_back (bit_at bs 0) (load_bits bs 0));
  }

-- Whatever the target and the side, there is a position that has them and these cells.
pub some_fields : (cs : List ℕ) (r : Cells) (t s : ℕ) → length cs ≡ 81 → CellsRead cs r → s < 2 → FieldsRead r t s
some_fields cs r t s n read h = record {
  position = record { side = player_of s; target = t; cells = cs };
  whole = n;
  read = read;
  aims = refl;
  moves = sym (bit_back s h);
}

-- The cells that were read: code 3 among them, or none.
module _ (r : Cells) (t s : ℕ) (g : FieldsRead r t s) where
  pub refused_code : (r.rest ≡ 0 → ⊥) → 2 ≡ position_refusal g.position
  unfolding position_refusal first_refusal
  refused_code n = rw (cells_coded g.position.cells r.words r.rest g.whole g.read, ne_eqb r.rest 0 n)

  unfoldable pub coded : r.rest ≡ 0 → Coded r.words
  coded e = record { cells = g.position.cells; whole = g.whole; read = rw e at g.read }

  unfoldable pub checking : (e : r.rest ≡ 0) (b : Boards) → Shows g.position.cells 9 b.shown
      → b.xs ≡ count 1 g.position.cells → b.os ≡ count 2 g.position.cells → Checking b t s
  checking e b shows xs os = record {
    position = g.position;
    whole = g.whole;
    coded = cells_coded g.position.cells r.words r.rest g.whole g.read ∙ eq-eqb r.rest 0 e;
    shows = shows;
    xs = xs;
    os = os;
    aims = g.aims;
    moves = g.moves;
  }

  -- the words of the boards, and after them the boards' states m, the target and the side
  module _ (m : Codes) (states : Masks (board_states g.position.cells) m) where
    tail : List ℕ
    tail = m.x ∷ m.o ∷ m.rest ∷ t ∷ s ∷ []

    abbrev pub finished : List ℕ
    finished = sets r.words 18 (m.x ∷ m.o ∷ m.rest ∷ t ∷ s ∷ [])

    split : finished ≡ take 18 r.words ++ (tail ++ drop 23 r.words)
    unfolding tail
    split = sets-eq tail r.words 18 (omega (arith, g.read.room)) ∙ append_assoc (take 18 r.words) tail (drop 23 r.words)

    front : length (take 18 r.words) ≡ 18
    front = length-take-le 18 r.words (omega (arith, g.read.room))

    before : (i : ℕ) → i < 18 → get_or finished i 0 ≡ get_or r.words i 0
    before i h =
        ap (λ l. get_or l i 0) split ∙ get_or-append (take 18 r.words) (tail ++ drop 23 r.words) 0 i (rw front h) ∙ get_or-take 18 r.words i 0 h

    after : (i : ℕ) → get_or finished (18 + i) 0 ≡ get_or (tail ++ drop 23 r.words) i 0
    after i =
        ap (λ l. get_or l (18 + i) 0) split ∙ ap (λ n. get_or (take 18 r.words ++ (tail ++ drop 23 r.words)) (n + i) 0) (sym front)
        ∙ get_or-append-add (take 18 r.words) (tail ++ drop 23 r.words) i 0

    -- They hold the position.
    pub holds : position_refusal g.position ≡ 0 → Holds g.position finished 0
    unfolding tail
    holds e = record {
      whole = g.whole;
      codes = (passes g.position e).codes;
      room = rw (length-sets r.words 18 tail) (omega (arith, g.read.room));
      masks = masks;
      won = won;
      drawn = after 2 ∙ states.rest;
      target = after 3 ∙ g.aims;
      side = after 4 ∙ g.moves;
    }
      where
        masks : (p : Player) (b : ℕ) → b < 9 → get_or finished (0 + (side_bit p * 9 + b)) 0 ≡ mask (mark p) (board g.position.cells b)
        masks X b h = rw zero-add (before (0 + b) (omega arith) ∙ g.read.masks X b h)
        masks O b h = rw zero-add (before (9 + b) (omega arith) ∙ g.read.masks O b h)

        won : (p : Player) → get_or finished (0 + (18 + side_bit p)) 0 ≡ mask (mark p) (board_states g.position.cells)
        won X = after 0 ∙ states.x
        won O = after 1 ∙ states.o
