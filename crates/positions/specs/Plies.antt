-- Positions in places of 24 words: that words which agree hold the same position, and what a copy and a push leave. Rests on the rules and game's Words and Moves.
use Rattle.std.specs.Prelude.{ℕ, ◌+◌, ◌*◌, ◌<◌, ◌≤◌, ◌≡◌, List, length, get_or}
use Rattle.std.proofs.Common.{◌∙◌, inl, arith}
use Rattle.rules.specs.Rules.{Position, move_error, play}
use Rattle.rules.specs.Record.{side_bit}
use Rattle.game.specs.Words.{Holds, side_bit_lt}
use Rattle.game.specs.Moves.{Movable, Moved}

-- words that agree with those of a position hold it too
pub holds_agree : (p : Position) (ws vs : List ℕ) (a b : ℕ) → b + 23 ≤ length vs → ((i : ℕ) → i < 23 → get_or vs (b + i) 0 ≡ get_or ws (a + i) 0) → Holds p ws a → Holds p vs b
holds_agree p ws vs a b room same h = record {
  whole = h.whole;
  codes = h.codes;
  room = room;
  masks = λ s k l. same (side_bit s * 9 + k) (omega (arith, side_bit_lt s)) ∙ h.masks s k l;
  won = λ s. same (18 + side_bit s) (omega (arith, side_bit_lt s)) ∙ h.won s;
  drawn = same 20 (omega arith) ∙ h.drawn;
  target = same 21 (omega arith) ∙ h.target;
  side = same 22 (omega arith) ∙ h.side;
}

-- the words of ply d stand at the next ply too; those before it are untouched
pub record Copied (d : ℕ) (ws vs : List ℕ) : Type 0 where
  pub long : length vs ≡ length ws
  pub below : (i : ℕ) → i < d * 24 + 24 → get_or vs i 0 ≡ get_or ws i 0
  pub copied : (i : ℕ) → i < 23 → get_or vs (d * 24 + 24 + i) 0 ≡ get_or ws (d * 24 + i) 0

-- a legal move was made from ply d to the next: the position after it is there, and every ply before is untouched
pub record Pushed (d m : ℕ) (ws vs : List ℕ) : Type 0 where
  pub long : length vs ≡ length ws
  pub holds : (p : Position) → Holds p ws (d * 24) → move_error p m ≡ 0 → Holds (play p m) vs (d * 24 + 24)
  pub below : (i : ℕ) → i < d * 24 + 24 → get_or vs i 0 ≡ get_or ws i 0

module _ (d m : ℕ) (ws us : List ℕ) (c : Copied d ws us) (room : d * 24 + 48 ≤ length ws) where
  -- the copy holds what the ply does
  pub copied_holds : (p : Position) → Holds p ws (d * 24) → Holds p us (d * 24 + 24)
  copied_holds p h = holds_agree p ws us (d * 24) (d * 24 + 24) (omega (arith, c.long)) c.copied h

  pub copied_movable : Movable ws (d * 24) m → Movable us (d * 24 + 24) m
  copied_movable v = (v.0, copied_holds v.0 v.1, v.2)

  pub pushed : (vs : List ℕ) → Movable ws (d * 24) m → ((p : Position) → Holds p us (d * 24 + 24) → move_error p m ≡ 0 → Moved p m (d * 24 + 24) us vs) → Pushed d m ws vs
  pushed vs v moved =
      let k = moved v.0 (copied_holds v.0 v.1) v.2 in
      record {
        long = k.same_length ∙ c.long;
        holds = λ p h e. (moved p (copied_holds p h) e).holds;
        below = λ i l. k.others i (inl l) ∙ c.below i l;
      }

-- a position in a place of its own, and what it says of the other plies
pub ply_kept : (p : Position) (ws vs : List ℕ) (k n : ℕ) → length vs ≡ length ws → k * 24 + 24 ≤ n → ((i : ℕ) → i < n → get_or vs i 0 ≡ get_or ws i 0) → Holds p ws (k * 24) → Holds p vs (k * 24)
ply_kept p ws vs k n e l below h = holds_agree p ws vs (k * 24) (k * 24) (omega (arith, h.room)) (λ i q. below (k * 24 + i) (omega arith)) h
