-- What is promised of staying on a line (MANUAL): one record, of the setting, of step 2, of what a node remembers, and of search's checks and answers. That 21 comes before 17 and before
-- the shares' 20 stands in add_refusal (book) and settings_refusal (games_checks), that judge does not stay in judge_limits (printed). Rests on Margin, the plain machine, the packed
-- word, and the third condition.
use Rattle.std.specs.Prelude.{◌≡◌, true, false, ◌↔◌, ℕ, suc, ◌+◌, ◌*◌, ◌%◌, ◌≤◌, ◌<◌, leb, pos, Float}
use mathlib.Core.List.{List, ◌∷◌, Memᴰ}
use Rattle.std.specs.Float.{binary64}
use Rattle.std.specs.Float.Ieee.{of_bits, of_int, add, mul, le}
use Rattle.std.specs.Float.Ieee.Exact.{HasValue}
use Rattle.rules.specs.Rules.{Player, Position, legal_moves}
use Rattle.machine.specs.Tree.{Node, Children, u32_max, leaf, solved}
use Rattle.machine.specs.Machine.{Ancestor, State, Result, off, margin, first_that, first_with, has_move, holds_at, within_margin, remember, down, opened, renumber}
use Rattle.plain.specs.Plain.{game, policy_of}
use Rattle.words.specs.PackedWord.{View, move_in, remembered_in, packed, Bytes}
use Rattle.stay.specs.declared.Stay.{Stay}
use Rattle.stay.specs.declared.Stay.TheVariants.{Off, Margin}
use Rattle.stay.specs.Margin.{steps_in, is_margin, IsAt, stay_in_range, stay_of}
use Rattle.searches.specs.Searches.{Limits, limits, search_refusal, Answered, search_call}
use Rattle.searches.specs.ThirdCondition.{ThirdCondition}

-- The same limits without staying.
abbrev pub without_stay : Limits → Limits
without_stay L = limits L.limit L.budget L.interval Off

-- The place of the child that the remembered move names.
abbrev pub named : Node Position → Children Position → ℕ
named n ks = first_that (has_move n.remembered) ks

pub record StayStatement : Type 0 where
  -- The setting is off or a margin, a float that is k / 256 for a k from 0 to 256, and negative only if it is zero: 0.0 and -0.0 are the same setting.
  pub setting_off : (stay_in_range Off ≡ true) × (stay_of Off ≡ off)
  pub setting : (x : Float) → (stay_in_range (Margin x) ≡ true) ↔ ((k : ℕ) × (k ≤ 256) × IsAt x k)
  pub setting_is : (x : Float) (k : ℕ) → k ≤ 256 → IsAt x k → stay_of (Margin x) ≡ margin k
  -- With off step 2 takes the first listed child whose delta equals the node's phi.
  pub as_before : (rule : ℕ) (root : Player) (n : Node Position) (ks : Children Position) → (policy_of rule root off).select n ks ≡ first_with n.phi ks
  -- With a margin the child taken last is taken again if it is unsolved and its delta is at most phi times 1 plus the margin; otherwise step 2 chooses as with off.
  pub within : (k phi : ℕ) (m : Node Position) → (within_margin k phi m ≡ true) ↔ ((solved m ≡ false) × (256 * m.delta ≤ phi * (256 + k)))
  pub again : (rule : ℕ) (root : Player) (k : ℕ) (n : Node Position) (ks : Children Position) → holds_at (within_margin k n.phi) ks (named n ks) ≡ true
      → (policy_of rule root (margin k)).select n ks ≡ named n ks
  pub otherwise : (rule : ℕ) (root : Player) (k : ℕ) (n : Node Position) (ks : Children Position) → holds_at (within_margin k n.phi) ks (named n ks) ≡ false
      → (policy_of rule root (margin k)).select n ks ≡ (policy_of rule root off).select n ks
  -- That product is exact in a float (0x3FF0000000000000 are the bits of 1): it has the value phi * (256 + k) / 256.
  pub product : (x : Float) → is_margin x ≡ true → (phi : ℕ) → phi < 16777216
      → HasValue (mul binary64 (of_int binary64 (pos phi)) (add binary64 (of_bits binary64 0x3FF0000000000000) x)) false (phi * (256 + steps_in x)) 256
  -- Compared with delta as it stands, it is the test of whole numbers.
  pub exact : (x : Float) → is_margin x ≡ true → (phi delta : ℕ) → phi < 16777216 → delta ≤ u32_max
      → le (of_int binary64 (pos delta)) (mul binary64 (of_int binary64 (pos phi)) (add binary64 (of_bits binary64 0x3FF0000000000000) x)) ≡ leb (256 * delta) (phi * (256 + steps_in x))
  -- Each node remembers the move last taken: none when it is made, 255, which is no legal move; and the child's at each descent through it, with every setting. Expanding it and
  -- working its numbers out leave that as it is.
  pub none_yet : (rule : ℕ) (root : Player) (p : Position) (m : ℕ) → (leaf (game rule root) p m).remembered ≡ 255
  pub not_a_move : (p : Position) (m : ℕ) → Memᴰ m (legal_moves p) → m ≡ 255 → ⊥
  pub kept : (rule : ℕ) (root : Player) (n : Node Position) (ks : Children Position)
      → ((opened (game rule root) n).remembered ≡ n.remembered) × ((renumber (game rule root) n ks).remembered ≡ n.remembered)
  pub remembers : (rule : ℕ) (root : Player) (y : Stay) (s : State Position) → let P = policy_of rule root (stay_of y) in let t = down (game rule root) P s in
      holds_at (λ m. true) s.below (P.select s.node s.below) ≡ true → (a : Ancestor Position) × (t.above ≡ a ∷ s.above) × (a.node ≡ remember s.node t.node.move)
  -- It has the eight bits after the move in the packed word, and 11 zeros are left.
  pub bits : (K : View Position) (n : Node Position) → Bytes n → (move_in (packed K n) ≡ n.move) × (remembered_in (packed K n) ≡ n.remembered) × (packed K n % 2048 ≡ 0)
  -- Verdicts, the effect of more budget, pool and limit with one setting, and N, for each setting: the third condition asks for the same setting in `alike` alone.
  pub third : (bytes : List ℕ) (rule : ℕ) (S T : Limits) (words words' : ℕ) (r s : Result)
      → search_call bytes words rule S ≡ Answered r → search_call bytes words' rule T ≡ Answered s → ThirdCondition bytes rule S T words words' r s
  -- Check 21, a float that is no margin, comes after 10 and all before it: search's last.
  pub check : (bytes : List ℕ) (capacity rule : ℕ) (L : Limits) → search_refusal bytes capacity rule (without_stay L) ≡ 0 → stay_in_range L.stay ≡ false
      → search_refusal bytes capacity rule L ≡ 21
  pub earlier : (bytes : List ℕ) (capacity rule : ℕ) (L : Limits) (n : ℕ) → search_refusal bytes capacity rule (without_stay L) ≡ suc n → search_refusal bytes capacity rule L ≡ suc n
  pub in_range : (bytes : List ℕ) (capacity rule : ℕ) (L : Limits) → stay_in_range L.stay ≡ true
      → search_refusal bytes capacity rule L ≡ search_refusal bytes capacity rule (without_stay L)
