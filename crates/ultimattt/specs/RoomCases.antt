-- Step 3 at small pools, in computed searches: most with the fewest nodes that they answer with, and with one less. Rests on plain's Cases, and on its Oracle for the endings.
use Rattle.std.specs.Prelude.{◌≡◌, refl, List, [], ◌∷◌, map, ℕ}
use Rattle.rules.specs.Record.{position_refusal, refusal_to6, impossible_choice, refusal}
use Rattle.rules.specs.Refusals.{first_refusal}
use Rattle.machine.specs.Machine.{Result, True, False, Unknown}
use Rattle.plain.specs.Plain.{plain_search}
use Rattle.plain.proofs.Cases.{record21, judge_with, fields, computed_search, D}
use Rattle.plain.proofs.Oracle.{won_x, last_x, last_o, last_two, ending_x, ending_o}
use Rattle.searches.specs.Searches.{nodes, settings, search_refusal, Answered, search_call, full_of, AtLeastDraw, Full, full_call}
use Rattle.searches.proofs.SearchAnswers.{search_answered, full_with}
use Rattle.searches.specs.StepThree.{pool, judging}

-- As W, but the third of X's five moves wins, or the last; and O to move, whose first move wins.
abbrev W_middle : List ℕ
W_middle = record21 0x12A000A80040885500054000000000000000000000

abbrev W_last : List ℕ
W_last = record21 0x12A000A80050029500054000000000000000000000

abbrev W_o : List ℕ
W_o = record21 0x954001500050028A8002A000800000000000000000

-- Stopped before the first expansion, by cause 2.
abbrev pub short_at_once : Result
short_at_once = fields Unknown 1 1 1 0 0 0 0 2

-- A search with so many nodes, under a rule, of a record; and its result. Limit, budget and interval are judge's, and off.
abbrev RoomCase : Type 0
RoomCase = record { pool : ℕ; rule : ℕ; bytes : List ℕ; result : Result }

abbrev room : ℕ → ℕ → List ℕ → Result → RoomCase
room pool rule bytes result = record { pool = pool; rule = rule; bytes = bytes; result = result }

abbrev room_cases : List RoomCase
room_cases =
    -- the third move wins: three of five children are made; the last wins: all five
    room 4 0 W_middle (fields True 0 2147483650 4 3 1 0 1 0) ∷
    room 3 0 W_middle short_at_once ∷
    room 6 0 W_last (fields True 0 2147483652 6 5 1 0 1 0) ∷
    room 5 0 W_last short_at_once ∷
    -- O to move, and the first move wins: one node
    room 2 0 W_o (fields True 0 2147483648 2 1 1 0 1 0) ∷
    room 1 0 W_o short_at_once ∷
    -- X has two moves, O three, and each draws: under rules 0 and 2 such a child has delta 0, so one is made; under rule 1 it has not, and all are
    room 2 0 last_x (fields True 0 2147483648 2 1 1 0 1 0) ∷
    room 3 1 last_x (fields False 2147483648 0 3 2 0 1 1 0) ∷
    room 2 1 last_x short_at_once ∷
    room 2 2 last_x (fields True 0 2147483648 2 1 1 0 1 0) ∷
    room 2 0 last_o (fields True 0 2147483648 2 1 1 0 1 0) ∷
    room 4 1 last_o (fields False 2147483648 0 4 3 0 1 1 0) ∷
    room 3 1 last_o short_at_once ∷
    room 2 2 last_o (fields True 0 2147483648 2 1 1 0 1 0) ∷
    -- one node too few for the reply, at depth 1
    room 3 0 last_two (fields False 2147483648 0 3 2 0 2 2 0) ∷
    room 2 0 last_two (fields Unknown 1 1 2 0 0 0 1 2) ∷
    -- one node too few deeper down, with a part freed; with one more the search answers, though the leaf has more legal moves than nodes are free
    room 9 0 ending_x (fields True 0 2147483650 12 11 3 3 7 0) ∷
    room 8 0 ending_x (fields Unknown 1 3 11 3 0 3 6 2) ∷
    room 8 1 ending_o (fields False 2147483648 0 12 11 0 8 8 0) ∷
    room 7 1 ending_o (fields Unknown 1 2 10 3 0 3 6 2) ∷
    -- leaves of either side whose first move draws: under rule 0 one node at each, under rule 1 at X's alone, under rule 2 at O's
    room 6 0 ending_o (fields True 0 2147483648 8 7 3 3 6 0) ∷
    room 5 0 ending_o (fields Unknown 1 2 5 0 0 0 3 2) ∷
    room 6 1 ending_o (fields Unknown 1 1 7 3 0 3 5 2) ∷
    room 10 2 ending_o (fields True 0 2147483649 10 9 3 0 6 0) ∷
    room 9 2 ending_o (fields Unknown 1 2 9 0 0 0 5 2) ∷
    -- finished: solved on sight, and the root is all the pool holds
    room 1 0 D (fields False 2147483648 0 1 0 0 0 0 0) ∷
    room 1 2 D (fields True 0 2147483648 1 0 0 0 0 0) ∷
    room 1 0 won_x (fields False 2147483648 0 1 0 0 0 0 0) ∷
    []

-- The plain machine's results are those, and no check refuses.
plain_results : map (λ c. plain_search c.rule (judge_with c.pool 100000) c.bytes) room_cases ≡ map (λ c. c.result) room_cases
unfolding computed_search
plain_results = refl

accepted : map (λ c. search_refusal c.bytes c.pool c.rule (judging 100000)) room_cases ≡ map (λ c. 0) room_cases
unfolding computed_search position_refusal refusal_to6 impossible_choice refusal first_refusal search_refusal
accepted = refl

-- So they are search's answers.
answers_from : (cs : List RoomCase) → map (λ c. search_refusal c.bytes (nodes (pool c.pool)) c.rule (judging 100000)) cs ≡ map (λ c. 0) cs
    → map (λ c. plain_search c.rule (settings (pool c.pool) (judging 100000)) c.bytes) cs ≡ map (λ c. c.result) cs
    → map (λ c. search_call c.bytes (pool c.pool) c.rule (judging 100000)) cs ≡ map (λ c. Answered c.result) cs
answers_from [] e h = refl
answers_from (c ∷ cs) e h =
    let first = search_answered c.bytes (pool c.pool) c.rule (judging 100000) (cc) c.result (cc) in
    let rest = answers_from cs (cc) (cc) in
    cc

abbrev pub RoomAnswers : Type 0
RoomAnswers = map (λ c. search_call c.bytes (pool c.pool) c.rule (judging 100000)) room_cases ≡ map (λ c. Answered c.result) room_cases

pub room_answers : RoomAnswers
room_answers = answers_from room_cases accepted plain_results

-- Full verdict with two nodes, where X's moves draw: short under rule 1 alone.
pub full_short : full_call last_x (pool 2) (judging 100000) ≡ Full AtLeastDraw short_at_once (fields True 0 2147483648 2 1 1 0 1 0)
unfolding computed_search position_refusal refusal_to6 impossible_choice refusal first_refusal search_refusal full_of
full_short = full_with last_x (pool 2) (judging 100000) refl _ _ refl refl
