-- The worked examples 1 to 12 of document 01, with every number that it gives: one table, and one theorem that the definitions give them.
use Rattle.std.specs.Prelude.{Bool, true, false, not, ◌&&◌, List, [], ◌∷◌, ◌++◌, ℕ, suc, ◌+◌, ◌*◌, ◌/◌, ◌%◌, eqb, T, ℤ, pos, negsuc, get_or, replicate}
use Rattle.rules.specs.Stages.{is_some}
use Rattle.rules.specs.Limits.{record_bytes, variables}
use Rattle.rules.specs.Number.{bytes32}
use Rattle.rules.specs.Table.{records_of}
use Rattle.rules.specs.Check.{Verdict, check, announced}
use Rattle.rules.specs.Check as Check
use Rattle.rules.specs.Calls.{Outcome, Lent, out_record, onto, start_call, react_call}

-- ---- programs as records in preorder, each construct with its span

abbrev node : ℕ → ℕ → ℤ → List ℕ → List ℕ
node k v z below = k ∷ v ∷ suc (records_of below) % 256 ∷ suc (records_of below) / 256 ∷ bytes32 z ++ below

abbrev nothing : List ℕ
nothing = node 0 0 (pos 0) []

-- v := z; v := v - w; v := 1 if v < w, else 0; v := v / w
abbrev assign : ℕ → ℤ → List ℕ
assign v z = node 1 v z []

abbrev subtract : ℕ → ℕ → List ℕ
subtract v w = node 4 v (pos w) []

abbrev compare : ℕ → ℕ → List ℕ
compare v w = node 5 v (pos w) []

abbrev divide : ℕ → ℕ → List ℕ
divide v w = node 6 v (pos w) []

-- output o with the value of w
abbrev output : ℕ → ℕ → List ℕ
output o w = node 7 o (pos w) []

abbrev await : ℕ → List ℕ
await e = node 8 e (pos 0) []

abbrev await_internal : ℕ → List ℕ
await_internal e = node 9 e (pos 0) []

abbrev emit : ℕ → List ℕ
emit e = node 10 e (pos 0) []

abbrev break : List ℕ
break = node 11 0 (pos 0) []

infixr 20 ◌then◌
abbrev ◌then◌ : List ℕ → List ℕ → List ℕ
p then q = node 13 0 (pos 0) (p ++ q)

abbrev loop : List ℕ → List ℕ
loop p = node 14 0 (pos 0) p

abbrev every : ℕ → List ℕ → List ℕ
every e p = node 15 e (pos 0) p

infixr 10 ◌and◌
abbrev ◌and◌ : List ℕ → List ℕ → List ℕ
p and q = node 17 0 (pos 0) (p ++ q)

infixr 10 ◌or◌
abbrev ◌or◌ : List ℕ → List ℕ → List ℕ
p or q = node 18 0 (pos 0) (p ++ q)

abbrev fin : List ℕ → List ℕ
fin p = node 19 0 (pos 0) p

-- ---- what the paper says

-- of a call's answer, of what was lent, and of the table
pub data Claim : Type 0 where
  finished waiting : Claim
  steps emitted highest outputs : ℕ → Claim
  wrote : ℕ → ℤ → Claim  -- one output: name, value
  variable : ℕ → ℤ → Claim
  marks : List ℕ → Claim
  announced_steps announced_outputs : ℕ → Claim

-- an event of a value, and what its reaction gives
pub data Event : Type 0 where
  event : ℕ → ℤ → List Claim → Event

pub data Case : Type 0 where
  refused : List ℕ → ℕ → ℕ → Case  -- the check's number and place
  runs : List ℕ → List Claim → List Event → Case  -- the start, then the events

abbrev pub cases : List Case
cases =
    -- 1
    runs nothing (steps 2 ∷ finished ∷ []) [] ∷
    -- 2
    runs (assign 1 (pos 5)) (steps 3 ∷ variable 1 (pos 5) ∷ []) [] ∷
    -- 3
    runs (await 1) (steps 2 ∷ announced_steps 8 ∷ []) (event 2 (pos 0) (steps 2 ∷ waiting ∷ []) ∷ event 1 (pos 0) (steps 2 ∷ finished ∷ []) ∷ []) ∷
    -- 4
    runs ((await_internal 1 then output 1 1) and (assign 1 (pos 7) then emit 1 then assign 1 (pos 9)))
    (steps 16 ∷ wrote 1 (pos 7) ∷ variable 1 (pos 9) ∷ highest 2 ∷ announced_steps 67 ∷ []) [] ∷
    -- 5
    runs (loop (await 1 then output 1 0)) (steps 3 ∷ announced_steps 46 ∷ announced_outputs 2 ∷ []) (event 1 (pos 0) (steps 6 ∷ []) ∷ []) ∷
    -- 6, with what the runner prints of it
    runs (fin (output 2 0) or await 1) (steps 5 ∷ emitted 0 ∷ highest 1 ∷ outputs 0 ∷ waiting ∷ marks (0 ∷ 1 ∷ 0 ∷ 1 ∷ []) ∷ [])
    (event 1 (pos 40) (steps 4 ∷ emitted 0 ∷ highest 1 ∷ outputs 1 ∷ finished ∷ wrote 2 (pos 40) ∷ []) ∷ []) ∷
    -- 7
    runs (every 1 (output 1 0)) [] (event 1 (pos 0) (steps 4 ∷ []) ∷ []) ∷
    -- 8
    runs (await 1 or await 1) [] (event 1 (pos 0) (steps 3 ∷ []) ∷ []) ∷
    -- 9
    refused (loop (await_internal 1 or emit 1)) 7 0 ∷
    -- 10
    runs (loop (await 1 and nothing)) [] [] ∷
    refused (loop (await 1 or nothing)) 7 0 ∷
    -- 11
    refused (loop (loop (await 1 then break))) 7 0 ∷
    -- 12
    runs (assign 1 (negsuc 6) then assign 2 (pos 2) then divide 1 2) (variable 1 (negsuc 2) ∷ []) [] ∷
    runs (assign 1 (pos 7) then assign 2 (negsuc 1) then divide 1 2) (variable 1 (negsuc 2) ∷ []) [] ∷
    runs (assign 1 (pos 7) then subtract 1 1) (variable 1 (pos 0) ∷ []) [] ∷
    runs (assign 1 (pos 7) then compare 1 1) (variable 1 (pos 0) ∷ []) [] ∷
    []

-- ---- whether the definitions give it

abbrev same : List ℕ → List ℕ → Bool
same [] [] = true
same [] (b ∷ bs) = false
same (a ∷ as') [] = false
same (a ∷ as') (b ∷ bs) = eqb a b && same as' bs

holds : List ℕ → Lent → Outcome → Claim → Bool
unfolding announced
holds b l o finished = o.answer.finished
holds b l o waiting = not o.answer.finished
holds b l o (steps n) = eqb n o.answer.steps
holds b l o (emitted n) = eqb n o.answer.emitted
holds b l o (highest n) = eqb n o.answer.highest
holds b l o (outputs n) = eqb n o.answer.outputs
holds b l o (wrote v z) = eqb 1 o.answer.outputs && same (onto (out_record v z) l.room) o.lent.room
holds b l o (variable v z) = same (bytes32 z) (bytes32 (get_or o.lent.vars v (pos 0)))
holds b l o (marks m) = same m o.lent.marks
holds b l o (announced_steps n) = eqb n (announced b).steps
holds b l o (announced_outputs n) = eqb n (announced b).outputs

-- the call is not refused, and gives all that is claimed
all_hold : List ℕ → Lent → Outcome → List Claim → Bool
unfolding holds
all_hold b l o [] = not (is_some o.refused)
all_hold b l o (c ∷ cs) = holds b l o c && all_hold b l o cs

-- room for n bytes, filled afresh for each call
abbrev room_for : ℕ → Lent → Lent
room_for n l = record { marks = l.marks; vars = l.vars; room = replicate n 255; totals = l.totals }

abbrev zeros : List ℕ → Lent
zeros b = record { marks = replicate (records_of b) 0; vars = replicate variables (pos 0); room = []; totals = record { reactions = 0; steps = 0 } }

follows : List ℕ → ℕ → List Event → Lent → Bool
unfolding react_call all_hold
follows b n [] l = true
follows b n (event e z cs ∷ es) l =
    let o : Outcome = react_call b (room_for n l) (record { event = e; value = z }) in
    all_hold b (room_for n l) o cs && follows b n es o.lent

abbrev is_refused : Verdict → ℕ → ℕ → Bool
is_refused (Check.refused r) k i = eqb r.number k && eqb r.place i
is_refused (Check.accepted a) k i = false

case_holds : Case → Bool
unfolding check start_call announced follows all_hold
case_holds (refused b k i) = is_refused (check b) k i
case_holds (runs b cs es) =
    let n : ℕ = record_bytes * (announced b).outputs in
    let o : Outcome = start_call b (room_for n (zeros b)) in
    all_hold b (room_for n (zeros b)) o cs && follows b n es o.lent

pub all_cases_hold : List Case → Bool
unfolding case_holds
all_cases_hold [] = true
all_cases_hold (c ∷ cs) = case_holds c && all_cases_hold cs

pub cases-hold : T (all_cases_hold cases)
unfolding all_cases_hold
cases-hold = tt
