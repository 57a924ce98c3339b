-- The lines that the runner prints, as bytes.
use Rattle.std.specs.Prelude.{Bool, List, [], ◌∷◌, ◌++◌, ℕ, zero, suc, ◌+◌, ◌/◌, ◌%◌, ltb, ℤ, pos, negsuc, if◌then◌else◌}
use Prim.Native.Char.{code}
use Prim.Native.String.{String, [] as no_text, ◌∷◌ as ◌followed◌}
use Rattle.rules.specs.Stages.{Refusal}
use Rattle.rules.specs.Memory.{Output}
use Rattle.rules.specs.Calls.{Answer, Sent}

abbrev pub ascii : String → List ℕ
ascii no_text = []
ascii (c followed s) = code c ∷ ascii s

abbrev pub digit : ℕ → ℕ
digit d = code "0" + d

-- the last digits of n, at most k of them, without zeros in front
unfoldable pub last_digits : ℕ → ℕ → List ℕ
last_digits zero n = []
last_digits (suc k) n =
    let longer : List ℕ = last_digits k (n / 10) ++ (digit (n % 10) ∷ []) in
    if ltb n 10 then digit n ∷ [] else longer

-- a number has no more digits than its successor says
unfoldable pub decimal : ℕ → List ℕ
unfolding last_digits
decimal n = last_digits (suc n) n

unfoldable pub signed_decimal : ℤ → List ℕ
unfolding decimal
signed_decimal (pos n) = decimal n
signed_decimal (negsuc n) = code "-" ∷ decimal (suc n)

-- words with a space between them, and the end of the line
abbrev pub line : List (List ℕ) → List ℕ → List ℕ
line [] last = last ++ ascii "\n"
line (word ∷ words) last = (word ++ ascii " ") ++ line words last

abbrev pub state : Bool → List ℕ
state finished = if finished then ascii "finished" else ascii "waiting"

-- event, value, steps, emitted, highest level, outputs, `waiting` or `finished`
unfoldable pub call_line : Sent → Answer → List ℕ
unfolding decimal signed_decimal
call_line s a =
    line
    (decimal s.event ∷ signed_decimal s.value ∷ decimal a.steps ∷ decimal a.emitted ∷ decimal a.highest ∷ decimal a.outputs ∷ [])
    (state a.finished)

-- `out`, name, value
unfoldable pub out_line : Output → List ℕ
unfolding decimal signed_decimal
out_line o = line (ascii "out" ∷ decimal o.name ∷ []) (signed_decimal o.value)

-- `refused`, number, place
unfoldable pub refusal_line : Refusal → List ℕ
unfolding decimal
refusal_line r = line (ascii "refused" ∷ decimal r.number ∷ []) (decimal r.place)
