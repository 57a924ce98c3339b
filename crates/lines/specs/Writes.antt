-- What a function promises that writes text into a lent buffer.
use Rattle.std.specs.Prelude.{◌≡◌, Bool, List, ℕ, ◌+◌, ◌≤◌, ℤ, length}
use Rattle.std.proofs.lemmas.List.Edits.{sets}
use Rattle.rules.specs.Memory.{Output}
use Rattle.rules.specs.Calls.{Answer, Sent}

-- the text stands from `at` on, all else is as it was, and `next` is behind it
pub record Puts (text before : List ℕ) (at : ℕ) (after : List ℕ) (next : ℕ) : Type 0 where
  pub bytes : after ≡ sets before at text
  pub end : next ≡ at + length text

-- at most so many bytes of text
pub record PutsWithin (most : ℕ) (text before : List ℕ) (at : ℕ) (after : List ℕ) (next : ℕ) : Type 0 where
  pub is : Puts text before at after next
  pub within : next ≤ at + most

-- twenty digits and what follows; a sign, ten digits and what follows; `finished` and the end of the line
abbrev pub most_number : ℕ
most_number = 21

abbrev pub most_value : ℕ
most_value = 12

abbrev pub most_state : ℕ
most_state = 9

-- no line is longer than the buffer
abbrev pub most_line : ℕ
most_line = 128

-- a line at the front of the buffer, and its length
abbrev pub Line : List ℕ → List ℕ → List ℕ → ℕ → Type 0
Line text before after n = PutsWithin most_line text before 0 after n

-- ---- what the code holds, in the words of the rules

abbrev pub sent_of : ℕ → ℤ → Sent
sent_of e z = record { event = e; value = z }

abbrev pub answer_of : ℕ → ℕ → ℕ → ℕ → Bool → Answer
answer_of s e h o f = record { finished = f; steps = s; emitted = e; highest = h; outputs = o }

abbrev pub output_of : ℕ → ℤ → Output
output_of o z = record { name = o; value = z }
