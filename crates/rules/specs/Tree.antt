-- The tree of a program, or of what is left of it. Every node has its place first, and keeps it through every rule.
use Rattle.std.specs.Prelude.{Bool, true, false, ℕ, suc, ◌+◌, ℤ, pos}

-- where an event comes from: kinds 8 and 15 wait for input, 9 and 16 for internal events
pub data Source : Type 0 where
  input internal : Source

-- kinds 1 to 7
pub data Act : Type 0 where
  assign increase copy subtract compare divide output : Act

-- kinds 17 and 18
pub data Par : Type 0 where
  and or : Par

pub data Tree : Type 0 where
  nop : ℕ → Tree  -- 0, and @nop
  act : ℕ → Act → ℕ → ℤ → Tree  -- 1 to 7: name, number
  await : ℕ → Source → ℕ → Tree  -- 8, 9: event
  emit : ℕ → ℕ → ℤ → Tree  -- 10: event, number
  break : ℕ → Tree  -- 11
  ifvar : ℕ → ℕ → Tree → Tree → Tree  -- 12: variable, left, right
  seq : ℕ → Tree → Tree → Tree  -- 13
  loop : ℕ → Tree → Tree  -- 14
  every : ℕ → Source → ℕ → Tree → Tree  -- 15, 16: event, body
  par : ℕ → Par → Tree → Tree → Tree  -- 17, 18
  fin : ℕ → Tree → Tree  -- 19
  -- in no program
  canrun : ℕ → ℕ → Tree  -- @canrun(m)
  at_loop : ℕ → Tree → Tree → Tree  -- p @loop q
  at_par : ℕ → Par → Tree → Tree → Tree  -- p @and q, p @or q

abbrev pub eq_source : Source → Source → Bool
eq_source input input = true
eq_source input internal = false
eq_source internal input = false
eq_source internal internal = true

-- ---- a node's own record, without its span

pub record Head : Type 0 where
  pub kind : ℕ
  pub name : ℕ
  pub number : ℤ

abbrev pub head : ℕ → ℕ → ℤ → Head
head k v z = record { kind = k; name = v; number = z }

abbrev pub act_kind : Act → ℕ
act_kind assign = 1
act_kind increase = 2
act_kind copy = 3
act_kind subtract = 4
act_kind compare = 5
act_kind divide = 6
act_kind output = 7

-- of two kinds in a row: input first, and first
abbrev pub by_source : Source → ℕ → ℕ
by_source input k = k
by_source internal k = suc k

abbrev pub by_par : Par → ℕ → ℕ
by_par and k = k
by_par or k = suc k

-- 20, 21, 22 for @loop, @and, @or; a @canrun is never written, and 24 stands for it
unfoldable pub head_of : Tree → Head
head_of (nop i) = head 0 0 (pos 0)
head_of (act i a v k) = head (act_kind a) v k
head_of (await i s e) = head (by_source s 8) e (pos 0)
head_of (emit i e y) = head 10 e y
head_of (break i) = head 11 0 (pos 0)
head_of (ifvar i v p q) = head 12 v (pos 0)
head_of (seq i p q) = head 13 0 (pos 0)
head_of (loop i p) = head 14 0 (pos 0)
head_of (every i s e p) = head (by_source s 15) e (pos 0)
head_of (par i o p q) = head (by_par o 17) 0 (pos 0)
head_of (fin i p) = head 19 0 (pos 0)
head_of (canrun i m) = head 24 0 (pos 0)
head_of (at_loop i p q) = head 20 0 (pos 0)
head_of (at_par i o p q) = head (by_par o 21) 0 (pos 0)

-- the span: the node and all below it
unfoldable pub span_of : Tree → ℕ
span_of (nop i) = 1
span_of (act i a v k) = 1
span_of (await i s e) = 1
span_of (emit i e y) = 1
span_of (break i) = 1
span_of (ifvar i v p q) = 1 + (span_of p + span_of q)
span_of (seq i p q) = 1 + (span_of p + span_of q)
span_of (loop i p) = 1 + span_of p
span_of (every i s e p) = 1 + span_of p
span_of (par i o p q) = 1 + (span_of p + span_of q)
span_of (fin i p) = 1 + span_of p
span_of (canrun i m) = 1
span_of (at_loop i p q) = 1 + (span_of p + span_of q)
span_of (at_par i o p q) = 1 + (span_of p + span_of q)
