-- The rules of a reaction: blocked, clear, awake; the nested step; push, pop, and the one next description.
use Rattle.std.specs.Prelude.{Bool, true, false, ◌&&◌, ◌||◌, ℕ, zero, suc, eqb, ltb, if◌then◌else◌}
use Rattle.std.proofs.Math.Option.{Option, none, some}
use Rattle.rules.specs.Stages.{option}
use Rattle.rules.specs.Number.{is_zero}
use Rattle.rules.specs.Tree.{Tree, nop, act, await, emit, break, ifvar, seq, loop, every, par, fin, canrun, at_loop, at_par, Source, input, internal, eq_source, Par, and, or}
use Rattle.rules.specs.Memory.{Memory, read, Deed, quiet, does, raises, effect}

-- ---- blocked, clear, awake: the spine is the left of a sequence and @loop, and both sides of @and and @or

unfoldable pub blocked : ℕ → Tree → Bool
blocked n (nop i) = false
blocked n (act i a v k) = false
blocked n (await i s e) = true
blocked n (emit i e y) = false
blocked n (break i) = false
blocked n (ifvar i v p q) = false
blocked n (seq i p q) = blocked n p
blocked n (loop i p) = false
blocked n (every i s e p) = true
blocked n (par i o p q) = false
blocked n (fin i p) = true
blocked n (canrun i m) = ltb m n
blocked n (at_loop i p q) = blocked n p
blocked n (at_par i o p q) = blocked n p && blocked n q

unfoldable pub clear : Tree → Tree
clear (nop i) = nop i
clear (act i a v k) = nop i
clear (await i s e) = nop i
clear (emit i e y) = nop i
clear (break i) = nop i
clear (ifvar i v p q) = nop i
clear (seq i p q) = clear p
clear (loop i p) = nop i
clear (every i s e p) = nop i
clear (par i o p q) = nop i
clear (fin i p) = p
clear (canrun i m) = nop i
clear (at_loop i p q) = clear p
clear (at_par i o p q) = seq i (clear p) (clear q)

-- the awaits and everys on the spine that a test of place, source and event names
unfoldable pub awake : (ℕ → Source → ℕ → Bool) → Tree → Tree
awake w (nop i) = nop i
awake w (act i a v k) = act i a v k
awake w (await i s e) = if w i s e then nop i else await i s e
awake w (emit i e y) = emit i e y
awake w (break i) = break i
awake w (ifvar i v p q) = ifvar i v p q
awake w (seq i p q) = seq i (awake w p) q
awake w (loop i p) = loop i p
awake w (every i s e p) = if w i s e then seq i p (every i s e p) else every i s e p
awake w (par i o p q) = par i o p q
awake w (fin i p) = fin i p
awake w (canrun i m) = canrun i m
awake w (at_loop i p q) = at_loop i (awake w p) q
awake w (at_par i o p q) = at_par i o (awake w p) (awake w q)

-- ---- the nested step: one rule inside the tree, at level n

-- no rule applies; or the tree becomes another, with what the step does to the memory
pub data Nested : Type 0 where
  stuck : Nested
  moved : Deed → Tree → Nested

-- what stands in front decides the rule: @nop, a break with its place, or anything else
pub data Front : Type 0 where
  done : Front
  broken : ℕ → Front
  going : Front

unfoldable pub front : Tree → Front
front (nop i) = done
front (act i a v k) = going
front (await i s e) = going
front (emit i e y) = going
front (break i) = broken i
front (ifvar i v p q) = going
front (seq i p q) = going
front (loop i p) = going
front (every i s e p) = going
front (par i o p q) = going
front (fin i p) = going
front (canrun i m) = going
front (at_loop i p q) = going
front (at_par i o p q) = going

-- the step of a part is a step of the whole
unfoldable pub in_part : (Tree → Tree) → Nested → Nested
in_part whole stuck = stuck
in_part whole (moved w t) = moved w (whole t)

-- @nop;q becomes q; break;q becomes break; otherwise the left steps
unfoldable pub seq_step : ℕ → Front → Tree → Nested → Nested
unfolding in_part
seq_step i done q left = moved quiet q
seq_step i (broken b) q left = moved quiet (break b)
seq_step i going q left = in_part (λ p. seq i p q) left

-- @nop @loop q becomes loop q; break @loop q becomes @nop; otherwise the left steps
unfoldable pub loop_step : ℕ → Front → Tree → Nested → Nested
unfolding in_part
loop_step i done q left = moved quiet (loop i q)
loop_step i (broken b) q left = moved quiet (nop i)
loop_step i going q left = in_part (λ p. at_loop i p q) left

-- one side has ended: the other goes on under an and, and is cleared under an or
abbrev pub other_side : Par → Tree → Tree
other_side and t = t
other_side or t = clear t

-- with p blocked: p @and @nop becomes p, p @or @nop clear(p), a break on the right clear(p);break; otherwise the right steps
unfoldable pub right_step : ℕ → Par → Tree → Front → Nested → Nested
unfolding in_part clear
right_step i o p done right = moved quiet (other_side o p)
right_step i o p (broken b) right = moved quiet (seq i (clear p) (break b))
right_step i o p going right = in_part (λ q. at_par i o p q) right

-- @nop @and q becomes q, @nop @or q clear(q), a break on the left clear(q);break; otherwise the left steps, the right only while the left is blocked
unfoldable pub par_step : ℕ → Par → Tree → Tree → Front → Bool → Nested → Nested → Nested
unfolding in_part clear right_step front
par_step i o p q done is_blocked left right = moved quiet (other_side o q)
par_step i o p q (broken b) is_blocked left right = moved quiet (seq i (clear q) (break b))
par_step i o p q going false left right = in_part (λ p'. at_par i o p' q) left
par_step i o p q going true left right = right_step i o p (front q) right

unfoldable pub nested_step : ℕ → Memory → Tree → Nested
unfolding seq_step loop_step par_step front blocked
nested_step n m (nop i) = stuck
nested_step n m (act i a v k) = moved (does a v k) (nop i)
nested_step n m (await i s e) = stuck
nested_step n m (emit i e y) = moved (raises e y) (canrun i n)
nested_step n m (break i) = stuck
nested_step n m (ifvar i v p q) = moved quiet (if is_zero (read m v) then q else p)
nested_step n m (seq i p q) = seq_step i (front p) q (nested_step n m p)
nested_step n m (loop i p) = moved quiet (at_loop i p p)
nested_step n m (every i s e p) = stuck
nested_step n m (par i o p q) = moved quiet (at_par i o p (seq i (canrun i n) q))
nested_step n m (fin i p) = stuck
nested_step n m (canrun i k) = if eqb k n then moved quiet (nop i) else stuck
nested_step n m (at_loop i p q) = loop_step i (front p) q (nested_step n m p)
nested_step n m (at_par i o p q) = par_step i o p q (front p) (blocked n p) (nested_step n m p) (nested_step n m q)

-- ---- descriptions

pub record Event : Type 0 where
  pub source : Source
  pub name : ℕ

abbrev pub input_event : ℕ → Event
input_event e = record { source = input; name = e }

abbrev pub internal_event : ℕ → Event
internal_event e = record { source = internal; name = e }

-- an input event wakes kinds 8 and 15 only, an internal one 9 and 16 only
abbrev pub wakes : Event → ℕ → Source → ℕ → Bool
wakes v i s e = eq_source v.source s && eqb v.name e

-- a tree, a level and a pending event; and the memory
pub record Description : Type 0 where
  pub tree : Tree
  pub level : ℕ
  pub pending : Option Event
  pub memory : Memory

-- level up by 1, awake
abbrev pub push : Event → Description → Description
push v d = record { tree = awake (wakes v) d.tree; level = suc d.level; pending = none; memory = d.memory }

-- level down by 1, to n
abbrev pub pop : ℕ → Description → Description
pop n d = record { tree = d.tree; level = n; pending = none; memory = d.memory }

-- an emit makes its event pending
abbrev pub raised : Deed → Option Event
raised quiet = none
raised (does a v k) = none
raised (raises e y) = some (internal_event e)

abbrev pub nested : Nested → Description → Option Description
nested stuck d = none
nested (moved w t) d = some (record { tree = t; level = d.level; pending = raised w; memory = effect w d.memory })

abbrev pub is_done : Front → Bool
is_done done = true
is_done (broken b) = false
is_done going = false

abbrev pub nop_or_blocked : ℕ → Tree → Bool
nop_or_blocked n t = is_done (front t) || blocked n t

-- no event is pending: at a level above 0 a tree that is @nop or blocked pops; otherwise a nested step
abbrev pub step_at : Description → ℕ → Option Description
step_at d zero = nested (nested_step 0 d.memory d.tree) d
step_at d (suc n) = if nop_or_blocked (suc n) d.tree then some (pop n d) else nested (nested_step (suc n) d.memory d.tree) d

-- the one next description, or none where no rule applies; with an event pending only push applies
unfoldable pub step : Description → Option Description
unfolding nested_step awake blocked front clear effect
step d = option (step_at d d.level) (λ v. some (push v d)) d.pending
