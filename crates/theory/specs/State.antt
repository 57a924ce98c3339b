-- The engine's state, one number for each record, and the walks over it, each as the code carries it out.
-- At a record's place: 0 idle, 1 waiting (the mark), 2 woken, 3 + m a @canrun of level m: an emit's own, or that of an and or or whose right has not started.
use Rattle.std.specs.Prelude.{Bool, not, ◌&&◌, ◌||◌, List, ℕ, suc, ℤ, get_or, set, if◌then◌else◌}
use Rattle.std.proofs.Math.Bool.{true, false}
use Rattle.std.proofs.Math.Dec.{eqb}
use Rattle.rules.specs.Number.{is_zero}
use Rattle.rules.specs.Tree.{Act, Par, Source, Tree, act, and, at_loop, at_par, await, break, canrun, emit, every, fin, ifvar, loop, nop, or, par, seq}
use Rattle.rules.specs.Memory.{Memory, does, effect, raises, read}

-- ---- the memory, and how a walk ended

-- what a walk asks of a memory, whatever it is
pub record Ops (M : Type 0) : Type 0 where
  pub tick : M → M  -- one step more
  pub acts : Act → ℕ → ℤ → M → M  -- kinds 1 to 7: name, number
  pub rings : ℕ → ℤ → M → M  -- what an emit does itself: event, number
  pub test : ℕ → M → Bool  -- the variable is not 0

-- the memory of the rules, and the steps
pub record Counted : Type 0 where
  pub memory : Memory
  pub steps : ℕ

abbrev pub counted : Memory → ℕ → Counted
counted m s = record { memory = m; steps = s }

abbrev pub counting : Ops Counted
counting = record {
  tick = λ c. counted c.memory (suc c.steps);
  acts = λ a v k c. counted (effect (does a v k) c.memory) c.steps;
  rings = λ e y c. counted (effect (raises e y) c.memory) c.steps;
  test = λ v c. not (is_zero (read c.memory v));
}

-- nothing lived there; it has ended, broken, is blocked, or has an event pending
pub data How : Type 0 where
  idle ended broke waiting : How
  ringing : ℕ → How

pub record Walk (M : Type 0) : Type 0 where
  pub how : How
  pub states : List ℕ
  pub memory : M

abbrev pub walk : {M : Type 0} → How → List ℕ → M → Walk M
walk h l m = record { how = h; states = l; memory = m }

-- a clear: did anything live?
pub record Swept (M : Type 0) : Type 0 where
  pub lived : Bool
  pub states : List ℕ
  pub memory : M

abbrev pub swept : {M : Type 0} → Bool → List ℕ → M → Swept M
swept b l m = record { lived = b; states = l; memory = m }

-- what runs after a part
abbrev pub Then : Type 0 → Type 0
Then M = List ℕ → M → Walk M

module _ {M : Type 0} (o : Ops M) where
  -- ---- clear

  -- a plain tree (kinds 0 to 7, 12, 13) runs to its end
  unfoldable pub settle : Tree → M → M
  settle (nop i) m = m
  settle (act i a v k) m = o.tick (o.acts a v k m)
  settle (await i s e) m = m
  settle (emit i e y) m = m
  settle (break i) m = m
  settle (ifvar i v p q) m = if o.test v m then settle p (o.tick m) else settle q (o.tick m)
  settle (seq i p q) m = settle q (o.tick (settle p m))
  settle (loop i p) m = m
  settle (every i s e p) m = m
  settle (par i c p q) m = m
  settle (fin i p) m = m
  settle (canrun i k) m = m
  settle (at_loop i p q) m = m
  settle (at_par i c p q) m = m

  abbrev pub tick_if : Bool → M → M
  tick_if true m = o.tick m
  tick_if false m = m

  -- a record with no fin below it
  abbrev pub sweep_own : ℕ → List ℕ → M → Swept M
  sweep_own i l m = swept (not (eqb (get_or l i 0) 0)) (set l i 0) m

  -- one side lives at most
  abbrev pub sweep_either : Swept M → (List ℕ → M → Swept M) → Swept M
  sweep_either r right = if r.lived then r else right r.states r.memory

  -- after the left: the and or or had not started its right, or had
  abbrev pub sweep_held : Swept M → Swept M
  sweep_held r = swept true r.states (tick_if r.lived r.memory)

  abbrev pub sweep_both : Swept M → Swept M → Swept M
  sweep_both r s = swept (r.lived || s.lived) s.states (tick_if (r.lived && s.lived) s.memory)

  -- the fin bodies of what lives run, left before right, and all is idle
  unfoldable pub sweep : Tree → List ℕ → M → Swept M
  unfolding settle
  sweep (nop i) l m = sweep_own i l m
  sweep (act i a v k) l m = sweep_own i l m
  sweep (await i s e) l m = sweep_own i l m
  sweep (emit i e y) l m = sweep_own i l m
  sweep (break i) l m = sweep_own i l m
  sweep (ifvar i v p q) l m = sweep_either (sweep p l m) (sweep q)
  sweep (seq i p q) l m = sweep_either (sweep p l m) (sweep q)
  sweep (loop i p) l m = sweep p l m
  sweep (every i s e p) l m = sweep_own i l m
  sweep (par i c p q) l m = let r = sweep p (set l i 0) m in if eqb (get_or l i 0) 0 then sweep_both r (sweep q r.states r.memory) else sweep_held r
  sweep (fin i p) l m = if eqb (get_or l i 0) 0 then swept false l m else swept true (set l i 0) (settle p m)
  sweep (canrun i k) l m = sweep_own i l m
  sweep (at_loop i p q) l m = sweep_own i l m
  sweep (at_par i c p q) l m = sweep_own i l m

  -- ---- a fresh tree, by the fate of its left; n is the state of a turn at this level

  abbrev pub exec_seq : How → Walk M → Then M → Walk M
  exec_seq idle r right = r
  exec_seq ended r right = right r.states (o.tick r.memory)
  exec_seq broke r right = walk broke r.states (o.tick r.memory)
  exec_seq waiting r right = r
  exec_seq (ringing e) r right = r

  -- the body of an accepted loop does not end at once
  abbrev pub exec_loop : How → Walk M → Walk M
  exec_loop idle r = r
  exec_loop ended r = walk waiting r.states r.memory
  exec_loop broke r = walk ended r.states (o.tick r.memory)
  exec_loop waiting r = r
  exec_loop (ringing e) r = r

  -- after the right of an and or or whose left, p, is blocked
  abbrev pub after_right : Par → Tree → How → Walk M → Walk M
  after_right c p idle r = walk waiting r.states r.memory
  after_right and p ended r = walk waiting r.states (o.tick r.memory)
  after_right or p ended r = let s = sweep p r.states (o.tick r.memory) in walk ended s.states s.memory
  after_right c p broke r = let s = sweep p r.states (o.tick r.memory) in walk broke s.states (o.tick s.memory)
  after_right c p waiting r = r
  after_right c p (ringing e) r = r

  abbrev pub then_right : Par → Tree → Walk M → Walk M
  then_right c p r = after_right c p r.how r

  abbrev pub exec_par : ℕ → ℕ → Par → Tree → How → Walk M → Then M → Walk M
  exec_par n i c p idle r right = r
  exec_par n i and p ended r right = right r.states (o.tick (o.tick (o.tick r.memory)))
  exec_par n i or p ended r right = walk ended r.states (o.tick r.memory)
  exec_par n i c p broke r right = walk broke r.states (o.tick (o.tick r.memory))
  exec_par n i c p waiting r right = then_right c p (right r.states (o.tick (o.tick r.memory)))
  exec_par n i c p (ringing e) r right = walk (ringing e) (set r.states i n) r.memory

  unfoldable pub exec : ℕ → Tree → List ℕ → M → Walk M
  unfolding sweep
  exec n (nop i) l m = walk ended l m
  exec n (act i a v k) l m = walk ended l (o.tick (o.acts a v k m))
  exec n (await i s e) l m = walk waiting (set l i 1) m
  exec n (emit i e y) l m = walk (ringing e) (set l i n) (o.tick (o.rings e y m))
  exec n (break i) l m = walk broke l m
  exec n (ifvar i v p q) l m = if o.test v m then exec n p l (o.tick m) else exec n q l (o.tick m)
  exec n (seq i p q) l m = let r = exec n p l m in exec_seq r.how r (exec n q)
  exec n (loop i p) l m = let r = exec n p l (o.tick m) in exec_loop r.how r
  exec n (every i s e p) l m = walk waiting (set l i 1) m
  exec n (par i c p q) l m = let r = exec n p l (o.tick m) in exec_par n i c p r.how r (exec n q)
  exec n (fin i p) l m = walk waiting (set l i 1) m
  exec n (canrun i k) l m = walk waiting (set l i 1) m
  exec n (at_loop i p q) l m = walk waiting (set l i 1) m
  exec n (at_par i c p q) l m = walk waiting (set l i 1) m

  -- ---- a tree that has begun; one that has not answers idle, and nothing changes

  abbrev pub resume_await : ℕ → List ℕ → M → Walk M
  resume_await i l m = if eqb (get_or l i 0) 0 then walk idle l m else (if eqb (get_or l i 0) 2 then walk ended (set l i 0) m else walk waiting l m)

  abbrev pub resume_fin : ℕ → List ℕ → M → Walk M
  resume_fin i l m = if eqb (get_or l i 0) 0 then walk idle l m else walk waiting l m

  abbrev pub resume_every : Tree → ℕ → List ℕ → M → Walk M
  resume_every p i l m = if eqb (get_or l i 0) 0 then walk idle l m else (if eqb (get_or l i 0) 2 then walk waiting (set l i 1) (o.tick (settle p m)) else walk waiting l m)

  abbrev pub resume_emit : ℕ → ℕ → List ℕ → M → Walk M
  resume_emit n i l m = if eqb (get_or l i 0) 0 then walk idle l m else (if eqb (get_or l i 0) n then walk ended (set l i 0) (o.tick m) else walk waiting l m)

  -- by the fate of the left; `right` resumes the right, `fresh` begins it
  abbrev pub resume_if : How → Walk M → Then M → Walk M
  resume_if idle r right = right r.states r.memory
  resume_if ended r right = r
  resume_if broke r right = r
  resume_if waiting r right = r
  resume_if (ringing e) r right = r

  abbrev pub resume_seq : How → Walk M → Then M → Then M → Walk M
  resume_seq idle r right fresh = right r.states r.memory
  resume_seq ended r right fresh = fresh r.states (o.tick r.memory)
  resume_seq broke r right fresh = walk broke r.states (o.tick r.memory)
  resume_seq waiting r right fresh = r
  resume_seq (ringing e) r right fresh = r

  abbrev pub resume_loop : How → Walk M → Then M → Walk M
  resume_loop idle r fresh = r
  resume_loop ended r fresh = let s = fresh r.states (o.tick (o.tick r.memory)) in exec_loop s.how s
  resume_loop broke r fresh = walk ended r.states (o.tick r.memory)
  resume_loop waiting r fresh = r
  resume_loop (ringing e) r fresh = r

  -- the right of an and or or that waits for its turn at place i
  abbrev pub take_turn : ℕ → ℕ → Then M → List ℕ → M → Walk M
  take_turn n i fresh l m = if eqb (get_or l i 0) n then fresh (set l i 0) (o.tick (o.tick m)) else walk waiting l m

  -- the right of an and whose left has ended
  abbrev pub right_alone : How → Walk M → Walk M
  right_alone idle r = walk ended r.states r.memory
  right_alone ended r = walk ended r.states (o.tick r.memory)
  right_alone broke r = walk broke r.states (o.tick r.memory)
  right_alone waiting r = walk waiting r.states (o.tick r.memory)
  right_alone (ringing e) r = walk (ringing e) r.states (o.tick r.memory)

  -- an and or or of parts p and q whose right has started, by the fate of its left
  abbrev pub resume_both : Par → Tree → Tree → How → Walk M → Then M → Walk M
  resume_both c p q idle r right = right r.states r.memory
  resume_both and p q ended r right = let s = right r.states r.memory in right_alone s.how s
  resume_both or p q ended r right = let s = sweep q r.states r.memory in walk ended s.states (tick_if s.lived s.memory)
  resume_both c p q broke r right = let s = sweep q r.states r.memory in walk broke s.states (tick_if s.lived (tick_if s.lived s.memory))
  resume_both c p q waiting r right = then_right c p (right r.states r.memory)
  resume_both c p q (ringing e) r right = r

  -- one whose right has not
  abbrev pub resume_held : ℕ → ℕ → Par → Tree → How → Walk M → Then M → Walk M
  resume_held n i c p idle r fresh = take_turn n i fresh r.states r.memory
  resume_held n i and p ended r fresh = take_turn n i fresh r.states (o.tick r.memory)
  resume_held n i or p ended r fresh = walk ended (set r.states i 0) (o.tick r.memory)
  resume_held n i c p broke r fresh = walk broke (set r.states i 0) (o.tick (o.tick r.memory))
  resume_held n i c p waiting r fresh = then_right c p (take_turn n i fresh r.states r.memory)
  resume_held n i c p (ringing e) r fresh = r

  unfoldable pub resume : ℕ → Tree → List ℕ → M → Walk M
  unfolding settle sweep exec
  resume n (nop i) l m = walk idle l m
  resume n (act i a v k) l m = walk idle l m
  resume n (await i s e) l m = resume_await i l m
  resume n (emit i e y) l m = resume_emit n i l m
  resume n (break i) l m = walk idle l m
  resume n (ifvar i v p q) l m = let r = resume n p l m in resume_if r.how r (resume n q)
  resume n (seq i p q) l m = let r = resume n p l m in resume_seq r.how r (resume n q) (exec n q)
  resume n (loop i p) l m = let r = resume n p l m in resume_loop r.how r (exec n p)
  resume n (every i s e p) l m = resume_every p i l m
  resume n (par i c p q) l m = let r = resume n p l m in if eqb (get_or l i 0) 0 then resume_both c p q r.how r (resume n q) else resume_held n i c p r.how r (exec n q)
  resume n (fin i p) l m = resume_fin i l m
  resume n (canrun i k) l m = walk idle l m
  resume n (at_loop i p q) l m = walk idle l m
  resume n (at_par i c p q) l m = walk idle l m

-- ---- awake and blocked

abbrev pub wake_at : Bool → ℕ → List ℕ → List ℕ
wake_at true i l = if eqb (get_or l i 0) 1 then set l i 2 else l
wake_at false i l = l

-- the waiting awaits and everys that a test of place, source and event names are woken
unfoldable pub awake : (ℕ → Source → ℕ → Bool) → Tree → List ℕ → List ℕ
awake w (nop i) l = l
awake w (act i a v k) l = l
awake w (await i s e) l = wake_at (w i s e) i l
awake w (emit i e y) l = l
awake w (break i) l = l
awake w (ifvar i v p q) l = awake w q (awake w p l)
awake w (seq i p q) l = awake w q (awake w p l)
awake w (loop i p) l = awake w p l
awake w (every i s e p) l = wake_at (w i s e) i l
awake w (par i c p q) l = awake w q (awake w p l)
awake w (fin i p) l = l
awake w (canrun i k) l = l
awake w (at_loop i p q) l = l
awake w (at_par i c p q) l = l

-- neither woken nor a turn at this level
abbrev pub still_at : ℕ → ℕ → Bool
still_at n s = not (eqb s 2) && not (eqb s n)

-- blocked, or nothing lives
unfoldable pub still : ℕ → Tree → List ℕ → Bool
still n (nop i) l = still_at n (get_or l i 0)
still n (act i a v k) l = still_at n (get_or l i 0)
still n (await i s e) l = still_at n (get_or l i 0)
still n (emit i e y) l = still_at n (get_or l i 0)
still n (break i) l = still_at n (get_or l i 0)
still n (ifvar i v p q) l = still_at n (get_or l i 0) && still n p l && still n q l
still n (seq i p q) l = still_at n (get_or l i 0) && still n p l && still n q l
still n (loop i p) l = still_at n (get_or l i 0) && still n p l
still n (every i s e p) l = still_at n (get_or l i 0)
still n (par i c p q) l = still_at n (get_or l i 0) && still n p l && still n q l
still n (fin i p) l = still_at n (get_or l i 0)
still n (canrun i k) l = still_at n (get_or l i 0)
still n (at_loop i p q) l = still_at n (get_or l i 0)
still n (at_par i c p q) l = still_at n (get_or l i 0)
