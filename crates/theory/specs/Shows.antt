-- The tree that states stand for: what is live shows, what is idle is not seen.
use Rattle.std.specs.Prelude.{◌≡◌, List, ℕ, ◌+◌, ℤ, get_or}
use Rattle.std.proofs.Common.{◌∙◌}
use Rattle.rules.specs.Tree.{Par, Source, Tree, and, at_loop, at_par, await, canrun, emit, every, fin, ifvar, loop, nop, par, seq}
use Rattle.theory.specs.Frame.{Blank, Same, Laid, part_same, blank-same, leaf-own, stem-own, fork-own, body-part, left-part, right-part}

-- the states l at the places of the program t show the tree u; one side at most of a sequence or an if lives, and while an and or or waits for its turn its right is idle
pub data Shows (l : List ℕ) : Tree → Tree → Type 0 where
  await-waits : {i e : ℕ} {s : Source} → get_or l i 0 ≡ 1 → Shows l (await i s e) (await i s e)
  await-woken : {i e : ℕ} {s : Source} → get_or l i 0 ≡ 2 → Shows l (await i s e) (nop i)
  emit-turn : {i e m : ℕ} {y : ℤ} → get_or l i 0 ≡ m + 3 → Shows l (emit i e y) (canrun i m)
  if-left : {i v : ℕ} {p q u : Tree} → get_or l i 0 ≡ 0 → Shows l p u → Blank l q → Shows l (ifvar i v p q) u
  if-right : {i v : ℕ} {p q u : Tree} → get_or l i 0 ≡ 0 → Blank l p → Shows l q u → Shows l (ifvar i v p q) u
  seq-left : {i : ℕ} {p q u : Tree} → get_or l i 0 ≡ 0 → Shows l p u → Blank l q → Shows l (seq i p q) (seq i u q)
  seq-right : {i : ℕ} {p q u : Tree} → get_or l i 0 ≡ 0 → Blank l p → Shows l q u → Shows l (seq i p q) u
  loop-in : {i : ℕ} {p u : Tree} → get_or l i 0 ≡ 0 → Shows l p u → Shows l (loop i p) (at_loop i u p)
  every-waits : {i e : ℕ} {s : Source} {p : Tree} → get_or l i 0 ≡ 1 → Blank l p → Shows l (every i s e p) (every i s e p)
  every-woken : {i e : ℕ} {s : Source} {p : Tree} → get_or l i 0 ≡ 2 → Blank l p → Shows l (every i s e p) (seq i p (every i s e p))
  fin-waits : {i : ℕ} {p : Tree} → get_or l i 0 ≡ 1 → Blank l p → Shows l (fin i p) (fin i p)
  par-both : {i : ℕ} {c : Par} {p q u v : Tree} → get_or l i 0 ≡ 0 → Shows l p u → Shows l q v → Shows l (par i c p q) (at_par i c u v)
  and_left : {i : ℕ} {p q u : Tree} → get_or l i 0 ≡ 0 → Shows l p u → Blank l q → Shows l (par i and p q) u
  and_right : {i : ℕ} {p q u : Tree} → get_or l i 0 ≡ 0 → Blank l p → Shows l q u → Shows l (par i and p q) u
  par-held : {i m : ℕ} {c : Par} {p q u : Tree} → get_or l i 0 ≡ m + 3 → Shows l p u → Blank l q → Shows l (par i c p q) (at_par i c u (seq i (canrun i m) q))
  and-turn : {i m : ℕ} {p q : Tree} → get_or l i 0 ≡ m + 3 → Blank l p → Blank l q → Shows l (par i and p q) (seq i (canrun i m) q)

-- it depends on t's places only
pub shows_same : {l l' : List ℕ} {t u : Tree} → Laid t → Same t l l' → Shows l t u → Shows l' t u
unfolding Laid
shows_same z s (await-waits {i = i} e) = await-waits (s.same_at i (leaf-own z) ∙ e)
shows_same z s (await-woken {i = i} e) = await-woken (s.same_at i (leaf-own z) ∙ e)
shows_same z s (emit-turn {i = i} e) = emit-turn (s.same_at i (leaf-own z) ∙ e)
shows_same z s (if-left {i = i} e x b) = if-left (s.same_at i (fork-own z.0) ∙ e) (shows_same z.1 (part_same (left-part z.0) s) x) (blank-same (part_same (right-part z.0) s) b)
shows_same z s (if-right {i = i} e b x) = if-right (s.same_at i (fork-own z.0) ∙ e) (blank-same (part_same (left-part z.0) s) b) (shows_same z.2 (part_same (right-part z.0) s) x)
shows_same z s (seq-left {i = i} e x b) = seq-left (s.same_at i (fork-own z.0) ∙ e) (shows_same z.1 (part_same (left-part z.0) s) x) (blank-same (part_same (right-part z.0) s) b)
shows_same z s (seq-right {i = i} e b x) = seq-right (s.same_at i (fork-own z.0) ∙ e) (blank-same (part_same (left-part z.0) s) b) (shows_same z.2 (part_same (right-part z.0) s) x)
shows_same z s (loop-in {i = i} e x) = loop-in (s.same_at i (stem-own z.0) ∙ e) (shows_same z.1 (part_same (body-part z.0) s) x)
shows_same z s (every-waits {i = i} e b) = every-waits (s.same_at i (stem-own z.0) ∙ e) (blank-same (part_same (body-part z.0) s) b)
shows_same z s (every-woken {i = i} e b) = every-woken (s.same_at i (stem-own z.0) ∙ e) (blank-same (part_same (body-part z.0) s) b)
shows_same z s (fin-waits {i = i} e b) = fin-waits (s.same_at i (stem-own z.0) ∙ e) (blank-same (part_same (body-part z.0) s) b)
shows_same z s (par-both {i = i} e x y) = par-both (s.same_at i (fork-own z.0) ∙ e) (shows_same z.1 (part_same (left-part z.0) s) x) (shows_same z.2 (part_same (right-part z.0) s) y)
shows_same z s (and_left {i = i} e x b) = and_left (s.same_at i (fork-own z.0) ∙ e) (shows_same z.1 (part_same (left-part z.0) s) x) (blank-same (part_same (right-part z.0) s) b)
shows_same z s (and_right {i = i} e b x) = and_right (s.same_at i (fork-own z.0) ∙ e) (blank-same (part_same (left-part z.0) s) b) (shows_same z.2 (part_same (right-part z.0) s) x)
shows_same z s (par-held {i = i} e x b) = par-held (s.same_at i (fork-own z.0) ∙ e) (shows_same z.1 (part_same (left-part z.0) s) x) (blank-same (part_same (right-part z.0) s) b)
shows_same z s (and-turn {i = i} e a b) = and-turn (s.same_at i (fork-own z.0) ∙ e) (blank-same (part_same (left-part z.0) s) a) (blank-same (part_same (right-part z.0) s) b)
