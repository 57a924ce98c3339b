-- Awake at the tree of a place, by the kind of its record; and what hears an event, by its kind.
-- Assumes nothing.
use Rattle.std.proofs.Common.{Bool, ◌≡◌, refl, ℕ, ◌+◌, List, true, false, ◌&&◌, eqb, ◌≤◌, ◌<◌, ◌⊎◌, inl, inr, arith, ne_eqb, sym, subst, zero, suc, if◌then◌else◌}
use borrow.Author.Tests.{eqb-true}
use Rattle.rules.specs.Tree.{Tree, act_kind, eq_source}
use Rattle.rules.specs.Table.{kind_at, name_at, number_at, second_at, span_at}
use Rattle.rules.specs.Step.{wakes}
use Rattle.theory.specs.Logic.{◌also◌}
use Rattle.theory.specs.State.{wake_at, awake}
use Rattle.table.specs.Kinds.{row_of, children_of}
use Rattle.table.specs.Named.{source_of, kind_number}
use Rattle.table.specs.Places.{Place, tree_of}
use Rattle.table.specs.declared.kind.Source.{Source}
use Rattle.table.specs.declared.kind.Source.TheVariants.{Input, Internal}
use Rattle.table.specs.declared.kind.Par.TheVariants.{And, Or}
use Rattle.table.specs.declared.kind.Kind.{Kind}
use Rattle.table.specs.declared.kind.Kind.TheVariants as kind
use Rattle.memory.specs.declared.act.Act.{Act}
use Rattle.memory.specs.declared.act.Act.TheVariants.{Assign, Increase, Copy, Subtract, Compare, Divide, Output}
use Rattle.memory.specs.Acts.{act_of}
use Rattle.table.proofs.Counting.{Each}
use Rattle.table.proofs.Places.{children-from, span_pos, down-place, down-falls, next_place, next-falls}
use Rattle.table.proofs.Trees.{by_kind}
use Rattle.walks.specs.Walks.{event_from, waits, hears}

-- the states once what waits for the event at place i and below is woken
abbrev pub woken : List ℕ → Source → ℕ → ℕ → List ℕ → List ℕ
woken b x e i l = awake (wakes (event_from x e)) (tree_of b i) l

-- the same of the record alone
abbrev pub woken_at : List ℕ → Source → ℕ → ℕ → List ℕ → List ℕ
woken_at b x e i l = wake_at (hears (kind_at b i) (name_at b i) x e) i l

-- two children, the body of a loop, or the record itself
pub awake-record : (b : List ℕ) (i : ℕ) → Place b i → (l : List ℕ) (x : Source) (e : ℕ) → woken b x e i l ≡ (
    if eqb (children_of (kind_at b i)) 2
    then woken b x e (second_at b i) (woken b x e (i + 1) l)
    else if eqb (kind_at b i) 14 then woken b x e (i + 1) l else woken_at b x e i l
    )
unfolding awake children_of waits hears
awake-record b i p l x e = by_kind b i p (Goal x) (go x)
  where
    Goal : Source → ℕ → Tree → Type 0
    Goal x k t = awake (wakes (event_from x e)) t l ≡ (
        if eqb (children_of k) 2
        then woken b x e (second_at b i) (woken b x e (i + 1) l)
        else if eqb k 14 then woken b x e (i + 1) l else wake_at (hears k (name_at b i) x e) i l
        )

    go : (x : Source) → Each (λ k. Goal x k ((row_of k).make i (name_at b i) (number_at b i) (tree_of b (i + 1)) (tree_of b (second_at b i)))) 0 20
    go Input = refl also refl also refl also refl also refl also refl also refl also refl also refl also refl also refl also refl also refl also refl also refl also refl also refl also refl also refl also refl also tt
    go Internal = refl also refl also refl also refl also refl also refl also refl also refl also refl also refl also refl also refl also refl also refl also refl also refl also refl also refl also refl also refl also tt

pub loop-down : (k : ℕ) → k ≡ 14 → 1 ≤ children_of k
loop-down k e = children-from 14 e tt

-- what holds of the states before and after each record of a part is woken alone, and of two such steps in a row, holds of the part
module _ (b : List ℕ) (x : Source) (e : ℕ) (R : List ℕ → List ℕ → Type 0) (join : (l m n : List ℕ) → R l m → R m n → R l n) where
  abbrev Each_one : ℕ → Type 0
  Each_one i = (j : ℕ) → i ≤ j → j < i + span_at b i → (l : List ℕ) → R l (woken_at b x e j l)

  one-node : (i : ℕ) → Place b i → (l : List ℕ) → R l (woken_at b x e i l) → (1 ≤ children_of (kind_at b i) → (l : List ℕ) → R l (woken b x e (i + 1) l)) → (2 ≤ children_of (kind_at b i) → (l : List ℕ) → R l (woken b x e (second_at b i) l)) → R l (woken b x e i l)
  one-node i p l own down next = subst (R l) (sym (awake-record b i p l x e)) (go (eqb (children_of (kind_at b i)) 2) refl (eqb (kind_at b i) 14) refl)
    where
      go : (y : Bool) → eqb (children_of (kind_at b i)) 2 ≡ y → (z : Bool) → eqb (kind_at b i) 14 ≡ z →
          R l (if y then woken b x e (second_at b i) (woken b x e (i + 1) l) else if z then woken b x e (i + 1) l else woken_at b x e i l)
      go true y z w = let c = eqb-true (children_of (kind_at b i)) 2 y in join l (woken b x e (i + 1) l) (woken b x e (second_at b i) (woken b x e (i + 1) l)) (down (omega arith) l) (next (omega arith) (woken b x e (i + 1) l))
      go false y true w = down (loop-down (kind_at b i) (eqb-true (kind_at b i) 14 w)) l
      go false y false w = own

  along : (f i : ℕ) (p : Place b i) → span_at b i ≤ f → Each_one i → (l : List ℕ) → R l (woken b x e i l)
  along zero i p h g l = absurd (omega (arith, span_pos b i p))
  along (suc f) i p h g l =
      one-node i p l (g i (omega arith) (omega (arith, span_pos b i p)) l)
      (λ c. along f (i + 1) (down-place b i p c) (omega (arith, down-falls b i p c)) (λ k y z. g k (omega arith) (omega (arith, down-falls b i p c))))
      (λ c. along f (second_at b i) (next_place b i p c) (omega (arith, next-falls b i p c)) (λ k y z. g k (omega arith) (omega (arith, next-falls b i p c))))

  pub woken-along : (i : ℕ) (p : Place b i) → Each_one i → (l : List ℕ) → R l (woken b x e i l)
  woken-along i p = along (span_at b i) i p (omega arith)

-- ---- what hears an event, by its kind

pub hears_none : (n : ℕ) → (8 ≤ n → 10 ≤ n) → (15 ≤ n → 17 ≤ n) → (v : ℕ) (x : Source) (e : ℕ) → hears n v x e ≡ false
unfolding hears waits
hears_none n f g v Input e = rw (ne_eqb n 8 (λ h. omega arith), ne_eqb n 15 (λ h. omega arith))
hears_none n f g v Internal e = rw (ne_eqb n 9 (λ h. omega arith), ne_eqb n 16 (λ h. omega arith))

pub act-most : (a : Act) → act_kind (act_of a) < 8
act-most Assign = omega arith
act-most Increase = omega arith
act-most Copy = omega arith
act-most Subtract = omega arith
act-most Compare = omega arith
act-most Divide = omega arith
act-most Output = omega arith

pub hears-other : (k : Kind) → ((t : Source) → k ≡ kind.Await t → ⊥) → ((t : Source) → k ≡ kind.Every t → ⊥) → (v : ℕ) (x : Source) (e : ℕ) → hears (kind_number k) v x e ≡ false
hears-other kind.Nothing a b = hears_none 0 (λ h. omega arith) (λ h. omega arith)
hears-other (kind.Act c) a b = hears_none (act_kind (act_of c)) (λ h. omega (arith, act-most c)) (λ h. omega (arith, act-most c))
hears-other (kind.Await t) a b = absurd (a t refl)
hears-other kind.Emit a b = hears_none 10 (λ h. omega arith) (λ h. omega arith)
hears-other kind.Break a b = hears_none 11 (λ h. omega arith) (λ h. omega arith)
hears-other kind.If a b = hears_none 12 (λ h. omega arith) (λ h. omega arith)
hears-other kind.Sequence a b = hears_none 13 (λ h. omega arith) (λ h. omega arith)
hears-other kind.Loop a b = hears_none 14 (λ h. omega arith) (λ h. omega arith)
hears-other (kind.Every t) a b = absurd (b t refl)
hears-other (kind.Par And) a b = hears_none 17 (λ h. omega arith) (λ h. omega arith)
hears-other (kind.Par Or) a b = hears_none 18 (λ h. omega arith) (λ h. omega arith)
hears-other kind.Fin a b = hears_none 19 (λ h. omega arith) (λ h. omega arith)

pub hears-awaited : (k : Kind) (t : Source) → (k ≡ kind.Await t) ⊎ (k ≡ kind.Every t) → (v : ℕ) (x : Source) (e : ℕ) → hears (kind_number k) v x e ≡ (eq_source (source_of t) (source_of x) && eqb e v)
unfolding hears waits
hears-awaited k Input (inl q) v Input e = rw q
hears-awaited k Input (inl q) v Internal e = rw q
hears-awaited k Internal (inl q) v Input e = rw q
hears-awaited k Internal (inl q) v Internal e = rw q
hears-awaited k Input (inr q) v Input e = rw q
hears-awaited k Input (inr q) v Internal e = rw q
hears-awaited k Internal (inr q) v Input e = rw q
hears-awaited k Internal (inr q) v Internal e = rw q
