-- The way down: at each step the part runs alone, and so the whole program waits, rings or is blocked where the part at its end is.
-- Assumes nothing.
use mathlib.Core.Path.{◌≡◌, refl, sym, ap, ◌∙◌}
use mathlib.Core.Bool.{Bool, true, false}
use mathlib.Core.List.{List}
use mathlib.Core.Logic.{◌⊎◌, inl, inr}
use Prim.Native.Nat.{ℕ, ◌+◌, ◌-◌, ◌≤◌, ◌<◌}
use native.Mathlib.Omega.{arith}
use lib.Dec.{eqb, ltb}
use lib.ListN.{length, get_or, get_or-eq_default, drop}
use Rattle.std.specs.Prelude.{slice_range}
use Rattle.std.proofs.lemmas.List.{get_or-take, get_or-drop, length-take, length-drop}
use Rattle.std.proofs.lemmas.List.Folds.{list_all_at}
use borrow.Author.Tests.{eqb-true, eqb-false, lt-ltb, le-ltb, ltb-true, ltb-false}
use Rattle.rules.specs.Tree.{Tree, Par, by_par, and, or, ifvar, seq, par}
use Rattle.rules.specs.Table.{kind_at, name_at, span_at, second_at, records_of}
use Rattle.theory.specs.Logic.{◌also◌}
use Rattle.theory.specs.State.{idle, walk, resume, still_at, still}
use Rattle.theory.specs.Frame.{Blank}
use Rattle.theory.specs.Resume.{idle-resume}
use Rattle.theory.specs.Still.{all-still}
use Rattle.theory.specs.Part.{Only, loop-body, left-of-if, right-of-if, left-of-seq, right-of-seq, left-of-par, right-of-par}
use Rattle.table.specs.Kinds.{children_of}
use Rattle.table.specs.Named.{kind_number, children}
use Rattle.table.specs.declared.kind.Par as code
use Rattle.table.specs.declared.kind.Kind.{Kind}
use Rattle.table.specs.declared.kind.Kind.TheVariants as kind
use Rattle.table.specs.Places.{Place, tree_of}
use Rattle.table.proofs.Places.{children-from, root-span, span-for, span_pos, down-place, next_place}
use Rattle.table.proofs.Trees.{by_kind, tree-kind, tree-span, span-inside}
use Rattle.table.proofs.Laid.{place_at, laid-at}
use Rattle.memory.specs.Arrays.{Arrays}
use Rattle.walks.specs.Walks.{array_ops}
use Rattle.walks.specs.declared.part.Reach.{Reach}
use Rattle.walks.specs.Listening.{Within, the-body, the-left, the-right}
use Rattle.engine.specs.Parts.{idling, right_free, Runs, Step, Way, Path}

-- ---- states, one after the other

-- a place is the first of those from i on, or behind it
first-or-behind : (k i : ℕ) → i ≤ k → {P : Type 0} → (k ≡ i → P) → (i + 1 ≤ k → P) → P
first-or-behind k i h {P} x y = go (eqb k i) refl
  where
    go : (z : Bool) → eqb k i ≡ z → P
    go true e = x (eqb-true k i e)
    go false e = y (omega (arith, eqb-false k i e))

-- a state at one of these places is idle
idle-at : (l : List ℕ) (a b : ℕ) → idling l a b ≡ true → (k : ℕ) → a ≤ k → k < b → get_or l k 0 ≡ 0
idle-at l a b e k h g = go (eqb (get_or l k 0) 0) refl
  where
    d : ℕ
    d = k - a

    here : get_or (slice_range l a b) d 0 ≡ get_or l k 0
    here = let q : a + d ≡ k = omega arith in get_or-take (b - a) (drop a l) d 0 (omega arith) ∙ get_or-drop a l d 0 ∙ ap (λ (j : ℕ). get_or l j 0) q

    go : (x : Bool) → eqb (get_or l k 0) 0 ≡ x → get_or l k 0 ≡ 0
    go true f = eqb-true (get_or l k 0) 0 f
    go false f = beyond (ltb k (length l)) refl
      where
        beyond : (x : Bool) → ltb k (length l) ≡ x → get_or l k 0 ≡ 0
        beyond true q =
            let z : true ≡ false = sym e ∙ list_all_at (λ s. eqb s 0) (slice_range l a b) d 0 (omega (arith, ltb-true k (length l) q, length-take (b - a) (drop a l), length-drop a l)) (rw here f) in cc
        beyond false q = get_or-eq_default l 0 (ltb-false k (length l) q)

-- from place a on, and before b, all states rest at this level
pub record Rest (n : ℕ) (l : List ℕ) (a b : ℕ) : Type 0 where
  still-at : (k : ℕ) → a ≤ k → k < b → still_at n (get_or l k 0) ≡ true

-- ---- constructs with two parts

data Pair (b : List ℕ) (i : ℕ) : Tree → Type 0 where
  pair-if : kind_at b i ≡ 12 → Pair b i (ifvar i (name_at b i) (tree_of b (i + 1)) (tree_of b (second_at b i)))
  pair-seq : kind_at b i ≡ 13 → Pair b i (seq i (tree_of b (i + 1)) (tree_of b (second_at b i)))
  pair-par : (o : Par) → kind_at b i ≡ by_par o 17 → Pair b i (par i o (tree_of b (i + 1)) (tree_of b (second_at b i)))

none : {P : Type 0} → ◌≡◌ {A = ℕ} 0 2 → P
none e = absurd (omega arith)

one : {P : Type 0} → ◌≡◌ {A = ℕ} 1 2 → P
one e = absurd (omega arith)

pair-at : (b : List ℕ) (i : ℕ) → Place b i → children_of (kind_at b i) ≡ 2 → Pair b i (tree_of b i)
unfolding children_of
pair-at b i p =
    by_kind b i p (λ k t. kind_at b i ≡ k → children_of k ≡ 2 → Pair b i t) (
    (λ e. none) also
    (λ e. none) also
    (λ e. none) also
    (λ e. none) also
    (λ e. none) also
    (λ e. none) also
    (λ e. none) also
    (λ e. none) also
    (λ e. none) also
    (λ e. none) also
    (λ e. none) also
    (λ e. none) also
    (λ e c. pair-if e) also
    (λ e c. pair-seq e) also
    (λ e. one) also
    (λ e. one) also
    (λ e. one) also
    (λ e c. pair-par and e) also
    (λ e c. pair-par or e) also
    (λ e. one) also
    tt
    )
    refl

-- a construct with two parts that is no and or or
pub either-kind : (k : Kind) → 2 ≤ children k → ((o : code.Par) → k ≡ kind.Par o → ⊥) → kind_number k < 17
either-kind kind.Nothing h n = absurd (omega arith)
either-kind (kind.Act a) h n = absurd (omega arith)
either-kind (kind.Await s) h n = absurd (omega arith)
either-kind kind.Emit h n = absurd (omega arith)
either-kind kind.Break h n = absurd (omega arith)
either-kind kind.If h n = omega arith
either-kind kind.Sequence h n = omega arith
either-kind kind.Loop h n = absurd (omega arith)
either-kind (kind.Every s) h n = absurd (omega arith)
either-kind (kind.Par o) h n = absurd (n o refl)
either-kind kind.Fin h n = absurd (omega arith)

-- ---- the part of a construct

-- one that is not the first has a left beside it
pub right-sides : (b : List ℕ) (i : ℕ) {r : Reach} {k : ℕ} → Within b i r k → (k ≡ i + 1 → ⊥) → 2 ≤ children_of (kind_at b i)
right-sides b i (the-body e) n = absurd (n refl)
right-sides b i (the-left c g) n = absurd (n refl)
right-sides b i (the-right c g) n = omega arith

module _ (b l : List ℕ) where
  pub rests-still : (n i : ℕ) → Place b i → Rest n l i (i + span_at b i) → still n (tree_of b i) l ≡ true
  rests-still n i p f = all-still n (tree_of b i) l (laid-at b i p) (λ j h. f.still-at j (omega (arith, h.above, place_at b i p)) (omega (arith, h.below, place_at b i p, tree-span b i p)))

  pub idle-blank : (i j : ℕ) → Place b i → j ≡ i + span_at b i → idling l i j ≡ true → Blank l (tree_of b i)
  idle-blank i e p q f = record { zero-at = λ j h. idle-at l i e f j (omega (arith, h.above, place_at b i p)) (omega (arith, h.below, place_at b i p, tree-span b i p)) }

  -- a construct where nothing lives is idle
  pub idle-walk : (i : ℕ) → Place b i → idling l i (i + span_at b i) ≡ true → (n : ℕ) (m : Arrays) → resume array_ops n (tree_of b i) l m ≡ walk idle l m
  idle-walk i p f n m = idle-resume array_ops n (tree_of b i) l m (laid-at b i p) (idle-blank i (i + span_at b i) p refl f)

  -- and so is a record without children whose state is idle
  pub idle-leaf : (i : ℕ) → Place b i → children_of (kind_at b i) ≡ 0 → get_or l i 0 ≡ 0 → (n : ℕ) (m : Arrays) → resume array_ops n (tree_of b i) l m ≡ walk idle l m
  idle-leaf i p c e n m = idle-resume array_ops n (tree_of b i) l m (laid-at b i p) record { zero-at = λ j h. let o : j ≡ i = omega (arith, h.above, h.below, place_at b i p, tree-span b i p, one-span) in rw o e }
    where
      one-span : span_at b i ≡ 1
      one-span = rw c at (span-for b i p)

  module _ (reach : Reach) (i : ℕ) (p : Place b i) (above : i < reach.from) where
    module _ (n : ℕ) (r : Runs b n l reach) where
      own : still_at n (get_or l i 0) ≡ true
      own = r.before i above p.inside

      right-still : (c : 2 ≤ children_of (kind_at b i)) → reach.to ≤ second_at b i → still n (tree_of b (second_at b i)) l ≡ true
      right-still c h = let q = next_place b i p c in rests-still n (second_at b i) q record { still-at = λ k x y. r.behind k (omega arith) (omega (arith, span-inside b (second_at b i) q)) }

      left-still : (c : 2 ≤ children_of (kind_at b i)) → second_at b i ≤ reach.from → still n (tree_of b (i + 1)) l ≡ true
      left-still c h = rests-still n (i + 1) (down-place b i p (omega arith)) record { still-at = λ k x y. r.before k (omega arith) (omega (arith, (next_place b i p c).inside)) }

      only-left : children_of (kind_at b i) ≡ 2 → reach.to ≤ second_at b i → Only n l (tree_of b i) (tree_of b (i + 1))
      only-left c h = go (pair-at b i p c)
        where
          q : still n (tree_of b (second_at b i)) l ≡ true
          q = right-still (omega arith) h

          go : {x : Tree} → Pair b i x → Only n l x (tree_of b (i + 1))
          go (pair-if e) = left-of-if own q
          go (pair-seq e) = left-of-seq own q
          go (pair-par o e) = left-of-par own q

      only-body : kind_at b i ≡ 14 → Only n l (tree_of b i) (tree_of b (i + 1))
      only-body e = rw (tree-kind b i p 14 e) (loop-body own)

      only-right : children_of (kind_at b i) ≡ 2 → second_at b i ≤ reach.from → right_free b l i (second_at b i) ≡ true → Only n l (tree_of b i) (tree_of b (second_at b i))
      unfolding right_free
      only-right c h f = go (pair-at b i p c)
        where
          q : still n (tree_of b (i + 1)) l ≡ true
          q = left-still (omega arith) h

          blank : kind_at b i < 17 → Blank l (tree_of b (i + 1))
          blank g = idle-blank (i + 1) (second_at b i) (down-place b i p (omega arith)) refl (rw (lt-ltb (kind_at b i) 17 g) at f)

          free : 17 ≤ kind_at b i → get_or l i 0 ≡ 0
          free g = eqb-true (get_or l i 0) 0 (rw (le-ltb (kind_at b i) 17 g) at f)

          go : {x : Tree} → Pair b i x → Only n l x (tree_of b (second_at b i))
          go (pair-if e) = right-of-if own (blank (omega arith)) q
          go (pair-seq e) = right-of-seq own (blank (omega arith)) q
          go (pair-par and e) = right-of-par own (free (omega arith)) q
          go (pair-par or e) = right-of-par own (free (omega arith)) q

    -- the part is the first, or its right may run alone
    pub part_step : {k : ℕ} → Within b i reach k → (k ≡ i + 1) ⊎ (right_free b l i k ≡ true) → Step b l reach i k
    part_step (the-body e) f = record { place = down-place b i p (children-from 14 e tt); below = omega arith; only = λ n r. only-body n r e }
    part_step (the-left c g) f = record { place = down-place b i p (omega arith); below = omega arith; only = λ n r. only-left n r c g }
    part_step (the-right c g) (inl e) = absurd (omega (arith, span_pos b (i + 1) (down-place b i p (omega arith))))
    part_step (the-right c g) (inr f) = record { place = next_place b i p (omega arith); below = omega arith; only = λ n r. only-right n r c g f }

  -- ---- the way

  -- one step more
  pub way_on : (reach : Reach) (path path' : List ℕ) (d d' i k : ℕ) → d' ≡ d + 1 → get_or path' d' 0 ≡ k → ((e : ℕ) → e ≤ d → get_or path' e 0 ≡ get_or path e 0) → Way b l reach path d → get_or path d 0 ≡ i → Step b l reach i k → Way b l reach path' d'
  way_on reach path path' d d' i k q end kept w e s = record { root = kept 0 (omega arith) ∙ w.root; each = λ c g. go c g (eqb c d) refl }
    where
      go : (c : ℕ) → c < d' → (x : Bool) → eqb c d ≡ x → Step b l reach (get_or path' c 0) (get_or path' (c + 1) 0)
      go c g true x = let o : c ≡ d = eqb-true c d x in rw (o, ← q, kept d (omega arith), e, end) s
      go c g false x = rw (kept c (omega (arith, eqb-false c d x)), kept (c + 1) (omega (arith, eqb-false c d x))) (w.each c (omega (arith, eqb-false c d x)))

  pub way-path : {reach : Reach} (path : List ℕ) (d n : ℕ) → Runs b n l reach → Way b l reach path d → Path b n l path d
  way-path path d n r w = record { root = w.root; each = λ e h. (w.each e h).only n r }

  -- where nothing runs
  pub none_runs : (n : ℕ) (reach : Reach) → Place b 0 → Runs b n l reach → reach.to ≤ reach.from → still n (tree_of b 0) l ≡ true
  none_runs n reach p r h = rests-still n 0 p record { still-at = λ k x y. go k (omega (arith, root-span b p)) (ltb k reach.from) refl }
    where
      go : (k : ℕ) → k < records_of b → (x : Bool) → ltb k reach.from ≡ x → still_at n (get_or l k 0) ≡ true
      go k y true e = r.before k (ltb-true k reach.from e) y
      go k y false e = r.behind k (omega (arith, ltb-false k reach.from e)) y
