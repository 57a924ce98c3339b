-- What the walk from a construct counts, and how far it can count.
-- Assumes nothing.
use Rattle.std.specs.Prelude.{if◌then◌else◌, None, Some, min}
use mathlib.Core.Path.{◌≡◌, refl, ap, ◌∙◌}
use mathlib.Core.Bool.{Bool, true, false, not, ◌&&◌}
use mathlib.Core.List.{List, [], ◌∷◌}
use Prim.Native.Nat.{ℕ, suc, ◌+◌, ◌≤◌, max}
use native.Mathlib.Omega.{arith}
use lib.ListN.{length}
use Rattle.rules.specs.Table.{kind_at}
use Rattle.rules.specs.Check.{Around, Visit, hits, count, deepest, is_kind, outside_every, inside_every}
use Rattle.table.specs.Named.{kind_number}
use Rattle.memory.specs.declared.act.Act.TheVariants.{Assign, Increase, Copy, Subtract, Compare, Divide, Output}
use Rattle.table.specs.declared.kind.Source.TheVariants.{Input, Internal}
use Rattle.table.specs.declared.kind.Par.TheVariants.{And, Or}
use Rattle.table.specs.declared.kind.Kind.{Kind}
use Rattle.table.specs.declared.kind.Kind.TheVariants as kind
use Rattle.acceptance.specs.Visits.{visit_at, passes}
use Rattle.acceptance.specs.Counts.{one_more, with_visit, counted, all_pass, tally_of, tallied}
use Rattle.acceptance.specs.declared.counts.Tally.{Tally}

-- ---- one construct, by its kind

abbrev pub with_output : Bool → Tally → Tally
with_output true t = record t { inside = min (t.inside + 1) 65535 }
with_output false t = record t { outside = min (t.outside + 1) 65535 }

abbrev pub with_kind : Kind → Around → Tally → Tally
with_kind kind.Nothing a t = t
with_kind (kind.Act Assign) a t = t
with_kind (kind.Act Increase) a t = t
with_kind (kind.Act Copy) a t = t
with_kind (kind.Act Subtract) a t = t
with_kind (kind.Act Compare) a t = t
with_kind (kind.Act Divide) a t = t
with_kind (kind.Act Output) a t = with_output a.in_every t
with_kind (kind.Await s) a t = t
with_kind kind.Emit a t = record t { emits = min (t.emits + 1) 65535 }
with_kind kind.Break a t = t
with_kind kind.If a t = t
with_kind kind.Sequence a t = t
with_kind kind.Loop a t = record t { deepest = max t.deepest (a.loops + 1) }
with_kind (kind.Every s) a t = t
with_kind (kind.Par o) a t = t
with_kind kind.Fin a t = t

with-output : (x : Bool) (t : Tally) → ◌≡◌ {A = Tally} (record { emits = t.emits; deepest = t.deepest; outside = one_more (not x) t.outside; inside = one_more x t.inside }) (with_output x t)
with-output true t = refl
with-output false t = refl

pub with_at : (b : List ℕ) (i : ℕ) (a : Around) (t : Tally) (k : Kind) → kind_at b i ≡ kind_number k → with_visit (visit_at b a i) t ≡ with_kind k a t
unfolding with_visit
with_at b i a t kind.Nothing s = rw s
with_at b i a t (kind.Act Assign) s = rw s
with_at b i a t (kind.Act Increase) s = rw s
with_at b i a t (kind.Act Copy) s = rw s
with_at b i a t (kind.Act Subtract) s = rw s
with_at b i a t (kind.Act Compare) s = rw s
with_at b i a t (kind.Act Divide) s = rw s
with_at b i a t (kind.Act Output) s = rw s (with-output a.in_every t)
with_at b i a t (kind.Await Input) s = rw s
with_at b i a t (kind.Await Internal) s = rw s
with_at b i a t kind.Emit s = rw s
with_at b i a t kind.Break s = rw s
with_at b i a t kind.If s = rw s
with_at b i a t kind.Sequence s = rw s
with_at b i a t kind.Loop s = rw s
with_at b i a t (kind.Every Input) s = rw s
with_at b i a t (kind.Every Internal) s = rw s
with_at b i a t (kind.Par And) s = rw s
with_at b i a t (kind.Par Or) s = rw s
with_at b i a t kind.Fin s = rw s

-- ---- of a list

abbrev one_if : Bool → ℕ
one_if true = 1
one_if false = 0

one-most : (x : Bool) → one_if x ≤ 1
one-most true = omega arith
one-most false = omega arith

count-cons : (f : Visit → Bool) (v : Visit) (vs : List Visit) → count f (v ∷ vs) ≡ one_if (f v) + count f vs
unfolding hits
count-cons f v vs = go (f v)
  where
    go : (x : Bool) → length (if x then v.place ∷ hits f vs else hits f vs) ≡ one_if x + length (hits f vs)
    go true = omega arith
    go false = omega arith

pub count_most : (f : Visit → Bool) (vs : List Visit) → count f vs ≤ length vs
unfolding hits
count_most f [] = omega arith
count_most f (v ∷ vs) = omega (arith, count-cons f v vs, one-most (f v), count_most f vs)

-- a tally with the counts of a list added
abbrev plus : Tally → List Visit → Tally
plus t vs = record {
  emits = t.emits + count (is_kind 10) vs;
  deepest = max t.deepest (deepest vs);
  outside = t.outside + count outside_every vs;
  inside = t.inside + count inside_every vs;
}

-- so many more still fit
pub record Room (n : ℕ) (t : Tally) : Type 0 where
  pub emits : t.emits + n ≤ 65535
  pub outside : t.outside + n ≤ 65535
  pub inside : t.inside + n ≤ 65535

pub same_tally : {e d o n e' d' o' n' : ℕ} → e ≡ e' → d ≡ d' → o ≡ o' → n ≡ n' → ◌≡◌ {A = Tally} (record { emits = e; deepest = d; outside = o; inside = n }) (record { emits = e'; deepest = d'; outside = o'; inside = n' })
same_tally p q r s = rw (p, q, r, s)

one-more : (x : Bool) (n m : ℕ) → n + suc m ≤ 65535 → one_more x n ≡ n + one_if x
one-more true n m h = omega arith
one-more false n m h = omega arith

module _ (v : Visit) (t : Tally) (n : ℕ) (h : Room (suc n) t) where
  with-one : with_visit v t ≡ record { emits = t.emits + one_if (is_kind 10 v); deepest = max t.deepest (if is_kind 14 v then suc v.around.loops else 0); outside = t.outside + one_if (outside_every v); inside = t.inside + one_if (inside_every v) }
  unfolding with_visit
  with-one = same_tally (one-more (is_kind 10 v) t.emits n h.emits) (go (is_kind 14 v)) (one-more (outside_every v) t.outside n h.outside) (one-more (inside_every v) t.inside n h.inside)
    where
      go : (x : Bool) → (if x then max t.deepest (v.around.loops + 1) else t.deepest) ≡ max t.deepest (if x then suc v.around.loops else 0)
      go true = omega arith
      go false = omega arith

  with-room : Room n (with_visit v t)
  with-room = rw with-one (record { emits = omega (arith, h.emits, one-most (is_kind 10 v)); outside = omega (arith, h.outside, one-most (outside_every v)); inside = omega (arith, h.inside, one-most (inside_every v)) })

  with-plus : (vs : List Visit) → plus (with_visit v t) vs ≡ plus t (v ∷ vs)
  unfolding deepest
  with-plus vs = rw with-one (same_tally (omega (arith, count-cons (is_kind 10) v vs)) (omega arith) (omega (arith, count-cons outside_every v vs)) (omega (arith, count-cons inside_every v vs)))

all-counted : (vs : List Visit) (t : Tally) → Room (length vs) t → counted vs t ≡ (if all_pass vs then Some (plus t vs) else None)
unfolding counted all_pass deepest hits
all-counted [] t h = ap (λ (t : Tally). Some t) (same_tally (omega arith) (omega arith) (omega arith) (omega arith))
all-counted (v ∷ vs) t h = go (passes v) (all-counted vs (with_visit v t) (with-room v t (length vs) h))
  where
    go : (x : Bool) → counted vs (with_visit v t) ≡ (if all_pass vs then Some (plus (with_visit v t) vs) else None) → (if x then counted vs (with_visit v t) else None) ≡ (if x && all_pass vs then Some (plus t (v ∷ vs)) else None)
    go true e = e ∙ rw (with-plus v t (length vs) h vs)
    go false e = refl

-- from nothing on
pub whole_tally : (vs : List Visit) → length vs ≤ 65535 → {t : Tally} → t ≡ record { emits = 0; deepest = 0; outside = 0; inside = 0 } → counted vs t ≡ tallied vs
unfolding tallied tally_of
whole_tally vs l q = rw q (all-counted vs (record { emits = 0; deepest = 0; outside = 0; inside = 0 }) (record { emits = omega arith; outside = omega arith; inside = omega arith }) ∙ go (all_pass vs))
  where
    go : (x : Bool) → (if x then Some (plus (record { emits = 0; deepest = 0; outside = 0; inside = 0 }) vs) else None) ≡ (if x then Some (tally_of vs) else None)
    go true = ap (λ (t : Tally). Some t) (same_tally (omega arith) (omega arith) (omega arith) (omega arith))
    go false = refl
