-- A row, as the code counts it.
-- Assumes nothing.
use Rattle.std.specs.Prelude.{if◌then◌else◌, Option, None, Some}
use mathlib.Core.Path.{◌≡◌, refl, sym, ap, subst, ◌∙◌}
use mathlib.Core.Bool.{Bool, true, false}
use mathlib.Core.List.{List, [], ◌∷◌, ◌++◌, append-nil}
use Prim.Native.Nat.{ℕ, ◌+◌, ◌≤◌, ◌<◌}
use native.Mathlib.Omega.{arith}
use Rattle.rules.specs.Table.{kind_at, span_at, records_of}
use Rattle.rules.specs.Check as Rules
use Rattle.rules.specs.Check.{Around, nothing_around, walk, visits_of}
use Rattle.table.specs.Kinds.{children_of}
use Rattle.table.specs.Places.{Place, tree_of}
use Rattle.table.specs.Named.{children}
use Rattle.table.specs.declared.construct.Construct.{Construct}
use Rattle.table.proofs.Places.{span_pos}
use Rattle.acceptance.specs.Visits.{around_of, inner, visit_at, visit_of, below_at, passes}
use Rattle.acceptance.specs.Counts.{with_visit, counted, tallied}
use Rattle.acceptance.specs.Rows.{Visits, ends, goes, Counts, given}
use Rattle.acceptance.specs.declared.counts.Tally.{Tally}
use Rattle.acceptance.specs.declared.row.Row.{Row}
use Rattle.acceptance.specs.declared.visit.Around as Code
use Rattle.acceptance.specs.declared.visit.Visit.{Visit}
use Rattle.acceptance.proofs.Visiting.{walk_at, whole-walk, visits-most}
use Rattle.acceptance.proofs.Tallies.{whole_tally}
use Rattle.acceptance.proofs.Rows.{visits-order, first-visits, next-visits, child, walk-child, whole-visits}

-- ---- of a list

fails : (v : Rules.Visit) (vs : List Rules.Visit) (t : Tally) → passes v ≡ false → counted (v ∷ vs) t ≡ None
unfolding counted
fails v vs t e = rw e

goes_on : (v : Rules.Visit) (vs : List Rules.Visit) (t : Tally) → passes v ≡ true → counted (v ∷ vs) t ≡ counted vs (with_visit v t)
unfolding counted
goes_on v vs t e = rw e

none : (t : Tally) → counted [] t ≡ Some t
unfolding counted
none t = refl

abbrev then_counted : Option Tally → List Rules.Visit → Option Tally
then_counted None vs = None
then_counted (Some t) vs = counted vs t

counted-append : (us vs : List Rules.Visit) (t : Tally) → counted (us ++ vs) t ≡ then_counted (counted us t) vs
unfolding counted
counted-append [] vs t = refl
counted-append (u ∷ us) vs t = go (passes u) (counted-append us vs (with_visit u t))
  where
    go : (x : Bool) → counted (us ++ vs) (with_visit u t) ≡ then_counted (counted us (with_visit u t)) vs → (if x then counted (us ++ vs) (with_visit u t) else None) ≡ then_counted (if x then counted us (with_visit u t) else None) vs
    go true h = h
    go false h = refl

-- ---- of a row

module _ (b : List ℕ) (a : Around) (e i : ℕ) where
  pub counts-end : e ≤ i → (t : Tally) → Counts (Some t) b a e i t
  counts-end h t vs v = go v h
    where
      go : {us : List Rules.Visit} → Visits b a e i us → e ≤ i → Some t ≡ counted us t
      go (ends q) h = sym (none t)
      go (goes p r) h = absurd (omega (arith, visits-order r, span_pos b i p))

  module _ (l : i < e) (t : Tally) where
    pub counts-fail : passes (visit_at b a i) ≡ false → Counts None b a e i t
    counts-fail f vs v =
        let s = first-visits b a e i v l in
        sym (ap (λ us. counted us t) (s.is ∙ ap (λ us. us ++ s.rest) (walk_at b i s.place a)) ∙ fails (visit_at b a i) (below_at (children_of (kind_at b i)) b (inner (kind_at b i) a) i ++ s.rest) t f)

    module _ (g : passes (visit_at b a i) ≡ true) {o : Option Tally} where
      -- past a record that has not one child
      pub counts-next : (children_of (kind_at b i) ≡ 1 → ⊥) → Counts o b a e (i + 1) (with_visit (visit_at b a i) t) → Counts o b a e i t
      counts-next n h vs v =
          let s = next-visits b a e i v l n in
          h s.rest s.after ∙ sym (ap (λ us. counted us t) s.is ∙ goes_on (visit_at b a i) s.rest t g)

      module _ (one : children_of (kind_at b i) ≡ 1) {m : Option Tally} (h : Counts m b (inner (kind_at b i) a) (i + span_at b i) (i + 1) (with_visit (visit_at b a i) t)) where
        under : (vs : List Rules.Visit) → Visits b a e i vs → (r : (us : List Rules.Visit) → Visits b a e (i + span_at b i) us → o ≡ then_counted m us) → o ≡ counted vs t
        under vs v r =
            let s = first-visits b a e i v l in
            let below = walk (inner (kind_at b i) a) (tree_of b (i + 1)) ++ [] in
            let all : counted vs t ≡ then_counted m s.rest = ap (λ us. counted us t) (s.is ∙ ap (λ us. us ++ s.rest) (walk-child b i s.place one a)) ∙ (goes_on (visit_at b a i) (below ++ s.rest) t g ∙ (counted-append below s.rest (with_visit (visit_at b a i) t) ∙ ap (λ x. then_counted x s.rest) (sym (h below (child b i s.place one (inner (kind_at b i) a)))))) in
            r s.rest s.after ∙ sym all

        pub counts-stop : m ≡ None → o ≡ None → Counts o b a e i t
        counts-stop q z vs v = under vs v (λ us u. rw (q, z))

        pub counts-under : {n : Tally} → m ≡ Some n → Counts o b a e (i + span_at b i) n → Counts o b a e i t
        counts-under q k vs v = under vs v (λ us u. rw q (k us u))

pub given-none : {r : Bool} (t : Tally) → r ≡ false → given r t ≡ None
given-none t e = rw e

pub given-some : {r : Bool} (t : Tally) → r ≡ true → given r t ≡ Some t
given-some t e = rw e

-- ---- as the code has it: v is the visit at the construct c, with w around it

pub counts-by : {o : Option Tally} {b b' : List ℕ} {a a' : Around} {e e' i i' : ℕ} {t t' : Tally} → b ≡ b' → a ≡ a' → e ≡ e' → i ≡ i' → t ≡ t' → Counts o b a e i t → Counts o b' a' e' i' t'
counts-by p q r s u h = rw (← p, ← q, ← r, ← s, ← u) h

module _ {c : Construct} {w : Code.Around} (v : Visit) (p : v.at ≡ c) (q : v.around ≡ w) where
  pub same-visit : visit_of v ≡ visit_at c.table.now (around_of w) c.place
  same-visit = rw (p, q)

  pub same-children : {k : ℕ} → k ≡ children v.kind → children_of (kind_at c.table.now c.place) ≡ k
  same-children h = sym (ap (λ x. children_of (kind_at x.table.now x.place)) p) ∙ (v.children ∙ sym h)

  pub same-many : {k : ℕ} → k ≡ children v.kind → (k ≡ 1 → ⊥) → children_of (kind_at c.table.now c.place) ≡ 1 → ⊥
  same-many h n e = n (sym (same-children h) ∙ e)

  pub same-place : v.at.place ≡ c.place
  same-place = ap (λ x. x.place) p

  pub same-passes : {x y : Bool} → x ≡ passes (visit_of v) → x ≡ y → passes (visit_at c.table.now (around_of w) c.place) ≡ y
  same-passes h d = sym (ap passes same-visit) ∙ (sym h ∙ d)

  pub same-span : {n : ℕ} → n ≡ span_at v.at.table.now v.at.place → n ≡ span_at c.table.now c.place
  same-span h = h ∙ ap (λ x. span_at x.table.now x.place) p

  pub same-tally : (t : Tally) {u : Tally} → u ≡ with_visit (visit_of v) t → u ≡ with_visit (visit_at c.table.now (around_of w) c.place) t
  same-tally t h = h ∙ ap (λ x. with_visit x t) same-visit

  pub same-row : (r : Row) (t : Tally) → r.table.now ≡ v.at.table.now → r.place ≡ v.at.place + 1 → r.end ≡ v.at.place + span_at v.at.table.now v.at.place → around_of r.around ≡ inner (kind_at v.at.table.now v.at.place) (around_of v.around) → {o : Option Tally} {u : Tally} → u ≡ with_visit (visit_of v) t → Counts o r.table.now (around_of r.around) r.end r.place u → Counts o c.table.now (inner (kind_at c.table.now c.place) (around_of w)) (c.place + span_at c.table.now c.place) (c.place + 1) (with_visit (visit_at c.table.now (around_of w) c.place) t)
  same-row r t e f g k h = counts-by (e ∙ ap (λ x. x.table.now) p) (k ∙ (ap (λ x. inner (kind_at x.table.now x.place) (around_of v.around)) p ∙ ap (λ x. inner (kind_at c.table.now c.place) (around_of x)) q)) (g ∙ ap (λ x. x.place + span_at x.table.now x.place) p) (f ∙ ap (λ x. x.place + 1) p) (same-tally t h)

-- the row of a whole program
pub walk-row : (b : List ℕ) {d : List ℕ} {a : Around} {e i : ℕ} → Place b 0 → d ≡ b → i ≡ 0 → e ≡ records_of b → a ≡ nothing_around → Visits d a e i (visits_of b)
walk-row b p q r s t = rw (q, r, s, t) (subst (λ vs. Visits b nothing_around (records_of b) 0 vs) (append-nil (walk nothing_around (tree_of b 0)) ∙ whole-walk b refl) (whole-visits b p))

-- what is counted of it, from nothing on
pub whole-count : (p : Construct) → p.place ≡ 0 → {d : List ℕ} {a : Around} {e i : ℕ} → d ≡ p.table.now → i ≡ 0 → e ≡ records_of p.table.now → a ≡ nothing_around → {t : Tally} → t ≡ record { emits = 0; deepest = 0; outside = 0; inside = 0 } → {o : Option Tally} → Counts o d a e i t → o ≡ tallied (visits_of p.table.now)
whole-count p z q r s k n h =
    let whole : Place p.table.now 0 = rw (← z) p.stands.place in
    h (visits_of p.table.now) (walk-row p.table.now whole q r s k) ∙ whole_tally (visits_of p.table.now) (omega (arith, visits-most p z)) n
