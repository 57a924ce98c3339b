-- Every listener of every event is counted; and where nobody listens, awake changes nothing.
-- Assumes nothing.
use Rattle.std.proofs.Common.{◌≡◌, refl, sym, ap, ◌∙◌, arith, inl, inr, ℕ, zero, suc, ◌+◌, ◌≤◌, ◌<◌, List, Bool, true, false, eqb, ltb, if◌then◌else◌}
use lib.ListN.{get_or, set, replicate}
use Rattle.std.proofs.lemmas.List.{get_or-replicate}
use lib.Seq.{get_or-set_other}
use borrow.Author.Tests.{eqb-true, eqb-false, eq-eqb, ne_eqb, lt-ltb, ltb-true, ltb-false}
use Rattle.rules.specs.Limits.{most_records}
use Rattle.rules.specs.Table.{kind_at, name_at, span_at, second_at, records_of}
use Rattle.theory.specs.State.{wake_at}
use Rattle.table.specs.Kinds.{children_of}
use Rattle.table.specs.Named.{kind_number, children}
use Rattle.table.specs.Places.{Place}
use Rattle.table.specs.declared.kind.Kind.{Kind}
use Rattle.table.specs.declared.kind.Kind.TheVariants as kind
use Rattle.table.specs.declared.kind.Par.{Par}
use Rattle.table.specs.declared.kind.Source.{Source}
use Rattle.table.specs.declared.kind.Source.TheVariants.{Input, Internal}
use Rattle.table.proofs.Places.{down-place, next_place}
use Rattle.table.proofs.Trees.{span-inside}
use Rattle.walks.specs.Walks.{hears}
use Rattle.walks.specs.declared.listeners.Listeners.{Listeners}
use Rattle.walks.specs.declared.part.Reach.{Reach}
use Rattle.walks.specs.Listening.{Hear, nowhere, anywhere, widened_if, heard, reach_of, Tight, Listens, Within, NoneWithin, the-body, the-left, the-right, HeardIn, PartWith, Nobody, HeardAmong}
use Rattle.walks.proofs.Waking.{act-most, woken, woken_at, awake-record, woken-along}

-- ---- every listener counts

pub nobody-there : Nobody record { input = replicate 64 nowhere; internal = replicate 64 nowhere }
nobody-there Input e h = rw (lt-ltb e 64 h) (get_or-replicate 64 e nowhere anywhere h)
nobody-there Internal e h = rw (lt-ltb e 64 h) (get_or-replicate 64 e nowhere anywhere h)

pub heard-none : (b : List ℕ) (l : Listeners) → Nobody l → HeardAmong b 0 l
unfolding heard
heard-none b l n = n

module _ (b : List ℕ) (x : Source) (e : ℕ) where
  pub heard-next : (n : ℕ) → heard b x e (n + 1) ≡ widened_if (hears (kind_at b n) (name_at b n) x e) n (heard b x e n)
  unfolding heard
  heard-next n = let q : n + 1 ≡ suc n = omega arith in ap (heard b x e) q

  heard-has : (n k : ℕ) → k < n → hears (kind_at b k) (name_at b k) x e ≡ true → ((heard b x e n).from ≤ k) × (k < (heard b x e n).to)
  unfolding heard
  heard-has zero k h q = absurd (omega arith)
  heard-has (suc n) k h q = go (hears (kind_at b n) (name_at b n) x e) refl (ltb k n) refl (λ u. heard-has n k u q)
    where
      go : (y : Bool) → hears (kind_at b n) (name_at b n) x e ≡ y → (z : Bool) → ltb k n ≡ z → (let r = heard b x e n in k < n → (r.from ≤ k) × (k < r.to)) → (let r = widened_if y n (heard b x e n) in (r.from ≤ k) × (k < r.to))
      go true w true z f = let r = f (ltb-true k n z) in (omega arith, omega arith)
      go true w false z f = let g = ltb-false k n z in (omega arith, omega arith)
      go false w true z f = f (ltb-true k n z)
      go false w false z f = let g : k ≡ n = omega (arith, ltb-false k n z) in let o = rw g at q in absurd (cc)

-- of events over 63: the listeners stand somewhere
pub all-listen : (b : List ℕ) (l : Listeners) → records_of b ≤ most_records → Tight b l → Listens b l
all-listen b l small t = record { counted = λ x e. go x e (ltb e 64) refl }
  where
    go : (x : Source) (e : ℕ) (y : Bool) → ltb e 64 ≡ y → Hear b x e (reach_of l x e)
    go x e true h k u q = rw (t x e (ltb-true e 64 h)) (heard-has b x e (records_of b) k u q)
    go x e false h k u q = rw h (omega arith, omega arith)

-- ---- where nobody listens

pub not_so : (y : Bool) → (y ≡ true → ⊥) → y ≡ false
not_so true h = absurd (h refl)
not_so false h = refl

pub loop-alone : (k : ℕ) → k ≡ 14 → children_of k ≡ 2 → ⊥
unfolding children_of
loop-alone k e h = omega (arith, rw e at h)

module _ (b : List ℕ) (x : Source) (e : ℕ) where
  -- no record of the part listens
  abbrev Deaf : ℕ → Type 0
  Deaf i = (k : ℕ) → i ≤ k → k < i + span_at b i → hears (kind_at b k) (name_at b k) x e ≡ true → ⊥

  deaf-part : (i : ℕ) → Place b i → Deaf i → (l : List ℕ) → woken b x e i l ≡ l
  deaf-part i p g = woken-along b x e (λ l m. m ≡ l) (λ l m n u v. v ∙ u) i p (λ k y z l. ap (λ (c : Bool). wake_at c k l) (not_so (hears (kind_at b k) (name_at b k) x e) (g k y z)))

  module _ (r : Reach) (hear : Hear b x e r) where
    pub deaf-behind : (i : ℕ) → Place b i → (l : List ℕ) → r.to ≤ i → woken b x e i l ≡ l
    deaf-behind i p l h = deaf-part i p (λ k y z q. omega (arith, (hear k (omega (arith, span-inside b i p)) q).1)) l

    pub deaf-before : (i : ℕ) → Place b i → (l : List ℕ) → i + span_at b i ≤ r.from → woken b x e i l ≡ l
    deaf-before i p l h = deaf-part i p (λ k y z q. omega (arith, (hear k (omega (arith, span-inside b i p)) q).0)) l

    pub deaf-all : (i : ℕ) → Place b i → (l : List ℕ) → r.to ≤ r.from → woken b x e i l ≡ l
    deaf-all i p l h = deaf-part i p (λ k y z q. let w = hear k (omega (arith, span-inside b i p)) q in omega (arith, w.0, w.1)) l

    -- nobody listens beside the part
    within-hears : (i : ℕ) → Place b i → {k : ℕ} → Within b i r k → (l : List ℕ) → woken b x e k l ≡ woken b x e i l
    within-hears i p (the-body c) l = sym (awake-record b i p l x e ∙ rw (ne_eqb (children_of (kind_at b i)) 2 (λ q. loop-alone (kind_at b i) c q), eq-eqb (kind_at b i) 14 c))
    within-hears i p (the-left c h) l = sym (awake-record b i p l x e ∙ rw (eq-eqb (children_of (kind_at b i)) 2 c) (deaf-behind (second_at b i) (next_place b i p (omega arith)) (woken b x e (i + 1) l) h))
    within-hears i p (the-right c h) l = sym (awake-record b i p l x e ∙ rw (eq-eqb (children_of (kind_at b i)) 2 c) (ap (woken b x e (second_at b i)) (deaf-before (i + 1) (down-place b i p (omega arith)) l (omega arith))))

    pub part-hears : (i : ℕ) → Place b i → {k : ℕ} → PartWith b i r k → (l : List ℕ) → woken b x e k l ≡ woken b x e i l
    part-hears i p (inl q) l = rw q refl
    part-hears i p (inr w) l = within-hears i p w l

-- ---- the part

-- a record that is no loop and has no two children
pub no-holder : (k : Kind) → (k ≡ kind.If → ⊥) → (k ≡ kind.Sequence → ⊥) → (k ≡ kind.Loop → ⊥) → ((o : Par) → k ≡ kind.Par o → ⊥) → (kind_number k ≡ 14 → ⊥) × (children k ≡ 2 → ⊥)
no-holder kind.Nothing f g h p = (λ e. omega arith, λ e. omega arith)
no-holder (kind.Act a) f g h p = (λ e. omega (arith, act-most a), λ e. omega arith)
no-holder (kind.Await Input) f g h p = (λ e. omega arith, λ e. omega arith)
no-holder (kind.Await Internal) f g h p = (λ e. omega arith, λ e. omega arith)
no-holder kind.Emit f g h p = (λ e. omega arith, λ e. omega arith)
no-holder kind.Break f g h p = (λ e. omega arith, λ e. omega arith)
no-holder kind.If f g h p = absurd (f refl)
no-holder kind.Sequence f g h p = absurd (g refl)
no-holder kind.Loop f g h p = absurd (h refl)
no-holder (kind.Every Input) f g h p = (λ e. omega arith, λ e. omega arith)
no-holder (kind.Every Internal) f g h p = (λ e. omega arith, λ e. omega arith)
no-holder (kind.Par o) f g h p = absurd (p o refl)
no-holder kind.Fin f g h p = (λ e. omega arith, λ e. omega arith)

module _ (b : List ℕ) {r : Reach} where
  -- of a construct that is no loop and whose parts, if it has two, each leave out a place
  pub no-part : (i : ℕ) → (kind_at b i ≡ 14 → ⊥) → (children_of (kind_at b i) ≡ 2 → (second_at b i < r.to) × (r.from < second_at b i)) → NoneWithin b i r
  no-part i n h k (the-body c) = absurd (n c)
  no-part i n h k (the-left c g) = absurd (omega (arith, (h c).0))
  no-part i n h k (the-right c g) = absurd (omega (arith, (h c).1))

  pub part-heard : (i : ℕ) → Place b i → {k : ℕ} → Within b i r k → HeardIn b r i → HeardIn b r k
  part-heard i p w h x e hear l = part-hears b x e r hear i p (inr w) l ∙ h x e hear l

-- ---- a place where nobody listens keeps its state

set-kept : (l : List ℕ) (i k : ℕ) → (k ≡ i → ⊥) → (y : Bool) → get_or (wake_at y i l) k 0 ≡ get_or l k 0
set-kept l i k n true = go (eqb (get_or l i 0) 1)
  where
    go : (z : Bool) → get_or (if z then set l i 2 else l) k 0 ≡ get_or l k 0
    go true = get_or-set_other l i k 2 0 n
    go false = refl
set-kept l i k n false = refl

module _ (b : List ℕ) (x : Source) (e k : ℕ) (deaf : hears (kind_at b k) (name_at b k) x e ≡ false) where
  kept-one : (i : ℕ) (l : List ℕ) → get_or (woken_at b x e i l) k 0 ≡ get_or l k 0
  kept-one i l = go (eqb k i) refl
    where
      go : (y : Bool) → eqb k i ≡ y → get_or (woken_at b x e i l) k 0 ≡ get_or l k 0
      go true q = let o : k ≡ i = eqb-true k i q in let d = rw o at deaf in rw d
      go false q = set-kept l i k (eqb-false k i q) (hears (kind_at b i) (name_at b i) x e)

  pub awake-kept : (i : ℕ) → Place b i → (l : List ℕ) → get_or (woken b x e i l) k 0 ≡ get_or l k 0
  awake-kept i p = woken-along b x e (λ l m. get_or m k 0 ≡ get_or l k 0) (λ l m n u v. v ∙ u) i p (λ j y z. kept-one j)
