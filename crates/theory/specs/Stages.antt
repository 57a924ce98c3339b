-- Stages that refuse nothing: each is passed at every place, and so are those after it.
use Rattle.std.specs.Prelude.{◌≡◌, refl, Bool, true, false, List, [], ◌∷◌, ◌++◌, ℕ, zero, suc, ◌+◌, ◌≤◌, ◌<◌, eqb, T, if◌then◌else◌}
use Rattle.std.proofs.Common.{sym, subst, arith, eqb-true}
use Rattle.std.proofs.Math.Option.{Option, none}
use Rattle.std.proofs.lemmas.Bool.{eqb-false}
use Rattle.rules.specs.Stages.{Refusal, Stage, failing, first_refusal, or_else, unless}
use Rattle.theory.specs.Logic.{clash, T→true}

-- ---- one stage before the others

-- its places and the refusal of those after it
pub record Pass (l : List ℕ) (o : Option Refusal) : Type 0 where
  pub clean : l ≡ []
  pub later : o ≡ none

passed : (l : List ℕ) (k : ℕ) (later : Option Refusal) → or_else l k later ≡ none → Pass l later
passed [] k later e = record { clean = refl; later = e }
passed (i ∷ is) k later e = clash (cc)

pub next : (s : Stage) (ss : List Stage) → first_refusal (s ∷ ss) ≡ none → Pass s.fails (first_refusal ss)
unfolding first_refusal
next s ss e = passed s.fails s.number (first_refusal ss) e

pub unless-true : (b : Bool) → unless b ≡ [] → T b
unless-true true e = tt
unless-true false e = clash (cc)

pub true-unless : (b : Bool) → T b → unless b ≡ []
true-unless true t = refl
true-unless false t = absurd t

-- a stage that fails nowhere, before others that refuse nothing
pub join : (s : Stage) (ss : List Stage) → s.fails ≡ [] → first_refusal ss ≡ none → first_refusal (s ∷ ss) ≡ none
unfolding first_refusal
join s ss e h = rw e h

pub no-stage : first_refusal [] ≡ none
unfolding first_refusal
no-stage = refl

pub first-append : (xs ys : List Stage) → first_refusal (xs ++ ys) ≡ none → (first_refusal xs ≡ none) × (first_refusal ys ≡ none)
first-append [] ys e = ((unfold first_refusal in refl), e)
first-append (x ∷ xs) ys e =
    let p = next x (xs ++ ys) e in
    let q = first-append xs ys p.later in
    (join x xs p.clean q.0, q.1)

-- ---- the places of a stage

pub none-fails : (ok : ℕ → Bool) (i k : ℕ) → failing ok i k ≡ [] → (j : ℕ) → i ≤ j → j < i + k → T (ok j)
unfolding failing
none-fails ok i zero e j a b = absurd (omega arith)
none-fails ok i (suc k) e j a b = go (λ e' a'. none-fails ok (suc i) k e' j a' (omega arith)) (ok i) refl e
  where
    split : T (ok i) → (i < j → T (ok j)) → (b : Bool) → eqb i j ≡ b → T (ok j)
    split h f true x = subst (λ m. T (ok m)) (eqb-true i j x) h
    split h f false x = f (omega (arith, eqb-false i j x))

    go : (failing ok (suc i) k ≡ [] → i < j → T (ok j)) → (b : Bool) → ok i ≡ b → (if b then failing ok (suc i) k else i ∷ failing ok (suc i) k) ≡ [] → T (ok j)
    go f true x y = split (subst T (sym x) tt) (f y) (eqb i j) refl
    go f false x y = clash (cc)

pub all_pass_lem : (ok : ℕ → Bool) (i k : ℕ) → ((j : ℕ) → i ≤ j → j < i + k → T (ok j)) → failing ok i k ≡ []
unfolding failing
all_pass_lem ok i zero h = refl
all_pass_lem ok i (suc k) h = rw (T→true (ok i) (h i (omega arith) (omega arith))) (all_pass_lem ok (suc i) k (λ j a c. h j (omega arith) (omega arith)))
