-- Tests as types: what an and, an or, a choice or an empty list says of its parts; and pairs that are written row by row.
use Rattle.std.specs.Prelude.{◌≡◌, refl, Bool, true, false, not, ◌&&◌, ◌||◌, List, [], ◌∷◌, ◌++◌, ℕ, ◌≤◌, T, if◌then◌else◌}
use Rattle.std.proofs.Common.{arith}
use Rattle.rules.specs.Tree.{Par, and, or}
use Rattle.rules.specs.Check.{par_ends}

-- two different constructors are not equal: `clash (cc)`
pub clash {ℓ} : {X : Type ℓ} → ◌≡◌ {A = ℕ} 0 1 → X
clash e = absurd (go e)
  where
    go : ◌≡◌ {A = ℕ} 0 1 → ⊥
    go e = omega arith

-- a row and those after it
infixr 5 ◌also◌
abbrev pub ◌also◌ : {A B : Type 0} → A → B → A × B
a also b = (a, b)

pub or_left : (a b : Bool) → T a → T (a || b)
or_left true b t = tt
or_left false b t = absurd t

pub or_right : (a b : Bool) → T b → T (a || b)
or_right true b t = tt
or_right false b t = t

pub or_map : (a b c d : Bool) → (T a → T c) → (T b → T d) → T (a || b) → T (c || d)
or_map true b c d f g t = or_left c d (f tt)
or_map false b c d f g t = or_right c d (g t)

pub or_cases {ℓ} : {A : Type ℓ} (a b : Bool) → (T a → A) → (T b → A) → T (a || b) → A
or_cases true b f g t = f tt
or_cases false b f g t = g t

pub and-map : (a b c d : Bool) → (T a → T c) → (T b → T d) → T (a && b) → T (c && d)
and-map true b true d f g t = g t
and-map true b false d f g t = absurd (f tt)
and-map false b c d f g t = absurd t

pub and_in : (a b : Bool) → T a → T b → T (a && b)
and_in true b s t = t
and_in false b s t = absurd s

pub and_none : (a b : Bool) → (T b → ⊥) → T (a && b) → ⊥
and_none true b f t = f t
and_none false b f t = t

pub both_left : (a b : Bool) → T (a && b) → T a
both_left true b t = tt
both_left false b t = t

pub both_right : (a b : Bool) → T (a && b) → T b
both_right true b t = t
both_right false b t = absurd t

pub both-map : (o : Par) (a b c d : Bool) → (T a → T c) → (T b → T d) → T (par_ends o a b) → T (par_ends o c d)
both-map and a b c d f g t = and-map a b c d f g t
both-map or a b c d f g t = or_map a b c d f g t

pub T→true : (b : Bool) → T b → b ≡ true
T→true true t = refl
T→true false t = absurd t

pub false-not : (b : Bool) → b ≡ false → T (not b)
false-not true e = clash (cc)
false-not false e = tt

pub never : (b : Bool) → (T b → ⊥) → b ≡ false
never true f = absurd (f tt)
never false f = refl

pub or-false-left : (a b : Bool) → (a || b) ≡ false → a ≡ false
or-false-left true b e = e
or-false-left false b e = refl

pub or-false-right : (a b : Bool) → (a || b) ≡ false → b ≡ false
or-false-right true b e = cc
or-false-right false b e = e

pub and-false : (a b : Bool) → (a && b) ≡ false → a ≡ true → b ≡ false
and-false true b e h = e
and-false false b e h = cc

-- a number where a test holds, else 0
pub when-mono : (a b : Bool) (x : ℕ) → (T a → T b) → (if a then x else 0) ≤ (if b then x else 0)
when-mono true true x f = omega arith
when-mono true false x f = absurd (f tt)
when-mono false true x f = omega arith
when-mono false false x f = omega arith

pub when-not : (a : Bool) (x : ℕ) → T (not a) → (if a then x else 0) ≡ 0
when-not true x t = absurd t
when-not false x t = refl

pub when-yes : (a : Bool) (x : ℕ) → T a → (if a then x else 0) ≡ x
when-yes true x t = refl
when-yes false x t = absurd t

pub when-le : (a : Bool) (x : ℕ) → (if a then x else 0) ≤ x
when-le true x = omega arith
when-le false x = omega arith

-- an empty list's parts are empty
pub nil-left : (a b : List ℕ) → a ++ b ≡ [] → a ≡ []
nil-left [] b e = refl
nil-left (x ∷ xs) b e = cc

pub nil-right : (a b : List ℕ) → a ++ b ≡ [] → b ≡ []
nil-right [] b e = e
nil-right (x ∷ xs) b e = cc
