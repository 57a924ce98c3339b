-- Where each mark is right and each construct fits, stage 8 lets the marks pass: place by place from the last on.
-- Assumes nothing.
use Rattle.std.specs.Prelude.{None}
use mathlib.Core.Path.{◌≡◌, refl, sym, ap, ◌∙◌}
use mathlib.Core.Bool.{Bool, true}
use mathlib.Core.Logic.{◌⊎◌, inl, inr}
use mathlib.Core.List.{List, []}
use mathlib.Core.Option.{none}
use Prim.Native.Nat.{ℕ, zero, suc, ◌+◌, ◌≤◌, ◌<◌}
use native.Mathlib.Omega.{arith}
use lib.ListN.{get_or}
use Rattle.rules.specs.Stages.{failing, first_refusal}
use Rattle.rules.specs.Table.{second_at, records_of}
use Rattle.rules.specs.Marks.{mark_right, marks_stages}
use Rattle.table.specs.declared.kind.Par.{Par}
use Rattle.table.specs.declared.kind.Par.TheVariants.{And, Or}
use Rattle.table.specs.declared.kind.Kind.{Kind}
use Rattle.table.specs.declared.kind.Kind.TheVariants as kind
use Rattle.table.specs.Named.{Stands}
use Rattle.table.specs.Places.{tree_of}
use Rattle.table.specs.Found.{first_of}
use Rattle.marks.specs.Fitting.{Spot, refused_at, seen_of, join_seen, side_fit, par_fit, Says, Fits, FitFrom}
use Rattle.marks.specs.declared.fitting.Seen.{Seen}
use Rattle.marks.specs.declared.fitting.Fit.{Fit}
use Rattle.marks.specs.declared.fitting.Fit.TheVariants.{Unmarked, Marked, Misfit}
use Rattle.marks.proofs.Seeing.{sees-loop, sees-two, refuses-misfit}

-- ---- two sides

if-says : (i : ℕ) (l r : Fit) (s t : Seen) → Says l s → Says r t → Says (side_fit l r) (join_seen kind.If i s t)
if-says i Unmarked Unmarked s t h g = rw (h, g)
if-says i Unmarked Marked s t h g = rw (h, g)
if-says i Unmarked Misfit s t h g = tt
if-says i Marked Unmarked s t h g = rw (h, g)
if-says i Marked Marked s t h g = tt
if-says i Marked Misfit s t h g = tt
if-says i Misfit r s t h g = tt

par-says : (i : ℕ) (o : Par) (l r : Fit) (s t : Seen) → Says l s → Says r t → Says (par_fit o l r) (join_seen (kind.Par o) i s t)
par-says i And Unmarked Unmarked s t h g = rw (h, g)
par-says i And Unmarked Marked s t h g = rw (h, g)
par-says i And Unmarked Misfit s t h g = tt
par-says i And Marked Unmarked s t h g = rw (h, g)
par-says i And Marked Marked s t h g = rw (h, g)
par-says i And Marked Misfit s t h g = tt
par-says i And Misfit r s t h g = tt
par-says i Or Unmarked Unmarked s t h g = rw (h, g)
par-says i Or Unmarked Marked s t h g = tt
par-says i Or Unmarked Misfit s t h g = tt
par-says i Or Marked Unmarked s t h g = tt
par-says i Or Marked Marked s t h g = rw (h, g)
par-says i Or Marked Misfit s t h g = tt
par-says i Or Misfit r s t h g = tt

-- ---- one construct, from an array that says it of the places behind

module _ (b m : List ℕ) (i : ℕ) {k : Kind} (s : Stands b i k) {fits : List Fit} (known : FitFrom b m (i + 1) fits) where
  behind : {b' m' : List ℕ} {j : ℕ} → Spot b' m' j → b' ≡ b → {n : ℕ} → j ≡ n → i + 1 ≤ n → Says (get_or fits j Unmarked) (seen_of m (tree_of b n))
  behind p e q h = rw q (known.at _ h (rw (e, q) at p.place.inside)).says

  module _ {b1 m1 : List ℕ} {j : ℕ} (p : Spot b1 m1 j) (e : b1 ≡ b) (q : j ≡ i + 1) where
    first : Says (get_or fits j Unmarked) (seen_of m (tree_of b (i + 1)))
    first = behind p e q (omega arith)

    pub fits-loop : k ≡ kind.Loop → Says (get_or fits j Unmarked) (seen_of m (tree_of b i))
    fits-loop f = rw (sees-loop b m i s f) first

    module _ {b2 m2 : List ℕ} {n : ℕ} (o : Spot b2 m2 n) (f : b2 ≡ b) (g : n ≡ second_at b i) where
      other : Says (get_or fits n Unmarked) (seen_of m (tree_of b (second_at b i)))
      other = behind o f g (omega arith)

      pub fits-sides : (k ≡ kind.If) ⊎ (k ≡ kind.Sequence) → Says (side_fit (get_or fits j Unmarked) (get_or fits n Unmarked)) (seen_of m (tree_of b i))
      fits-sides (inl h) = rw (sees-two b m i s (inl h), h) (if-says i (get_or fits j Unmarked) (get_or fits n Unmarked) (seen_of m (tree_of b (i + 1))) (seen_of m (tree_of b (second_at b i))) first other)
      fits-sides (inr h) = rw (sees-two b m i s (inr (inl h)), h) (if-says i (get_or fits j Unmarked) (get_or fits n Unmarked) (seen_of m (tree_of b (i + 1))) (seen_of m (tree_of b (second_at b i))) first other)

      pub fits-par : {o : Par} → k ≡ kind.Par o → Says (par_fit o (get_or fits j Unmarked) (get_or fits n Unmarked)) (seen_of m (tree_of b i))
      fits-par {o} h = rw (sees-two b m i s (inr (inr (o, h))), h) (par-says i o (get_or fits j Unmarked) (get_or fits n Unmarked) (seen_of m (tree_of b (i + 1))) (seen_of m (tree_of b (second_at b i))) first other)

-- ---- all places

-- at a place of the same table with the same marks
pub fits-at : {b m b' m' : List ℕ} {i j : ℕ} {v : Fit} → b' ≡ b → m' ≡ m → j ≡ i → mark_right b' m' j ≡ true → Says v (seen_of m' (tree_of b' j)) → Fits b m i v
fits-at e f q h g = record { right = rw (e, f, q) at h; says = rw (e, f, q) at g }

none-fail : (ok : ℕ → Bool) (i n : ℕ) → ((j : ℕ) → i ≤ j → j < i + n → ok j ≡ true) → failing ok i n ≡ []
unfolding failing
none-fail ok i zero h = refl
none-fail ok i (suc n) h = rw (h i (omega arith) (omega arith)) (none-fail ok (suc i) n (λ j g l. h j (omega arith) (omega arith)))

nothing-wrong : (v : Fit) (s : Seen) → Says v s → (v ≡ Misfit → ⊥) → s.misfit ≡ None
nothing-wrong Unmarked s h n = ap (λ z. z.misfit) h
nothing-wrong Marked s h n = ap (λ z. z.misfit) h
nothing-wrong Misfit s h n = absurd (n refl)

pub all_pass_lem : (b m : List ℕ) {i : ℕ} → Spot b m i → {vs : List Fit} → FitFrom b m 0 vs → (get_or vs 0 Unmarked ≡ Misfit → ⊥) → none ≡ first_refusal (marks_stages b m)
all_pass_lem b m p {vs} known n =
    let f = known.at 0 (omega arith) (omega (arith, p.place.inside)) in
    let marks = none-fail (mark_right b m) 0 (records_of b) (λ j g l. (known.at j (omega arith) (omega arith)).right) in
    ap refused_at (sym (nothing-wrong (get_or vs 0 Unmarked) (seen_of m (tree_of b 0)) f.says n))
    ∙ refuses-misfit b m p.sized (sym (ap first_of marks)) refl
