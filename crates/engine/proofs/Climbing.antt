-- The constructs above a part that has run: what each makes of it, and the whole program at the end.
-- Assumes nothing.
use Rattle.std.specs.Prelude.{if◌then◌else◌}
use mathlib.Core.Path.{◌≡◌, refl, sym, ap, ◌∙◌}
use mathlib.Core.Bool.{true}
use mathlib.Core.List.{List}
use mathlib.Core.Logic.{◌⊎◌, inl, inr}
use Prim.Native.Nat.{ℕ, zero, suc, ◌+◌, ◌-◌, ◌≤◌, ◌<◌}
use native.Mathlib.Omega.{arith}
use lib.Dec.{eqb}
use lib.ListN.{get_or}
use Rattle.rules.specs.Tree.{Tree, Par, par}
use Rattle.rules.specs.Table.{name_at, number_at, second_at}
use Rattle.theory.specs.State.{How, Walk, walk, exec, resume_both, resume_held, resume, still}
use Rattle.theory.specs.Frame.{place_of, Laid, left-kept}
use Rattle.theory.specs.Kept.{resume-kept}
use Rattle.theory.specs.Round.{turn_of, event_of, heard, heard_of, onward}
use Rattle.theory.specs.Part.{onward-runs, Stays, stays-waiting, stays-ringing, par_goes_on, goes_on, part-still, part-goes-on, part_stays}
use Rattle.table.specs.Named.{children, node_of, par_of, Stands}
use Rattle.table.specs.declared.kind.Par as code
use Rattle.table.specs.declared.kind.Kind.{Kind}
use Rattle.table.specs.declared.kind.Kind.TheVariants as kind
use Rattle.table.specs.Places.{Spot, tree_of}
use Rattle.table.proofs.Places.{next_place}
use Rattle.table.proofs.Laid.{place_at, laid-at}
use Rattle.memory.specs.Arrays.{Arrays}
use Rattle.walks.specs.declared.running.How as walked
use Rattle.walks.specs.declared.running.How.TheVariants.{Waiting, Ringing}
use Rattle.walks.specs.Walks.{array_ops, how_of}
use Rattle.engine.specs.Parts.{Along, Path, Climbs}

-- ---- by the kind of the construct

module _ {b : List ℕ} {i : ℕ} {k : Kind} (s : Stands b i k) where
  -- where the right of a construct stands
  pub second_place : Spot b i → 2 ≤ children k → place_of (tree_of b (second_at b i)) ≡ second_at b i
  second_place p c = place_at b (second_at b i) (next_place b i p.place (omega (arith, s.children)))

  -- the construct goes on as the node of its kind
  pub goes_on_node : (n j : ℕ) (r : Walk Arrays) → goes_on array_ops n j r (tree_of b i) ≡ goes_on array_ops n j r (node_of k i (name_at b i) (number_at b i) (tree_of b (i + 1)) (tree_of b (second_at b i)))
  goes_on_node n j r = ap (λ (t : Tree). goes_on array_ops n j r t) s.tree

fork-resumed : (n i : ℕ) (c : Par) (p q : Tree) (l : List ℕ) (m : Arrays) → Laid (par i c p q) → resume array_ops n (par i c p q) l m ≡ par_goes_on array_ops n i c p q (resume array_ops n p l m)
unfolding resume Laid
fork-resumed n i c p q l m z =
    let r = resume array_ops n p l m in
    ap (λ (x : ℕ). if eqb x 0 then resume_both array_ops c p q r.how r (resume array_ops n q) else resume_held array_ops n i c p r.how r (exec array_ops n q)) (sym (left-kept z.0 (resume-kept array_ops n p z.1 l m)))

-- an and or or is its left resumed, and then goes on: its own state is kept by its left
pub resume_fork : (b : List ℕ) (i : ℕ) → Spot b i → (n : ℕ) (l : List ℕ) (m : Arrays) → {o : code.Par} → Stands b i (kind.Par o) → resume array_ops n (tree_of b i) l m ≡ par_goes_on array_ops n i (par_of o) (tree_of b (i + 1)) (tree_of b (second_at b i)) (resume array_ops n (tree_of b (i + 1)) l m)
resume_fork b i p n l m s = rw s.tree (fork-resumed n i _ _ _ l m (rw s.tree at (laid-at b i p.place)))

-- ---- along the way

-- a walk that waits or rings
pub stays-from : (h : walked.How) → (h ≡ Waiting) ⊎ ((e : ℕ) × (h ≡ Ringing e)) → Stays (how_of h)
stays-from h (inl e) = rw e stays-waiting
stays-from h (inr e) = rw e.1 (stays-ringing e.0)

-- the places above are places too
pub along-above : (b path : List ℕ) {d : ℕ} (e : ℕ) → e ≤ d → Along b path d → Along b path e
along-above b path e h a k g = a k (omega arith)

module _ (b : List ℕ) (n : ℕ) (path : List ℕ) where
  path-less : {l : List ℕ} (d : ℕ) → Path b n l path (d + 1) → Path b n l path d
  path-less d w = record { root = w.root; each = λ e h. w.each e (omega arith) }

  -- where the part at the end of the way is blocked, so is the program
  pub path-still : {l : List ℕ} (d : ℕ) → Path b n l path d → still n (tree_of b (get_or path d 0)) l ≡ true → still n (tree_of b 0) l ≡ true
  path-still zero w e = rw w.root at e
  path-still {l} (suc d) w e =
      let q : d + 1 ≡ suc d = omega arith in
      let v = rw (← q) at w in
      path-still d (path-less d v) (part-still (v.each d (omega arith)) (rw (← q) at e))

  -- where it waits or rings, so does the program
  pub path-stays : {l : List ℕ} (m : Arrays) {h : How} {l' : List ℕ} {m' : Arrays} → Stays h → (d : ℕ) → Along b path d → Path b n l path d → resume array_ops n (tree_of b (get_or path d 0)) l m ≡ walk h l' m' → resume array_ops n (tree_of b 0) l m ≡ walk h l' m'
  path-stays m s zero a w e = rw w.root at e
  path-stays {l} m {h} {l'} {m'} s (suc d) a w e =
      let q : d + 1 ≡ suc d = omega arith in
      let v = rw (← q) at w in
      path-stays m s d (along-above b path d (omega arith) a) (path-less d v) (part_stays array_ops n l m l' m' s (v.each d (omega arith)) (laid-at b (get_or path d 0) (a d (omega arith)).place) (rw (← q) at e))

  -- one construct more
  pub climb-step : (d : ℕ) → 0 < d → Along b path d → {w up v : Walk Arrays} → up ≡ goes_on array_ops n (get_or path d 0) w (tree_of b (get_or path (d - 1) 0)) → Climbs b path (d - 1) n up v → Climbs b path d n w v
  climb-step zero g a u c l m x e = absurd (omega arith)
  climb-step (suc d) g a {w} {up} {v} u c l m x e =
      let q : suc d - 1 ≡ d = omega arith in
      let y : d + 1 ≡ suc d = omega arith in
      let z = rw (← y) at x in
      let only = rw y at (z.each d (omega arith)) in
      let k = part-goes-on array_ops n l m only (laid-at b (get_or path d 0) (a d (omega arith)).place) in
      rw q at c l m (path-less d z) ((rw q at u) ∙ rw e (sym (k ∙ ap (λ (j : ℕ). goes_on array_ops n j (resume array_ops n (tree_of b (get_or path (suc d) 0)) l m) (tree_of b (get_or path d 0))) (place_at b (get_or path (suc d) 0) (a (suc d) (omega arith)).place))))

  -- at the root, and where a walk waits or rings, nothing is left to do
  pub climbs-root : (d : ℕ) → d ≡ 0 → (w : Walk Arrays) → Climbs b path d n w w
  climbs-root d z w l m x e = rw (z, x.root) at e

  pub climbs-stays : (d : ℕ) → Along b path d → {h : How} (l' : List ℕ) (m' : Arrays) → Stays h → Climbs b path d n (walk h l' m') (walk h l' m')
  climbs-stays d a l' m' s l m x e = sym (path-stays m s d a x (sym e))

-- ---- the round

pub onward-blocked : (t : Tree) (v : ℕ) (l : List ℕ) (m : Arrays) → still (turn_of v) t l ≡ true → onward array_ops t v l m ≡ heard 0 l m
unfolding onward
onward-blocked t v l m e = rw e

pub onward-climbs : (b : List ℕ) (v : ℕ) → Spot b 0 → (l : List ℕ) (m : Arrays) {w : Walk Arrays} {e : ℕ} → w ≡ resume array_ops (turn_of v) (tree_of b 0) l m → e ≡ event_of w.how → heard e w.states w.memory ≡ onward array_ops (tree_of b 0) v l m
onward-climbs b v s l m {w} x y = ap (λ (k : ℕ). heard k w.states w.memory) y ∙ ap (λ (r : Walk Arrays). heard_of r) x ∙ sym (onward-runs array_ops (turn_of v) (tree_of b 0) (laid-at b 0 s.place) v refl l m)
