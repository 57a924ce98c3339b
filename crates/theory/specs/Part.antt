-- Where of a tree only one part runs, the tree is resumed by resuming that part; where the part waits or has an event pending, so does the tree.
use Rattle.std.specs.Prelude.{◌≡◌, Bool, List, ℕ, ◌≤◌, get_or, if◌then◌else◌}
use Rattle.std.proofs.Math.Path.{refl, ap, subst}
use Rattle.std.proofs.Common.{sym, ◌∙◌, arith, lt-ltb, le-ltb}
use Rattle.std.proofs.Math.Bool.{true, false}
use Rattle.std.proofs.Math.Dec.{eqb, ltb}
use Rattle.rules.specs.Tree.{Par, Tree, act, at_loop, at_par, await, break, canrun, emit, every, fin, ifvar, loop, nop, par, seq, span_of}
use Rattle.theory.specs.State.{Ops, How, idle, ended, broke, waiting, ringing, Walk, walk, Then, then_right, exec, resume_if, resume_seq, resume_loop, resume_both, resume_held, resume, still_at, still}
use Rattle.theory.specs.Round.{turn_of, heard, heard_of, onward}
use Rattle.theory.specs.Frame.{place_of, Blank, Within, Fork, Laid, apart-same, left-right, right-left, left-kept}
use Rattle.theory.specs.Resume.{idle-resume}
use Rattle.theory.specs.Kept.{resume-kept}
use Rattle.theory.specs.Still.{resting, live, still-same, live_same, not-turn, still-resume}

-- of a tree only this part runs: beside it all rests, and nothing that lives comes before it
pub data Only (n : ℕ) (l : List ℕ) : Tree → Tree → Type 0 where
  loop-body : {i : ℕ} {p : Tree} → still_at n (get_or l i 0) ≡ true → Only n l (loop i p) p
  left-of-if : {i v : ℕ} {p q : Tree} → still_at n (get_or l i 0) ≡ true → still n q l ≡ true → Only n l (ifvar i v p q) p
  right-of-if : {i v : ℕ} {p q : Tree} → still_at n (get_or l i 0) ≡ true → Blank l p → still n p l ≡ true → Only n l (ifvar i v p q) q
  left-of-seq : {i : ℕ} {p q : Tree} → still_at n (get_or l i 0) ≡ true → still n q l ≡ true → Only n l (seq i p q) p
  right-of-seq : {i : ℕ} {p q : Tree} → still_at n (get_or l i 0) ≡ true → Blank l p → still n p l ≡ true → Only n l (seq i p q) q
  left-of-par : {i : ℕ} {c : Par} {p q : Tree} → still_at n (get_or l i 0) ≡ true → still n q l ≡ true → Only n l (par i c p q) p
  right-of-par : {i : ℕ} {c : Par} {p q : Tree} → still_at n (get_or l i 0) ≡ true → get_or l i 0 ≡ 0 → still n p l ≡ true → Only n l (par i c p q) q

-- where the part is still, so is the tree
pub part-still : {n : ℕ} {l : List ℕ} {t u : Tree} → Only n l t u → still n u l ≡ true → still n t l ≡ true
unfolding still
part-still (loop-body a) e = rw a e
part-still (left-of-if a b) e = rw (a, e) b
part-still (right-of-if a b c) e = rw (a, c) e
part-still (left-of-seq a b) e = rw (a, e) b
part-still (right-of-seq a b c) e = rw (a, c) e
part-still (left-of-par a b) e = rw (a, e) b
part-still (right-of-par a b c) e = rw (a, c) e

-- it goes on by itself no more
pub data Stays : How → Type 0 where
  stays-waiting : Stays waiting
  stays-ringing : (e : ℕ) → Stays (ringing e)

-- a tree has a place
some-place : (t : Tree) → 1 ≤ span_of t
unfolding span_of
some-place (nop i) = omega arith
some-place (act i a v k) = omega arith
some-place (await i s e) = omega arith
some-place (emit i e y) = omega arith
some-place (break i) = omega arith
some-place (ifvar i v p q) = omega arith
some-place (seq i p q) = omega arith
some-place (loop i p) = omega arith
some-place (every i s e p) = omega arith
some-place (par i c p q) = omega arith
some-place (fin i p) = omega arith
some-place (canrun i k) = omega arith
some-place (at_loop i p q) = omega arith
some-place (at_par i c p q) = omega arith

-- ---- what a tree does after its part

module _ {M : Type 0} (o : Ops M) where
  -- the right of an and or or has run, beside a left that rests: by how that is
  abbrev pub beside : Par → Tree → How → Walk M → Walk M
  beside c p idle r = r
  beside c p ended r = then_right o c p r
  beside c p broke r = then_right o c p r
  beside c p waiting r = then_right o c p r
  beside c p (ringing e) r = then_right o c p r

  -- `left` asks how the left is; where the right waits or has an event pending, that is no matter
  abbrev pub past_left : Par → Tree → How → Walk M → Then M → Walk M
  past_left c p idle r left = left r.states r.memory
  past_left c p ended r left = let s = left r.states r.memory in beside c p s.how (walk ended s.states s.memory)
  past_left c p broke r left = let s = left r.states r.memory in beside c p s.how (walk broke s.states s.memory)
  past_left c p waiting r left = r
  past_left c p (ringing e) r left = r

module _ {M : Type 0} (o : Ops M) (n : ℕ) where
  -- the left has run
  abbrev pub par_goes_on : ℕ → Par → Tree → Tree → Walk M → Walk M
  par_goes_on i c p q r = if eqb (get_or r.states i 0) 0 then resume_both o c p q r.how r (resume o n q) else resume_held o n i c p r.how r (exec o n q)

  -- the tree, whose part at place k has run: r
  unfoldable pub goes_on : ℕ → Walk M → Tree → Walk M
  unfolding place_of resume exec
  goes_on k r (nop i) = r
  goes_on k r (act i a v x) = r
  goes_on k r (await i s e) = r
  goes_on k r (emit i e y) = r
  goes_on k r (break i) = r
  goes_on k r (ifvar i v p q) = if ltb k (place_of q) then resume_if o r.how r (resume o n q) else r
  goes_on k r (seq i p q) = if ltb k (place_of q) then resume_seq o r.how r (resume o n q) (exec o n q) else r
  goes_on k r (loop i p) = resume_loop o r.how r (exec o n p)
  goes_on k r (every i s e p) = r
  goes_on k r (par i c p q) = if ltb k (place_of q) then par_goes_on i c p q r else past_left o c p r.how r (resume o n p)
  goes_on k r (fin i p) = r
  goes_on k r (canrun i m) = r
  goes_on k r (at_loop i p q) = r
  goes_on k r (at_par i c p q) = r

  -- ---- it is the tree resumed

  -- beside a left that rests, and lives or not
  abbrev passed : Bool → Par → Tree → Walk M → Walk M
  passed true c p r = then_right o c p r
  passed false c p r = r

  both-passed : (c : Par) (p q : Tree) (x : Bool) (l : List ℕ) (m : M) (right : Then M) → resume_both o c p q (resting x) (walk (resting x) l m) right ≡ passed x c p (right l m)
  both-passed c p q true l m right = refl
  both-passed c p q false l m right = refl

  past-left : (c : Par) (p : Tree) (x : Bool) (h : How) (l : List ℕ) (m : M) (left : Then M) → left l m ≡ walk (resting x) l m → passed x c p (walk h l m) ≡ past_left o c p h (walk h l m) left
  past-left c p true idle l m left e = rw e
  past-left c p true ended l m left e = rw e
  past-left c p true broke l m left e = rw e
  past-left c p true waiting l m left e = refl
  past-left c p true (ringing v) l m left e = refl
  past-left c p false idle l m left e = rw e
  past-left c p false ended l m left e = rw e
  past-left c p false broke l m left e = rw e
  past-left c p false waiting l m left e = refl
  past-left c p false (ringing v) l m left e = refl

  -- a left that rests still does after the right has run
  left-rests : {t p q : Tree} {i : ℕ} → Fork t i p q → Laid p → Laid q → (l : List ℕ) → still n p l ≡ true → (m : M) → (let r = resume o n q l m in resume o n p r.states r.memory ≡ walk (resting (live p l)) r.states r.memory)
  left-rests {p = p} {q = q} z y x l e m =
      let r = resume o n q l m in
      let s = apart-same (right-left z) (resume-kept o n q x l m) in
      rw (still-resume o n p r.states r.memory (still-same n p y s ∙ e) y, live_same p y s)

  in_left : {t p q : Tree} {i : ℕ} → Fork t i p q → ltb (place_of p) (place_of q) ≡ true
  in_left {p = p} {q = q} z = lt-ltb (place_of p) (place_of q) (omega (arith, some-place p))

  in_right : (q : Tree) → ltb (place_of q) (place_of q) ≡ false
  in_right q = le-ltb (place_of q) (place_of q) (omega arith)

  pub part-goes-on : {t u : Tree} (l : List ℕ) (m : M) → Only n l t u → Laid t → resume o n t l m ≡ goes_on (place_of u) (resume o n u l m) t
  unfolding resume goes_on Laid
  part-goes-on l m (loop-body a) z = refl
  part-goes-on l m (left-of-if a b) z = rw (in_left z.0)
  part-goes-on l m (right-of-if {p = p} {q = q} a b c) z = rw (in_right q, idle-resume o n p l m z.1 b)
  part-goes-on l m (left-of-seq a b) z = rw (in_left z.0)
  part-goes-on l m (right-of-seq {p = p} {q = q} a b c) z = rw (in_right q, idle-resume o n p l m z.1 b)
  part-goes-on l m (left-of-par {i = i} {c = c} {p = p} {q = q} a b) z =
      let r = resume o n p l m in
      rw (in_left z.0) (ap (λ (x : ℕ). if eqb x 0 then resume_both o c p q r.how r (resume o n q) else resume_held o n i c p r.how r (exec o n q)) (sym (left-kept z.0 (resume-kept o n p z.1 l m))))
  part-goes-on l m (right-of-par {i = i} {c = c} {p = p} {q = q} a e b) z =
      let r = resume o n q l m in
      rw (in_right q, e) (
      ap (λ (s : Walk M). resume_both o c p q s.how s (resume o n q)) (still-resume o n p l m b z.1)
      ∙ both-passed c p q (live p l) l m (resume o n q)
      ∙ past-left c p (live p l) r.how r.states r.memory (resume o n p) (left-rests z.0 z.1 z.2 l b m)
      )

  -- ---- where the part waits or has an event pending, so does the tree

  either : {x y w : Walk M} (b : Bool) → x ≡ w → y ≡ w → (if b then x else y) ≡ w
  either true e f = e
  either false e f = f

  module _ (l : List ℕ) (m : M) where
    loop-stays : {h : How} (fresh : Then M) → Stays h → resume_loop o h (walk h l m) fresh ≡ walk h l m
    loop-stays fresh stays-waiting = refl
    loop-stays fresh (stays-ringing e) = refl

    if-stays : {h : How} (right : Then M) → Stays h → resume_if o h (walk h l m) right ≡ walk h l m
    if-stays right stays-waiting = refl
    if-stays right (stays-ringing e) = refl

    seq-stays : {h : How} (right fresh : Then M) → Stays h → resume_seq o h (walk h l m) right fresh ≡ walk h l m
    seq-stays right fresh stays-waiting = refl
    seq-stays right fresh (stays-ringing e) = refl

    passed-stays : {h : How} (c : Par) (p : Tree) (x : Bool) → Stays h → passed x c p (walk h l m) ≡ walk h l m
    passed-stays c p true stays-waiting = refl
    passed-stays c p true (stays-ringing e) = refl
    passed-stays c p false s = refl

    both-stays : {h : How} (c : Par) (p q : Tree) (x : Bool) (right : Then M) → right l m ≡ walk (resting x) l m → Stays h → resume_both o c p q h (walk h l m) right ≡ walk h l m
    both-stays c p q true right e stays-waiting = rw e
    both-stays c p q false right e stays-waiting = rw e
    both-stays c p q x right e (stays-ringing v) = refl

    held_stays : {h : How} (i : ℕ) (c : Par) (p : Tree) (fresh : Then M) → eqb (get_or l i 0) n ≡ false → Stays h → resume_held o n i c p h (walk h l m) fresh ≡ walk h l m
    held_stays i c p fresh e stays-waiting = rw e
    held_stays i c p fresh e (stays-ringing v) = refl

  module _ (l : List ℕ) (m : M) {h : How} (l' : List ℕ) (m' : M) (stays : Stays h) where
    pub part_stays : {t u : Tree} → Only n l t u → Laid t → resume o n u l m ≡ walk h l' m' → resume o n t l m ≡ walk h l' m'
    unfolding resume Laid
    part_stays (loop-body {p = p} a) z e = rw e (loop-stays l' m' (exec o n p) stays)
    part_stays (left-of-if {q = q} a b) z e = rw e (if-stays l' m' (resume o n q) stays)
    part_stays (right-of-if {p = p} a b c) z e = rw (idle-resume o n p l m z.1 b) e
    part_stays (left-of-seq {q = q} a b) z e = rw e (seq-stays l' m' (resume o n q) (exec o n q) stays)
    part_stays (right-of-seq {p = p} a b c) z e = rw (idle-resume o n p l m z.1 b) e
    part_stays (left-of-par {i = i} {c = c} {p = p} {q = q} a b) z e =
        let w = subst (λ (s : Walk M). Within p l s.states) e (resume-kept o n p z.1 l m) in
        let f = still-resume o n q l' m' (still-same n q z.2 (apart-same (left-right z.0) w) ∙ b) z.2 in
        ap (λ (r : Walk M). if eqb (get_or l i 0) 0 then resume_both o c p q r.how r (resume o n q) else resume_held o n i c p r.how r (exec o n q)) e
        ∙ either (eqb (get_or l i 0) 0) (both-stays l' m' c p q (live q l') (resume o n q) f stays) (held_stays l' m' i c p (exec o n q) (rw (left-kept z.0 w) (not-turn n (get_or l i 0) a)) stays)
    part_stays (right-of-par {c = c} {p = p} {q = q} a b d) z e =
        rw (b, still-resume o n p l m d z.1) (both-passed c p q (live p l) l m (resume o n q) ∙ rw e (passed-stays l' m' c p (live p l) stays))

  -- ---- where the program is blocked, resuming it does nothing

  pub onward-runs : (p : Tree) → Laid p → (v : ℕ) → n ≡ turn_of v → (l : List ℕ) (m : M) → onward o p v l m ≡ heard_of (resume o n p l m)
  unfolding onward
  onward-runs p z v e l m = rw e (go (still (turn_of v) p l) refl)
    where
      rests : (x : Bool) → heard 0 l m ≡ heard_of (walk (resting x) l m)
      rests true = refl
      rests false = refl

      go : (b : Bool) → still (turn_of v) p l ≡ b → (if b then heard 0 l m else heard_of (resume o (turn_of v) p l m)) ≡ heard_of (resume o (turn_of v) p l m)
      go true x = rw (still-resume o (turn_of v) p l m x z) (rests (live p l))
      go false x = refl
