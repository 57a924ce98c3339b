-- Each step inside a tree lowers what the tree can still cost by at least the step's cost, and lets no new end or break appear.
use Rattle.std.specs.Prelude.{◌≡◌, Bool, not, ◌&&◌, ◌||◌, ℕ, ◌+◌, ◌*◌, ◌≤◌, eqb, T, if◌then◌else◌}
use Rattle.std.proofs.Math.Path.{refl}
use Rattle.std.proofs.Math.Bool.{true, false}
use Rattle.std.proofs.Common.{arith}
use Rattle.rules.specs.Number.{is_zero}
use Rattle.rules.specs.Tree.{Par, Tree, act, and, at_loop, at_par, await, break, canrun, emit, every, fin, ifvar, loop, nop, or, par, seq}
use Rattle.rules.specs.Check.{may_break, may_end}
use Rattle.rules.specs.Memory.{Memory, quiet, read}
use Rattle.rules.specs.Step.{Front, Nested, blocked, broken, clear, done, front, going, in_part, loop_step, moved, nested_step, other_side, par_step, right_step, seq_step, stuck}
use Rattle.theory.specs.Logic.{or_left, or_right, or_map, or_cases, and-map, and_in, and_none, both_right, both-map, when-mono, when-not, when-yes}
use Rattle.theory.specs.Program.{loose, Good, calm-good, calm-break, calm-loose, clear-calm, done-ends, broken-breaks, broken-loose, seq-left-breaks, seq-right-breaks, seq-breaks}
use Rattle.theory.specs.Measure.{tree_cost, event_cost, step_cost, act_weight, calm-event, clear-cost}

module _ (s e o : ℕ) where
  -- a step of cost k from t to t': it costs less by k, adds no more at an event, and may end or break only where t may
  pub record Lowers (t : Tree) (k : ℕ) (t' : Tree) : Type 0 where
    pub good : Good t'
    pub less : tree_cost s e o t' + k ≤ tree_cost s e o t
    pub adding : event_cost s e o t' ≤ event_cost s e o t
    pub ends : T (may_end t') → T (may_end t)
    pub breaks : T (may_break t') → T (may_break t)
    pub loosens : T (loose t') → T (loose t)

  abbrev pub LowersO : Tree → Nested → Type 0
  LowersO t stuck = Unit {0}
  LowersO t (moved w t') = Lowers t (step_cost s e o w) t'

  -- a leaf becomes @nop
  to-nop : (i k : ℕ) (t : Tree) → k ≤ tree_cost s e o t → T (may_end t) → Lowers t k (nop i)
  unfolding tree_cost event_cost may_end Good may_break loose
  to-nop i k t l m = record { good = tt; less = omega arith; adding = omega arith; ends = λ h. m; breaks = λ h. absurd h; loosens = λ h. absurd h }

  seq-under : (i k : ℕ) (p p' q : Tree) → Good q → Lowers p k p' → Lowers (seq i p q) k (seq i p' q)
  unfolding tree_cost event_cost may_end may_break loose Good
  seq-under i k p p' q g l = record {
    good = (l.good, g);
    less = omega (arith, l.less);
    adding = omega (arith, l.adding);
    ends = and-map (may_end p') (may_end q) (may_end p) (may_end q) l.ends (λ h. h);
    breaks = seq-breaks i p p' q l.ends l.breaks;
    loosens = or_map (loose p') (loose q) (loose p) (loose q) l.loosens (λ h. h);
  }

  seq-lowers : (i : ℕ) (p q : Tree) → Good p → Good q → (f : Front) (r : Nested) → front p ≡ f → LowersO p r → LowersO (seq i p q) (seq_step i f q r)
  unfolding tree_cost event_cost may_end may_break loose Good seq_step in_part step_cost
  seq-lowers i p q gp gq done r ef h = record {
    good = gq;
    less = omega arith;
    adding = omega arith;
    ends = λ t. and_in (may_end p) (may_end q) (done-ends p ef) t;
    breaks = λ t. seq-right-breaks i p q (done-ends p ef) t;
    loosens = λ t. or_right (loose p) (loose q) t;
  }
  seq-lowers i p q gp gq (broken b) r ef h = record {
    good = tt;
    less = omega arith;
    adding = omega arith;
    ends = λ t. absurd t;
    breaks = λ t. seq-left-breaks i p q (broken-breaks p b ef);
    loosens = λ t. or_left (loose p) (loose q) (broken-loose p b ef);
  }
  seq-lowers i p q gp gq going stuck ef h = tt
  seq-lowers i p q gp gq going (moved w p') ef h = seq-under i (step_cost s e o w) p p' q gq h

  loop-lowers : (i : ℕ) (p q : Tree) → Good p → Good q → T (not (may_end q)) → (f : Front) (r : Nested) → front p ≡ f → LowersO p r → LowersO (at_loop i p q) (loop_step i f q r)
  unfolding tree_cost event_cost may_end may_break loose Good loop_step in_part step_cost
  loop-lowers i p q gp gq ne done r ef h = record {
    good = (gq, ne);
    less = omega (arith, when-yes (may_end p) (2 * s + tree_cost s e o q) (done-ends p ef));
    adding = omega arith;
    ends = λ t. or_right (may_break p) (may_end p && may_break q) (and_in (may_end p) (may_break q) (done-ends p ef) t);
    breaks = λ t. t;
    loosens = λ t. t;
  }
  loop-lowers i p q gp gq ne (broken b) r ef h = record {
    good = tt;
    less = omega arith;
    adding = omega arith;
    ends = λ t. or_left (may_break p) (may_end p && may_break q) (broken-breaks p b ef);
    breaks = λ t. t;
    loosens = λ t. t;
  }
  loop-lowers i p q gp gq ne going stuck ef h = tt
  loop-lowers i p q gp gq ne going (moved w p') ef h = record {
    good = (h.good, gq, ne);
    less = omega (arith, h.less, when-mono (may_end p') (may_end p) (2 * s + tree_cost s e o q) h.ends);
    adding = omega (arith, h.adding);
    ends = or_map (may_break p') (may_end p' && may_break q) (may_break p) (may_end p && may_break q) h.breaks (and-map (may_end p') (may_break q) (may_end p) (may_break q) h.ends (λ t. t));
    breaks = λ t. t;
    loosens = λ t. t;
  }

  par-under-left : (i k : ℕ) (j : Par) (p p' q : Tree) → Good q → Lowers p k p' → Lowers (at_par i j p q) k (at_par i j p' q)
  unfolding tree_cost event_cost may_end may_break loose Good
  par-under-left i k j p p' q g l = record {
    good = (l.good, g);
    less = omega (arith, l.less);
    adding = omega (arith, l.adding);
    ends = both-map j (may_end p') (may_end q) (may_end p) (may_end q) l.ends (λ h. h);
    breaks = or_map (may_break p') (may_break q) (may_break p) (may_break q) l.breaks (λ h. h);
    loosens = or_map (loose p') (loose q) (loose p) (loose q) l.loosens (λ h. h);
  }

  par-under-right : (i k : ℕ) (j : Par) (p q q' : Tree) → Good p → Lowers q k q' → Lowers (at_par i j p q) k (at_par i j p q')
  unfolding tree_cost event_cost may_end may_break loose Good
  par-under-right i k j p q q' g l = record {
    good = (g, l.good);
    less = omega (arith, l.less);
    adding = omega (arith, l.adding);
    ends = both-map j (may_end p) (may_end q') (may_end p) (may_end q) (λ h. h) l.ends;
    breaks = or_map (may_break p) (may_break q') (may_break p) (may_break q) (λ h. h) l.breaks;
    loosens = or_map (loose p) (loose q') (loose p) (loose q) (λ h. h) l.loosens;
  }

  -- one side has ended
  keep_left : (i : ℕ) (j : Par) (p q : Tree) → Good p → T (may_end q) → Lowers (at_par i j p q) s (other_side j p)
  unfolding tree_cost event_cost may_end may_break loose
  keep_left i and p q g t = record {
    good = g;
    less = omega arith;
    adding = omega arith;
    ends = λ h. and_in (may_end p) (may_end q) h t;
    breaks = λ h. or_left (may_break p) (may_break q) h;
    loosens = λ h. or_left (loose p) (loose q) h;
  }
  keep_left i or p q g t = record {
    good = calm-good (clear p) (clear-calm p g);
    less = omega (arith, clear-cost s e o p);
    adding = omega (arith, calm-event s e o (clear p) (clear-calm p g));
    ends = λ h. or_right (may_end p) (may_end q) t;
    breaks = λ h. absurd (calm-break (clear p) (clear-calm p g) h);
    loosens = λ h. absurd (calm-loose (clear p) (clear-calm p g) h);
  }

  keep-right : (i : ℕ) (j : Par) (p q : Tree) → Good q → T (may_end p) → Lowers (at_par i j p q) s (other_side j q)
  unfolding tree_cost event_cost may_end may_break loose
  keep-right i and p q g t = record {
    good = g;
    less = omega arith;
    adding = omega arith;
    ends = λ h. and_in (may_end p) (may_end q) t h;
    breaks = λ h. or_right (may_break p) (may_break q) h;
    loosens = λ h. or_right (loose p) (loose q) h;
  }
  keep-right i or p q g t = record {
    good = calm-good (clear q) (clear-calm q g);
    less = omega (arith, clear-cost s e o q);
    adding = omega (arith, calm-event s e o (clear q) (clear-calm q g));
    ends = λ h. or_left (may_end p) (may_end q) t;
    breaks = λ h. absurd (calm-break (clear q) (clear-calm q g) h);
    loosens = λ h. absurd (calm-loose (clear q) (clear-calm q g) h);
  }

  -- one side breaks, and the other, c, is cleared
  breaks-out : (i b : ℕ) (j : Par) (p q c : Tree) → Good c → tree_cost s e o c ≤ tree_cost s e o p + tree_cost s e o q → T (may_break p || may_break q) → T (loose p || loose q) → Lowers (at_par i j p q) s (seq i (clear c) (break b))
  unfolding tree_cost event_cost may_end may_break loose Good
  breaks-out i b j p q c g l t u = record {
    good = (calm-good (clear c) (clear-calm c g), tt);
    less = omega (arith, clear-cost s e o c);
    adding = omega (arith, calm-event s e o (clear c) (clear-calm c g));
    ends = λ h. absurd (and_none (may_end (clear c)) false (λ x. x) h);
    breaks = λ h. t;
    loosens = λ h. u;
  }

  right-lowers : (i : ℕ) (j : Par) (p q : Tree) → Good p → Good q → (f : Front) (r : Nested) → front q ≡ f → LowersO q r → LowersO (at_par i j p q) (right_step i j p f r)
  unfolding right_step in_part step_cost
  right-lowers i j p q gp gq done r ef h = keep_left i j p q gp (done-ends q ef)
  right-lowers i j p q gp gq (broken b) r ef h = breaks-out i b j p q p gp (omega arith) (or_right (may_break p) (may_break q) (broken-breaks q b ef)) (or_right (loose p) (loose q) (broken-loose q b ef))
  right-lowers i j p q gp gq going stuck ef h = tt
  right-lowers i j p q gp gq going (moved w q') ef h = par-under-right i (step_cost s e o w) j p q q' gp h

  par-lowers : (i : ℕ) (j : Par) (p q : Tree) → Good p → Good q → (f : Front) (b : Bool) (r r' : Nested) → front p ≡ f → LowersO p r → LowersO q r' → LowersO (at_par i j p q) (par_step i j p q f b r r')
  unfolding par_step in_part step_cost
  par-lowers i j p q gp gq done b r r' ef h h' = keep-right i j p q gq (done-ends p ef)
  par-lowers i j p q gp gq (broken k) b r r' ef h h' = breaks-out i k j p q q gq (omega arith) (or_left (may_break p) (may_break q) (broken-breaks p k ef)) (or_left (loose p) (loose q) (broken-loose p k ef))
  par-lowers i j p q gp gq going false stuck r' ef h h' = tt
  par-lowers i j p q gp gq going false (moved w p') r' ef h h' = par-under-left i (step_cost s e o w) j p p' q gq h
  par-lowers i j p q gp gq going true r r' ef h h' = right-lowers i j p q gp gq (front q) r' refl h'

  branch-lowers : (i v : ℕ) (p q : Tree) (b : Bool) → Good p → Good q → Lowers (ifvar i v p q) s (if b then q else p)
  unfolding tree_cost event_cost may_end may_break loose
  branch-lowers i v p q true gp gq = record { good = gq; less = omega arith; adding = omega arith; ends = or_right (may_end p) (may_end q); breaks = or_right (may_break p) (may_break q); loosens = or_right (loose p) (loose q) }
  branch-lowers i v p q false gp gq = record { good = gp; less = omega arith; adding = omega arith; ends = or_left (may_end p) (may_end q); breaks = or_left (may_break p) (may_break q); loosens = or_left (loose p) (loose q) }

  canrun-lowers : (i m : ℕ) (b : Bool) → LowersO (canrun i m) (if b then moved quiet (nop i) else stuck)
  unfolding tree_cost may_end step_cost
  canrun-lowers i m true = to-nop i s (canrun i m) (omega arith) tt
  canrun-lowers i m false = tt

  -- each step inside a tree lowers what the tree can still cost by at least the step's cost
  pub lowers : (n : ℕ) (x : Memory) (t : Tree) → Good t → LowersO t (nested_step n x t)
  unfolding nested_step Good tree_cost event_cost may_end may_break loose step_cost
  lowers n x (nop i) g = tt
  lowers n x (act i a v k) g = to-nop i (act_weight s e o a) (act i a v k) (omega arith) tt
  lowers n x (await i c b) g = tt
  lowers n x (emit i b y) g = record { good = tt; less = omega arith; adding = omega arith; ends = λ h. tt; breaks = λ h. h; loosens = λ h. h }
  lowers n x (break i) g = tt
  lowers n x (ifvar i v p q) g = branch-lowers i v p q (is_zero (read x v)) g.0 g.1
  lowers n x (seq i p q) g = seq-lowers i p q g.0 g.1 (front p) (nested_step n x p) refl (lowers n x p g.0)
  lowers n x (loop i p) g = record {
    good = (g.0, g.0, g.1);
    less = omega (arith, when-not (may_end p) (2 * s + tree_cost s e o p) g.1);
    adding = omega arith;
    ends = or_cases (may_break p) (may_end p && may_break p) (λ h. h) (both_right (may_end p) (may_break p));
    breaks = λ h. h;
    loosens = λ h. h;
  }
  lowers n x (every i c b p) g = tt
  lowers n x (par i j p q) g = record {
    good = (g.0, (tt, g.1));
    less = omega arith;
    adding = omega arith;
    ends = λ h. h;
    breaks = λ h. h;
    loosens = λ h. h;
  }
  lowers n x (fin i p) g = tt
  lowers n x (canrun i m) g = canrun-lowers i m (eqb m n)
  lowers n x (at_loop i p q) g = loop-lowers i p q g.0 g.1 g.2 (front p) (nested_step n x p) refl (lowers n x p g.0)
  lowers n x (at_par i j p q) g = par-lowers i j p q g.0 g.1 (front p) (blocked n p) (nested_step n x p) (nested_step n x q) refl (lowers n x p g.0) (lowers n x q g.1)
