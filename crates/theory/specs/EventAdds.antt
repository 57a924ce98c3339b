-- What a push adds to what a tree can still cost: an internal event, and the input event at the start of a reaction.
use Rattle.std.specs.Prelude.{◌≡◌, Bool, ◌&&◌, ℕ, ◌+◌, ◌*◌, ◌≤◌, T, if◌then◌else◌}
use Rattle.std.proofs.Math.Bool.{true, false}
use native.Mathlib.Omega.{arith}
use Rattle.rules.specs.Tree.{Source, Tree, act, at_loop, at_par, await, break, canrun, emit, every, fin, ifvar, input, internal, loop, nop, par, seq}
use Rattle.rules.specs.Check.{may_break, may_end}
use Rattle.rules.specs.Step.{awake}
use Rattle.theory.specs.Logic.{or_map, and-map, and_none, both-map, when-mono}
use Rattle.theory.specs.Program.{loose, Calm, Good, calm-good, calm-break, seq-no-break, seq-breaks}
use Rattle.theory.specs.Measure.{tree_cost, event_cost, full_cost, calm-event, calm-full}

module _ (s e o : ℕ) where
  -- ---- an internal event: what may end or break stays as it was, since only an input await guards

  pub record Woken (t t' : Tree) : Type 0 where
    pub good : Good t'
    pub more : tree_cost s e o t' ≤ tree_cost s e o t + event_cost s e o t
    pub adding : event_cost s e o t' ≤ event_cost s e o t
    pub ends : T (may_end t') → T (may_end t)
    pub breaks : T (may_break t') → T (may_break t)

  same-woken : (t : Tree) → Good t → Woken t t
  same-woken t g = record { good = g; more = omega arith; adding = omega arith; ends = λ h. h; breaks = λ h. h }

  await-woken : (i b : ℕ) (w : Bool) → Woken (await i internal b) (if w then nop i else await i internal b)
  unfolding tree_cost event_cost may_end may_break loose Good
  await-woken i b true = record { good = tt; more = omega arith; adding = omega arith; ends = λ h. tt; breaks = λ h. h }
  await-woken i b false = same-woken (await i internal b) tt

  every-woken : (i b : ℕ) (c : Source) (p : Tree) (w : Bool) → Calm p → Woken (every i c b p) (if w then seq i p (every i c b p) else every i c b p)
  unfolding tree_cost event_cost may_end may_break loose Good
  every-woken i b c p true g = record {
    good = (calm-good p g, g);
    more = omega arith;
    adding = omega (arith, calm-event s e o p g);
    ends = λ h. absurd (and_none (may_end p) false (λ x. x) h);
    breaks = λ h. absurd (seq-no-break i p (every i c b p) (calm-break p g) (λ x. x) h);
  }
  every-woken i b c p false g = same-woken (every i c b p) g

  pub woken : (w : ℕ → Source → ℕ → Bool) → ((i e : ℕ) → w i input e ≡ false) → (t : Tree) → Good t → Woken t (awake w t)
  unfolding awake tree_cost event_cost may_end may_break loose Good
  woken w n (nop i) g = same-woken (nop i) g
  woken w n (act i a v z) g = same-woken (act i a v z) g
  woken w n (await i input b) g = rw (n i b) (same-woken (await i input b) tt)
  woken w n (await i internal b) g = await-woken i b (w i internal b)
  woken w n (emit i b y) g = same-woken (emit i b y) g
  woken w n (break i) g = same-woken (break i) g
  woken w n (ifvar i v p q) g = same-woken (ifvar i v p q) g
  woken w n (seq i p q) g =
      let x = woken w n p g.0 in
      record {
        good = (x.good, g.1);
        more = omega (arith, x.more);
        adding = omega (arith, x.adding);
        ends = and-map (may_end (awake w p)) (may_end q) (may_end p) (may_end q) x.ends (λ h. h);
        breaks = seq-breaks i p (awake w p) q x.ends x.breaks;
      }
  woken w n (loop i p) g = same-woken (loop i p) g
  woken w n (every i c b p) g = every-woken i b c p (w i c b) g
  woken w n (par i j p q) g = same-woken (par i j p q) g
  woken w n (fin i p) g = same-woken (fin i p) g
  woken w n (canrun i m) g = same-woken (canrun i m) g
  woken w n (at_loop i p q) g =
      let x = woken w n p g.0 in
      record {
        good = (x.good, g.1, g.2);
        more = omega (arith, x.more, when-mono (may_end (awake w p)) (may_end p) (2 * s + tree_cost s e o q) x.ends);
        adding = omega (arith, x.adding);
        ends = or_map (may_break (awake w p)) (may_end (awake w p) && may_break q) (may_break p) (may_end p && may_break q) x.breaks (and-map (may_end (awake w p)) (may_break q) (may_end p) (may_break q) x.ends (λ h. h));
        breaks = λ h. h;
      }
  woken w n (at_par i j p q) g =
      let x = woken w n p g.0 in
      let v = woken w n q g.1 in
      record {
        good = (x.good, v.good);
        more = omega (arith, x.more, v.more);
        adding = omega (arith, x.adding, v.adding);
        ends = both-map j (may_end (awake w p)) (may_end (awake w q)) (may_end p) (may_end q) x.ends v.ends;
        breaks = or_map (may_break (awake w p)) (may_break (awake w q)) (may_break p) (may_break q) x.breaks v.breaks;
      }

  -- ---- any event, an input event too: what may end is no longer known, so with `full_cost`

  pub record Roused (t t' : Tree) : Type 0 where
    pub good : Good t'
    pub more : full_cost s e o t' ≤ full_cost s e o t + event_cost s e o t
    pub adding : event_cost s e o t' ≤ event_cost s e o t

  same-roused : (t : Tree) → Good t → Roused t t
  same-roused t g = record { good = g; more = omega arith; adding = omega arith }

  await-roused : (i b : ℕ) (c : Source) (w : Bool) → Roused (await i c b) (if w then nop i else await i c b)
  unfolding full_cost event_cost Good
  await-roused i b c true = record { good = tt; more = omega arith; adding = omega arith }
  await-roused i b c false = same-roused (await i c b) tt

  every-roused : (i b : ℕ) (c : Source) (p : Tree) (w : Bool) → Calm p → Roused (every i c b p) (if w then seq i p (every i c b p) else every i c b p)
  unfolding full_cost event_cost Good
  every-roused i b c p true g = record { good = (calm-good p g, g); more = omega (arith, calm-full s e o p g); adding = omega (arith, calm-event s e o p g) }
  every-roused i b c p false g = same-roused (every i c b p) g

  pub roused : (w : ℕ → Source → ℕ → Bool) (t : Tree) → Good t → Roused t (awake w t)
  unfolding awake full_cost event_cost Good
  roused w (nop i) g = same-roused (nop i) g
  roused w (act i a v z) g = same-roused (act i a v z) g
  roused w (await i d b) g = await-roused i b d (w i d b)
  roused w (emit i b y) g = same-roused (emit i b y) g
  roused w (break i) g = same-roused (break i) g
  roused w (ifvar i v p q) g = same-roused (ifvar i v p q) g
  roused w (seq i p q) g =
      let x = roused w p g.0 in
      record { good = (x.good, g.1); more = omega (arith, x.more); adding = omega (arith, x.adding) }
  roused w (loop i p) g = same-roused (loop i p) g
  roused w (every i d b p) g = every-roused i b d p (w i d b) g
  roused w (par i j p q) g = same-roused (par i j p q) g
  roused w (fin i p) g = same-roused (fin i p) g
  roused w (canrun i m) g = same-roused (canrun i m) g
  roused w (at_loop i p q) g =
      let x = roused w p g.0 in
      record { good = (x.good, g.1, g.2); more = omega (arith, x.more); adding = omega (arith, x.adding) }
  roused w (at_par i j p q) g =
      let x = roused w p g.0 in
      let v = roused w q g.1 in
      record { good = (x.good, v.good); more = omega (arith, x.more, v.more); adding = omega (arith, x.adding, v.adding) }
