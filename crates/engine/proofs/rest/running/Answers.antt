-- Before the first that runs, and behind the last, all rest.
use Rattle.std.specs.Prelude.{Option, None, Some}
use Rattle.std.specs.Option.{unwrap_or}
use Rattle.std.proofs.Common.{rules, arith, refl, ◌≡◌, ℕ, ◌+◌, ◌<◌, ◌≤◌, List, true, get_or, take, length}
use Rattle.std.proofs.lemmas.List.{get_or-take, length-take}
use Rattle.theory.specs.State.{still_at}
use Rattle.rules.specs.Table.{records_of}
use Rattle.engine.proofs.rest.running.Goals as goal

behind-last : (n f : ℕ) (l : List ℕ) (r : Option ℕ) → (r ≡ None → (k : ℕ) → k < length l → still_at n (get_or l k 0) ≡ true) → ((i : ℕ) → r ≡ Some i → (k : ℕ) → i + 1 ≤ k → k < length l → still_at n (get_or l k 0) ≡ true) → (k : ℕ) → unwrap_or r f + 1 ≤ k → k < length l → still_at n (get_or l k 0) ≡ true
behind-last n f l None x y k h g = x refl k g
behind-last n f l (Some i) x y k h g = y i refl k h g

pub returns : goal.returns
returns c =
    let states = c.args.states.now in
    let records = records_of c.args.program.table.now in
    let here = take records states in
    let before : (k : ℕ) → k < c.in-Some.from → still_at c.args.n (get_or here k 0) ≡ true = search rules in
    let behind = behind-last c.args.n c.in-Some.from here c.rposition-last.result (λ e. search rules) (λ i e. search rules) in
    record {
      before = λ k h g. rw (← get_or-take records states k 0 g) (before k h);
      behind = λ k h g. rw (← get_or-take records states k 0 g) (behind k (omega (arith, h, c.unwrap_or.ensures)) (omega (arith, g, length-take records states)));
    }
