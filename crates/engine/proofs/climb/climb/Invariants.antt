-- What the whole program is left as from here on, it is left as from the part on.
use Rattle.theory.specs.State.{Walk}
use Rattle.memory.specs.Arrays.{Arrays}
use Rattle.walks.specs.Walks.{left}
use Rattle.engine.specs.Parts.{Climbs}
use Rattle.engine.proofs.climb.climb.Given as goal

abbrev pub invariant-loop-step : goal.invariant-loop-step
invariant-loop-step l =
    (v : Walk Arrays) → Climbs l.path.table.now l.path.places l.step l.n (left l.how l.run l.out) v → Climbs l.path.table.now l.path.places l.path.steps l.n (left l.fn.how l.fn.run l.fn.out) v
