-- Those that wait for the event are woken and run, then the rounds.
use Rattle.std.proofs.Common.{arith}
use Rattle.theory.specs.Round.{pushed, react}
use Rattle.table.specs.declared.kind.Source.TheVariants.{Input}
use Rattle.engine.proofs.Resting.{woken-runs}
use Rattle.engine.proofs.round.react.Goals as goal

pub run_part-first-requires-clause-runs : goal.run_part-first-requires-clause-runs
run_part-first-requires-clause-runs c =
    let hear = rw (← c.reach-reach.ensures) at (c.requires.listens.counted Input c.args.event) in
    let root = rw c.requires.root at c.args.program.stands in
    rw (c.wake.ensures, c.requires.root) (woken-runs _ c.args.run.now.states Input c.args.event c.reach-reach.result root.place {n = 4} (omega arith) c.requires.all_wait hear)

pub returns : goal.returns
unfolding pushed react
returns c = rw (← c.tick.ensures _, ← c.wake.ensures, ← c.run_part-first.ensures.left) c.rounds.ensures
