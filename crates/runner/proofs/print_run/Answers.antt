use Rattle.runner.proofs.Verdict.{few-records}
use Rattle.runner.proofs.print_run.Goals as goal

pub invariant_of-of_program : goal.invariant_of-of_program
invariant_of-of_program g c = record { small = few-records c.args.table.now c.args.events.now c.in_ok-verdict.ensures }
