use Rattle.std.proofs.Common.{◌*◌, List, ℕ, replicate, pos, ap}
use Rattle.std.proofs.lemmas.List.{take-replicate}
use Rattle.rules.specs.Limits.{record_bytes, most_records, variables, runner_outputs}
use Rattle.rules.specs.Table.{records_of}
use Rattle.calls.specs.Answers.{lent}
use Rattle.runner.proofs.run.Run.of_program.Goals as goal

pub returns : goal.returns
returns c =
    ap (λ (m : List ℕ). lent m (replicate variables (pos 0)) (replicate (runner_outputs * record_bytes) 0))
    (take-replicate (records_of c.args.program.table.now) most_records 0 c.args.program.small)
