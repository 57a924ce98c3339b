-- Nobody listens where every reach is empty.
use Rattle.walks.proofs.Listening.{nobody-there}
use Rattle.walks.proofs.listeners.Listeners.of_program.Goals as goal

pub listen-requires-clause-nobody : goal.listen-requires-clause-nobody
listen-requires-clause-nobody c = nobody-there
