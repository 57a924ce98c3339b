use Rattle.std.proofs.Common.{arith, ap}
use Rattle.table.specs.Kinds.{children_of}
use Rattle.table.specs.declared.kind.Kind.TheVariants as kind
use Rattle.table.proofs.Spots.{named-children}
use Rattle.engine.proofs.fork.Fork.left.Goals as goal

pub first-requires : goal.first-requires
first-requires c = omega (arith, ap children_of c.args.self.forks, named-children (kind.Par c.args.self.par))
