-- The two sides of an and or or.
use Rattle.std.specs.Prelude.{◌+◌}
use Rattle.rules.specs.Tree.{Tree}
use Rattle.rules.specs.Table.{second_at}
use Rattle.table.specs.Places.{tree_of}
use Rattle.engine.specs.declared.fork.Fork.{Fork}

abbrev pub left_side : Fork → Tree
left_side f = tree_of f.at.table.now (f.at.place + 1)

abbrev pub right_side : Fork → Tree
right_side f = tree_of f.at.table.now (second_at f.at.table.now f.at.place)
