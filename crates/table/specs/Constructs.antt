-- The tree that stands where a construct does.
use Rattle.rules.specs.Tree.{Tree}
use Rattle.table.specs.Places.{tree_of}
use Rattle.table.specs.declared.construct.Construct.{Construct}

abbrev pub tree : Construct → Tree
tree c = tree_of c.table.now c.place
