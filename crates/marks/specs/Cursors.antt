-- The tree that stands where a cursor does.
use Rattle.rules.specs.Tree.{Tree}
use Rattle.table.specs.Places.{tree_of}
use Rattle.marks.specs.declared.marked.Marked.{Marked}

abbrev pub tree : Marked → Tree
tree at = tree_of at.table.now at.place
