-- The wanted paths of a walk.
use Rattle.std.specs.Prelude.{List, String}
use Rattle.std.specs.declared.alloc.Global.{Global}
use Rattle.eql_lines.specs.declared.read.PathTable.{PathTable}
use Rattle.eql_lines.specs.declared.read.PathTable.TheVariants.{Few, Many}

abbrev pub names_of : PathTable → List (String Global)
names_of (Few s) = s.paths.paths.items
names_of (Many v) = v.items
