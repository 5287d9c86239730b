-- What is said of a walk over a line.
use Rattle.std.specs.Prelude.{Bool, true, false, ⊤}
use Rattle.eql_lines.specs.declared.read.LineShape.{LineShape}
use Rattle.eql_lines.specs.declared.read.LineShape.TheVariants.{NotJson, NotObject, Object, Again}

-- the line was read as JSON
abbrev pub IsJson : LineShape → Type 0
IsJson NotJson = ⊥
IsJson NotObject = ⊤
IsJson Object = ⊤
IsJson Again = ⊥

abbrev pub is_object_line : LineShape → Bool
is_object_line NotJson = false
is_object_line NotObject = false
is_object_line Object = true
is_object_line Again = false
