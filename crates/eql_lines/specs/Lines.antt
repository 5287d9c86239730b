-- What a line is, and what its slots hold.
use Rattle.std.specs.Prelude.{◌≡◌, ℕ, List, Option, None, Some, String, if◌then◌else◌}
use Rattle.std.specs.declared.alloc.Global.{Global}
use Rattle.serde_json.specs.Data.{Data}
use Rattle.eql_lines.specs.Reach.{reach, over}
use Rattle.eql_lines.specs.Found.{nothing, found_all, found_at}
use Rattle.eql_lines.specs.Objects.{is_object}
use Rattle.eql_lines.specs.Paths.{path_at}
use Rattle.eql_lines.specs.declared.line.Line.{Line}
use Rattle.eql_lines.specs.declared.line.Line.TheVariants.{NotJson, NotObject, Object}
use Rattle.eql_lines.specs.declared.slots.Slot.{Slot}

abbrev pub line_of : Option Data → Line
line_of None = NotJson
line_of (Some d) = if is_object d then Object else NotObject

-- of a line that is a value, each slot holds what its path reaches
abbrev pub AreFilled : List (String Global) → List Slot → Option Data → Type 0
AreFilled paths slots json = (d : Data) → json ≡ Some d → (i : ℕ) → found_at slots i ≡ found_all nothing (over (reach d) (path_at paths i))
