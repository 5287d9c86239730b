use Rattle.std.proofs.Common.{◌≡◌, take}
use Rattle.eql_query.proofs.copy.copy_fields.Given as goal

abbrev pub invariant-loop-field : goal.invariant-loop-field
invariant-loop-field l = l.items.items ≡ take l.field-index l.field-items
