use Rattle.std.proofs.Common.{◌≡◌, take}
use Rattle.eql_stages.specs.Keys.{values_of}
use Rattle.eql_stages.proofs.keys.copied.Given as goal

abbrev pub invariant-loop-field : goal.invariant-loop-field
invariant-loop-field l = l.values.items ≡ values_of l.slots (take l.field-index l.fields)
