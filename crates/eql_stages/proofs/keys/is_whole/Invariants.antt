use Rattle.std.proofs.Common.{◌≡◌, drop}
use Rattle.std.specs.List.{list_all}
use Rattle.eql_stages.specs.Keys.{is_given}
use Rattle.eql_stages.proofs.keys.is_whole.Given as goal

abbrev pub invariant-loop-field : goal.invariant-loop-field
invariant-loop-field l = list_all (is_given l.slots) l.fields ≡ list_all (is_given l.slots) (drop l.field-index l.fields)
