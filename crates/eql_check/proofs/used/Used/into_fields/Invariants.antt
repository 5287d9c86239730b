use Rattle.std.proofs.Common.{◌≡◌, ◌++◌}
use Rattle.eql_check.specs.Entries.{fields_in_entries}
use Rattle.eql_check.proofs.used.Used.into_fields.Given as goal

abbrev pub invariant-loop-name : goal.invariant-loop-name
invariant-loop-name l = l.fields.items ++ fields_in_entries l.name-iterator ≡ l.fn.self
