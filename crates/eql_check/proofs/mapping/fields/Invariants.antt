use Rattle.std.proofs.Common.{◌≡◌}
use Rattle.serde_json.specs.View.{members_view}
use Rattle.eql_check.specs.Mappings.{fields_of, fields_before}
use Rattle.eql_check.proofs.mapping.fields.Given as goal

abbrev pub invariant-loop-name : goal.invariant-loop-name
invariant-loop-name l =
    fields_before l.fields.items (fields_of (members_view l.name-iterator)) ≡ fields_of (members_view l.members.entries)
