use Rattle.std.proofs.Common.{◌≡◌, ◌++◌, drop}
use Rattle.eql_check.specs.Used.{item_fields}
use Rattle.eql_check.specs.Entries.{names_seen, terms_in}
use Rattle.eql_check.proofs.used.add_names_of.Given as goal

abbrev pub invariant-loop-item : goal.invariant-loop-item
invariant-loop-item l =
    names_seen l.names.items ++ item_fields (terms_in (drop l.item-index l.items))
    ≡ names_seen l.fn.names.items ++ item_fields (terms_in l.items)
