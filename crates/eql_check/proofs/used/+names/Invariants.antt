use Rattle.std.proofs.Common.{◌≡◌, ◌++◌, map, drop}
use Rattle.eql_query.specs.View.{tree, trees_of}
use Rattle.eql_check.specs.Used.{fields_among}
use Rattle.eql_check.specs.Entries.{names_seen}
use Rattle.eql_check.proofs.used.+names.Given as goal

abbrev pub invariant-add_names_among-loop-item : goal.invariant-add_names_among-loop-item
invariant-add_names_among-loop-item l =
    names_seen l.names.items ++ fields_among (trees_of (map tree (drop l.item-index l.item-items)))
    ≡ names_seen l.fn.names.items ++ fields_among (trees_of (map tree l.item-items))
