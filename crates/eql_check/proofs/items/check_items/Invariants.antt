use Rattle.std.proofs.Common.{◌≡◌, ◌+◌, drop}
use Rattle.eql_check.specs.Kinds.{kind_at}
use Rattle.eql_check.specs.Rules.{items_broken}
use Rattle.eql_check.specs.Entries.{terms_in}
use Rattle.eql_check.proofs.items.check_items.Given as goal

abbrev pub invariant-loop-index : goal.invariant-loop-index
invariant-loop-index l =
    items_broken (kind_at l.mapping) (l.index + 1) (terms_in (drop l.index l.items)) ≡ items_broken (kind_at l.mapping) 1 (terms_in l.items)
