use Rattle.std.proofs.Common.{◌≡◌, drop}
use Rattle.eql_check.specs.Kinds.{kind_at}
use Rattle.eql_check.specs.Entering.{used_after}
use Rattle.eql_check.specs.Entries.{names_seen}
use Rattle.eql_check.proofs.used.Used.add_all.Given as goal

abbrev pub invariant-loop-name : goal.invariant-loop-name
invariant-loop-name l =
    used_after (kind_at l.mapping) l.self (names_seen (drop l.name-index l.names))
    ≡ used_after (kind_at l.mapping) l.initial.self (names_seen l.names)
