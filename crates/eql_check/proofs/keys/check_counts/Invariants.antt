use Rattle.std.proofs.Common.{◌≡◌, ◌+◌, drop}
use Rattle.eql_check.specs.Rules.{counts_broken}
use Rattle.eql_check.specs.Entries.{terms_in}
use Rattle.eql_check.proofs.keys.check_counts.Given as goal

abbrev pub invariant-loop-index : goal.invariant-loop-index
invariant-loop-index l =
    counts_broken l.count (l.index + 1) (terms_in (drop l.index l.items)) ≡ counts_broken l.count 1 (terms_in l.items)
