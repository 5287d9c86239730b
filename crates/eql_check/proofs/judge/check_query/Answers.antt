use Rattle.std.proofs.Common.{rules, ◌≡◌, None}
use Rattle.eql_check.specs.Kinds.{kind_at}
use Rattle.eql_check.specs.Rules.{items_broken}
use Rattle.eql_check.specs.Entries.{terms_in}
use Rattle.eql_check.proofs.Breaking.{runs_kept}
use Rattle.eql_check.proofs.judge.check_query.Goals as goal

pub check_whole-requires-clause-runs : goal.check_whole-requires-clause-runs
check_whole-requires-clause-runs c =
    let kept : items_broken (kind_at c.args.mapping.now) 1 (terms_in c.deref-3.result.now) ≡ None = search rules in
    runs_kept (kind_at c.args.mapping.now) 1 (terms_in c.deref-3.result.now) kept
