use Rattle.std.proofs.Common.{refl, sym, ap, ◌∙◌}
use Rattle.eql_parser.specs.Kinds.{kinds, assign_}
use Rattle.eql_parser.specs.QueryReading.{behind_expected, is_runs, is_assign, number_at, runs}
use Rattle.eql_parser.proofs.Parts.{as_read}
use Rattle.eql_parser.proofs.Queries.{expected_is, expected_not, lacks_runs, lacks_assign}
use Rattle.eql_parser.proofs.parser.term.runs_of.Goals as goal

pub returns-in_default-after_runs : goal.returns-in_default-after_runs
returns-in_default-after_runs c =
    ap runs c.in-Some.ensures ∙ expected_not is_runs (behind_expected is_assign number_at) c.in-Some.with.now (lacks_runs _ c.in_default-after_runs.ensures)

pub returns-in_default-after : goal.returns-in_default-after
returns-in_default-after c =
    let word = c.in-Some-after_runs.ensures in
    ap runs c.in-Some.ensures
    ∙ expected_is is_runs (behind_expected is_assign number_at) (kinds c.in-Some.with.now) word.0 (kinds c.in-Some-after_runs.named.now) word.1 word.2
    ∙ expected_not is_assign number_at c.in-Some-after_runs.named.now (lacks_assign _ c.in_default-after.ensures)

pub returns : goal.returns
returns c =
    let word = c.in-Some-after_runs.ensures in
    as_read (λ n. n) c.number_of.result _ _ (sym (ap runs c.in-Some.ensures
    ∙ expected_is is_runs (behind_expected is_assign number_at) (kinds c.in-Some.with.now) word.0 (kinds c.in-Some-after_runs.named.now) word.1 word.2
    ∙ expected_is is_assign number_at (kinds c.in-Some-after_runs.named.now) assign_ (kinds c.in-Some-after.assigned.now) c.in-Some-after.ensures refl)) c.number_of.ensures
