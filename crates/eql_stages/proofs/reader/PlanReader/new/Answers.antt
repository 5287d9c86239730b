use Rattle.std.proofs.Common.{sym, subst, ◌∙◌}
use Rattle.eql_stages.specs.Compiling.{MatchStages, MatchesUntil}
use Rattle.eql_stages.specs.Planned.{planned_query}
use Rattle.eql_stages.specs.Stages.{stages_in, until_in}
use Rattle.eql_stages.proofs.Made.{reader_is}
use Rattle.eql_stages.proofs.reader.PlanReader.new.Goals as goal

pub returns : goal.returns
returns c =
    let plan = planned_query c.args.plan.now in
    reader_is (record { wanted = c.in_ok-new.field-0; matchers = c.in_ok-matchers.matchers.items.items; until = c.in_ok-matchers.matchers.until }) plan
    ((c.in_ok-new.ensures {u = tt}) ∙ (c.in_ok-wanted.ensures {u = tt}))
    (subst (MatchStages plan.fields (stages_in plan.query.body)) (sym c.in_ok-matchers.ensures.cases.0) c.matchers.ensures.matcher)
    (subst (MatchesUntil plan.fields (until_in plan.query.body)) (sym c.in_ok-matchers.ensures.cases.1) c.matchers.ensures.end)
