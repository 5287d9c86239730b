use Rattle.std.proofs.Common.{◌≡◌, length, map, ap, ◌∙◌, arith}
use Rattle.eql_query.specs.declared.query.Query.{Query}
use Rattle.eql_query.specs.QueryTree.{query_tree}
use Rattle.eql_stages.specs.Stages.{stages_in, pipe_of}
use Rattle.eql_stages.proofs.Counted.{stages_between}
use Rattle.eql_stages.proofs.plan.Plan.make.Goals as goal

pub invariant_of-result : goal.invariant_of-result
invariant_of-result c =
    let body = (query_tree c.args.checked.query).body in
    let both = stages_between body c.rules_are_kept.ensures.checked.stages c.rules_are_kept.ensures.runs in
    let least = both.0 in
    let most = both.1 in
    let count : c.stage_count-stages.result ≡ length (stages_in body) = c.stage_count-stages.ensures ∙ c.in_ok-matchers.ensures.stages.count in
    record {
      matcher = c.in_ok-matchers.ensures.stages;
      end = c.in_ok-matchers.ensures.until;
      count = count;
      from = omega arith;
      to = omega arith;
      pipes_are = (c.in_ok-pipes.ensures {u = tt}) ∙ ap (map pipe_of) (c.deref.ensures.value ∙ c.items.ensures ∙ ap (λ (q : Query). q.pipes) c.query.ensures);
    }
