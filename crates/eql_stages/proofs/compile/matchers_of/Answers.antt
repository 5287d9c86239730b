use Rattle.std.proofs.Common.{◌≡◌, ◌≤◌, ◌++◌, List, subst, ◌∙◌, arith}
use Rattle.std.proofs.lemmas.Bool.{le-leb}
use Rattle.eql_query.specs.declared.expr.FieldRef.{FieldRef}
use Rattle.eql_query.specs.QueryTree.{term_tree}
use Rattle.eql_stages.specs.Compiling.{MatchesStage}
use Rattle.eql_stages.specs.Matching.{has_stage}
use Rattle.eql_stages.specs.Stages.{count_of}
use Rattle.eql_stages.proofs.Counted.{runs_between}
use Rattle.eql_stages.proofs.Made.{term_runs, terms_on, each_on}
use Rattle.eql_stages.proofs.compile.matchers_of.Goals as goal

pub runs_of-runs-requires : goal.runs_of-runs-requires
runs_of-runs-requires c =
    term_runs c.args.items.now c.loop-term.term-index c.term-item.result c.requires.runs (omega arith) c.term-item.is

pub loop-term-preserved : goal.loop-term-preserved
loop-term-preserved c =
    let term = c.term-item.result in
    let matcher = c.in_ok-matcher_of.field-0 in
    let matchers : MatchesStage c.args.checked.now.fields (record { term = term_tree term; keys = c.args.shared.now ++ term.by }) matcher =
    subst (λ (keys : List FieldRef). MatchesStage c.args.checked.now.fields (record { term = term_tree term; keys = c.args.shared.now ++ keys }) matcher)
    (c.deref.ensures.value ∙ c.items.ensures) c.in_ok-matcher_of.ensures.matchers in
    let runs : matcher.runs ≡ count_of term.runs = c.in_ok-matcher_of.ensures.runs ∙ c.runs_of-runs.ensures in
    let some = (runs_between term.runs (term_runs c.args.items.now c.loop-term.term-index term c.requires.runs (omega arith) c.term-item.is)).0 in
    let one : 1 ≤ matcher.runs = omega arith in
    record {
      matcher = terms_on c.args.checked.now.fields c.args.shared.now c.args.items.now c.loop-term.term-index term c.loop-term.matchers.items
          c.push.new.self.items matcher (omega arith) c.term-item.is c.in_ok-push.ensures.items c.loop-term.invariant.matcher matchers runs;
      each = each_on has_stage c.loop-term.matchers.items c.push.new.self.items matcher c.in_ok-push.ensures.items c.loop-term.invariant.each
          (le-leb 1 matcher.runs one);
    }
