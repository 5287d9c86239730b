use Rattle.std.proofs.Common.{◌∷◌, Some, ap, ◌∙◌}
use Rattle.eql_query.specs.View.{tree}
use Rattle.eql_check.specs.Truth.{means, value_at}
use Rattle.eql_code.specs.Stack.{Compiled, is_free}
use Rattle.eql_code.proofs.Runs.{compiled_gives, compiled_leaves}
use Rattle.eql_code.proofs.Free.{free}
use Rattle.eql_code.proofs.machine.compile.Goals as goal

pub returns-clause-means : goal.returns-clause-means
returns-clause-means c =
    λ slots. compiled_gives c.fields.result.now slots (tree c.args.expr.now) _ _
    (ap (λ (is : Compiled). is.0) c.in_ok-code.ensures) (ap (λ (is : Compiled). is.1) c.in_ok-code.ensures)
    ∙ ap (λ fields. means (value_at fields slots) (tree c.args.expr.now)) c.fields.ensures.same

pub returns-clause-leaves : goal.returns-clause-leaves
returns-clause-leaves c =
    λ slots st. compiled_leaves c.fields.result.now slots (tree c.args.expr.now) _ _ st
    (ap (λ (is : Compiled). is.0) c.in_ok-code.ensures) (ap (λ (is : Compiled). is.1) c.in_ok-code.ensures)
    ∙ ap (λ fields. Some (means (value_at fields slots) (tree c.args.expr.now) ∷ st)) c.fields.ensures.same

pub returns-clause-free : goal.returns-clause-free
returns-clause-free c = λ none.
    ap (λ (is : Compiled). is_free is.0) c.in_ok-code.ensures ∙ free c.fields.result.now (tree c.args.expr.now) none
