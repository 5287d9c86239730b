use Rattle.std.proofs.Common.{◌≡◌, ap₂, ◌∙◌, rules}
use Rattle.eql_query.specs.View.{tree}
use Rattle.eql_code.proofs.Emitting.{turned}
use Rattle.eql_code.proofs.Runs.{compiled_sound}
use Rattle.eql_code.proofs.machine.code_of.Goals as goal

pub invariant_of-result : goal.invariant_of-result
invariant_of-result c =
    let same : c.in-Ok.depth ≡ c.in_ok-deep.deep = search rules in
    λ slots. compiled_sound c.args.fields.now slots (tree c.args.expr.now) _ _
    (turned _ _ _ _ c.new-ops.ensures.items c.in_ok-deep.ensures.items c.reverse.ensures.items) (same ∙ c.in_ok-deep.ensures.depth)

pub returns-in-Ok : goal.returns-in-Ok
returns-in-Ok c =
    let same : c.in-Ok.depth ≡ c.in_ok-deep.deep = search rules in
    ap₂ (λ ops deep. (ops, deep))
    (turned _ _ _ _ c.new-ops.ensures.items c.in_ok-deep.ensures.items c.reverse.ensures.items)
    (same ∙ c.in_ok-deep.ensures.depth)
