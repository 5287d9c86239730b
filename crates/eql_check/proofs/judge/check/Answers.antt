use Rattle.std.proofs.Common.{◌≡◌, None, sym, ◌∙◌, subst, ap}
use Rattle.std.proofs.lemmas.Result.{err_from_is_err_and}
use Rattle.eql_query.specs.QueryTree.{query_tree}
use Rattle.eql_check.specs.Kinds.{kind_at}
use Rattle.eql_check.specs.Used.{used_fields}
use Rattle.eql_check.specs.Rules.{first_broken}
use Rattle.eql_check.proofs.Checking.{is_checked, not_checked}
use Rattle.eql_check.proofs.Passing.{no_rule, its_fields, its_rule}
use Rattle.eql_check.proofs.judge.check.Goals as goal

pub returns-in_err-fields-clause-refused : goal.returns-in_err-fields-clause-refused
returns-in_err-fields-clause-refused c =
    let p = err_from_is_err_and c.from_residual.result c.from_residual.ensures.1 in
    rw (p.1, p.2) (its_rule (first_broken (kind_at c.args.mapping.now) (query_tree c.args.query.now)) (used_fields (kind_at c.args.mapping.now) (query_tree c.args.query.now)) c.in_err-fields.field-0.0 c.in_err-fields.ensures)

pub returns-in_err-fields-clause-unchecked : goal.returns-in_err-fields-clause-unchecked
returns-in_err-fields-clause-unchecked c =
    let p = err_from_is_err_and c.from_residual.result c.from_residual.ensures.1 in
    rw (p.1, p.2) (λ other. not_checked (kind_at c.args.mapping.now) (query_tree c.args.query.now) c.in_err-fields.field-0.0
    (its_rule (first_broken (kind_at c.args.mapping.now) (query_tree c.args.query.now)) (used_fields (kind_at c.args.mapping.now) (query_tree c.args.query.now)) c.in_err-fields.field-0.0 c.in_err-fields.ensures other))

pub returns-clause-checked : goal.returns-clause-checked
returns-clause-checked c =
    is_checked (kind_at c.args.mapping.now) (query_tree c.args.query.now) (no_rule (first_broken (kind_at c.args.mapping.now) (query_tree c.args.query.now)) (used_fields (kind_at c.args.mapping.now) (query_tree c.args.query.now)) c.in_ok-fields.fields c.in_ok-fields.ensures)

pub returns-clause-fields : goal.returns-clause-fields
returns-clause-fields c =
    let same = its_fields (first_broken (kind_at c.args.mapping.now) (query_tree c.args.query.now)) (used_fields (kind_at c.args.mapping.now) (query_tree c.args.query.now)) c.in_ok-fields.fields c.in_ok-fields.ensures in
    ap (λ seen. seen.fields) c.of.ensures ∙ same

pub of-requires-clause-kept : goal.of-requires-clause-kept
of-requires-clause-kept c =
    let kept = no_rule (first_broken (kind_at c.args.mapping.now) (query_tree c.args.query.now)) (used_fields (kind_at c.args.mapping.now) (query_tree c.args.query.now)) c.in_ok-fields.fields c.in_ok-fields.ensures in
    subst (λ q. first_broken (kind_at c.args.mapping.now) q ≡ None) (sym c.in_ok-copy.ensures) kept

pub of-requires-clause-used : goal.of-requires-clause-used
of-requires-clause-used c =
    let same = its_fields (first_broken (kind_at c.args.mapping.now) (query_tree c.args.query.now)) (used_fields (kind_at c.args.mapping.now) (query_tree c.args.query.now)) c.in_ok-fields.fields c.in_ok-fields.ensures in
    same ∙ sym (ap (λ q. used_fields (kind_at c.args.mapping.now) q) c.in_ok-copy.ensures)
