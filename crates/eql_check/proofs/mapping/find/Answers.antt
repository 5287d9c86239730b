use Rattle.std.proofs.Common.{rules, ℕ, List}
use Rattle.std.proofs.lemmas.Fn.{always_returns_same}
use Rattle.eql_values.specs.declared.value.Kind.{Kind}
use Rattle.eql_values.specs.Orders.{text_cmp}
use Rattle.eql_check.proofs.Ascending.{found, not_found}
use Rattle.eql_check.proofs.mapping.find.Goals as goal

pub returns-in-Ok : goal.returns-in-Ok
returns-in-Ok c =
    found c.args.fields.now c.args.name.now c.in-Ok.place c.index-fields-place.result c.requires c.in-Ok.ensures.bound
    (c.in-Ok.ensures.position (λ (field : List ℕ × Kind). text_cmp field.0 c.args.name.now) (always_returns_same _ _ _ (λ a r g called. search rules)))

pub returns-in-Err : goal.returns-in-Err
returns-in-Err c =
    not_found c.args.fields.now c.args.name.now c.in-Err.field-0 c.requires
    (c.in-Err.ensures.position (λ (field : List ℕ × Kind). text_cmp field.0 c.args.name.now) (always_returns_same _ _ _ (λ a r g called. search rules)))
