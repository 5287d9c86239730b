use Rattle.std.proofs.Common.{List, ℕ, subst, ◌∙◌}
use Rattle.std.proofs.lemmas.Result.{on_ok_weaker}
use Rattle.eql_values.specs.declared.value.Kind.{Kind}
use Rattle.eql_cut.specs.Formats.{list, both}
use Rattle.eql_cut.specs.Values.{text}
use Rattle.eql_cut.specs.CutValues.{field_kind}
use Rattle.eql_cut.proofs.heads.NameKindsCoded.write.Goals as goal

pub returns-clause-fits : goal.returns-clause-fits
returns-clause-fits c =
    on_ok_weaker c.write_list.result (λ fits. (subst (λ (x : List (List ℕ × Kind)). (list (both text field_kind)).Fits x) (c.deref.ensures.value ∙ c.items.ensures) fits, c.requires)) c.write_list.ensures.fits
