use Rattle.std.proofs.Common.{◌∙◌, ap, subst}
use Rattle.eql_cut.specs.Whole.{IsNoText}
use Rattle.eql_ckdisk.specs.Refusing.{number_of}
use Rattle.eql_ckdisk.proofs.Answering.{damage_found}
use Rattle.eql_ckdisk.proofs.recovery.Recovered.of.Goals as goal

pub returns-in-Err-Damaged-clause-refuses : goal.returns-in-Err-Damaged-clause-refuses
returns-in-Err-Damaged-clause-refuses c = λ f there.
    damage_found c.args.last c.in-Some.text c.area_number.result c.in-Err-Damaged.at c.in-Some.is
    (c.area_number.ensures ∙ ap number_of c.area.ensures)
    (subst IsNoText c.deref.ensures.value (rw c.in-Err-Damaged.field-0-is at c.in-Err-Damaged.ensures.damaged)) f there
