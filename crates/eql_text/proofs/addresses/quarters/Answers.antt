use Rattle.std.specs.Str.{chars}
use Rattle.eql_text.proofs.Addressing.{only_one, only_two, only_three, too_many, four}
use Rattle.eql_text.proofs.addresses.quarters.Goals as goal

pub returns-in_err-a : goal.returns-in_err-a
returns-in_err-a c = rw c.from_residual.ensures (only_one _ c.in_err-a.ensures)

pub returns-in_err-b : goal.returns-in_err-b
returns-in_err-b c =
    rw c.from_residual-in_err-b.ensures (only_two _ _ (chars c.in_ok-a.rest.now) c.in_ok-a.ensures c.in_err-b.ensures)

pub returns-in_err-c : goal.returns-in_err-c
returns-in_err-c c =
    rw c.from_residual-in_err-c.ensures
    (only_three _ _ (chars c.in_ok-a.rest.now) _ (chars c.in_ok-b.rest.now) c.in_ok-a.ensures c.in_ok-b.ensures c.in_err-c.ensures)

pub returns-in-Some : goal.returns-in-Some
returns-in-Some c =
    too_many _ _ (chars c.in_ok-a.rest.now) _ (chars c.in_ok-b.rest.now) _ (chars c.in_ok-c.d.now) _ (chars c.in-Some.field-0.1.now)
    c.in_ok-a.ensures c.in_ok-b.ensures c.in_ok-c.ensures c.in-Some.ensures

pub returns-in-None : goal.returns-in-None
returns-in-None c =
    four _ _ (chars c.in_ok-a.rest.now) _ (chars c.in_ok-b.rest.now) _ (chars c.in_ok-c.d.now)
    c.in_ok-a.ensures c.in_ok-b.ensures c.in_ok-c.ensures c.in-None.ensures
