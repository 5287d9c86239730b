use Rattle.eql_inputs.proofs.tell.tell_error.Goals as goal

pub returns-in-Read-clause-told : goal.returns-in-Read-clause-told
returns-in-Read-clause-told g c = rw c.in-Read.is c.tell_name.ensures.told
