use Rattle.eql_cli.proofs.tell.tell_held.Goals as goal

pub returns-in-Busy-clause-told : goal.returns-in-Busy-clause-told
returns-in-Busy-clause-told g c = rw c.in-Busy.is c.tell_text.ensures.told
