use Rattle.eql_cli.proofs.tell.tell_run.Goals as goal

pub returns-in-Write-clause-told : goal.returns-in-Write-clause-told
returns-in-Write-clause-told g c = rw c.in-Write.is c.tell_text-in-Write.ensures.told
