use Rattle.std.proofs.Common.{[], refl}
use Rattle.std.proofs.lemmas.Result.{IfErr-weaker}
use Rattle.eql_find.proofs.FileLemmas.{file_faults, file_out}
use Rattle.eql_cli.proofs.PrintLemmas.{stop_cause}
use Rattle.eql_cli.proofs.check.check_query.Goals as goal

pub returns-in-Ok-clause-cause : goal.returns-in-Ok-clause-cause
returns-in-Ok-clause-cause g c = IfErr-weaker c.write_query.result _ _ (stop_cause c.args.query.now c.args.fields.now _ _ _ c.in-Ok.ensures.checked) c.write_query.ensures.stops

pub returns-in-Err-clause-faults : goal.returns-in-Err-clause-faults
returns-in-Err-clause-faults g c = file_faults c.in-Err.error _ _ c.in-Err.ensures.shelf.told.faults

pub returns-in-Err-clause-out : goal.returns-in-Err-clause-out
returns-in-Err-clause-out g c = file_out c.in-Err.error _ _ refl

pub returns-in-Err-clause-cause : goal.returns-in-Err-clause-cause
returns-in-Err-clause-cause g c = c.in-Err.ensures.cause []
