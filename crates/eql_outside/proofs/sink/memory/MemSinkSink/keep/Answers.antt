use Rattle.std.proofs.Common.{Some, ap, arith}
use Rattle.std.proofs.lemmas.List.{take_all}
use Rattle.eql_outside.proofs.sink.memory.MemSinkSink.keep.Goals as goal

pub returns-clause-ok : goal.returns-clause-ok
returns-clause-ok c = ap Some (take_all _ _ (search arith))
