use Rattle.std.proofs.Common.{Some, sym, ap, ◌∙◌}
use Rattle.std.specs.Prelude.{Err, Ok, OnErr, Result}
use Rattle.std.proofs.lemmas.List.{append-nil}
use Rattle.eql_outside.specs.Written.{WroteFront}
use Rattle.eql_outside.proofs.sink.memory.MemSinkSink.write.Goals as goal

on_err : {A E : Type 0} (r : Result A E) (X : Type 0) → X → OnErr r X
on_err (Ok a) X x = tt
on_err (Err e) X x = x

-- nothing was written
pub returns-in_err-call-clause-prefix : goal.returns-in_err-call-clause-prefix
returns-in_err-call-clause-prefix c =
    let old = c.args.self.now.bytes.items in
    on_err c.from_residual.result (WroteFront c.args.bytes.now (Some old) (Some old)) (0, ap Some (sym (append-nil old)))

pub returns-in-Err-clause-prefix : goal.returns-in-Err-clause-prefix
returns-in-Err-clause-prefix c = (0, ap Some ((c.in-Err.ensures {u = tt}).items ∙ sym (append-nil c.args.self.now.bytes.items)))
