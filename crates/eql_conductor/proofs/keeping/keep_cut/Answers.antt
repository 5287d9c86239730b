use Rattle.std.proofs.Common.{Some, sym}
use Rattle.eql_conductor.specs.Outputs.{output_of}
use Rattle.eql_conductor.specs.RunNotes.{cut_after}
use Rattle.eql_conductor.proofs.DueCuts.{never_due, not_due_at}
use Rattle.eql_conductor.proofs.Ending.{none_goes}
use Rattle.eql_conductor.proofs.keeping.keep_cut.Goals as goal

pub returns-in_default-clause-goes_on : goal.returns-in_default-clause-goes_on
returns-in_default-clause-goes_on g c =
    none_goes g.D.Disk.history g.D.Disk.fault_count c.args.plan.now.head c.args.mark (cut_after c.args.plan.now.every c.args.count (Some c.args.mark)) (g.B.Bench.known c.args.bench.now) c.args.book.now (output_of g.K.Sink c.args.sink.now) c.args.keep.now
    (sym (never_due c.args.plan.now.every c.args.count (Some c.args.mark) (rw c.in_default.is at c.requires.stands)))

pub returns-clause-goes_on : goal.returns-clause-goes_on
returns-clause-goes_on g c =
    rw c.in-Some.is
    (none_goes g.D.Disk.history g.D.Disk.fault_count c.args.plan.now.head c.args.mark (cut_after c.args.plan.now.every c.args.count (Some c.args.mark)) (g.B.Bench.known c.args.bench.now) c.args.book.now (output_of g.K.Sink c.args.sink.now) (Some c.in-Some.keep)
    (not_due_at c.args.plan.now.every c.args.count c.args.mark (λ due. let e = c.is_due.ensures.1 due in let f = c.if-is_due.ensures in cc)))
