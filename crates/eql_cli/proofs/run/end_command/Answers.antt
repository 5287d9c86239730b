use Rattle.eql_cli.proofs.Endings.{done_ends, stopped_ends}
use Rattle.eql_cli.proofs.run.end_command.Goals as goal

pub returns-in-Ok : goal.returns-in-Ok
returns-in-Ok g c =
    let run = c.in-Ok.ensures in
    record {
      ends = λ words is.
          done_ends g.H.Shelf g.K.Sink g.E.Sink words c.args.command.now is c.runs_are_determined.ensures.apart _ _ _ _ _ _ _ run.ends run.told
          run.kept run.lent run.back run.disk_kept;
    }

pub returns-in-Err : goal.returns-in-Err
returns-in-Err g c =
    let laws = c.runs_are_determined.ensures in
    let run = c.in-Err.ensures in
    let tell = c.tell_end.ensures in
    record {
      ends = λ words is.
          stopped_ends g.H.Shelf g.K.Sink g.E.Sink words c.args.command.now is laws.apart _ _ _ _ _ _ _ c.in-Err.error _ laws.ready laws.status laws.accepted
          run.ends run.told run.unfailing run.kept run.lent run.back run.disk_kept tell.status tell.told tell.quiet tell.counts;
    }
