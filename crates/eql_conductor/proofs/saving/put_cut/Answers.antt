use Rattle.std.proofs.Common.{rules}
use Rattle.eql_outside.proofs.Landing.{images}
use Rattle.eql_ckdisk.specs.Putting.{last_cut}
use Rattle.eql_ckdisk.proofs.RunLemmas.{go_on}
use Rattle.eql_conductor.proofs.saving.put_cut.Goals as goal

pub returns-in-Ok-clause-faults : goal.returns-in-Ok-clause-faults
returns-in-Ok-clause-faults g c = record { cause = search rules; steady = search rules; counts = search rules; unfailing = search rules }

pub returns-in-Err-DiskFault-clause-faults : goal.returns-in-Err-DiskFault-clause-faults
returns-in-Err-DiskFault-clause-faults g c = record { cause = search rules; steady = search rules; counts = search rules; unfailing = search rules }

pub returns-in-Err-Memory-clause-faults : goal.returns-in-Err-Memory-clause-faults
returns-in-Err-Memory-clause-faults g c = record { cause = search rules; steady = search rules; counts = search rules; unfailing = search rules }

pub returns-in-Err-Generation-clause-faults : goal.returns-in-Err-Generation-clause-faults
returns-in-Err-Generation-clause-faults g c = record { cause = search rules; steady = search rules; counts = search rules; unfailing = search rules }

pub returns-in-Ok-clause-puts : goal.returns-in-Ok-clause-puts
returns-in-Ok-clause-puts g c =
    (go_on images).one_put (last_cut c.args.keep.now.state) c.args.cut.now (g.D.Disk.history c.args.keep.now.disk) (g.D.Disk.history c.put.new.disk) c.requires.stands c.put.ensures.moments

pub returns-in-Err-DiskFault-clause-puts : goal.returns-in-Err-DiskFault-clause-puts
returns-in-Err-DiskFault-clause-puts g c =
    (go_on images).one_put (last_cut c.args.keep.now.state) c.args.cut.now (g.D.Disk.history c.args.keep.now.disk) (g.D.Disk.history c.put.new.disk) c.requires.stands c.put.ensures.moments

pub returns-in-Err-Memory-clause-puts : goal.returns-in-Err-Memory-clause-puts
returns-in-Err-Memory-clause-puts g c =
    (go_on images).one_put (last_cut c.args.keep.now.state) c.args.cut.now (g.D.Disk.history c.args.keep.now.disk) (g.D.Disk.history c.put.new.disk) c.requires.stands c.put.ensures.moments

pub returns-in-Err-Generation-clause-puts : goal.returns-in-Err-Generation-clause-puts
returns-in-Err-Generation-clause-puts g c =
    (go_on images).one_put (last_cut c.args.keep.now.state) c.args.cut.now (g.D.Disk.history c.args.keep.now.disk) (g.D.Disk.history c.put.new.disk) c.requires.stands c.put.ensures.moments
