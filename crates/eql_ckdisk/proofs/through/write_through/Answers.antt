use Rattle.std.proofs.lemmas.Result.{on_ok_weaker, on_err_weaker}
use Rattle.eql_ckdisk.proofs.Moving.{on_err}
use Rattle.eql_ckdisk.proofs.Writes.{told_refused, told_unkept, told_done}
use Rattle.eql_ckdisk.proofs.through.write_through.Goals as goal

pub returns-in_err-write-clause-refused : goal.returns-in_err-write-clause-refused
returns-in_err-write-clause-refused g c =
    on_err c.from_residual.result (told_refused c.crashes_leave_images.ensures.images c.crashes_leave_images.ensures.lands c.args.area (record { at = c.args.at; bytes = c.args.bytes.now }) _ _ c.in_err-write.ensures.refused)

pub returns-clause-ok : goal.returns-clause-ok
returns-clause-ok g c =
    on_ok_weaker c.sync.result (told_done c.crashes_leave_images.ensures.images c.crashes_leave_images.ensures.lands c.args.area (record { at = c.args.at; bytes = c.args.bytes.now }) _ _ _ c.requires c.in_ok-write.ensures.ok) c.sync.ensures.ok

pub returns-clause-refused : goal.returns-clause-refused
returns-clause-refused g c =
    on_err_weaker c.sync.result (told_unkept c.crashes_leave_images.ensures.images c.crashes_leave_images.ensures.lands c.args.area (record { at = c.args.at; bytes = c.args.bytes.now }) _ _ _ c.requires c.in_ok-write.ensures.ok) c.sync.ensures.refused
