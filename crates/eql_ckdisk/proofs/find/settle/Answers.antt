use Rattle.std.proofs.lemmas.Result.{on_ok_weaker, on_err_weaker}
use Rattle.eql_ckdisk.proofs.Settling.{told_second, told_both}
use Rattle.eql_ckdisk.proofs.find.settle.Goals as goal

pub returns-clause-ok : goal.returns-clause-ok
returns-clause-ok g c = on_ok_weaker c.sync-2.result (told_both _ _ _ c.in_ok-sync.ensures.ok) c.sync-2.ensures.ok

pub returns-clause-refused : goal.returns-clause-refused
returns-clause-refused g c = on_err_weaker c.sync-2.result (told_second _ _ _ c.in_ok-sync.ensures.ok) c.sync-2.ensures.refused
