use denote.Exit.{no}
use denote.Param.{param}
use denote.Param.Send.{arg_send, arg_sync, param_send, param_sync, shr_sync}
use Rattle.std.proofs.Common.{sym, subst, arith}
use Rattle.eql_hub.proofs.Sends.{bell_sync}
use Rattle.eql_hub_run.specs.Workers.{HasPlayed, MayStart}
use Rattle.eql_hub_run.proofs.Crossings.{five_sync, hub_shared, number_sync, worker_send}
use Rattle.eql_hub_run.proofs.workers.play_all.Goals as goal

pub for_each_mut-requires-send-T : goal.for_each_mut-requires-send-T
for_each_mut-requires-send-T g c κs within = param_send _ _ (arg_send _ no _ (worker_send (param 1 g.row.S) (param 2 g.row.L) (param 3 g.row.G) g.S.Source g.L.LineReader g.G.Ledger c.type_bounds.send-S c.type_bounds.send-L))

pub for_each_mut-requires-sync-F : goal.for_each_mut-requires-sync-F
for_each_mut-requires-sync-F g c κs within =
    let hub = hub_shared (param 1 g.row.S) (param 2 g.row.L) (param 3 g.row.G) g.S.Source g.L.LineReader g.G.Ledger c.type_bounds.send-S c.type_bounds.send-L c.type_bounds.sync-S c.type_bounds.sync-L in
    param_sync _ _ (arg_sync _ no _ (five_sync _ _ _ _ _ _ (shr_sync _ _ _ c.type_bounds.sync-R) (shr_sync _ _ _ hub) (shr_sync _ _ _ bell_sync) (shr_sync _ _ _ number_sync) (shr_sync _ _ _ c.type_bounds.sync-W)))

pub for_each_mut-requires-clause-accepts : goal.for_each_mut-requires-clause-accepts
for_each_mut-requires-clause-accepts g c κs within i worker below is =
    (subst (MayStart c.args.hub.now) (sym is) (c.requires.start i worker.now below), c.requires.batch_from, c.requires.batch_to)

pub returns-clause-played : goal.returns-clause-played
returns-clause-played g c k d below =
    let same = c.for_each_mut.auto.s in
    let one = (c.for_each_mut.ensures k d (omega (arith, same))).1 in subst (HasPlayed c.args.hub.now) one.left one.call
