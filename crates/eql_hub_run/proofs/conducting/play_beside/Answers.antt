use denote.Exit.{no}
use denote.Param.{param}
use denote.Param.Send.{arg_send, param_send, shr_send}
use Rattle.eql_hub.proofs.Sends.{bell_sync}
use Rattle.eql_hub_run.proofs.Crossings.{crew_send, hub_shared, number_send, six_send, workers_send}
use Rattle.eql_hub_run.proofs.conducting.play_beside.Goals as goal

pub join_mut-workers-requires-send-F : goal.join_mut-workers-requires-send-F
join_mut-workers-requires-send-F g c κs within =
    let S = param 1 g.row.S in let L = param 2 g.row.L in let G = param 3 g.row.G in
    let s = c.type_bounds.send-S in let l = c.type_bounds.send-L in
    let crew = crew_send S L G g.S.Source g.L.LineReader g.G.Ledger s l in
    let hub = hub_shared S L G g.S.Source g.L.LineReader g.G.Ledger s l c.type_bounds.sync-S c.type_bounds.sync-L in
    param_send _ _ (arg_send _ no _ (six_send _ _ _ _ _ _ _ (shr_send _ _ _ c.type_bounds.sync-R) crew (shr_send _ _ _ hub) (shr_send _ _ _ bell_sync) number_send (shr_send _ _ _ c.type_bounds.sync-W)))

pub join_mut-workers-requires-send-A : goal.join_mut-workers-requires-send-A
join_mut-workers-requires-send-A g c κs within =
    param_send _ _ (arg_send _ no _ (workers_send (param 1 g.row.S) (param 2 g.row.L) (param 3 g.row.G) g.S.Source g.L.LineReader g.G.Ledger c.type_bounds.send-S c.type_bounds.send-L))
