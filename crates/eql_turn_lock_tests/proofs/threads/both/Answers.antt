use denote.Exit.{no}
use denote.Param.{param}
use denote.Param.Send.{sendable, param_send, arg_send, shr_send}
use Rattle.eql_turn_lock.proofs.Sends.{pass_send, lock_sync, two_send}
use Rattle.eql_turn_lock_tests.proofs.threads.both.Goals as goal

pub join-requires-send-F : goal.join-requires-send-F
join-requires-send-F g c κs within =
    let p = pass_send (param 0 g.row.T) (param 2 g.row.T-Op) (param 3 g.row.T-Reply) g.T.Turned (search (sendable, c.type_bounds.send-T)) in
    let l = lock_sync (param 0 g.row.T) (param 2 g.row.T-Op) (param 3 g.row.T-Reply) g.T.Turned (search (sendable, c.type_bounds.send-T)) in param_send _ _ (arg_send _ no _ (two_send _ _ _ (shr_send _ _ _ l) p))

pub join-requires-send-A : goal.join-requires-send-A
join-requires-send-A g c κs within =
    let p = pass_send (param 0 g.row.T) (param 2 g.row.T-Op) (param 3 g.row.T-Reply) g.T.Turned (search (sendable, c.type_bounds.send-T)) in param_send _ _ (arg_send _ no _ p)
