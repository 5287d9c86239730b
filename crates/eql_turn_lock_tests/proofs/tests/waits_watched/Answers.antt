use denote.Exit.{no}
use denote.Param.Send.{IsSend, IsSync, sendable, param_send, arg_send, shr_send}
use denote.Builtin.{bool}
use Rattle.std.proofs.Crossing.{crosses, Arc-sync}
use Rattle.std.specs.contracts.sync.atomic.AtomicBool as AtomicBool
use Rattle.eql_turn_lock.proofs.Sends.{lock_sync, two_send}
use Rattle.eql_turn_lock_tests.specs.contracts.meeting.Meeting as Meeting
use Rattle.eql_turn_lock_tests.specs.contracts.meeting.MeetingOp as MeetingOp
use Rattle.eql_turn_lock_tests.specs.contracts.meeting.MeetingTurned.TheImpl as TheImpl
use Rattle.eql_turn_lock_tests.proofs.tests.waits_watched.Goals as goal

meeting_send : IsSend Meeting.the_row
meeting_send = search (sendable, crosses) depth 20

flag_send : IsSend AtomicBool.the_row
flag_send = search (sendable, crosses) depth 20

flag_sync : IsSync AtomicBool.the_row
flag_sync = search (sendable, crosses) depth 20

pub join-requires-send-F : goal.join-requires-send-F
join-requires-send-F g c κs within = param_send _ _ (arg_send _ no _ (two_send _ _ _ (shr_send _ _ _ (lock_sync Meeting.the_row MeetingOp.the_row bool TheImpl.ghosts meeting_send)) (shr_send _ _ _ (Arc-sync _ flag_send flag_sync))))
