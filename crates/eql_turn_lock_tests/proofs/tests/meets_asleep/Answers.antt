use denote.Exit.{no}
use denote.Builtin.{bool}
use denote.Param.Send.{IsSend, sendable, param_send, arg_send, shr_send}
use Rattle.std.proofs.Crossing.{crosses}
use Rattle.eql_turn_lock.proofs.Sends.{pass_send, lock_sync, two_send}
use Rattle.eql_turn_lock_tests.specs.contracts.meeting.Meeting as Meeting
use Rattle.eql_turn_lock_tests.specs.contracts.meeting.MeetingOp as MeetingOp
use Rattle.eql_turn_lock_tests.specs.contracts.meeting.MeetingTurned.TheImpl as TheImpl
use Rattle.eql_turn_lock_tests.proofs.tests.meets_asleep.Goals as goal

meeting_send : IsSend Meeting.the_row
meeting_send = search (sendable, crosses) depth 20

bool_send : IsSend bool
bool_send = search sendable

pub join-requires-send-F : goal.join-requires-send-F
join-requires-send-F g c κs within = param_send _ _ (arg_send _ no _ (two_send _ _ _ (shr_send _ _ _ (lock_sync Meeting.the_row MeetingOp.the_row bool TheImpl.ghosts meeting_send)) (pass_send Meeting.the_row MeetingOp.the_row bool TheImpl.ghosts meeting_send)))

pub join-requires-send-A : goal.join-requires-send-A
join-requires-send-A g c κs within = param_send _ _ (arg_send _ no _ (two_send _ _ _ bool_send (pass_send Meeting.the_row MeetingOp.the_row bool TheImpl.ghosts meeting_send)))
