-- What a meeting does.
use Rattle.std.specs.Prelude.{◌≡◌, ◌+◌, ◌<◌, ◌^◌, Bool, true, ⊤}
use Rattle.eql_turn_lock_tests.specs.declared.meeting.Meeting.{Meeting}
use Rattle.eql_turn_lock_tests.specs.declared.meeting.MeetingOp.{MeetingOp}
use Rattle.eql_turn_lock_tests.specs.declared.meeting.MeetingOp.TheVariants.{Stay, Leave}

-- Who leaves looks for no flag. What a flag is then, no contract can see.
abbrev pub IsMeetingReply : MeetingOp → Bool → Type 0
IsMeetingReply Stay reply = ⊤
IsMeetingReply Leave reply = reply ≡ true

-- one operation more was played
abbrev pub IsMeetingStep : Meeting → MeetingOp → Bool → Meeting → Type 0
IsMeetingStep x op reply y =
    IsMeetingReply op reply × (x.played + 1 < 2 ^ 32 → y.played ≡ x.played + 1)
