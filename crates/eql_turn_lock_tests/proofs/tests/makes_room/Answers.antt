use Rattle.eql_turn_lock.specs.Locks.{view_of}
use Rattle.eql_turn_lock_tests.proofs.Letters.{still_fresh}
use Rattle.eql_turn_lock_tests.proofs.tests.makes_room.Goals as goal

pub delivers_into_room-is_delivered-requires-clause-fresh :
    goal.delivers_into_room-is_delivered-requires-clause-fresh
delivers_into_room-is_delivered-requires-clause-fresh c = still_fresh 1 (view_of c.in_ok-lock.first) (view_of c.split-other.new.pass) c.in_ok-lock.ensures.fresh c.split-other.ensures.first
