use Rattle.eql_turn_lock.specs.Locks.{view_of}
use Rattle.eql_turn_lock_tests.proofs.Letters.{room_after}
use Rattle.eql_turn_lock_tests.proofs.callers.deliver_after.Goals as goal

pub try_call-requires-clause-may : goal.try_call-requires-clause-may
try_call-requires-clause-may c = room_after (view_of c.args.first.now) (view_of c.args.other) (view_of c.join.new.pass) c.args.letter c.requires.first c.requires.room c.join.ensures.joined c.join.ensures.knows c.join.ensures.seen.1
