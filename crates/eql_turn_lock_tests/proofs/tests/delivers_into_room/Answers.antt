use Rattle.std.proofs.Common.{rules, ◌++◌}
use Rattle.eql_turn_lock.specs.Locks.{view_of}
use Rattle.eql_turn_lock_tests.proofs.Letters.{saw_room}
use Rattle.eql_turn_lock_tests.proofs.tests.delivers_into_room.Goals as goal

pub deliver_after-requires-clause-room : goal.deliver_after-requires-clause-room
deliver_after-requires-clause-room c =
    let fresh = c.requires.fresh in
    let tray = fresh.4 in
    let brought = c.in-Ok-Ok-Taken-Some-eq7.ensures.played.1 in
    let took = c.in-Ok-Ok-Taken-Some-eq7.ensures'.played.1 in
    saw_room tray.0 (view_of c.args.first.now) (view_of c.deliver.new.pass) (view_of c.take.new.pass) ((view_of c.args.other).seen ++ took.between) (view_of c.args.other).number 7 7 c.in-Ok-Ok-Taken-Some-eq7.field-0-0 c.in-Ok-Ok-Taken-Some-eq7.field-0-1
    tray.2 tray.3 tray.1 fresh.2 brought.same.1 brought.mine (search rules) took.seen
