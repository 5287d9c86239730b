use Rattle.std.proofs.Common.{rules}
use Rattle.eql_turn_lock.specs.Locks.{view_of}
use Rattle.eql_turn_lock_tests.specs.declared.tray.Tray.{Tray}
use Rattle.eql_turn_lock_tests.proofs.Letters.{fresh_first}
use Rattle.eql_turn_lock_tests.proofs.tests.empty_tray.Goals as goal

pub returns-in-Ok-make-clause-fresh : goal.returns-in-Ok-make-clause-fresh
returns-in-Ok-make-clause-fresh c =
    let tray : Tray = record { letters = c.in-Ok.letters } in fresh_first c.args.room tray (view_of c.in-Ok-make.made.1) c.in-Ok-make.ensures.first (search rules) (search rules)
