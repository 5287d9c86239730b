use Rattle.eql_turn_lock.specs.Locks.{view_of}
use Rattle.eql_turn_lock_tests.proofs.Letters.{still_fresh}
use Rattle.eql_turn_lock_tests.proofs.tests.tells_idle_replies.Goals as goal

pub comes_back-is_back-requires-clause-fresh : goal.comes_back-is_back-requires-clause-fresh
comes_back-is_back-requires-clause-fresh c = still_fresh 2 (view_of c.in_ok-lock.first) (view_of c.split-other.new.pass) c.in_ok-lock.ensures.fresh c.split-other.ensures.first
