use Rattle.std.proofs.Common.{◌≡◌, map, take}
use Rattle.eql_book.specs.Laws.{fresh_state}
use Rattle.eql_resume.proofs.fresh.fresh_states.Given as goal

abbrev pub invariant-loop-pipe : goal.invariant-loop-pipe
invariant-loop-pipe l = l.states.items ≡ map fresh_state (take l.pipe-index l.pipes)
