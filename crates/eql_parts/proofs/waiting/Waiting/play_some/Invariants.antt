use Rattle.eql_parts.specs.Inboxes.{PlaysFirst}
use Rattle.eql_parts.proofs.waiting.Waiting.play_some.Given as goal

abbrev pub invariant-loop-items : goal.invariant-loop-items
invariant-loop-items g l = PlaysFirst l.fn.self l.items l.self
