use Rattle.std.proofs.Common.{arith}
use Rattle.eql_auto.proofs.Written.{empty_more, empty_whole}
use Rattle.eql_auto.proofs.table.empty_slots.Goals as goal

pub loop-preserved : goal.loop-preserved
loop-preserved g c = empty_more c.loop.slots.items c.push.new.self.items c.loop.counter c.loop.invariant c.in_ok-push.ensures.items

pub returns : goal.returns
returns g c = empty_whole c.loop.slots.items c.loop.counter c.args.count c.loop.invariant (omega arith)
