use Rattle.eql_merge.proofs.Gathered.{moved_over}
use Rattle.eql_laws.specs.Apart.{joined_lists}
use Rattle.eql_merge.proofs.fronts.in_front_order.Goals as goal

pub loop-run-preserved : goal.loop-run-preserved
loop-run-preserved g c =
    moved_over (joined_lists c.args.lists.items) c.loop-run.lists.items c.pop_front.new.self.items c.loop-run.fronts.items c.put.new.fronts.items c.in-Some.run'
    ((c.in-Some.ensures {u = tt}).items) c.loop-run.invariant (c.in_ok-put.ensures {u = tt}).all
