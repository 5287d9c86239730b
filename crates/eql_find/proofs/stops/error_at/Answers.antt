use Rattle.eql_find.proofs.StopLemmas.{at_short, at_differs, at_no_line, at_grown, at_failed, at_memory}
use Rattle.eql_find.proofs.stops.error_at.Goals as goal

pub returns-in-Short : goal.returns-in-Short
returns-in-Short c = at_short c.args.shards.now c.args.shards.now c.args.stop.shard c.args.stop.why c.in-Short.offset c.in-Short.had c.in-Short.is

pub returns-in-Differs : goal.returns-in-Differs
returns-in-Differs c = at_differs c.args.shards.now c.args.shards.now c.args.stop.shard c.args.stop.why c.in-Differs.is

pub returns-in-NoLine : goal.returns-in-NoLine
returns-in-NoLine c = at_no_line c.args.shards.now c.args.shards.now c.args.stop.shard c.args.stop.why c.in-NoLine.line c.in-NoLine.is

pub returns-in-Grown : goal.returns-in-Grown
returns-in-Grown c = at_grown c.args.shards.now c.args.shards.now c.args.stop.shard c.args.stop.why c.in-Grown.is

pub returns-in-Failed : goal.returns-in-Failed
returns-in-Failed c = at_failed c.args.shards.now c.items.result.now.items c.args.stop.shard c.args.stop.why c.index.result c.in-Failed.is c.items.ensures (c.requires c.in-Failed.is) c.index.ensures

pub returns-in-Memory : goal.returns-in-Memory
returns-in-Memory c = at_memory c.args.shards.now c.args.shards.now c.args.stop.shard c.args.stop.why c.in-Memory.is
