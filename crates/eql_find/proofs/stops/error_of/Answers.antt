use Rattle.eql_find.proofs.StopLemmas.{error_read, error_write, error_disk, error_memory, error_limit, error_generation}
use Rattle.eql_find.proofs.stops.error_of.Goals as goal

pub returns-in-Read : goal.returns-in-Read
returns-in-Read c = error_read c.args.shards.now c.items.result.now.items c.args.stop c.in-Read.shard c.index.result c.in-Read.is c.items.ensures c.requires c.index.ensures

pub returns-in-Write : goal.returns-in-Write
returns-in-Write c = error_write c.args.shards.now c.args.stop c.in-Write.is

pub returns-in-Disk : goal.returns-in-Disk
returns-in-Disk c = error_disk c.args.shards.now c.args.stop c.in-Disk.is

pub returns-in-Memory : goal.returns-in-Memory
returns-in-Memory c = error_memory c.args.shards.now c.args.stop c.in-Memory.is

pub returns-in-Limit : goal.returns-in-Limit
returns-in-Limit c = error_limit c.args.shards.now c.args.stop c.in-Limit.limit c.in-Limit.is

pub returns-in-Generation : goal.returns-in-Generation
returns-in-Generation c = error_generation c.args.shards.now c.args.stop c.in-Generation.is
