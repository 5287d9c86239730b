use Rattle.std.proofs.Common.{rules}
use Rattle.eql_outside.proofs.disk.store.MemStore.synced.Goals as goal

pub returns : goal.returns
returns c = search rules
