use Rattle.std.proofs.Common.{arith}
use Rattle.eql_outside.proofs.Taking.{takes}
use Rattle.eql_outside.proofs.source.memory.MemSourceSource.take.Goals as goal

pub returns-clause-taken : goal.returns-clause-taken
returns-clause-taken c =
    takes c.args.self.now.bytes.items c.next_piece.result.now _ c.args.self.now.at c.args.self.now.piece c.put_front-n.result
    c.next_piece.ensures (omega arith) c.put_front-n.ensures.bytes
