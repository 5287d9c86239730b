use Rattle.std.proofs.Common.{rules}
use Rattle.eql_book.proofs.tail.Tail.make_room.Goals as goal

pub resize-requires : goal.resize-requires
resize-requires c = search rules
