use Rattle.std.proofs.Common.{rules}
use Rattle.eql_span_list.proofs.list.SpanList.drop.Goals as goal

pub destroy_empty-requires : goal.destroy_empty-requires
destroy_empty-requires g c = search rules
