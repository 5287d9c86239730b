use Rattle.std.proofs.Common.{◌∙◌}
use Rattle.eql_span_list.proofs.EntryLemmas.{entries_none}
use Rattle.eql_span_list.proofs.list.SpanList.destroy_empty.Goals as goal

pub destroy_empty-requires : goal.destroy_empty-requires
destroy_empty-requires g c = entries_none c.self.inside.links.store.nodes (c.self.view_is ∙ c.requires)
