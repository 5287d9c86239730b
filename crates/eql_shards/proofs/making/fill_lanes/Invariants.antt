use Rattle.std.proofs.Common.{◌≡◌, ◌≤◌, ◌+◌, length}
use Rattle.std.specs.Prelude.{All, vec_capacity, reverse}
use Rattle.eql_lane.specs.Starts.{MayStart}
use Rattle.eql_shards.specs.Lanes.{HaveLanes}
use Rattle.eql_shards.proofs.making.fill_lanes.Given as goal

abbrev pub invariant-loop-start : goal.invariant-loop-start
invariant-loop-start g l = record {
  filling : HaveLanes g.H.Src.Source.left g.H.Src.Source.lent_as g.H.Src.Source.fault_count g.H.Src.Source.fault_plan g.F.Reader.LineReader.read_of
      (g.F.Readers.reads l.fn.readers) l.fn.slack (reverse l.fn.sources.items) (reverse l.sources.items) l.fn.starts.items l.start-iterator.rest.items
      l.lanes.items;
  shard : l.shard ≡ length l.lanes.items;
  many : length l.start-iterator.rest.items ≡ length l.sources.items;
  few : length l.lanes.items + length l.sources.items ≤ 256;
  room : length l.lanes.items + length l.sources.items ≤ vec_capacity l.lanes;
  may : All MayStart l.start-iterator.rest.items;
  fresh : All (λ source. g.H.Src.Source.fault_count source ≡ 0) l.sources.items;
  shelf : l.shelf ≡ l.fn.shelf;
}
