use Rattle.std.proofs.Common.{◌≡◌, ◌++◌, ◌≤◌, length, map, take, drop}
use Rattle.std.specs.Prelude.{vec_capacity}
use Rattle.eql_find.specs.Searching.{bare, places_in}
use Rattle.eql_find.proofs.running.places_of.Given as goal

abbrev pub invariant-loop-shard : goal.invariant-loop-shard
invariant-loop-shard g l = record {
  lists : l.lists.items ≡ places_in (take l.shard l.fn.lanes.items);
  lanes : l.lanes.items ≡ map bare (take l.shard l.fn.lanes.items) ++ drop l.shard l.fn.lanes.items;
  room : length l.fn.lanes.items ≤ vec_capacity l.lists;
}
