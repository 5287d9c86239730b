use native.Mathlib.Omega.{arith}
use Rattle.std.proofs.Common.{◌<◌, ℕ, List, [], ◌∷◌, ◌++◌, ap, ◌∙◌, length}
use Rattle.std.proofs.Math.ListN.{set}
use Rattle.std.proofs.lemmas.List.Edits.{map_over_more}
use Rattle.eql_find.specs.Searching.{bare}
use Rattle.eql_find.proofs.PlacesLemmas.{all_bare, all_lists, one_taken}
use Rattle.eql_find.proofs.running.places_of.Goals as goal

pub loop-shard-preserved : goal.loop-shard-preserved
loop-shard-preserved g c =
    let less = c.loop-shard-test.true in
    let within : c.loop-shard.shard < length c.args.lanes.now.items = omega (arith, less, c.len-shard-end.ensures, ap length c.loop-shard.invariant.lanes) in
    record {
      lists = one_taken c.args.lanes.now.items c.loop-shard.lanes.items c.loop-shard.shard c.loop-shard.invariant.lanes c.index_mut.result.now c.loop-shard.lists.items
          c.push_reserved.new.self.items within c.index_mut.ensures.value c.loop-shard.invariant.lists
          (c.push_reserved.ensures.items ∙ ap (λ (x : List (ℕ × ℕ)). c.loop-shard.lists.items ++ x ∷ []) c.places.ensures.places);
      lanes = ap (λ l. set c.loop-shard.lanes.items c.loop-shard.shard l) c.places.ensures.lane
          ∙ map_over_more bare c.args.lanes.now.items c.loop-shard.lanes.items c.loop-shard.shard c.index_mut.result.now within c.loop-shard.invariant.lanes c.index_mut.ensures.value;
      room = omega (arith, c.loop-shard.invariant.room, c.push_reserved.ensures.capacity);
    }

pub returns-clause-places : goal.returns-clause-places
returns-clause-places g c =
    c.of.ensures ∙ all_lists c.args.lanes.now.items c.loop-shard.shard (omega (arith, c.loop-shard-test.false, c.len-shard-end.ensures)) c.loop-shard.lists.items c.loop-shard.invariant.lists

pub returns-clause-taken : goal.returns-clause-taken
returns-clause-taken g c =
    all_bare c.args.lanes.now.items c.loop-shard.shard (omega (arith, c.loop-shard-test.false, c.len-shard-end.ensures)) c.loop-shard.lanes.items c.loop-shard.invariant.lanes
