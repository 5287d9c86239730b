use native.Mathlib.Omega.{arith}
use Rattle.std.proofs.Common.{◌≡◌, ◌+◌, ◌∙◌, [], ◌∷◌, ap, length, length-append, subst}
use Rattle.std.specs.Prelude.{All}
use Rattle.std.proofs.lemmas.List.Elements.{All-tail}
use Rattle.eql_lane.specs.Starts.{MayStart}
use Rattle.eql_shards.specs.Giving.{return_of}
use Rattle.eql_shards.proofs.BackLemmas.{CameOne, one_source}
use Rattle.eql_shards.proofs.MakingLemmas.{last_first, filled_more, halted, all_before, all_last}
use Rattle.eql_shards.proofs.making.fill_lanes.Goals as goal

pub returns-in-Err-clause-stopped : goal.returns-in-Err-clause-stopped
returns-in-Err-clause-stopped g c =
    let source = c.take_last-source.result in
    let less = c.take_last-source.new.self.items in
    let all = subst (λ xs. All (λ source. g.H.Src.Source.fault_count source ≡ 0) xs) c.take_last-source.ensures.items c.loop-start.invariant.fresh in
    halted g.H.Src.Source.left g.H.Src.Source.lent_as g.H.Src.Source.fault_count g.H.Src.Source.fault_plan g.F.Reader.LineReader.read_of _ _
    c.in-Err.why _ _ _ _ _ _ c.loop-start.lanes.items c.loop-start.shard source c.in-Err.source c.in-Some.start _ _ _ _
    (last_first less source _ c.take_last-source.ensures.items) c.in-Some.ensures.steps.0 c.loop-start.invariant.shard c.loop-start.invariant.filling
    (all_last (λ source. g.H.Src.Source.fault_count source ≡ 0) less source all)
    c.in-Err.ensures.refused c.in-Err.ensures.unfailing
    (subst (λ shelf. CameOne (return_of g.H.Src.Source.lent_as g.H.Src.Source.fault_count c.in-Err.source) (g.H.Shelf.fault_count shelf) (g.H.Shelf.fault_count c.give_source.new.self) (g.H.Shelf.faults_of shelf) (g.H.Shelf.faults_of c.give_source.new.self)) c.loop-start.invariant.shelf (one_source g.H.Shelf.fault_count g.H.Shelf.faults_of (return_of g.H.Src.Source.lent_as g.H.Src.Source.fault_count c.in-Err.source) _ _
    c.give_source.ensures.faults c.give_source.ensures.faults_named))

pub loop-start-preserved : goal.loop-start-preserved
loop-start-preserved g c =
    let source = c.take_last-source.result in
    let less = c.take_last-source.new.self.items in
    let begins = c.in-Some.ensures.steps.0 in
    let items : length c.loop-start.sources.items ≡ length less + 1 = ap length c.take_last-source.ensures.items ∙ length-append less (source ∷ []) in
    let more : length c.push_reserved.new.self.items ≡ length c.loop-start.lanes.items + 1 = ap length c.push_reserved.ensures.items ∙ length-append c.loop-start.lanes.items (c.in-Ok.lane ∷ []) in
    let fewer : length c.loop-start.start-iterator.rest.items ≡ length (c.in-Some.start ∷ c.next.new.self.rest.items) = ap length begins in
    let all = subst (λ xs. All (λ source. g.H.Src.Source.fault_count source ≡ 0) xs) c.take_last-source.ensures.items c.loop-start.invariant.fresh in
    record {
      filling = rw c.push_reserved.ensures.items (filled_more g.H.Src.Source.left g.H.Src.Source.lent_as g.H.Src.Source.fault_count g.H.Src.Source.fault_plan g.F.Reader.LineReader.read_of _ _
          _ _ _ _ _ _ c.loop-start.lanes.items source c.in-Some.start c.in-Ok.lane c.loop-start.shard (last_first less source _ c.take_last-source.ensures.items) begins
          c.loop-start.invariant.shard c.loop-start.invariant.filling c.in-Ok.ensures.made);
      shard = omega (arith, c.loop-start.invariant.shard, more);
      many = omega (arith, c.loop-start.invariant.many, fewer, items);
      few = omega (arith, c.loop-start.invariant.few, items, more);
      room = omega (arith, c.loop-start.invariant.room, items, more, c.push_reserved.ensures.capacity);
      may = All-tail MayStart c.in-Some.start c.next.new.self.rest.items (subst (λ xs. All MayStart xs) begins c.loop-start.invariant.may);
      fresh = all_before (λ source. g.H.Src.Source.fault_count source ≡ 0) less source all;
      shelf = c.loop-start.invariant.shelf;
    }
