use Rattle.std.proofs.Common.{◌++◌, List, map, sym, ap, subst, ◌∙◌}
use Rattle.eql_values.specs.OrderKeys.{EventsAscend}
use Rattle.eql_values.specs.declared.order.OrderKey.{OrderKey}
use Rattle.eql_cut.specs.Placing.{IsUnplaced, lifted_order, listed_place}
use Rattle.eql_cut.proofs.PlaceLaws.{flat_single, still_ascend}
use Rattle.eql_cut.proofs.lifting.ChainPlaced.lift.Goals as goal

pub lift_each-requires-clause-unplaced : goal.lift_each-requires-clause-unplaced
lift_each-requires-clause-unplaced c =
    let copied =
    (c.in_ok-extend_from_slice.ensures {u = tt}).items ∙ ap (λ (l : List OrderKey). l ++ c.items-2.result.now) (c.in_ok-events.ensures {u = tt}).items ∙ c.items-2.ensures in
    subst IsUnplaced (sym (flat_single c.extend_from_slice.new.self.items ∙ copied)) c.requires.unplaced

pub of-requires : goal.of-requires
of-requires c =
    let place = listed_place c.args.places.now in
    let copied =
    (c.in_ok-extend_from_slice.ensures {u = tt}).items ∙ ap (λ (l : List OrderKey). l ++ c.items-2.result.now) (c.in_ok-events.ensures {u = tt}).items ∙ c.items-2.ensures in
    record {
      ascend = subst EventsAscend (sym (c.in_ok-lifted.ensures ∙ ap (map (lifted_order place)) copied)) (still_ascend place c.args.self c.requires.unplaced c.ascends.ensures);
    }
