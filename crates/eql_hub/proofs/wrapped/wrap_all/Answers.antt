use Rattle.std.proofs.Common.{refl, sym, ◌∙◌, subst}
use Rattle.eql_hub.proofs.Lists.{Moved, none_moved, one_moved}
use Rattle.eql_hub.proofs.wrapped.wrap_all.Goals as goal

pub loop-lane-init : goal.loop-lane-init
loop-lane-init g c = (none_moved c.args.lanes.items c.args.wrapped.now.items c.requires.empty, refl)

pub loop-lane-preserved : goal.loop-lane-preserved
loop-lane-preserved g c = (
  subst (Moved c.args.lanes.items c.pop.new.self.items) (sym c.push_reserved.ensures.items)
      (one_moved c.args.lanes.items c.loop-lane.lanes.items c.pop.new.self.items c.loop-lane.wrapped.items c.in-Some.lane c.loop-lane.invariant.0 c.in-Some.ensures.items),
  c.push_reserved.ensures.capacity ∙ c.loop-lane.invariant.1,
)
