use Rattle.std.proofs.Common.{◌++◌, [], ◌∷◌, refl, sym, ap, ◌∙◌, subst}
use Rattle.eql_hub.proofs.Lists.{Moved, none_moved, one_moved}
use Rattle.eql_hub.proofs.wrapped.unwrap_all.Goals as goal

pub loop-lane-init : goal.loop-lane-init
loop-lane-init g c = (none_moved c.args.wrapped.items c.args.lanes.now.items c.requires.empty, refl)

pub loop-lane-preserved : goal.loop-lane-preserved
loop-lane-preserved g c = (
  subst (Moved c.args.wrapped.items c.pop.new.self.items)
      (sym (c.push_reserved.ensures.items ∙ ap (λ (x : _). c.loop-lane.lanes.items ++ x ∷ []) c.into_lane.ensures))
      (one_moved c.args.wrapped.items c.loop-lane.wrapped.items c.pop.new.self.items c.loop-lane.lanes.items c.in-Some.lane c.loop-lane.invariant.0 c.in-Some.ensures.items),
  c.push_reserved.ensures.capacity ∙ c.loop-lane.invariant.1,
)
