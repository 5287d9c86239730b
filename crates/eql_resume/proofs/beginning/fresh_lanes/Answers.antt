use Rattle.std.proofs.Common.{◌∙◌, ap, ◌++◌, [], ◌∷◌, List}
use Rattle.eql_lane.specs.declared.make.LaneStart.{LaneStart}
use Rattle.eql_lane.specs.declared.make.LaneStart.TheVariants as start
use Rattle.eql_resume.proofs.Begun.{fresh_push}
use Rattle.eql_resume.proofs.beginning.fresh_lanes.Goals as goal

pub loop-preserved : goal.loop-preserved
loop-preserved c =
    c.in_ok-push.ensures.items ∙ ap (λ (xs : List LaneStart). xs ++ start.Fresh ∷ []) c.loop.invariant ∙ fresh_push c.loop.counter
