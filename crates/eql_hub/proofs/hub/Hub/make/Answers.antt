use Rattle.std.proofs.Common.{◌≡◌}
use Rattle.std.specs.List.{AllZip}
use Rattle.std.proofs.lemmas.Result.{IfErr-weaker}
use Rattle.eql_turn_lock.specs.Calls.{Closes}
use Rattle.eql_hub.specs.Turns.{IsLaneTurn, is_open_lane}
use Rattle.eql_hub.proofs.Views.{fresh_back, fresh_first, fresh_joined}
use Rattle.eql_hub.proofs.hub.Hub.make.Goals as goal

pub with_parts-requires-clause-first : goal.with_parts-requires-clause-first
with_parts-requires-clause-first g c = fresh_first c.args.lanes.items c.in-Ok-lock_lanes.held.passes.views c.in-Ok-lock_lanes.ensures.first

pub with_parts-requires-clause-all_joined : goal.with_parts-requires-clause-all_joined
with_parts-requires-clause-all_joined g c = fresh_joined c.args.lanes.items c.in-Ok-lock_lanes.held.passes.views c.in-Ok-lock_lanes.ensures.first

pub returns-in-Ok-lock_lanes-clause-back : goal.returns-in-Ok-lock_lanes-clause-back
returns-in-Ok-lock_lanes-clause-back g c =
    IfErr-weaker c.with_parts.result
    (λ (refused : _). AllZip (Closes (IsLaneTurn g.S.Source.left g.S.Source.lent_as g.S.Source.fault_plan g.L.LineReader.read_of) is_open_lane) c.in-Ok-lock_lanes.held.passes.views refused.1.items)
    (λ (refused : _). refused.1.items ≡ c.args.lanes.items)
    (λ refused closes. fresh_back (IsLaneTurn g.S.Source.left g.S.Source.lent_as g.S.Source.fault_plan g.L.LineReader.read_of) is_open_lane
    c.args.lanes.items refused.1.items c.in-Ok-lock_lanes.held.passes.views c.in-Ok-lock_lanes.ensures.first closes)
    c.with_parts.ensures.back
