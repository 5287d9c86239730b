use Rattle.std.proofs.Common.{length, sym, ap, subst, arith}
use Rattle.std.proofs.lemmas.Slice.Zip.{AllZip-long}
use Rattle.eql_turn_lock.specs.Calls.{Closes}
use Rattle.eql_lock_row.specs.Rows.{AllAreJoined, AreFirst}
use Rattle.eql_hub.specs.Hands.{HandView, HubView}
use Rattle.eql_hub.specs.Turns.{IsLaneTurn, is_open_lane}
use Rattle.eql_hub.proofs.hub.Hub.close.Goals as goal

pub close-requires-clause-first : goal.close-requires-clause-first
close-requires-clause-first g c = subst (λ (h : HandView _ _). AreFirst h.lanes.views) (sym c.hand.view_is) c.requires.first.lanes

pub close-requires-clause-all_joined : goal.close-requires-clause-all_joined
close-requires-clause-all_joined g c = subst (λ (h : HandView _ _). AllAreJoined h.lanes.views) (sym c.hand.view_is) c.requires.all_joined.lanes

pub unwrap_all-requires-clause-room : goal.unwrap_all-requires-clause-room
unwrap_all-requires-clause-room g c =
    let values = AllZip-long (Closes (IsLaneTurn g.S.Source.left g.S.Source.lent_as g.S.Source.fault_plan g.L.LineReader.read_of) is_open_lane)
    c.hand.inside.lanes.views c.close.result.items c.close.ensures in
    let inside = ap (λ (h : HandView _ _). length h.lanes.views) c.hand.view_is in
    let views = c.lane_count.ensures.views in
    let locks = c.lane_count.ensures.locks in
    let own = ap length c.requires.own.lanes in
    let hub = ap (λ (h : HubView). length h.lanes) c.self.view_is in
    let room = c.self.invariant.1 in
    omega (arith, values, inside, views, locks, own, hub, room)

pub close-requires-2-clause-first : goal.close-requires-2-clause-first
close-requires-2-clause-first g c = subst (λ (h : HandView _ _). AreFirst h.parts.views) (sym c.hand.view_is) c.requires.first.parts

pub close-requires-2-clause-all_joined : goal.close-requires-2-clause-all_joined
close-requires-2-clause-all_joined g c = subst (λ (h : HandView _ _). AllAreJoined h.parts.views) (sym c.hand.view_is) c.requires.all_joined.parts
