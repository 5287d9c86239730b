use Rattle.std.proofs.Common.{length, ap, arith}
use Rattle.std.proofs.lemmas.Slice.Zip.{AllZip-long}
use Rattle.eql_turn_lock.specs.Calls.{Closes}
use Rattle.eql_hub.specs.Turns.{IsLaneTurn, is_open_lane}
use Rattle.eql_hub.proofs.hub.LockedLanes.unlock.Goals as goal

pub unwrap_all-requires-clause-room : goal.unwrap_all-requires-clause-room
unwrap_all-requires-clause-room g c =
    let values = AllZip-long (Closes (IsLaneTurn g.S.Source.left g.S.Source.lent_as g.S.Source.fault_plan g.L.LineReader.read_of) is_open_lane)
    c.args.self.passes.views c.close.result.items c.close.ensures in
    let views = c.len.ensures.views in
    let locks = c.len.ensures.locks in
    let own = ap length c.requires.own in
    let room = c.requires.room in
    omega (arith, values, views, locks, own, room)
