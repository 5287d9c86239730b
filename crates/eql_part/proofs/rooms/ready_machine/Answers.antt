use Rattle.std.proofs.Common.{arith, Some}
use Rattle.eql_part.specs.Rooms.{entries_of}
use Rattle.eql_part.proofs.Emptied.{of_change, ready_now}
use Rattle.eql_part.proofs.Looked.{changed_others, changed_own, entries_sorted}
use Rattle.eql_part.proofs.Tables.{with_machine, within, written_at}
use Rattle.eql_part.proofs.Turned.{found_of, replaced_keeps, replaced_ready, room_alone, still_of}
use Rattle.eql_part.proofs.rooms.ready_machine.Goals as goal

pub index_mut-requires : goal.index_mut-requires
index_mut-requires g c =
    let ok = c.args.machines.now.rooms.ok.0 in
    let lt = within c.args.shape.stages c.args.shape.span c.args.machines.now c.args.key.now c.args.place c.requires.table c.requires.there in
    omega (arith, ok, lt)

pub returns : goal.returns
returns g c =
    let m = c.args.shape.stages in let span = c.args.shape.span in let t = c.args.machines.now in let key = c.args.key.now in
    let room = c.index_mut.result.now in let w = c.ready.new.self in
    let written = written_at m span t key c.args.place room w c.requires.table c.requires.there c.index_mut.ensures.value in
    let now = with_machine m span t c.args.place room w in let old = entries_of t in let new = entries_of now in
    let same = room_alone c.ready.result w room.machine c.ready.ensures.ok c.ready.ensures.err in
    record {
      of = of_change m span key (Some w) old new c.requires.of (still_of m span w room.machine same (found_of m span old key room.machine c.requires.of written.found)) (entries_sorted now.rooms.items) written.change;
      table = written.table;
      there = ready_now c.ready.result w room.machine key new (changed_own key (Some w) old new written.change) c.ready.ensures.ok;
      others = changed_others key (Some w) old new written.change;
      sequences = replaced_keeps old new key w room.machine same.1 written.found written.change;
      ready = replaced_ready old new key w room.machine written.found same.3 written.change;
    }
