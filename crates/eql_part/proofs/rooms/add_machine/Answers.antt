use Rattle.std.proofs.Common.{◌≡◌}
use Rattle.eql_part.specs.Rooms.{AddsEmpty, entries_of}
use Rattle.eql_part.proofs.Emptied.{IsKeeping, adding_keeps, either, same_keeps}
use Rattle.eql_part.proofs.Looked.{entries_sorted}
use Rattle.eql_part.proofs.Tables.{absent_at}
use Rattle.eql_part.proofs.rooms.add_machine.Goals as goal

pub returns : goal.returns
returns g c =
    let m = c.args.shape.stages in let span = c.args.shape.span in let key = c.args.key.now in
    let old = entries_of c.args.machines.now in let new = entries_of c.add.new.self in
    let keeping : IsKeeping m span key old new =
    either c.add.result (AddsEmpty m span key old new) (new ≡ old) (IsKeeping m span key old new) c.add.ensures.added c.add.ensures.unchanged
    (adding_keeps m span key old new c.requires.of (absent_at m span c.args.machines.now key c.requires.table c.requires.absent) (entries_sorted c.add.new.self.rooms.items))
    (same_keeps m span key old new c.requires.of) in
    record { of = keeping.of; table = c.add.ensures.table; there = c.add.ensures.there; others = keeping.others; sequences = keeping.sequences; ready = keeping.ready; unchanged = c.add.ensures.unchanged }
