use Rattle.std.proofs.Common.{◌<◌, length, sym, subst}
use Rattle.eql_part.proofs.Tables.{removed, within}
use Rattle.eql_part.proofs.table.KeyTable.remove.Goals as goal

pub move_out-requires : goal.move_out-requires
move_out-requires g c =
    subst (λ rooms. c.args.place < length rooms.items) (sym c.unname.ensures.rooms)
    (within c.args.shape.stages c.args.shape.span c.args.self.now c.args.key.now c.args.place c.requires.table c.requires.there)

pub returns-clause-table : goal.returns-clause-table
returns-clause-table g c =
    (removed c.args.shape.stages c.args.shape.span c.args.self.now c.unname.new.self c.move_out.new.self c.args.key.now c.args.place c.requires.table c.requires.of c.requires.empty c.requires.there
    c.unname.ensures.rooms c.unname.ensures.unnamed c.move_out.ensures.by_hash c.move_out.ensures.others c.move_out.ensures.rooms).0

pub returns-clause-removed : goal.returns-clause-removed
returns-clause-removed g c =
    (removed c.args.shape.stages c.args.shape.span c.args.self.now c.unname.new.self c.move_out.new.self c.args.key.now c.args.place c.requires.table c.requires.of c.requires.empty c.requires.there
    c.unname.ensures.rooms c.unname.ensures.unnamed c.move_out.ensures.by_hash c.move_out.ensures.others c.move_out.ensures.rooms).1
