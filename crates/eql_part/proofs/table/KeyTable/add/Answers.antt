use Rattle.std.proofs.Common.{◌<◌, List, Some, length, sym, ◌∙◌, subst}
use Rattle.eql_values.specs.declared.value.Value.{Value}
use Rattle.eql_part.specs.Rooms.{AddsEmpty, HasKeyNow, entries_of}
use Rattle.eql_part.proofs.Tables.{added}
use Rattle.eql_part.proofs.Unnamed.{same_table}
use Rattle.eql_part.proofs.table.KeyTable.add.Goals as goal

pub returns-clause-table : goal.returns-clause-table
returns-clause-table g c =
    let spare = c.spare_room.new.self in let key = c.args.key.now in let place = c.in_ok-place.place in
    let has = subst (λ (k : List Value). HasKeyNow place (Some k) c.name.new.self.rooms.items c.move_in.new.self.rooms.items) c.in_ok-own.ensures.cases c.move_in.ensures.rooms in
    (added c.args.shape.stages c.args.shape.span spare c.name.new.self c.move_in.new.self key place c.spare_room.ensures.table (c.in_ok-place.ensures {u = tt}).spare
    (c.spare_room.ensures.places key ∙ c.requires.absent) c.name.ensures.rooms (c.in_ok-name.ensures {u = tt}).named c.move_in.ensures.by_hash c.move_in.ensures.others has).0

pub returns-clause-there : goal.returns-clause-there
returns-clause-there g c =
    let spare = c.spare_room.new.self in let key = c.args.key.now in let place = c.in_ok-place.place in
    let has = subst (λ (k : List Value). HasKeyNow place (Some k) c.name.new.self.rooms.items c.move_in.new.self.rooms.items) c.in_ok-own.ensures.cases c.move_in.ensures.rooms in
    (added c.args.shape.stages c.args.shape.span spare c.name.new.self c.move_in.new.self key place c.spare_room.ensures.table (c.in_ok-place.ensures {u = tt}).spare
    (c.spare_room.ensures.places key ∙ c.requires.absent) c.name.ensures.rooms (c.in_ok-name.ensures {u = tt}).named c.move_in.ensures.by_hash c.move_in.ensures.others has).1

pub returns-clause-added : goal.returns-clause-added
returns-clause-added g c =
    let spare = c.spare_room.new.self in let key = c.args.key.now in let place = c.in_ok-place.place in
    let has = subst (λ (k : List Value). HasKeyNow place (Some k) c.name.new.self.rooms.items c.move_in.new.self.rooms.items) c.in_ok-own.ensures.cases c.move_in.ensures.rooms in
    subst (λ old. AddsEmpty c.args.shape.stages c.args.shape.span key old (entries_of c.move_in.new.self)) c.spare_room.ensures.entries
    (added c.args.shape.stages c.args.shape.span spare c.name.new.self c.move_in.new.self key place c.spare_room.ensures.table (c.in_ok-place.ensures {u = tt}).spare
    (c.spare_room.ensures.places key ∙ c.requires.absent) c.name.ensures.rooms (c.in_ok-name.ensures {u = tt}).named c.move_in.ensures.by_hash c.move_in.ensures.others has).2

pub returns-in_err-name-clause-table : goal.returns-in_err-name-clause-table
returns-in_err-name-clause-table g c =
    let named = (c.in_err-name.ensures {u = tt}).unchanged in
    same_table c.args.shape.stages c.args.shape.span c.spare_room.new.self c.name.new.self c.name.ensures.rooms named.0 named.1 c.spare_room.ensures.table

pub move_in-requires : goal.move_in-requires
move_in-requires g c = subst (λ rooms. c.in_ok-place.place < length rooms.items) (sym c.name.ensures.rooms) (c.in_ok-place.ensures {u = tt}).within
