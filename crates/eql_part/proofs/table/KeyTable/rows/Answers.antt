use Rattle.std.proofs.Common.{◌≡◌, ◌+◌, ◌++◌, ◌∷◌, [], List, map, take, sym, ap, ◌∙◌}
use Rattle.std.proofs.lemmas.List.{map-append, take_more}
use Rattle.eql_span_list.specs.declared.node.Ticket.{Ticket}
use Rattle.eql_part.specs.declared.table.Room.{Room}
use Rattle.eql_part.specs.Rooms.{lent_entry}
use Rattle.eql_part.proofs.Rows.{Row}
use Rattle.eql_part.proofs.Sorting.{no_row_more, row_more}
use Rattle.eql_part.proofs.table.KeyTable.rows.Goals.{in-Some+in_ok-push, in_default}
use Rattle.eql_part.proofs.table.KeyTable.rows.Goals as goal

pub loop-room-preserved : goal.loop-room-preserved
loop-room-preserved g c =
    let rooms = c.args.self.now.rooms.items in let i = c.loop-room.room-index in let room = c.room-item.result in
    let read = c.deref-room-items.result.now in let same : read ≡ rooms = c.deref-room-items.ensures.value in
    let more : take (i + 1) rooms ≡ take i rooms ++ room ∷ [] =
    sym (ap (take (i + 1)) same) ∙ take_more read i room c.loop-room-test.true ∙ ap (λ (r : Room _). take i read ++ r ∷ []) (sym c.room-item.is) ∙ ap (λ (l : List (Room _)). take i l ++ room ∷ []) same in
    elim c.match-room.branch [
      | in-Some+in_ok-push w ↦
          ap (λ v. map lent_entry v.items) w.rows-is
          ∙ ap (map lent_entry) (w.in_ok-push.ensures {u = tt}).items
          ∙ map-append lent_entry c.loop-room.rows.items _
          ∙ ap (λ (l : List (Row Ticket)). l ++ (w.in-Some.key, room.machine) ∷ []) c.loop-room.invariant
          ∙ sym (row_more rooms i room w.in-Some.key more w.in-Some.is)
      | in_default w ↦ ap (λ v. map lent_entry v.items) w.rows-is ∙ c.loop-room.invariant ∙ sym (no_row_more rooms i room more w.in_default.is)
    ]
