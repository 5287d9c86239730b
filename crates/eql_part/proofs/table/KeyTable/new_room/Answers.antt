use Rattle.std.proofs.Common.{◌++◌, ◌∷◌, ◌-◌, [], List, None, refl, sym, ap, ◌∙◌, subst, arith}
use Rattle.std.specs.BTreeMap.{get}
use Rattle.std.specs.Prelude.{All}
use Rattle.std.proofs.lemmas.List.{append-nil}
use Rattle.std.proofs.lemmas.List.Elements.{All-push, filter_map-append}
use Rattle.std.proofs.lemmas.Option.{slice_get_past}
use Rattle.eql_values.specs.Ordered.{in_order}
use Rattle.eql_values.specs.Orders.{key_cmp}
use Rattle.eql_auto.specs.Machine.{Machine, tags_of}
use Rattle.eql_span_list.specs.declared.node.Ticket.{Ticket}
use Rattle.eql_part.specs.Indexed.{under_of}
use Rattle.eql_part.specs.declared.table.Room.{Room}
use Rattle.eql_part.specs.Rooms.{IsHoused, IsSpare, entries_in, key_at, key_in, place_by, row_of}
use Rattle.eql_part.proofs.Housed.{housed_alike, place_alike, push_alike}
use Rattle.eql_part.proofs.Tagging.{no_tags}
use Rattle.eql_part.proofs.Turned.{new_is_of}
use Rattle.eql_part.proofs.table.KeyTable.new_room.Goals as goal

pub returns-clause-table : goal.returns-clause-table
returns-clause-table g c =
    let t = c.args.self.now in let m = c.args.shape.stages in let span = c.args.shape.span in
    let under = under_of t.by_hash in let other = get key_cmp t.others in let rooms = t.rooms.items in
    let machine = c.in_ok-machine.machine in
    let room : Room _ = record { key = None; machine = machine } in
    let items = (c.in_ok-push.ensures {u = tt}).items in
    record {
      housed = subst (IsHoused under other) (sym items) (housed_alike under other rooms (rooms ++ room ∷ []) (push_alike rooms room refl) c.requires.table.housed);
      spare = subst (All (IsSpare m span)) (sym items)
          (All-push (IsSpare m span) rooms room c.requires.table.spare
          (new_is_of m span machine c.requires.from c.in_ok-machine.ensures, ap (λ (x : Machine Ticket). tags_of x.slots) c.in_ok-machine.ensures ∙ no_tags (m - 1)));
    }

pub returns-clause-places : goal.returns-clause-places
returns-clause-places g c = λ q.
    let t = c.args.self.now in
    let under = under_of t.by_hash in let other = get key_cmp t.others in let rooms = t.rooms.items in
    let room : Room _ = record { key = None; machine = c.in_ok-machine.machine } in
    let items = (c.in_ok-push.ensures {u = tt}).items in
    ap (λ (l : List (Room _)). place_by under other l q) items ∙ place_alike under other rooms (rooms ++ room ∷ []) (push_alike rooms room refl) q

pub returns-clause-entries : goal.returns-clause-entries
returns-clause-entries g c =
    let rooms = c.args.self.now.rooms.items in
    let room : Room _ = record { key = None; machine = c.in_ok-machine.machine } in
    let items = (c.in_ok-push.ensures {u = tt}).items in
    ap entries_in items
    ∙ ap (in_order key_cmp) (filter_map-append row_of rooms (room ∷ []) ∙ append-nil _)

pub returns-clause-spare : goal.returns-clause-spare
returns-clause-spare g c =
    let rooms = c.args.self.now.rooms.items in
    let room : Room _ = record { key = None; machine = c.in_ok-machine.machine } in
    let items = (c.in_ok-push.ensures {u = tt}).items in
    let ok = c.args.self.now.rooms.ok.0 in
    ap (λ (l : List (Room _)). key_at l c.len-place.result) items ∙ push_alike rooms room refl c.len-place.result
    ∙ ap key_in (slice_get_past rooms c.len-place.result (omega (arith, ok)))
