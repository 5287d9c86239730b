use Rattle.std.proofs.Common.{◌≡◌, ◌++◌, ◌<◌, ◌∷◌, [], ℕ, suc, List, Option, sym, ap, ◌∙◌, subst, arith}
use Rattle.std.specs.Prelude.{IfOk, IfSome, OnOk, find}
use Rattle.std.specs.List.{filter_map}
use Rattle.eql_values.specs.declared.order.OrderKey.{OrderKey}
use Rattle.eql_values.specs.declared.found.Match.{Match}
use Rattle.eql_values.specs.declared.item.Route.{Route}
use Rattle.eql_values.specs.declared.value.Value.{Value}
use Rattle.eql_values.specs.Orders.{key_eq}
use Rattle.eql_laws.specs.OneEvent.{slots_after_event}
use Rattle.eql_auto.specs.Machine.{AllAreBefore}
use Rattle.eql_part.specs.Rooms.{entries_of}
use Rattle.eql_part.specs.KeyTables.{machine_of, sequences_in, slots_in}
use Rattle.eql_part.specs.Links.{IsLinked}
use Rattle.eql_part.specs.Routed.{all_begun, match_there}
use Rattle.eql_part.proofs.Alone.{one_alone, one_cons}
use Rattle.eql_part.proofs.Busy.{keeps_busy}
use Rattle.eql_part.proofs.Idle.{no_match, slots_stay}
use Rattle.eql_part.proofs.Joining.{begun_at, later_up, linked_more}
use Rattle.eql_part.proofs.Onward.{linked_alike}
use Rattle.eql_part.proofs.Turned.{slots_alike}
use Rattle.eql_part.proofs.routes.play.Goals as goal

pub turn_all-requires-clause-linked : goal.turn_all-requires-clause-linked
turn_all-requires-clause-linked g c =
    linked_more (sequences_in (entries_of c.prepare_all.new.machines)) c.args.list.now (all_begun c.args.order c.args.routes.now.items c.in-Ok.prepared.items) c.prepare_all.new.list c.args.order.ts
    (linked_alike (entries_of c.args.machines.now) (entries_of c.prepare_all.new.machines) [] c.args.list.now c.in-Ok.ensures.sequences c.requires.linked)
    c.in-Ok.ensures.list c.tickets_differ.ensures
    (later_up c.args.shape.stages c.args.shape.span (entries_of c.args.machines.now) c.args.order c.args.list.now c.requires.of c.requires.linked c.requires.later)
    (begun_at c.args.order c.args.routes.now.items c.in-Ok.prepared.items)

pub turn_all-requires-clause-later : goal.turn_all-requires-clause-later
turn_all-requires-clause-later g c = λ key k.
    subst (λ (o : Option (List OrderKey)). IfSome o (AllAreBefore c.args.order)) (sym (slots_alike (entries_of c.args.machines.now) (entries_of c.prepare_all.new.machines) key k c.in-Ok.ensures.sequences)) (c.requires.later key k)

pub returns-in-Ok-clause-slots : goal.returns-in-Ok-clause-slots
returns-in-Ok-clause-slots g c = λ key k lt.
    c.turn_all.ensures.slots key k lt
    ∙ ap (λ (f : ℕ → Option (List OrderKey)). slots_after_event c.args.shape.span c.args.order (find (λ (route : Route). key_eq key route.key) c.args.routes.now.items) f (suc k))
    (λ i j. slots_alike (entries_of c.args.machines.now) (entries_of c.prepare_all.new.machines) key j c.in-Ok.ensures.sequences i)

pub returns-in-Ok-clause-found : goal.returns-in-Ok-clause-found
returns-in-Ok-clause-found g c =
    c.turn_all.ensures.found
    ∙ ap (λ (l : List Match). l ++ filter_map (match_there c.args.shape.stages c.args.shape.span (slots_in (entries_of c.prepare_all.new.machines)) c.args.order) c.args.routes.now.items)
    (c.in_ok-found.ensures {u = tt}).items
    ∙ ap (λ (f : List Value → ℕ → Option (List OrderKey)). filter_map (match_there c.args.shape.stages c.args.shape.span f c.args.order) c.args.routes.now.items)
    (λ i key j. slots_alike (entries_of c.args.machines.now) (entries_of c.prepare_all.new.machines) key j c.in-Ok.ensures.sequences i)

pub returns-in-Err-clause-linked : goal.returns-in-Err-clause-linked
returns-in-Err-clause-linked g c =
    subst (IsLinked [] (sequences_in (entries_of c.drop_all_empty.new.machines))) (sym c.in-Err.ensures.unchanged)
    (linked_alike (entries_of c.args.machines.now) (entries_of c.drop_all_empty.new.machines) [] c.args.list.now (λ q k. c.drop_all_empty.ensures.sequences q k ∙ c.in-Err.ensures.sequences q k) c.requires.linked)

pub turn_all-requires-clause-busy : goal.turn_all-requires-clause-busy
turn_all-requires-clause-busy g c = λ key apart.
    keeps_busy (machine_of (entries_of c.args.machines.now) key) (machine_of (entries_of c.prepare_all.new.machines) key) (c.in-Ok.ensures.others key apart) (c.requires.busy key)

pub drop_all_empty-requires-clause-busy : goal.drop_all_empty-requires-clause-busy
drop_all_empty-requires-clause-busy g c = λ key apart.
    keeps_busy (machine_of (entries_of c.args.machines.now) key) (machine_of (entries_of c.prepare_all.new.machines) key) (c.in-Err.ensures.others key apart) (c.requires.busy key)

pub returns-then-are_idle-clause-slots : goal.returns-then-are_idle-clause-slots
returns-then-are_idle-clause-slots g c = λ key k lt.
    slots_stay c.args.shape.span (entries_of c.args.machines.now) c.args.order c.args.routes.now.items (c.are_idle.ensures c.if-are_idle.true) key (suc k)

pub returns-then-are_idle-clause-found : goal.returns-then-are_idle-clause-found
returns-then-are_idle-clause-found g c =
    c.new.ensures.items
    ∙ sym (no_match c.args.shape.span (entries_of c.args.machines.now) c.args.order c.args.shape.stages c.args.routes.now.items (c.are_idle.ensures c.if-are_idle.true))

pub returns-then-len-eq1-clause-found : goal.returns-then-len-eq1-clause-found
returns-then-len-eq1-clause-found g c =
    let route = c.index.result.now in
    let find_match = match_there c.args.shape.stages c.args.shape.span (slots_in (entries_of c.args.machines.now)) c.args.order in
    let many = c.if-len-eq1.true in let len = c.len.ensures in let ok = c.args.routes.now.ok.0 in
    let is : c.args.routes.now.items ≡ route ∷ [] = one_alone c.args.routes.now.items route (omega arith) c.index.ensures in
    subst (λ (l : List Match). IfOk c.play_one.result (λ found. found.items ≡ l)) (one_cons (find_match route) ∙ ap (filter_map find_match) (sym is)) c.play_one.ensures.found

pub returns-then-len-eq1-clause-slots : goal.returns-then-len-eq1-clause-slots
returns-then-len-eq1-clause-slots g c =
    let route = c.index.result.now in
    let many = c.if-len-eq1.true in let len = c.len.ensures in let ok = c.args.routes.now.ok.0 in
    let is : c.args.routes.now.items ≡ route ∷ [] = one_alone c.args.routes.now.items route (omega arith) c.index.ensures in
    subst (λ (l : List Route). OnOk c.play_one.result ((key : List Value) (k : ℕ) → suc k < c.args.shape.stages → slots_in (entries_of c.play_one.new.machines) key (suc k)
    ≡ slots_after_event c.args.shape.span c.args.order (find (λ (r : Route). key_eq key r.key) l) (slots_in (entries_of c.args.machines.now) key) (suc k)))
    (sym is) c.play_one.ensures.slots

pub returns-then-len-eq1-clause-unchanged : goal.returns-then-len-eq1-clause-unchanged
returns-then-len-eq1-clause-unchanged g c = c.play_one.ensures.unchanged

pub returns-in-Err-clause-unchanged : goal.returns-in-Err-clause-unchanged
returns-in-Err-clause-unchanged g c = λ q k. c.drop_all_empty.ensures.sequences q k ∙ c.in-Err.ensures.sequences q k

pub drop_all_empty-requires-clause-table : goal.drop_all_empty-requires-clause-table
drop_all_empty-requires-clause-table g c = c.prepare_all.ensures.table
